-- `has` meets its contract: the lowest bit after a shift is the bit asked for, and no bit stands above the width. Assumes nothing.
use Rattle.std.proofs.Common.{ne_eqb, arith, ℕ, ◌/◌, ◌^◌, sym, ap, eqb}
use lib.Bits.{and_mask}
use Rattle.obligations.specs.Sets.{bit, member}
use Rattle.obligations.proofs.BitLaws.{bit_above}
use Rattle.obligations.proofs.sets.has.Goals as goal

pub returns-then-k-lt32 : goal.returns-then-k-lt32
unfolding member bit
returns-then-k-lt32 c = ap (λ (n : ℕ). eqb n 1) (and_mask (c.args.set / 2 ^ c.args.k) 1)

pub returns-else-k-lt32 : goal.returns-else-k-lt32
unfolding member
returns-else-k-lt32 c = sym (ne_eqb (bit c.args.set c.args.k) 1 (λ e. omega (arith, bit_above 32 c.args.set c.args.k c.ranges.set.fits c.if-k-lt32.false)))
