-- `nonzero` meets its contract: bit k of the comparison is the k-th lane's, and there are 32 lanes. Assumes nothing.
use Rattle.std.proofs.Common.{ℕ, ◌≡◌, ◌%◌, ◌^◌, Bool, true, false, cond, not, eqb, List, refl, length, map, replicate, get_or, get_or-take, subst, ap, sym, ◌∙◌, arith, w8, w32}
use Rattle.std.proofs.lemmas.Simd.{bitmask_splat, mask_l-lt, bit_mask_l, length-chunk}
use Rattle.std.proofs.lemmas.List.{get_or-map, length-map}
use lib.Lanes.{chunk, mask_l, top, zip2}
use mir.Val.{Fits}
use Rattle.obligations.specs.Limits.{activities}
use Rattle.obligations.specs.Sets.{bit, member}
use Rattle.obligations.proofs.state.nonzero.Goals as goal

module _ (counts : List ℕ) (long : length counts ≡ activities) where
  abbrev lanes : List ℕ
  lanes = chunk 0 activities counts

  abbrev bits : List Bool
  bits = map (λ x. not (eqb x 0)) lanes

  lanes_long : length lanes ≡ activities
  lanes_long = length-chunk 0 activities counts (omega (arith, long))

  compared : mask_l (map (top 7) (zip2 (λ a b. cond (not (eqb a b)) 255 0) lanes (replicate activities 0))) % 2 ^ 64 ≡ mask_l bits
  compared = bitmask_splat w8 (λ a b. not (eqb a b)) lanes activities 0 lanes_long (omega arith)

  mask_fits : Fits w32 (mask_l bits)
  mask_fits = record { fits = rw (length-map lanes (λ x. not (eqb x 0)) ∙ lanes_long) at (mask_l-lt bits) }

as_bit : (b : Bool) → eqb (cond b 1 0) 1 ≡ b
as_bit true = refl
as_bit false = refl

pub overflow_cast-result : goal.overflow_cast-result
overflow_cast-result c = subst (Fits w32) (sym (compared c.args.counts.now c.requires)) (mask_fits c.args.counts.now c.requires)

pub returns : goal.returns
unfolding member bit
returns c k h =
    let counts = c.args.counts.now in
    ap (λ (n : ℕ). member n k) (compared counts c.requires)
    ∙ ap (λ (n : ℕ). eqb n 1) (bit_mask_l (bits counts c.requires) k)
    ∙ as_bit (get_or (bits counts c.requires) k false)
    ∙ get_or-map (λ x. not (eqb x 0)) (lanes counts c.requires) k 0 false (omega (arith, lanes_long counts c.requires))
    ∙ ap (λ (n : ℕ). not (eqb n 0)) (get_or-take activities counts k 0 h)
