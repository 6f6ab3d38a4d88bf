-- `read_head` meets its contract: the byte limit, the header, then the ends. Assumes nothing.
use Rattle.std.proofs.Common.{sym, ap, ◌∙◌, arith, Result, Ok, Err, MatchResult}
use borrow.Author.Tests.{not-true, not-false}
use Rattle.net.specs.declared.refusal.Refused.{Refused}
use Rattle.netfile.specs.NetFile.{refused_with}
use Rattle.netfile.proofs.FileLaws.{header_right, header_wrong, read-long, rest_short}
use Rattle.netfile.proofs.read.read_head.Goals as goal

-- what is said of either case
either : {T : Type 0} {P Q : T → Type 0} {R S : Refused → Type 0} (r : Result T Refused) → ((t : T) → P t → Q t) → ((e : Refused) → R e → S e) → MatchResult r P R → MatchResult r Q S
either (Ok t) f g m = f t m
either (Err e) f g m = g e m

pub returns-then-text-gt-NET_BYTES : goal.returns-then-text-gt-NET_BYTES
returns-then-text-gt-NET_BYTES c = ap refused_with c.at.ensures ∙ sym (read-long c.args.text.now c.if-text-gt-NET_BYTES.true)

pub returns-then-ne : goal.returns-then-ne
returns-then-ne c =
    let s = c.split_line in
    ap refused_with c.at-then-ne.ensures
    ∙ sym (header_wrong c.args.text.now s.result.0.now s.result.1.now s.ensures.line s.ensures.rest c.if-text-gt-NET_BYTES.false (not-true _ (sym (rw c.as_slice.ensures at c.if-ne.ensures))))

pub returns : goal.returns
returns c =
    let s = c.split_line in
    let h = header_right c.args.text.now s.result.0.now s.result.1.now s.ensures.line s.ensures.rest c.if-text-gt-NET_BYTES.false (not-false _ (sym (rw c.as_slice.ensures at c.if-ne.ensures))) in
    let few = rest_short c.args.text.now s.result.0.now s.result.1.now s.ensures.line s.ensures.rest in
    either c.read_ends.result
    (λ e q. record { ends = q.ends; short = omega (arith, q.short, few, c.if-text-gt-NET_BYTES.false); left = q.left ∙ sym h })
    (λ r q. q ∙ sym h)
    c.read_ends.ensures
