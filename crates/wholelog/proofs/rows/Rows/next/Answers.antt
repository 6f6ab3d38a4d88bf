-- `Rows::next` meets its contract: what is read at the cursor is the first of the rows left, and if it is no row none is left and the
-- buffer is what it was. Assumes nothing.
use Rattle.std.proofs.Common.{◌≡◌, ap, ◌∙◌, refl, length, take, arith}
use Rattle.std.specs.Prelude.{Result, Ok, Option, Some, None}
use borrow.Author.Rules.{rules}
use Rattle.obligations.specs.Limits.{positions}
use Rattle.net.specs.declared.refusal.Refused.{Refused}
use Rattle.logfile.specs.declared.Row.{Row}
use Rattle.wholelog.specs.Left.{rows_left}
use Rattle.wholelog.proofs.LeftLaws.{next-given, next-none, none_written}
use Rattle.wholelog.proofs.rows.Rows.next.Goals as goal

-- no row is there
no_given : (there : Option Row) (a : Result (Option Row) Refused) → a ≡ Ok there → there ≡ None → (r : Row) → a ≡ Ok (Some r) → ⊥
no_given there a e n r q = cc

pub returns-in_default : goal.returns-in_default
unfolding rows_left
returns-in_default c =
    let s = c.args.self.now in
    let x = c.next_row-read in
    let long : length s.trace ≡ positions = search rules in
    let none = next-none s.text.now s.given s.cursor s.all_given s.stands s.trace long x.result x.new.out x.ensures (λ r. c.in_default.not-Ok (Some r)) in
    let stays = none_written s.text.now s.given s.cursor s.all_given s.stands s.trace long x.result x.new.out x.ensures (λ r. c.in_default.not-Ok (Some r)) in
    record { none = none; still_none = none; same_count = refl; same_trace = ap (take s.length) stays }

pub returns-in_err-row : goal.returns-in_err-row
unfolding rows_left
returns-in_err-row c =
    let s = c.args.self.now in
    let x = c.next_row-read in
    let long : length s.trace ≡ positions = search rules in
    let not = no_given c.in-Ok.there x.result.answer c.in-Ok.is c.in_err-row.was in
    let none = next-none s.text.now s.given s.cursor s.all_given s.stands s.trace long x.result x.new.out x.ensures not in
    let stays = none_written s.text.now s.given s.cursor s.all_given s.stands s.trace long x.result x.new.out x.ensures not in
    rw c.from_residual.ensures (record { none = none; still_none = none; same_count = refl; same_trace = ap (take s.length) stays })

pub overflow_add-self : goal.overflow_add-self
overflow_add-self c =
    let s = c.args.self.now in
    let x = c.next_row-read in
    let long : length s.trace ≡ positions = search rules in
    let g = next-given s.text.now s.given s.cursor s.all_given s.stands s.trace long x.result x.new.out x.ensures c.in_ok-row.row (c.in-Ok.is ∙ ap (λ (o : Option Row). Ok o) c.in_ok-row.was) in
    omega (arith, g.room_left)

pub returns : goal.returns
unfolding rows_left
returns c =
    let s = c.args.self.now in
    let x = c.next_row-read in
    let long : length s.trace ≡ positions = search rules in
    let g = next-given s.text.now s.given s.cursor s.all_given s.stands s.trace long x.result x.new.out x.ensures c.in_ok-row.row (c.in-Ok.is ∙ ap (λ (o : Option Row). Ok o) c.in_ok-row.was) in
    record { first = g.first; as_long = g.as_long; counted = refl }
