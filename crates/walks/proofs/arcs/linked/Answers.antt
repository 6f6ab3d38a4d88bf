-- `linked` meets its contract: a member of a set is an activity, so that the row which is asked is there, and what is gathered of those
-- that pass is the set of them. Assumes nothing.
use Rattle.std.proofs.Common.{ℕ, Bool, ◌<◌, rules, tests, ◌∙◌}
use Rattle.std.proofs.lemmas.Iterator.Adapters.{serves_from_places}
use Rattle.std.proofs.lemmas.Iterator.Consumers.{YieldsList-from_first, YieldsList-from_filter, fold_from_yields_List}
use Rattle.obligations.specs.Sets.{members, union, single}
use Rattle.obligations.proofs.ListLaws.{member-at}
use Rattle.obligations.proofs.MemberLaws.{members_are}
use Rattle.walks.specs.Rows.{has}
use Rattle.walks.specs.Links.{linked}
use Rattle.walks.proofs.SiftLaws.{sifted_members}
use Rattle.walks.proofs.arcs.linked.Goals as goal

pub fold-requires-clause-can : goal.fold-requires-clause-can
fold-requires-clause-can c = (
  tt,
  tt,
  serves_from_places (YieldsList-from_first (λ x. x) (λ s. members s.rest) (members c.args.set) (cc)) (λ x q w. search (rules, tests))
      (λ x k h e. let here : x < 32 = ((members_are c.args.set x).0 (rw e (member-at (members c.args.set) k x h))).0 in search (rules, tests)),
)

pub returns : goal.returns
unfolding linked has
returns c =
    let test : ℕ → Bool = λ b. has c.args.other.now b c.args.a in
    fold_from_yields_List _ (λ m k. union m (single k)) 0 c.fold.result c.fold.ensures.ran
    (YieldsList-from_filter _ test (YieldsList-from_first (λ x. x) (λ s. members s.rest) (members c.args.set) (cc)) c.filter.ensures.closure (λ x r q k. search (rules, tests)))
    (λ a x r q k. search (rules, tests))
    ∙ sifted_members test c.args.set
