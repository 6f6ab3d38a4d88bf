-- What the walks over a set and over words yield: the members of the set, and the bindings that the words hold. Assumes nothing.
use Rattle.std.specs.Iterator.{YieldsFirst}
use Rattle.std.proofs.Common.{refl}
use Rattle.std.proofs.lemmas.Iterator.{YieldsList}
use Rattle.std.proofs.lemmas.Iterator.Consumers.{YieldsList-from_first}
use Rattle.obligations.specs.Sets.{members}
use Rattle.obligations.specs.Sequence.{bindings}
use Rattle.obligations.specs.declared.sets.MemberIter.{MemberIter}
use Rattle.obligations.specs.declared.sequence.BindingIter.{BindingIter}

pub yields_members : (s : MemberIter) → YieldsList (YieldsFirst (λ t. members t.rest)) (λ k. k) s (members s.rest)
yields_members s = YieldsList-from_first (λ k. k) (λ t. members t.rest) (members s.rest) refl

pub yields_bindings : (s : BindingIter) → YieldsList (YieldsFirst (λ t. bindings t.rest.now)) (λ b. b) s (bindings s.rest.now)
yields_bindings s = YieldsList-from_first (λ b. b) (λ t. bindings t.rest.now) (bindings s.rest.now) refl
