-- A chain of tests accepts exactly if each of its tests passes: link by link. Assumes nothing.
use Prim.Native.Nat.{ℕ}
use mathlib.Core.Path.{◌≡◌, refl}
use mathlib.Core.Bool.{Bool, true, false}
use mathlib.Core.Logic.{◌↔◌}
use borrow.Author.Tests.{eq-eqb, eqb-true}
use lib.Dec.{eqb}
use Rattle.obligations.proofs.BoolLaws.{false-not-true}
use Rattle.net.specs.Refusals.{Says}
use Rattle.net.specs.Chains.{unless_at, unless, none_at}

pub unless_at-passes : (t : Bool) (n p : ℕ) (rest : Says) → ((unless_at t n p rest).ok ≡ true) ↔ ((t ≡ true) × (rest.ok ≡ true))
unless_at-passes true n p rest = ((λ e. (refl, e)), (λ w. w.1))
unless_at-passes false n p rest = ((λ e. absurd (false-not-true refl e)), (λ w. absurd (false-not-true refl w.0)))

pub unless-passes : (t : Bool) (n : ℕ) (rest : Says) → ((unless t n rest).ok ≡ true) ↔ ((t ≡ true) × (rest.ok ≡ true))
unless-passes t n rest = unless_at-passes t n 0 rest

pub none_passes : (p n : ℕ) (rest : Says) → ((none_at p n rest).ok ≡ true) ↔ ((p ≡ 0) × (rest.ok ≡ true))
none_passes p n rest =
    let u = unless_at-passes (eqb p 0) n p rest in
    ((λ e. (eqb-true p 0 (u.0 e).0, (u.0 e).1)), (λ w. u.1 (eq-eqb p 0 w.0, w.1)))
