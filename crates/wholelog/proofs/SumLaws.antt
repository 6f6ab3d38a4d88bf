-- Laws of the sums over rows: a row first, what they are at most, and that they hang on nothing but what each row's replay answers.
-- Going through the rows, the sums so far and those of the rows that are left add up to those of all. Assumes nothing.
use Prim.Native.Nat.{ℕ, ◌+◌, ◌≤◌, ◌<◌}
use mathlib.Core.Path.{◌≡◌, refl, sym, ap, subst, ◌∙◌}
use mathlib.Core.Bool.{Bool, true, false, cond}
use mathlib.Core.List.{List, [], ◌∷◌}
use native.Mathlib.Omega.{arith}
use lib.ListN.{length}
use Rattle.std.specs.Prelude.{All, filter}
use Rattle.std.proofs.lemmas.List.Elements.{All-head, All-tail}
use Rattle.std.proofs.lemmas.List.Sums.{sum_by-cons, sum_by-le}
use Rattle.obligations.proofs.BoolLaws.{false-not-true}
use Rattle.logfile.specs.Limits.{log_rows, most_sessions}
use Rattle.search.specs.Replay.{ReplaySays, says_found, says_none, says_spent, says_refused, outcome_means}
use Rattle.search.specs.declared.Outcome.{Outcome}
use Rattle.search.specs.declared.Outcome.TheVariants.{Found, Failed, Spent}
use Rattle.wholelog.specs.Rows.{LoggedRow, logged}
use Rattle.wholelog.specs.Left.{rows_left, last_trace, ReplayedFirst}
use Rattle.wholelog.specs.declared.rows.Rows.{Rows}
use Rattle.wholelog.specs.declared.rows.Replayed.{Replayed}
use Rattle.wholelog.specs.Share.{is_found, is_spent, sessions_of, fitting_of, spent_of, log_sessions}
use Rattle.wholelog.specs.Computed.{has_any}
use Rattle.wholelog.specs.Sums.{sums_of, sums_with, Within}
use Rattle.wholelog.specs.declared.sharing.Sums.{Sums}
use Rattle.wholelog.proofs.RowsLaws.{RowWithin}

of-first : (w : LoggedRow) (ws : List LoggedRow) → sessions_of (w ∷ ws) ≡ w.sessions + sessions_of ws
of-first w ws = sum_by-cons (λ (v : LoggedRow). v.sessions) w ws

where-first : (passes : LoggedRow → Bool) (w : LoggedRow) (ws : List LoggedRow) → sessions_of (filter passes (w ∷ ws)) ≡ cond (passes w) w.sessions 0 + sessions_of (filter passes ws)
where-first passes w ws = go (passes w)
  where
    go : (b : Bool) → sessions_of (cond b (w ∷ filter passes ws) (filter passes ws)) ≡ cond b w.sessions 0 + sessions_of (filter passes ws)
    go true = of-first w (filter passes ws)
    go false = omega arith

-- no more than a log can have
pub sessions-most : (ws : List LoggedRow) → All RowWithin ws → length ws ≤ log_rows → sessions_of ws ≤ log_sessions
sessions-most ws h few =
    let m = sum_by-le (λ (v : LoggedRow). v.sessions) most_sessions ws (λ k d lt. (h k d lt).few_sessions) in omega (arith, m, few)

-- no session is both fitting and spent
pub sums-apart : (answer : List ℕ → ReplaySays) (ws : List LoggedRow) → fitting_of answer ws + spent_of answer ws ≤ sessions_of ws
sums-apart answer [] = omega arith
sums-apart answer (w ∷ ws) =
    omega (arith, where-first (λ v. is_found (answer v.trace)) w ws, where-first (λ v. is_spent (answer v.trace)) w ws, of-first w ws, sums-apart answer ws, one (answer w.trace))
  where
    one : (a : ReplaySays) → cond (is_found a) w.sessions 0 + cond (is_spent a) w.sessions 0 ≤ w.sessions
    one (says_found n) = omega arith
    one (says_none n) = omega arith
    one (says_spent n) = omega arith
    one (says_refused n p) = omega arith

-- the same of every row
where-same : (f g : LoggedRow → Bool) (ws : List LoggedRow) → All (λ w. f w ≡ g w) ws → sessions_of (filter f ws) ≡ sessions_of (filter g ws)
where-same f g [] h = refl
where-same f g (w ∷ ws) h =
    where-first f w ws
    ∙ ap (λ (b : Bool). cond b w.sessions 0 + sessions_of (filter f ws)) (All-head (λ (v : LoggedRow). f v ≡ g v) w ws h)
    ∙ ap (λ (k : ℕ). cond (g w) w.sessions 0 + k) (where-same f g ws (All-tail (λ (v : LoggedRow). f v ≡ g v) w ws h))
    ∙ sym (where-first g w ws)

pub sums-same : (f g : List ℕ → ReplaySays) (ws : List LoggedRow) → All (λ w. f w.trace ≡ g w.trace) ws → sums_of f ws ≡ sums_of g ws
unfolding sums_of
sums-same f g ws h =
    let a = where-same (λ w. is_found (f w.trace)) (λ w. is_found (g w.trace)) ws (λ k d lt. ap is_found (h k d lt)) in
    let b = where-same (λ w. is_spent (f w.trace)) (λ w. is_spent (g w.trace)) ws (λ k d lt. ap is_spent (h k d lt)) in
    λ j. record { fitting = a j; spent = b j; all = sessions_of ws }

pub sums-within : (answer : List ℕ → ReplaySays) (ws : List LoggedRow) → All RowWithin ws → length ws ≤ log_rows → Within (sums_of answer ws)
unfolding sums_of
sums-within answer ws h few =
    let a = sums-apart answer ws in
    let m = sessions-most ws h few in
    record { few_fitting = omega (arith, a, m); few_spent = omega (arith, a, m); few = m }

-- there are sessions exactly if there is a row
pub sessions_some : (ws : List LoggedRow) → All RowWithin ws → has_any ws ≡ true → 0 < sessions_of ws
sessions_some [] h l = absurd (false-not-true refl l)
sessions_some (w ∷ ws) h l = omega (arith, of-first w ws, (All-head RowWithin w ws h).some_sessions)

pub rows_some : (ws : List LoggedRow) → 0 < sessions_of ws → has_any ws ≡ true
rows_some [] h = absurd (omega arith)
rows_some (w ∷ ws) h = refl

-- the sums with a row first whose replay answers a
record FirstOf (answer : List ℕ → ReplaySays) (w : LoggedRow) (ws : List LoggedRow) (a : ReplaySays) : Type 0 where
  fitting : (sums_of answer (w ∷ ws)).fitting ≡ cond (is_found a) w.sessions 0 + (sums_of answer ws).fitting
  spent : (sums_of answer (w ∷ ws)).spent ≡ cond (is_spent a) w.sessions 0 + (sums_of answer ws).spent
  all : (sums_of answer (w ∷ ws)).all ≡ w.sessions + (sums_of answer ws).all

sums-first : (answer : List ℕ → ReplaySays) (w : LoggedRow) (ws : List LoggedRow) → FirstOf answer w ws (answer w.trace)
unfolding sums_of
sums-first answer w ws =
    record { fitting = where-first (λ v. is_found (answer v.trace)) w ws; spent = where-first (λ v. is_spent (answer v.trace)) w ws; all = of-first w ws }

-- ---- going through the rows

-- the sums so far with those of the rows left are those of all
pub record SoFar (answer : List ℕ → ReplaySays) (ws left : List LoggedRow) (sums : Sums) : Type 0 where
  pub fitting : sums.fitting + (sums_of answer left).fitting ≡ (sums_of answer ws).fitting
  pub spent : sums.spent + (sums_of answer left).spent ≡ (sums_of answer ws).spent
  pub all : sums.all + (sums_of answer left).all ≡ (sums_of answer ws).all

module _ (answer : List ℕ → ReplaySays) (ws : List LoggedRow) where
  pub so_far_end : (left : List LoggedRow) (sums : Sums) → left ≡ [] → SoFar answer ws left sums → sums ≡ sums_of answer ws
  unfolding sums_of
  so_far_end left sums e y =
      let z : SoFar answer ws [] sums = subst (λ (vs : List LoggedRow). SoFar answer ws vs sums) e y in
      let a : sums.fitting ≡ (sums_of answer ws).fitting = omega (arith, z.fitting) in
      let b : sums.spent ≡ (sums_of answer ws).spent = omega (arith, z.spent) in
      let c : sums.all ≡ (sums_of answer ws).all = omega (arith, z.all) in
      λ j. record { fitting = a j; spent = b j; all = c j }

  -- what was summed so far is no more than all
  pub so_far_within : (left : List LoggedRow) (sums : Sums) → SoFar answer ws left sums → Within (sums_of answer ws) → Within sums
  so_far_within left sums z h = record { few_fitting = omega (arith, z.fitting, h.few_fitting); few_spent = omega (arith, z.spent, h.few_spent); few = omega (arith, z.all, h.few) }

  so_far_more : (w : LoggedRow) (left : List LoggedRow) (sums : Sums) (o : Outcome) → outcome_means o ≡ answer w.trace → SoFar answer ws (w ∷ left) sums
      → SoFar answer ws left (sums_with sums w.sessions o)
  so_far_more w left sums o e z = go o (subst (FirstOf answer w left) (sym e) (sums-first answer w left))
    where
      go : (o : Outcome) → FirstOf answer w left (outcome_means o) → SoFar answer ws left (sums_with sums w.sessions o)
      go (Found n) f = record { fitting = omega (arith, z.fitting, f.fitting); spent = omega (arith, z.spent, f.spent); all = omega (arith, z.all, f.all) }
      go (Failed n) f = record { fitting = omega (arith, z.fitting, f.fitting); spent = omega (arith, z.spent, f.spent); all = omega (arith, z.all, f.all) }
      go (Spent n) f = record { fitting = omega (arith, z.fitting, f.fitting); spent = omega (arith, z.spent, f.spent); all = omega (arith, z.all, f.all) }

  -- a row was given and replayed
  pub so_far_next : (old new : Rows) (x : Replayed) (sums : Sums) → ReplayedFirst answer old new x → SoFar answer ws (rows_left old) sums → SoFar answer ws (rows_left new) (sums_with sums x.sessions x.outcome)
  so_far_next old new x sums g z =
      so_far_more (logged x.sessions (last_trace new)) (rows_left new) sums x.outcome g.says (subst (λ (vs : List LoggedRow). SoFar answer ws vs sums) g.first z)
