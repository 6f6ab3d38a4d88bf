-- Laws of steps one after the other: they join, go over to another relation with the steps, and turn round. Assumes nothing.
use Prim.Native.Nat.{ℕ}
use Rattle.walks.specs.Walk.{Along, here, along}

pub along_one : {Step : ℕ → ℕ → Type 0} {a b : ℕ} → Step a b → Along Step a b
along_one s = along s here

pub along_join : {Step : ℕ → ℕ → Type 0} {a b c : ℕ} → Along Step a b → Along Step b c → Along Step a c
along_join here v = v
along_join (along s w) v = along s (along_join w v)

pub along-map : {Step Other : ℕ → ℕ → Type 0} {a b : ℕ} → ((p q : ℕ) → Step p q → Other p q) → Along Step a b → Along Other a b
along-map f here = here
along-map f (along {a = p} {b = q} s w) = along (f p q s) (along-map f w)

pub along_back : {Step Back : ℕ → ℕ → Type 0} {a b : ℕ} → ((p q : ℕ) → Step p q → Back q p) → Along Step a b → Along Back b a
along_back f here = here
along_back f (along {a = p} {b = q} s w) = along_join (along_back f w) (along_one (f p q s))

-- what holds at the first and is kept by each step holds at the last
pub along_kept : {Step : ℕ → ℕ → Type 0} {a b : ℕ} (Held : ℕ → Type 0) → ((p q : ℕ) → Step p q → Held p → Held q) → Along Step a b → Held a → Held b
along_kept Held kept here h = h
along_kept Held kept (along {a = p} {b = q} s w) h = along_kept Held kept w (kept p q s h)
