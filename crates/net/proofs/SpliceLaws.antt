-- Laws of `splice`, a list written over another from place i on: the part itself, what stands before it and after it,
-- and the length. Each follows from where the three pieces meet. Assumes nothing.
use Prim.Native.Nat.{ℕ, ◌+◌, ◌-◌, ◌≤◌}
use native.Mathlib.Omega.{arith}
use mathlib.Core.Path.{◌≡◌, refl, sym, ◌∙◌}
use mathlib.Core.List.{List, ◌++◌}
use lib.ListN.{length, take, drop, length-drop, length-append, take-append-drop}
use lib.Seq.{length-take-le, drop_at, take_at, drop-drop, take-append-le, drop-append-le}
use Rattle.net.specs.Lists.{splice}

module _ (l v : List ℕ) (i : ℕ) (fits : i + length v ≤ length l) where
  taken : length (take i l) ≡ i
  taken = length-take-le i l (omega arith)

  pub splice_from : drop i (splice l i v) ≡ v ++ drop (length v) (drop i l)
  splice_from = drop_at (take i l) (v ++ drop (length v) (drop i l)) i taken

  pub length_splice : length (splice l i v) ≡ length l
  length_splice = simp (length-append, length-drop) (omega (arith, taken))

  pub splice_part : take (length v) (drop i (splice l i v)) ≡ v
  splice_part = rw splice_from (take_at v (drop (length v) (drop i l)) (length v) refl)

  pub splice_before : (j k : ℕ) → j + k ≤ i → take k (drop j (splice l i v)) ≡ take k (drop j l)
  splice_before j k h = front (v ++ drop (length v) (drop i l)) ∙ sym (front (drop i l)) ∙ rw take-append-drop
    where
      front : (r : List ℕ) → take k (drop j (take i l ++ r)) ≡ take k (drop j (take i l))
      front r = rw (drop-append-le j (take i l) r (omega (arith, taken))) (take-append-le k (drop j (take i l)) r (rw length-drop (omega (arith, taken))))

  pub splice_after : (j : ℕ) → i + length v ≤ j → drop j (splice l i v) ≡ drop j l
  splice_after j h =
      let e : i + (j - i) ≡ j = omega arith in
      let f : length v + (j - i - length v) ≡ j - i = omega arith in
      let g : (x : List ℕ) → drop j x ≡ drop (j - i) (drop i x) = λ x. sym (drop-drop (j - i) i x ∙ rw e) in
      let k : (x : List ℕ) → drop (j - i) x ≡ drop (j - i - length v) (drop (length v) x) = λ x. sym (drop-drop (j - i - length v) (length v) x ∙ rw f) in
      g (splice l i v) ∙ rw splice_from (k (v ++ drop (length v) (drop i l)) ∙ rw (drop_at v (drop (length v) (drop i l)) (length v) refl) (sym (k (drop i l)) ∙ sym (g l)))
