-- Laws of writing: a store behind a run may come before it, and a copied part is a run of stores. Of texts that are appended one after
-- the other specs/Sinks says it. Assumes nothing.
use Rattle.std.proofs.Common.{ℕ, zero, suc, ◌+◌, ◌-◌, ◌≤◌, ◌<◌, ◌/◌, ◌≡◌, refl, ap, ◌∙◌, List, [], ◌∷◌, length, set, arith, zero-add, append-nil, drop_of_length-le}
use Rattle.std.proofs.Math.Seq.{sets, set_comm}
use borrow.Rule.Slice.PartMut.{put_mid}
use Rattle.std.proofs.lemmas.List.Edits.{sets-eq}
use Rattle.obligations.proofs.StoreLaws.{put-sets}
use Rattle.text.specs.Decimal.{digit, last_digits}
use Rattle.text.specs.Writing.{Room, Appends}
use Rattle.text.specs.Sinks.{sets-append}
use Rattle.text.specs.declared.out.Out.{Out}
use Rattle.text.proofs.DigitLaws.{length_last}

-- ---- runs of stores

-- a store behind a run may come before it
pub sets-past : (l : List ℕ) (i : ℕ) (vs : List ℕ) (j a : ℕ) → i + length vs ≤ j → sets (set l j a) i vs ≡ set (sets l i vs) j a
sets-past l i [] j a h = refl
sets-past l i (v ∷ vs) j a h =
    ap (λ (m : List ℕ). sets m (suc i) vs) (set_comm l j i a v (λ q. omega arith))
    ∙ sets-past (set l i v) (suc i) vs j a (omega arith)

-- ---- a copied part

pub appends_part : (o o' : Out) (t ys : List ℕ) (k : ℕ) → Room o t → ys ≡ t → k ≡ length t
    → o'.buf.ghost_name ≡ o.buf.ghost_name → o'.buf.now ≡ put_mid o.len k o.buf.now ys → o'.len ≡ o.len + length t → Appends o t o'
appends_part o o' t ys k h e q g b m = record {
  same_buffer = g;
  wrote = record { next = m; bytes = b ∙ rw e (put-sets o.buf.now t o.len k h q) };
}

-- ---- the last of i digits stored, and the others after it

pub digit-step : (buf : List ℕ) (i n : ℕ) → 0 < i → sets (set buf (i - 1) (digit n)) 0 (last_digits (i - 1) (n / 10)) ≡ sets buf 0 (last_digits i n)
digit-step buf zero n h = absurd (omega arith)
digit-step buf (suc i) n h =
    let e : suc i - 1 ≡ i = omega arith in
    let d : length (last_digits i (n / 10)) ≡ i = length_last i (n / 10) in
    rw (e, sets-past buf 0 (last_digits i (n / 10)) i (digit n) (omega arith), sets-append buf 0 (last_digits i (n / 10)) (digit n ∷ []), d, zero-add i)

-- a text as long as the buffer, once stored, is what the buffer holds
pub sets_whole : (l vs : List ℕ) → length vs ≡ length l → sets l 0 vs ≡ vs
sets_whole l vs e = let h : length l ≤ 0 + length vs = omega arith in sets-eq vs l 0 (omega arith) ∙ rw (drop_of_length-le l h) (append-nil vs)
