-- Laws of lines: the first line of a rest ends at its first CR LF and the others follow it, and lines that were written
-- are read again, by induction on the text; and a line's number is one more than the lines before it. Assumes nothing.
use Rattle.std.proofs.Common.{ℕ, suc, ◌+◌, ◌-◌, ◌≤◌, ◌<◌, ◌≡◌, refl, sym, ap, ◌∙◌, Bool, true, false, List, [], ◌∷◌, ◌++◌, append_assoc, suc-add, arith, leb-true, leb-false, leb, length, get_or, take, drop, length-drop, drop_of_length-le}
use mathlib.Core.List.{Memᴰ}
use Rattle.std.proofs.Math.Seq.{slice, drop-drop, drop-cons}
use Rattle.text.specs.Bytes.{occurrences}
use Rattle.text.specs.Lines.{cr, lf, starts_cr_lf, lines, unlines, HasLine, line_at}
use Rattle.text.specs.Inner.{line_length, line_end, next_line}
use Rattle.text.proofs.ByteLaws.{drop-step, take_drop, occurrences_none_head, occurrences_none_tail}

-- ---- the end of a line

pub line-here : (s : List ℕ) → starts_cr_lf s ≡ true → line_length s ≡ 0
line-here [] h = refl
line-here (a ∷ s) h = rw h

pub line_more : (s : List ℕ) (k : ℕ) → k < length s → starts_cr_lf (drop k s) ≡ false → line_length (drop k s) ≡ suc (line_length (drop (k + 1) s))
line_more s k h = rw (drop-step s k h) (λ q. rw q)

-- one byte further, where none is ended here
pub line_step : (s : List ℕ) (i : ℕ) (t : Bool) → i < length s → t ≡ starts_cr_lf (drop i s) → t ≡ false
    → line_length s ≡ i + line_length (drop i s) → line_length s ≡ i + 1 + line_length (drop (i + 1) s)
line_step s i t h e q l = omega (arith, l, line_more s i h (sym e ∙ q))

pub line_none : (s : List ℕ) (k : ℕ) → length s ≤ k → line_length (drop k s) ≡ 0
line_none s k h = rw (drop_of_length-le s h)

-- one byte alone ends no line
line_short : (s : List ℕ) → length s ≤ 1 → line_length s ≡ length s
line_short [] h = refl
line_short (a ∷ []) h = refl
line_short (a ∷ b ∷ s) h = absurd (omega arith)

-- a line that goes on up to the last byte goes on to the end
pub line_whole : (s : List ℕ) (i : ℕ) → length s ≤ i + 1 → i ≤ length s → line_length s ≡ i + line_length (drop i s) → line_length s ≡ length s
line_whole s i h u e =
    let d = length-drop i s in
    let r = line_short (drop i s) (omega (arith, d)) in
    e ∙ omega (arith, r, d)

-- ---- the lines from an index on

lines_cons : (a : ℕ) (s : List ℕ) → lines (a ∷ s) ≡ take (line_length (a ∷ s)) (a ∷ s) ∷ lines (drop (line_length (a ∷ s) + 2) (a ∷ s))
lines_cons a [] = refl
lines_cons a (b ∷ s) = go (starts_cr_lf (a ∷ b ∷ s)) refl (lines_cons b s)
  where
    go : (t : Bool) → starts_cr_lf (a ∷ b ∷ s) ≡ t
        → lines (b ∷ s) ≡ take (line_length (b ∷ s)) (b ∷ s) ∷ lines (drop (line_length (b ∷ s) + 2) (b ∷ s))
        → lines (a ∷ b ∷ s) ≡ take (line_length (a ∷ b ∷ s)) (a ∷ b ∷ s) ∷ lines (drop (line_length (a ∷ b ∷ s) + 2) (a ∷ b ∷ s))
    go true p ih = rw p
    go false p ih = rw (p, ih, suc-add (line_length (b ∷ s)) 2)

drop-next : (s : List ℕ) (e n : ℕ) → n ≡ next_line s e → drop (e + 2) s ≡ drop n s
drop-next s e n m = go (leb (e + 2) (length s)) refl
  where
    go : (t : Bool) → leb (e + 2) (length s) ≡ t → drop (e + 2) s ≡ drop n s
    go true q = let u : e + 2 ≡ n = omega (arith, leb-true (e + 2) (length s) q) in ap (λ (j : ℕ). drop j s) u
    go false q =
        let a : length s ≤ e + 2 = omega (arith, leb-false (e + 2) (length s) q) in
        let b : length s ≤ n = omega (arith, leb-false (e + 2) (length s) q) in
        drop_of_length-le s a ∙ sym (drop_of_length-le s b)

-- the first line, and the lines behind it
pub lines_cut : (s : List ℕ) → 0 < length s → lines s ≡ take (line_length s) s ∷ lines (drop (line_length s + 2) s)
lines_cut [] h = absurd (omega arith)
lines_cut (a ∷ s) h = lines_cons a s

-- the line that starts at i and ends at e, and the lines from n on
pub lines_step : (s : List ℕ) (i e n : ℕ) → i < length s → e ≡ line_end s i → n ≡ next_line s e → lines (drop i s) ≡ slice i e s ∷ lines (drop n s)
lines_step s i e n h q m =
    let d : lines (drop i s) ≡ take (line_length (drop i s)) (drop i s) ∷ lines (drop (line_length (drop i s) + 2) (drop i s)) =
    rw (drop-step s i h) (lines_cons (get_or s i 0) (drop (i + 1) s)) in
    let p : take (line_length (drop i s)) (drop i s) ≡ slice i e s =
    take_drop (line_length (drop i s)) i s ∙ ap (λ (k : ℕ). slice i k s) (sym q) in
    let a : i + (line_length (drop i s) + 2) ≡ e + 2 = omega arith in
    let r : drop (line_length (drop i s) + 2) (drop i s) ≡ drop n s =
    drop-drop (line_length (drop i s) + 2) i s ∙ ap (λ (k : ℕ). drop k s) a ∙ drop-next s e n m in
    d ∙ ap (λ (l : List ℕ). l ∷ lines (drop (line_length (drop i s) + 2) (drop i s))) p ∙ ap (λ (l : List ℕ). slice i e s ∷ lines l) r

pub lines_end : (s : List ℕ) (i : ℕ) → length s ≤ i → lines (drop i s) ≡ []
lines_end s i h = rw (drop_of_length-le s h)

-- where the line behind the first of s[at..] starts
pub rest_starts : (s : List ℕ) (at : ℕ) → at ≤ length s → length s - length (drop (line_length (drop at s) + 2) (drop at s)) ≡ next_line s (line_end s at)
rest_starts s at h = omega (arith, length-drop (line_length (drop at s) + 2) (drop at s), length-drop at s)

-- ---- lines that were written

-- a line without a CR, ended by CR LF, and the lines of what follows
pub line_first : (l t : List ℕ) → occurrences cr l ≡ 0 → lines (l ++ (cr ∷ lf ∷ t)) ≡ l ∷ lines t
line_first [] t h = refl
line_first (b ∷ []) t h = rw (occurrences_none_head cr b [] h)
line_first (b ∷ d ∷ l) t h = rw (occurrences_none_head cr b (d ∷ l) h, line_first (d ∷ l) t (occurrences_none_tail cr b (d ∷ l) h))

pub unlines_append : (ks ls : List (List ℕ)) → unlines (ks ++ ls) ≡ unlines ks ++ unlines ls
unlines_append [] ls = refl
unlines_append (k ∷ ks) ls = rw (unlines_append ks ls) (sym (append_assoc k (cr ∷ lf ∷ unlines ks) (unlines ls)))

-- the lines of a text that was written line by line are the lines that were written
pub lines-unlines : (ls : List (List ℕ)) → ((l : List ℕ) → Memᴰ l ls → occurrences cr l ≡ 0) → lines (unlines ls) ≡ ls
lines-unlines [] h = refl
lines-unlines (l ∷ ls) h = line_first l (unlines ls) (h l (Memᴰ.head refl)) ∙ ap (λ (r : List (List ℕ)). l ∷ r) (lines-unlines ls (λ k m. h k (Memᴰ.tail m)))

-- ---- lines by their numbers

-- after m lines the next is line m + 1, and where none is left there is no line of a higher number
pub line-next : (text : List ℕ) (m : ℕ) (l : List ℕ) (ls : List (List ℕ)) → drop m (lines text) ≡ l ∷ ls → HasLine text (suc m) × (line_at text (suc m) ≡ l) × (drop (suc m) (lines text) ≡ ls)
line-next text m l ls d =
    let h : m < length (lines text) = omega (arith, length-drop m (lines text), ap length d) in
    let c = drop-cons (lines text) m [] h in
    let z : suc m - 1 ≡ m = omega arith in
    (h, rw z (cc), (cc))

pub none_next : (text : List ℕ) (m n : ℕ) → drop m (lines text) ≡ [] → m < n → HasLine text n → ⊥
none_next text m n d h k = omega (arith, length-drop m (lines text), ap length d)
