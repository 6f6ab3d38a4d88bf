-- What functions on slices answer and leave: no sentence of the papers speaks of these.
use Rattle.std.specs.Prelude.{ℕ, suc, ◌+◌, ◌<◌, min, ◌≡◌, cond, List, [], ◌∷◌, length, take, drop}
use Rattle.std.proofs.lemmas.List.Edits.{sets}
use Rattle.text.specs.Bytes.{bytes_before}
use Rattle.text.specs.Lines.{starts_cr_lf}

-- a text is cut at its first c into what is before that and what is behind it
pub record CutAt (c : ℕ) (s before behind : List ℕ) : Type 0 where
  pub inside : bytes_before c s < length s
  pub before_it : before ≡ take (bytes_before c s) s
  pub behind_it : behind ≡ drop (suc (bytes_before c s)) s

-- a text was written into the buffer from `at` on, and nothing else: r is the index after it
pub record Wrote (buf₀ : List ℕ) (at : ℕ) (text buf : List ℕ) (r : ℕ) : Type 0 where
  pub next : r ≡ at + length text
  pub bytes : buf ≡ sets buf₀ at text

-- ---- lines by place

-- how many bytes stand before the first CR LF, or before the end
abbrev pub line_length : List ℕ → ℕ
line_length [] = 0
line_length (a ∷ s) = cond (starts_cr_lf (a ∷ s)) 0 (suc (line_length s))

-- where the line that starts at i ends, and where the line after one that ends at e starts
abbrev pub line_end : List ℕ → ℕ → ℕ
line_end s i = i + line_length (drop i s)

abbrev pub next_line : List ℕ → ℕ → ℕ
next_line s e = min (e + 2) (length s)
