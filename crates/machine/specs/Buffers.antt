-- Buffers that are lent to a call, before and after it.
use Rattle.std.specs.Prelude.{ℕ, ◌-◌, ◌%◌, ◌≤◌, ◌<◌, ◌≡◌, Bool, true, List, length, get_or}

-- what the word and the byte with k before them are before the call; 251 divides no power of two, so that bytes that a call moves
-- along differ from those that were there
abbrev pub untouched_word : ℕ → ℕ
untouched_word k = 4294967295 - k % 65536

abbrev pub untouched_byte : ℕ → ℕ
untouched_byte k = 255 - k % 251

-- the element with i before it is v i, and there are as many as before
pub record Filled {A : Type 0} (v : ℕ → A) (before after : List A) : Type 0 where
  pub as_long : length after ≡ length before
  pub each_is : (i : ℕ) → i < length after → get_or after i (v i) ≡ v i

-- each element with `from` or more before it is v i, where i are before it: `same` compares two elements
abbrev pub AllFrom : {A : Type 0} → (A → A → Bool) → (ℕ → A) → ℕ → List A → Type 0
AllFrom same v from xs = (i : ℕ) → from ≤ i → i < length xs → same (get_or xs i (v i)) (v i) ≡ true
