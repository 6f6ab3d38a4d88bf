-- Refusals as sentences (01, "Refused, lowest number first"). Each call has a list of sentences in the papers' words, each with
-- its number and the place that is returned with it; what the call answers is read off that list. A request that adds a
-- refusal adds a sentence to the lists of the calls that give it.
use Rattle.std.specs.Prelude.{ℕ, suc, ◌+◌, ◌*◌, ◌<◌, ◌≡◌, cond, ◌||◌, List, [], ◌∷◌, ◌↔◌, ◌⊎◌, eqb}
use Rattle.net.specs.Refusals.{on_no_walk, line_form, number_form, name_unanswered}

-- ---- a sentence and its place

-- a sentence about a whole call has the place 0
pub record Whole (Bad : Type 0) (place : ℕ) : Type 0 where
  pub bad : Bad
  pub at_none : place ≡ 0

-- a sentence about one of n positions, or of n nets, has the first of which it holds, counted from 1: after so many others, of
-- none of which it holds
pub record First (n : ℕ) (Bad : ℕ → Type 0) (place : ℕ) : Type 0 where
  pub others : ℕ
  pub inside : others < n
  pub at_place : place ≡ suc others
  pub bad : Bad others
  pub none_before : (i : ℕ) → i < others → Bad i → ⊥

-- a sentence about an activity has the lowest of which it holds
pub record Lowest (Bad : ℕ → Type 0) (place : ℕ) : Type 0 where
  pub bad : Bad place
  pub none_lower : (a : ℕ) → a < place → Bad a → ⊥

-- a sentence with its refusal's number
pub data Sentence : Type 1 where
  whole : ℕ → Type 0 → Sentence
  first : ℕ → ℕ → (ℕ → Type 0) → Sentence
  lowest : ℕ → (ℕ → Type 0) → Sentence

abbrev pub number_of : Sentence → ℕ
number_of (whole number Bad) = number
number_of (first number n Bad) = number
number_of (lowest number Bad) = number

-- the sentence holds, with this place
abbrev pub HoldsAt : Sentence → ℕ → Type 0
HoldsAt (whole number Bad) place = Whole Bad place
HoldsAt (first number n Bad) place = First n Bad place
HoldsAt (lowest number Bad) place = Lowest Bad place

-- ---- a call's sentences

-- a sentence of the list with this number holds, with this place
abbrev pub Holds : List Sentence → ℕ → ℕ → Type 0
Holds [] number place = ⊥
Holds (s ∷ ss) number place = ((number_of s ≡ number) × HoldsAt s place) ⊎ Holds ss number place

-- no refusal holds
abbrev pub NoneHolds : List Sentence → Type 0
NoneHolds ss = (number place : ℕ) → Holds ss number place → ⊥

-- the papers' order: lowest number first, and 19 directly after 6 (02, (iv))
abbrev pub order_of : ℕ → ℕ
order_of number = cond (eqb number name_unanswered) (2 * on_no_walk + 1) (2 * number)

-- the refusal that is given: it holds with this place, and none that comes before it holds
pub record IsGiven (ss : List Sentence) (number place : ℕ) : Type 0 where
  pub holds : Holds ss number place
  pub none_before : (n p : ℕ) → order_of n < order_of number → Holds ss n p → ⊥

-- ---- a file's sentences: those of line 0 are of the whole file, the row asked for and the buffer

-- the order on a line: 13 and 14 before others, else by number
abbrev pub order_on_line : ℕ → ℕ
order_on_line number = cond (eqb number line_form || eqb number number_form) number (number + number_form)

-- the refusal that is given: it holds of the first line of which any does, and there none that comes before it holds
pub record IsGivenByLine (ss : ℕ → List Sentence) (number line : ℕ) : Type 0 where
  pub holds : Holds (ss line) number 0
  pub lines_before : (l : ℕ) → l < line → NoneHolds (ss l)
  pub none_before : (n p : ℕ) → order_on_line n < order_on_line number → Holds (ss line) n p → ⊥

-- ---- what a call answers

-- `refusal` is how an answer says a refusal's number and place: the call is refused exactly as given, and not refused exactly if
-- none holds
pub record Answered {A : Type 0} (refusal : ℕ → ℕ → A) (Given : ℕ → ℕ → Type 0) (None : Type 0) (answer : A) : Type 0 where
  pub refused_exactly : (number place : ℕ) → (answer ≡ refusal number place) ↔ Given number place
  pub not_refused_exactly : ((number place : ℕ) → answer ≡ refusal number place → ⊥) ↔ None
  pub given_or_none : None ⊎ ((number place : ℕ) × Given number place)

abbrev pub AsListed : {A : Type 0} → (ℕ → ℕ → A) → List Sentence → A → Type 0
AsListed refusal ss answer = Answered refusal (IsGiven ss) (NoneHolds ss) answer

abbrev pub AsListedByLine : {A : Type 0} → (ℕ → ℕ → A) → (ℕ → List Sentence) → A → Type 0
AsListedByLine refusal ss answer = Answered refusal (IsGivenByLine ss) ((line : ℕ) → NoneHolds (ss line)) answer
