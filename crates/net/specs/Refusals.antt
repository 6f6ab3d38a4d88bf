-- The papers' refusals by their numbers (01, "Refused, lowest number first"; 02), and what an answer says.
use Rattle.std.specs.Prelude.{ℕ, Bool, true, false, Result, Ok, Err}
use Rattle.net.specs.declared.refusal.Refusal.{Refusal}
use Rattle.net.specs.declared.refusal.Refusal.TheVariants.{BadEnds, Disorderly, OutsideLimits, NoActivity, MisplacedSet, OnNoWalk, WrongEnds, MissingSet, WronglyEmpty, NotPossible, LeftOver, FullSide, LineForm, NumberForm, TextTooLong, NameUnanswered, NoRows, CountTooHigh}
use Rattle.net.specs.declared.refusal.Refused.{Refused}

abbrev pub bad_ends : ℕ
bad_ends = 1

abbrev pub disorderly : ℕ
disorderly = 2

abbrev pub outside_limits : ℕ
outside_limits = 3

abbrev pub no_activity : ℕ
no_activity = 4

abbrev pub misplaced_set : ℕ
misplaced_set = 5

abbrev pub on_no_walk : ℕ
on_no_walk = 6

abbrev pub wrong_ends : ℕ
wrong_ends = 7

abbrev pub missing_set : ℕ
missing_set = 8

abbrev pub wrongly_empty : ℕ
wrongly_empty = 9

abbrev pub not_possible : ℕ
not_possible = 10

abbrev pub left_over : ℕ
left_over = 11

abbrev pub full_side : ℕ
full_side = 12

abbrev pub line_form : ℕ
line_form = 13

abbrev pub number_form : ℕ
number_form = 14

abbrev pub text_too_long : ℕ
text_too_long = 15

abbrev pub name_unanswered : ℕ
name_unanswered = 19

abbrev pub no_rows : ℕ
no_rows = 20

abbrev pub count_too_high : ℕ
count_too_high = 21

-- what an answer says: whether the call was accepted; if not the refusal's number and the place returned with it, and if so
-- the call's value
pub record Says : Type 0 where
  pub ok : Bool
  pub refusal : ℕ
  pub place : ℕ
  pub value : ℕ

abbrev pub refused : ℕ → ℕ → Says
refused n p = record { ok = false; refusal = n; place = p; value = 0 }

abbrev pub accepted : ℕ → Says
accepted v = record { ok = true; refusal = 0; place = 0; value = v }

-- each refusal's number
abbrev pub refusal_number : Refusal → ℕ
refusal_number BadEnds = bad_ends
refusal_number Disorderly = disorderly
refusal_number OutsideLimits = outside_limits
refusal_number NoActivity = no_activity
refusal_number MisplacedSet = misplaced_set
refusal_number OnNoWalk = on_no_walk
refusal_number WrongEnds = wrong_ends
refusal_number MissingSet = missing_set
refusal_number WronglyEmpty = wrongly_empty
refusal_number NotPossible = not_possible
refusal_number LeftOver = left_over
refusal_number FullSide = full_side
refusal_number LineForm = line_form
refusal_number NumberForm = number_form
refusal_number TextTooLong = text_too_long
refusal_number NameUnanswered = name_unanswered
refusal_number NoRows = no_rows
refusal_number CountTooHigh = count_too_high

-- a refusal with its place
abbrev pub with_place : Refusal → ℕ → Refused
with_place r p = record { refusal = r; place = p }

-- what an answer means, given the number that stands for each value
abbrev pub means : {T : Type 0} → (T → ℕ) → Result T Refused → Says
means value (Ok v) = accepted (value v)
means value (Err r) = refused (refusal_number r.refusal) r.place
