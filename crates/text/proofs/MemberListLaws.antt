-- Laws of member lists. Reading goes field by field with the lowest member still allowed and the set so far; a set's
-- members ascend and are activities, so that its printed list is read as the set. No other text is: its numbers are
-- printed numbers, and numbers that ascend are listed in one way. Assumes nothing.
use Rattle.std.proofs.Common.{ℕ, zero, suc, ◌+◌, ◌-◌, ◌*◌, ◌≤◌, ◌<◌, ◌^◌, ◌≡◌, refl, sym, ap, ap₂, ◌∙◌, ◌↔◌, ◌⊎◌, inl, inr, ⊎_elim, Bool, true, false, ◌&&◌, cond, List, [], ◌∷◌, map, arith, le-leb, eq-eqb, eqb-true, leb-true, leb, eqb, length, length-append, Option, Some, None}
use mathlib.Core.Bool.{or-true, and-false}
use mathlib.Core.List.Memᴰ
use mathlib.Core.List.{Memᴰ}
use borrow.Author.Tests.{lt-leb}
use lib.Bits.{bit_and}
use Rattle.std.specs.Int.Count.{count_trailing_zeros}
use Rattle.obligations.specs.Sets.{member, single, union, members}
use Rattle.obligations.proofs.BoolLaws.{false-not-true, and_left, and_right, same_test}
use Rattle.obligations.proofs.SetLaws.{single_lt, union_lt, member_none, member-with, set_ext}
use Rattle.obligations.proofs.MemberLaws.{members_walk, members_are, members_induct}
use Rattle.text.specs.Bytes.{occurrences}
use Rattle.text.specs.Fields.{space, split, led, join}
use Rattle.text.specs.Decimal.{is_empty, value, is_number, parse_number, all_numbers, values, print_number}
use Rattle.text.specs.Members.{highest, ascends_from, with_all, are_members, parse_members, print_members}
use Rattle.text.proofs.FieldLaws.{split-join, join-split, length-split, join_free}
use Rattle.text.proofs.DigitLaws.{number_below_100}
use Rattle.text.proofs.DecimalLaws.{number-value, number-refused, values_most, fields_printed, printed_fields, numbers_free}

-- ---- reading field by field

-- fields that are members of at least low, added to a set
abbrev pub read_fields : ℕ → ℕ → List (List ℕ) → Option ℕ
read_fields low m [] = Some m
read_fields low m (f ∷ fs) = cond (is_number highest f) (cond (leb low (value f)) (read_fields (value f + 1) (union m (single (value f))) fs) None) None

fields_all : (low m : ℕ) (fs : List (List ℕ)) → read_fields low m fs ≡ cond (all_numbers highest fs && ascends_from low (values fs)) (Some (with_all m (values fs))) None
fields_all low m [] = refl
fields_all low m (f ∷ fs) = go (is_number highest f) (leb low (value f)) (fields_all (value f + 1) (union m (single (value f))) fs)
  where
    go : (t l : Bool) → read_fields (value f + 1) (union m (single (value f))) fs
        ≡ cond (all_numbers highest fs && ascends_from (value f + 1) (values fs)) (Some (with_all (union m (single (value f))) (values fs))) None
        → cond t (cond l (read_fields (value f + 1) (union m (single (value f))) fs) None) None
        ≡ cond ((t && all_numbers highest fs) && (l && ascends_from (value f + 1) (values fs))) (Some (with_all (union m (single (value f))) (values fs))) None
    go true true ih = ih
    go true false ih = rw (and-false (all_numbers highest fs))
    go false l ih = refl

pub members-start : (s : List ℕ) → parse_members s ≡ read_fields 0 0 (split space s)
unfolding parse_members are_members
members-start s = sym (fields_all 0 0 (split space s))

-- what the first field that is left decides
module _ (low m : ℕ) (f : List ℕ) (fs : List (List ℕ)) where
  pub list_none : parse_number highest f ≡ None → read_fields low m (f ∷ fs) ≡ None
  list_none r = rw (number-refused highest f r)

  module _ (k : ℕ) (r : parse_number highest f ≡ Some k) where
    pub list_low : k < low → read_fields low m (f ∷ fs) ≡ None
    list_low l = let v = number-value highest f k r in rw (v.0, v.1, lt-leb low k l)

    pub list_more : low ≤ k → read_fields low m (f ∷ fs) ≡ read_fields (k + 1) (union m (single k)) fs
    list_more l = let v = number-value highest f k r in rw (v.0, v.1, le-leb low k l)

-- ---- how long a list is

join_short : (c : ℕ) (ps : List (List ℕ)) → length (join c ps) ≤ length (led c ps)
join_short c [] = omega arith
join_short c (p ∷ ps) = omega arith

-- a member and its space take at most 3 bytes
led_short : (m : ℕ) → length (led space (map print_number (members m))) ≤ 96
led_short m =
    members_induct (λ n k ks. k + n ≤ 32 → length (led space (map print_number ks)) ≤ 3 * n)
    (λ k h. omega arith) (λ n k ks ih h. let l = ih (omega arith) in omega arith)
    (λ n k ks ih h. let l = ih (omega arith) in omega (arith, length-append (print_number k) (led space (map print_number ks)), number_below_100 k (omega arith)))
    m (omega arith)

pub members_short : (m : ℕ) → length (print_members m) ≤ 96
unfolding print_members
members_short m = omega (arith, join_short space (map print_number (members m)), led_short m)

-- ---- what was printed is read

-- the members of a mask ascend
members_ascend : (m : ℕ) → ascends_from 0 (members m) ≡ true
members_ascend m =
    members_induct (λ n k ks. (low : ℕ) → low ≤ k → ascends_from low ks ≡ true)
    (λ k low h. refl) (λ n k ks ih low h. ih low (omega arith)) (λ n k ks ih low h. rw (le-leb low k h) (ih (k + 1) (omega arith))) m 0 (omega arith)

-- a set with members added has those that it had and those
all_member : (m : ℕ) (ks : List ℕ) (j : ℕ) → ((k : ℕ) → Memᴰ k ks → k < 32) → member (with_all m ks) j ≡ true → (member m j ≡ true) ⊎ Memᴰ j ks
all_member m [] j h e = inl e
all_member m (k ∷ ks) j h e = ⊎_elim (λ t. first (member m j) refl t) (λ t. inr (Memᴰ.tail t)) (all_member (union m (single k)) ks j (λ i q. h i (Memᴰ.tail q)) e)
  where
    first : (t : Bool) → member m j ≡ t → member (union m (single k)) j ≡ true → (member m j ≡ true) ⊎ Memᴰ j (k ∷ ks)
    first true p q = inl p
    first false p q =
        let w : eqb k j ≡ true = sym (rw p at (member-with m k j (h k (Memᴰ.head refl)))) ∙ q in
        inr (Memᴰ.head (sym (eqb-true k j w)))

member_all : (m : ℕ) (ks : List ℕ) (j : ℕ) → ((k : ℕ) → Memᴰ k ks → k < 32) → (member m j ≡ true) ⊎ Memᴰ j ks → member (with_all m ks) j ≡ true
member_all m [] j h e = ⊎_elim (λ t. t) (λ t. absurd (Memᴰ.not-nil t)) e
member_all m (k ∷ ks) j h e = member_all (union m (single k)) ks j (λ i q. h i (Memᴰ.tail q)) (⊎_elim (λ t. inl (old t)) (λ t. ⊎_elim (λ q. inl (new q)) (λ q. inr q) (Memᴰ.cases_cons t)) e)
  where
    old : member m j ≡ true → member (union m (single k)) j ≡ true
    old t = member-with m k j (h k (Memᴰ.head refl)) ∙ rw t

    new : j ≡ k → member (union m (single k)) j ≡ true
    new q = member-with m k j (h k (Memᴰ.head refl)) ∙ rw (eq-eqb k j (sym q)) (or-true (member m j))

all_lt : (m : ℕ) (ks : List ℕ) → m < 2 ^ 32 → with_all m ks < 2 ^ 32
all_lt m [] h = h
all_lt m (k ∷ ks) h = all_lt (union m (single k)) ks (union_lt m (single k) h (single_lt k))

member_below : (m k : ℕ) → Memᴰ k (members m) → k < 32
member_below m k q = ((members_are m k).0 q).0

-- a set is its members put together
pub all_members : (m : ℕ) → m < 2 ^ 32 → with_all 0 (members m) ≡ m
all_members m h = set_ext (with_all 0 (members m)) m (all_lt 0 (members m) (omega arith)) h (λ k l. same_test (member (with_all 0 (members m)) k) (member m k) (λ t. there k t) (λ t. back k l t))
  where
    there : (k : ℕ) → member (with_all 0 (members m)) k ≡ true → member m k ≡ true
    there k t = ⊎_elim (λ q. absurd (false-not-true (member_none k) q)) (λ q. ((members_are m k).0 q).1) (all_member 0 (members m) k (member_below m) t)

    back : (k : ℕ) → k < 32 → member m k ≡ true → member (with_all 0 (members m)) k ≡ true
    back k l t = member_all 0 (members m) k (member_below m) (inr ((members_are m k).1 (l, t)))

-- printed members, joined by a space, hold no byte below 48 but that
pub members_free : (c m : ℕ) → c < 48 → (c ≡ space → ⊥) → occurrences c (print_members m) ≡ 0
unfolding print_members
members_free c m h n = join_free c space n (map print_number (members m)) (numbers_free c h (members m))

-- the fields of a printed member list
pub split-members : (m : ℕ) → 0 < m → m < 2 ^ 32 → split space (print_members m) ≡ map print_number (members m)
unfolding print_members
split-members m h u = rw (members_walk m h u) (split-join space (print_number (count_trailing_zeros 32 m)) (map print_number (members (bit_and m (m - 1)))) (numbers_free space (omega arith) (count_trailing_zeros 32 m ∷ members (bit_and m (m - 1)))))

-- reading a set's printed member list gives the set; the empty set's is empty, which is no member list
pub parse_print_members : (m : ℕ) → 0 < m → m < 2 ^ 32 → parse_members (print_members m) ≡ Some m
unfolding parse_members are_members
parse_print_members m h u = let f = printed_fields 31 (members m) (omega arith) (λ k t. omega (arith, member_below m k t)) in rw (split-members m h u, f.0, f.1, members_ascend m, all_members m u)

-- ---- what is read is the print of a set that isn't empty

-- what an answer says of its list
list_value : (s : List ℕ) (m : ℕ) → parse_members s ≡ Some m → (are_members (split space s) ≡ true) × (with_all 0 (values (split space s)) ≡ m)
unfolding parse_members
list_value s m = go (are_members (split space s))
  where
    go : (t : Bool) → cond t (Some (with_all 0 (values (split space s)))) None ≡ Some m → (t ≡ true) × (with_all 0 (values (split space s)) ≡ m)
    go true q = (refl, cc)
    go false q = let z : ◌≡◌ {A = ℕ} 0 1 = cc in absurd (omega arith)

zero_or_some : (m : ℕ) → (m ≡ 0) ⊎ (0 < m)
zero_or_some zero = inl refl
zero_or_some (suc m) = inr (omega arith)

pub parse_members_mask : (s : List ℕ) (m : ℕ) → parse_members s ≡ Some m → (0 < m) × (m < 2 ^ 32)
unfolding are_members
parse_members_mask s m q = let v = list_value s m q in go (split space s) (length-split space s) v.0 v.1
  where
    go : (fs : List (List ℕ)) → length fs ≡ suc (occurrences space s) → all_numbers highest fs && ascends_from 0 (values fs) ≡ true → with_all 0 (values fs) ≡ m → (0 < m) × (m < 2 ^ 32)
    go [] e a w = absurd (omega arith)
    go (f ∷ fs) e a w = (⊎_elim (λ z. absurd (false-not-true (member_none (value f)) (ap (λ (n : ℕ). member n (value f)) (sym z ∙ sym w) ∙ first))) (λ h. h) (zero_or_some m), rw (← w) (all_lt 0 (values (f ∷ fs)) (omega arith)))
      where
        first : member (with_all 0 (values (f ∷ fs))) (value f) ≡ true
        first = member_all 0 (values (f ∷ fs)) (value f) (λ k t. omega (arith, values_most 31 (f ∷ fs) (and_left (all_numbers highest (f ∷ fs)) (ascends_from 0 (values (f ∷ fs))) a) k t)) (inr (Memᴰ.head refl))

-- ascending numbers are listed in one way
ascends_least : (low : ℕ) (ks : List ℕ) → ascends_from low ks ≡ true → (k : ℕ) → Memᴰ k ks → low ≤ k
ascends_least low [] a k t = absurd (Memᴰ.not-nil t)
ascends_least low (x ∷ ks) a k t =
    let l = leb-true low x (and_left (leb low x) (ascends_from (x + 1) ks) a) in
    ⊎_elim (λ e. omega arith) (λ r. omega (arith, ascends_least (x + 1) ks (and_right (leb low x) (ascends_from (x + 1) ks) a) k r)) (Memᴰ.cases_cons t)

abbrev Among : List ℕ → List ℕ → Type 0
Among ks js = (k : ℕ) → Memᴰ k ks → Memᴰ k js

-- of two lists, the first of one is no lower than that of the other, and without an equal first they hold the same
first_least : (x y : ℕ) (ks js : List ℕ) → ascends_from (y + 1) js ≡ true → Among (x ∷ ks) (y ∷ js) → y ≤ x
first_least x y ks js b f = ⊎_elim (λ e. omega arith) (λ r. omega (arith, ascends_least (y + 1) js b x r)) (Memᴰ.cases_cons (f x (Memᴰ.head refl)))

among_rest : (x y : ℕ) (ks js : List ℕ) → x ≡ y → ascends_from (x + 1) ks ≡ true → Among (x ∷ ks) (y ∷ js) → Among ks js
among_rest x y ks js q a f k t = ⊎_elim (λ e. absurd (omega (arith, ascends_least (x + 1) ks a k t))) (λ r. r) (Memᴰ.cases_cons (f k (Memᴰ.tail t)))

same-ascending : (low high : ℕ) (ks js : List ℕ) → ascends_from low ks ≡ true → ascends_from high js ≡ true → Among ks js → Among js ks → ks ≡ js
same-ascending low high [] [] a b f g = refl
same-ascending low high [] (y ∷ js) a b f g = absurd (Memᴰ.not-nil (g y (Memᴰ.head refl)))
same-ascending low high (x ∷ ks) [] a b f g = absurd (Memᴰ.not-nil (f x (Memᴰ.head refl)))
same-ascending low high (x ∷ ks) (y ∷ js) a b f g =
    let c = and_right (leb low x) (ascends_from (x + 1) ks) a in
    let d = and_right (leb high y) (ascends_from (y + 1) js) b in
    let e : x ≡ y = omega (arith, first_least x y ks js d f, first_least y x js ks c g) in
    ap₂ (λ (k : ℕ) (l : List ℕ). k ∷ l) e (same-ascending (x + 1) (y + 1) ks js c d (among_rest x y ks js e c f) (among_rest y x js ks (sym e) d g))

-- activities that ascend are the members of their set
members_all : (ks : List ℕ) → ((k : ℕ) → Memᴰ k ks → k < 32) → ascends_from 0 ks ≡ true → ks ≡ members (with_all 0 ks)
members_all ks h a = same-ascending 0 0 ks (members (with_all 0 ks)) a (members_ascend (with_all 0 ks)) there back
  where
    there : Among ks (members (with_all 0 ks))
    there k t = (members_are (with_all 0 ks) k).1 (h k t, member_all 0 ks k h (inr t))

    back : Among (members (with_all 0 ks)) ks
    back k t = ⊎_elim (λ q. absurd (false-not-true (member_none k) q)) (λ r. r) (all_member 0 ks k h ((members_are (with_all 0 ks) k).0 t).1)

members_printed : (s : List ℕ) (m : ℕ) → parse_members s ≡ Some m → s ≡ print_members m
unfolding are_members print_members
members_printed s m q =
    let fs : List (List ℕ) = split space s in
    let v = list_value s m q in
    let n = and_left (all_numbers highest fs) (ascends_from 0 (values fs)) v.0 in
    let a = and_right (all_numbers highest fs) (ascends_from 0 (values fs)) v.0 in
    let e : values fs ≡ members m = members_all (values fs) (λ k t. omega (arith, values_most 31 fs n k t)) a ∙ ap members v.1 in
    sym (join-split space s) ∙ ap (join space) (fields_printed 31 fs (omega arith) n ∙ ap (map print_number) e)

-- a text is read as a set exactly if it is the set's printed list and the set isn't empty
pub parse_members_exactly : (s : List ℕ) (m : ℕ) → (parse_members s ≡ Some m) ↔ ((s ≡ print_members m) × (0 < m) × (m < 2 ^ 32))
parse_members_exactly s m = ((λ q. let f = parse_members_mask s m q in (members_printed s m q, f.0, f.1)), (λ w. ap parse_members w.0 ∙ parse_print_members m w.1 w.2))

-- a member list isn't empty
pub members-filled : (s : List ℕ) (m : ℕ) → parse_members s ≡ Some m → is_empty s ≡ false
unfolding parse_members are_members is_number
members-filled [] m h = let z : ◌≡◌ {A = ℕ} 0 1 = cc in absurd (omega arith)
members-filled (b ∷ s) m h = refl
