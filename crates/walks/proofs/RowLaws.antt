-- Laws of rows and of unions of sets: what stands in each row, and who is in a union. Assumes nothing.
use Prim.Native.Nat.{ℕ, zero, suc, ◌+◌, ◌≤◌, ◌<◌, ◌^◌}
use mathlib.Core.Path.{◌≡◌, refl, sym, ap, ap₂, ◌∙◌}
use mathlib.Core.Logic.{◌↔◌, ⊎_elim}
use mathlib.Core.Bool.{Bool, true, false, ◌&&◌, ◌||◌, or-false, or_assoc}
use mathlib.Core.List.{List, [], ◌∷◌}
use native.Mathlib.Omega.{arith}
use borrow.Author.Count.{below_more}
use borrow.Author.Tests.{ltb-true}
use lib.Dec.{ltb}
use Rattle.std.proofs.Common.{fold, sum_by}
use Rattle.std.proofs.lemmas.List.Sums.{sum_by-cons, sum_by-le}
use lib.ListN.{length, get_or, set, get_or-eq_default}
use lib.Seq.{ext_get_or, get_or-set_same, get_or-set_other}
use Rattle.obligations.specs.Sets.{member, union, size}
use Rattle.obligations.proofs.BoolLaws.{false-not-true, and_left, and_right}
use Rattle.obligations.proofs.MemberLaws.{size_le}
use Rattle.obligations.proofs.SetLaws.{lt_or_le, member_none, member_union}
use Rattle.walks.specs.Arcs.{named}
use Rattle.walks.specs.Below.{sum_below, those}
use Rattle.walks.specs.Rows.{has, Has, rows_from, rows}
use Rattle.walks.specs.Links.{sizes}
use Rattle.walks.proofs.BelowLaws.{member-those, member_those_at, sum_ext, sum_first}

-- ---- rows

rows_from-long : (k n : ℕ) (f : ℕ → ℕ) → length (rows_from k n f) ≡ n
unfolding rows_from
rows_from-long k zero f = refl
rows_from-long k (suc n) f = ap suc (rows_from-long (suc k) n f)

rows_from-at : (k n : ℕ) (f : ℕ → ℕ) (i : ℕ) → i < n → get_or (rows_from k n f) i 0 ≡ f (k + i)
unfolding rows_from
rows_from-at k zero f i h = absurd (omega arith)
rows_from-at k (suc n) f zero h = ap f (omega arith)
rows_from-at k (suc n) f (suc i) h = rows_from-at (suc k) n f i (omega arith) ∙ ap f (omega arith)

pub rows_long : (f : ℕ → ℕ) → length (rows f) ≡ 32
unfolding rows
rows_long f = rows_from-long 0 32 f

pub rows_at : (f : ℕ → ℕ) (a : ℕ) → a < 32 → get_or (rows f) a 0 ≡ f a
unfolding rows
rows_at f a h = rows_from-at 0 32 f a h ∙ ap f (omega arith)

pub rows-past : (l : List ℕ) (a : ℕ) → length l ≤ a → get_or l a 0 ≡ 0
rows-past l a h = get_or-eq_default l 0 {n = a} h

-- what holds of each row's mask and of 0 holds at every place
pub rows_all : (P : ℕ → Type 0) (f : ℕ → ℕ) → P 0 → ((a : ℕ) → a < 32 → P (f a)) → (a : ℕ) → P (get_or (rows f) a 0)
rows_all P f z h a = ⊎_elim (λ l. rw (rows_at f a l) (h a l)) (λ l. rw (rows-past (rows f) a (rw (rows_long f) l)) z) (lt_or_le a 32)

-- 32 numbers that are f at each activity are the rows of f
pub rows_are : (l : List ℕ) (f : ℕ → ℕ) → length l ≡ 32 → ((a : ℕ) → a < 32 → get_or l a 0 ≡ f a) → l ≡ rows f
rows_are l f e h = ext_get_or 0 l (rows f) (e ∙ sym (rows_long f)) (λ a l. h a (omega arith) ∙ sym (rows_at f a (omega arith)))

pub rows_ext : (f g : ℕ → ℕ) → ((a : ℕ) → a < 32 → f a ≡ g a) → rows f ≡ rows g
rows_ext f g h = rows_are (rows f) g (rows_long f) (λ a l. rows_at f a l ∙ h a l)

-- one row more is written
pub rows-set : (l : List ℕ) (f : ℕ → ℕ) (a v : ℕ) → a < length l → v ≡ f a → ((k : ℕ) → k < a → get_or l k 0 ≡ f k) → (k : ℕ) → k < a + 1 → get_or (set l a v) k 0 ≡ f k
rows-set l f a v h e below = below_more (λ k. get_or (set l a v) k 0 ≡ f k) a (λ k s. get_or-set_other l a k v 0 (omega arith) ∙ below k s) (get_or-set_same l a v 0 h ∙ e)

pub has-row : (f : ℕ → ℕ) (a b : ℕ) → a < 32 → has (rows f) a b ≡ member (f a) b
unfolding has
has-row f a b h = ap (λ (m : ℕ). member m b) (rows_at f a h)

pub has-past : (l : List ℕ) (a b : ℕ) → length l ≤ a → has l a b ≡ false
unfolding has
has-past l a b h = ap (λ (m : ℕ). member m b) (rows-past l a h) ∙ member_none b

-- rows of the activities that pass a test
pub has-those : (test : ℕ → ℕ → Bool) (a b : ℕ) → Has (rows (λ c. those (λ d. test c d))) a b ↔ ((a < 32) × (b < 32) × (test a b ≡ true))
has-those test a b = ((λ h. ⊎_elim (there h) (λ l. absurd (false-not-true (has-past (rows row) a b (rw (rows_long row) l)) h)) (lt_or_le a 32)), (λ w. has-row row a b w.0 ∙ member_those_at (test a) b w.1 ∙ w.2))
  where
    row : ℕ → ℕ
    row c = those (λ d. test c d)

    there : Has (rows row) a b → a < 32 → (a < 32) × (b < 32) × (test a b ≡ true)
    there h l =
        let e : ltb b 32 && test a b ≡ true = sym (has-row row a b l ∙ member-those (test a) b) ∙ h in
        (l, ltb-true b 32 (and_left (ltb b 32) (test a b) e), and_right (ltb b 32) (test a b) e)

-- ---- unions

pub member-union_from : (m : ℕ) (l : List ℕ) (k : ℕ) → member (fold union m l) k ≡ member m k || named l k
unfolding named
member-union_from m [] k = sym (or-false (member m k))
member-union_from m (x ∷ xs) k = member-union_from (union m x) xs k ∙ ap (λ (t : Bool). t || named xs k) (member_union m x k) ∙ or_assoc (member m k) (member x k) (named xs k)

pub member-union_of : (l : List ℕ) (k : ℕ) → member (fold union 0 l) k ≡ named l k
member-union_of l k = member-union_from 0 l k ∙ ap (λ (t : Bool). t || named l k) (member_none k)

-- ---- sizes

-- the members of 32 sets can be counted
pub sizes_fit : (l : List ℕ) → length l ≡ 32 → sum_by size l < 2 ^ 32
sizes_fit l e = let h = sum_by-le size 32 l (λ k d i. size_le (get_or l k d)) in omega arith

sizes-from : (k n : ℕ) (f : ℕ → ℕ) → sizes (rows_from k n f) ≡ sum_below n (λ i. size (f (k + i)))
unfolding rows_from sum_below
sizes-from k zero f = refl
sizes-from k (suc n) f =
    sum_by-cons size (f k) (rows_from (suc k) n f)
    ∙ ap₂ (λ (x y : ℕ). size x + y) (ap f (omega arith)) (sizes-from (suc k) n f ∙ sum_ext n (λ i. size (f (suc k + i))) (λ i. size (f (k + suc i))) (λ i h. ap (λ (j : ℕ). size (f j)) (omega arith)))
    ∙ sym (sum_first n (λ i. size (f (k + i))))

pub sizes-rows : (f : ℕ → ℕ) → sizes (rows f) ≡ sum_below 32 (λ a. size (f a))
unfolding rows
sizes-rows f = sizes-from 0 32 f ∙ sum_ext 32 (λ i. size (f (0 + i))) (λ a. size (f a)) (λ k h. ap (λ (i : ℕ). size (f i)) (omega arith))
