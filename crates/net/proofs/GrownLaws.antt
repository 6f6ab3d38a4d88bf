-- Laws of the sides with a set added to one that has room: that side is the insertion, every other side is as it was, and if
-- every side was as it has to be and the set may stand there, every side is so again. The counts are written over at the same
-- places. Assumes nothing.
use Prim.Native.Nat.{ℕ, ◌+◌, ◌*◌, ◌<◌, ◌≤◌}
use native.Mathlib.Decide.{ℕ_discrete as dec_eq, dec_le}
use native.Mathlib.Omega.{arith}
use mathlib.Core.Path.{◌≡◌, ◌∙◌}
use mathlib.Core.Bool.{true, false}
use mathlib.Core.List.{List, ◌++◌}
use lib.Dec.{eqb}
use lib.ListN.{length, take, drop, get_or, length-set}
use lib.Seq.{take_at, drop_at, get_or-set_same, get_or-set_other}
use borrow.Author.Tests.{le-leb, ne_eqb}
use Rattle.obligations.specs.Limits.{activities}
use Rattle.net.specs.Limits.{sets, places}
use Rattle.net.specs.Lists.{listed, place_in, insert_at, insert, splice}
use Rattle.net.specs.Sides.{block, sets_in, counts_in}
use Rattle.net.specs.Orderly.{block_ok, sides_ok}
use Rattle.net.specs.Inner.{OrderlySides}
use Rattle.net.specs.Put.{grown_sides}
use Rattle.net.specs.declared.sides.Sides.{Sides}
use Rattle.net.proofs.BelowLaws.{below_true}
use Rattle.net.proofs.ListLaws.{drop-take, take-append_over, zeros_drop}
use Rattle.net.proofs.InsertLaws.{length-insert_at, length-insert, ascends-insert}
use Rattle.net.proofs.SpliceLaws.{length_splice, splice_from, splice_part, splice_before, splice_after}
use Rattle.net.proofs.SideLaws.{OrderlyCounts, counts_past, past_counts, length-first, side_ok, plain_side_ok}

-- ---- masks and counts: a list with the places of one activity written over, one more than it had sets

module _ (list v : List ℕ) (n a : ℕ) (long : length list ≡ places) (h : a < activities) (room : n < sets) (more : length v ≡ n + 1) where
  fits : sets * a + length v ≤ length list
  fits = omega arith

  pub length_written : length (splice list (sets * a) v) ≡ places
  length_written = length_splice list v (sets * a) fits ∙ long

  pub written_own : take (n + 1) (drop (sets * a) (splice list (sets * a) v)) ≡ v
  written_own = rw (← more) (splice_part list v (sets * a) fits)

  pub written_other : (b k : ℕ) → (b ≡ a → ⊥) → k ≤ sets → take k (drop (sets * b) (splice list (sets * a) v)) ≡ take k (drop (sets * b) list)
  written_other b k d l = elim (dec_le b a) [
    | yes u ↦ splice_before list v (sets * a) fits (sets * b) k (omega arith)
    | no u ↦ rw (splice_after list v (sets * a) fits (sets * b) (omega arith))
  ]

  pub written_block : block (splice list (sets * a) v) a ≡ v ++ drop (n + 1) (block list a)
  written_block =
      rw (splice_from list v (sets * a) fits, drop-take (n + 1) sets (drop (sets * a) list), ← more)
      (take-append_over sets v (drop (length v) (drop (sets * a) list)) (omega arith))

-- ---- the sides with m added to activity a's

module _ (sides : Sides) (a m : ℕ) where
  abbrev grown : Sides
  grown = grown_sides sides a m

  abbrev n : ℕ
  n = get_or sides.lengths a 0

  pub grown_length_same : a < length sides.lengths → get_or grown.lengths a 0 ≡ n + 1
  grown_length_same h = get_or-set_same sides.lengths a (n + 1) 0 h

  pub grown_length_other : (b : ℕ) → (b ≡ a → ⊥) → get_or grown.lengths b 0 ≡ get_or sides.lengths b 0
  grown_length_other b d = get_or-set_other sides.lengths a b (n + 1) 0 d

  module _ (h : a < activities) (room : n < sets) where
    -- the masks
    module _ (long : length sides.masks ≡ places) where
      abbrev own_sets : List ℕ
      own_sets = insert m (sets_in sides a)

      one_more : length own_sets ≡ n + 1
      one_more = length-insert m (sets_in sides a) ∙ rw (length-first sides.masks a n long h (omega arith))

      pub length_grown_masks : length grown.masks ≡ places
      length_grown_masks = length_written sides.masks own_sets n a long h room one_more

      pub grown_side_same : a < length sides.lengths → sets_in grown a ≡ own_sets
      grown_side_same k = rw (grown_length_same k) (written_own sides.masks own_sets n a long h room one_more)

      grown_part_other : (b k : ℕ) → (b ≡ a → ⊥) → k ≤ sets → take k (drop (sets * b) grown.masks) ≡ take k (drop (sets * b) sides.masks)
      grown_part_other b k d l = written_other sides.masks own_sets n a long h room one_more b k d l

      pub grown_side_other : (b : ℕ) → (b ≡ a → ⊥) → get_or sides.lengths b 0 ≤ sets → sets_in grown b ≡ sets_in sides b
      grown_side_other b d k = rw (grown_length_other b d) (grown_part_other b (get_or sides.lengths b 0) d k)

      grown_block_same : block grown.masks a ≡ own_sets ++ drop (n + 1) (block sides.masks a)
      grown_block_same = written_block sides.masks own_sets n a long h room one_more

    -- every side as it has to be
    module _ (empty : ℕ) (o : OrderlySides sides empty) (d : a ≡ empty → ⊥) (k : 0 < m) (new : listed m (sets_in sides a) ≡ false) where
      grown_own_ok : block_ok (block grown.masks a) (get_or grown.lengths a 0) (eqb a empty) ≡ true
      unfolding block_ok
      grown_own_ok =
          let v = insert m (sets_in sides a) in
          let f = plain_side_ok sides empty o a h d in
          rw (
            ne_eqb a empty d,
            grown_length_same (omega (arith, o.lengths_long)),
            le-leb (n + 1) sets (omega arith),
            grown_block_same o.masks_long,
            take_at v (drop (n + 1) (block sides.masks a)) (n + 1) (one_more o.masks_long),
            drop_at v (drop (n + 1) (block sides.masks a)) (n + 1) (one_more o.masks_long),
            ascends-insert 0 m (sets_in sides a) k f.0 new,
            zeros_drop (block sides.masks a) n f.1,
          )

      pub grown_orderly_sides : OrderlySides grown empty
      unfolding sides_ok
      grown_orderly_sides = record {
        masks_long = length_grown_masks o.masks_long;
        lengths_long = length-set sides.lengths a (n + 1) ∙ o.lengths_long;
        all_ok =
            below_true activities (λ b. block_ok (block grown.masks b) (get_or grown.lengths b 0) (eqb b empty))
            (λ b l. elim (dec_eq b a) [
              | yes e ↦ rw e grown_own_ok
              | no q ↦ rw (grown_part_other o.masks_long b sets q (omega arith), grown_length_other b q) (side_ok sides empty o b l)
            ]);
      }

    -- the counts
    module _ (o : OrderlyCounts sides) where
      abbrev own_counts : List ℕ
      own_counts = insert_at (place_in m (sets_in sides a)) 0 (counts_in sides a)

      one_count_more : length own_counts ≡ n + 1
      one_count_more = length-insert_at (place_in m (sets_in sides a)) 0 (counts_in sides a) ∙ rw (length-first sides.counts a n o.counts_long h (omega arith))

      pub length_grown_counts : length grown.counts ≡ places
      length_grown_counts = length_written sides.counts own_counts n a o.counts_long h room one_count_more

      pub grown_counts_same : a < length sides.lengths → counts_in grown a ≡ own_counts
      grown_counts_same k = rw (grown_length_same k) (written_own sides.counts own_counts n a o.counts_long h room one_count_more)

      pub grown_counts_other : (b : ℕ) → (b ≡ a → ⊥) → get_or sides.lengths b 0 ≤ sets → counts_in grown b ≡ counts_in sides b
      grown_counts_other b d k = rw (grown_length_other b d) (written_other sides.counts own_counts n a o.counts_long h room one_count_more b (get_or sides.lengths b 0) d k)

      pub grown_orderly_counts : a < length sides.lengths → OrderlyCounts grown
      grown_orderly_counts k =
          past_counts grown length_grown_counts
          (λ b l. elim (dec_eq b a) [
            | yes e ↦
                rw (
                  e,
                  grown_length_same k,
                  written_block sides.counts own_counts n a o.counts_long h room one_count_more,
                  drop_at own_counts (drop (n + 1) (block sides.counts a)) (n + 1) one_count_more,
                ) (zeros_drop (block sides.counts a) n (counts_past sides o a h))
            | no d ↦ rw (grown_length_other b d, written_other sides.counts own_counts n a o.counts_long h room one_count_more b sets d (omega arith)) (counts_past sides o b l)
          ])
