-- The statements of specs/Statements.antt. The round trip: every row that was written is of a set of the net, so each put
-- into a net that the net contains is accepted and leaves such a net; after the last row it holds all sets of the net, and
-- orderly nets that contain each other are equal. What is read is the laws' to say. Assumes nothing.
use Prim.Native.Nat.{ℕ, zero, suc, ◌+◌, ◌<◌}
use native.Mathlib.Decide.{ℕ_discrete as dec_eq}
use native.Mathlib.Omega.{arith}
use mathlib.Core.Path.{◌≡◌, refl, sym, ap, ◌∙◌}
use mathlib.Core.Bool.{Bool, true, false, cond}
use mathlib.Core.Logic.{◌⊎◌, inl, inr, ⊎_elim}
use mathlib.Core.List.{List, [], ◌∷◌, ◌++◌, Memᴰ}
use lib.Dec.{leb}
use lib.ListN.{length, take, drop}
use lib.Seq.{take-append_seam}
use borrow.Author.Tests.{ne_eqb, leb-true, leb-false}
use Rattle.obligations.specs.Limits.{activities, masks}
use Rattle.obligations.proofs.BoolLaws.{false-not-true}
use Rattle.net.specs.Refusals.{Says, accepted, refused, disorderly, text_too_long}
use Rattle.net.specs.Chains.{unless}
use Rattle.net.specs.Sides.{sides_of, empty_at, uncounted, OnSide}
use Rattle.net.specs.Orderly.{ends_ok, orderly}
use Rattle.net.specs.Fresh.{fresh_net}
use Rattle.net.specs.Contained.{Contained}
use Rattle.net.specs.declared.Net.{Net}
use Rattle.net.specs.declared.sides.Side.{Side}
use Rattle.net.specs.declared.sides.Side.TheVariants.{Input, Output}
use Rattle.net.proofs.ListLaws.{one_listed}
use Rattle.net.proofs.SideLaws.{side_just_empty, set_is_mask}
use Rattle.net.proofs.OrderlyLaws.{ends_facts, orderly_ends, orderly_sides, orderly_side, orderly_facts, facts_orderly}
use Rattle.net.proofs.FreshLaws.{fresh_start, fresh-end, fresh_on_side, fresh_orderly, fresh-uncounted}
use Rattle.net.proofs.PutLaws.{put_says_side}
use Rattle.net.proofs.WithinLaws.{contained-same, put_accepts_within, put_keeps_within, same_empty}
use Rattle.net.proofs.UncountedLaws.{uncounted-orderly, passes_over}
use Rattle.net.proofs.SentenceLaws.{Told, told_end, told-value, whole_link, chain_listed, accepted-not-refused}
use Rattle.net.proofs.CommonLaws.{orderly_link}
use Rattle.netfile.specs.NetFile.{read_set_row, row_says, row_gives, FileReading, read_as, read_rows, from_end, from_start, from_header, read_net, side_lines, activity_lines, head_lines, net_lines, net_text, write_refusals, write_says, write_gives}
use Rattle.netfile.specs.Statements.{NetListed, WriteListed, WriteSaid, RefusedFresh, LinesRead, HasRow, NetAccepted, ReadSaid, SameRowsSameNet, ReadOrderly, ReadUncounted, RowSaysSide, RoundTrip, RoundTripSame, WrittenRead, WritePassesOver, ReadAgain}
use Rattle.netfile.proofs.PutRowLaws.{row-orderly}
use Rattle.netfile.proofs.FileLaws.{read_short}
use Rattle.netfile.proofs.TextLaws.{net_short}
use Rattle.netfile.proofs.RowTextLaws.{start_back, end_back, row_back, RowOf, net_row_of, net_row, text_lines}
use Rattle.netfile.proofs.LineReadLaws.{start_exactly, end_exactly, row_exactly}
use Rattle.netfile.proofs.AcceptedLaws.{rows_orderly, rows-uncounted, rows_said, rows_ends, rows_hold, read-refused, net_orderly, net-uncounted, accepted_said}
use Rattle.netfile.proofs.ListedLaws.{net_listed}
use Rattle.netfile.proofs.ReadableLaws.{accepted_readable, readable_accepted, same-accepted, same-net}

-- ---- the rows of a net, put into a net that it contains

-- each set of a net is a mask of 32 bits
abbrev MaskSets : Net → Type 0
MaskSets net = (side : Side) (a m : ℕ) → OnSide net side a m → m < masks

module _ (whole : Net) (q : orderly whole ≡ true) (w : MaskSets whole) where
  rows_accepted : (n : ℕ) (net : Net) (ls : List (List ℕ)) → orderly net ≡ true → Contained net whole → ((line : List ℕ) → Memᴰ line ls → RowOf whole line)
      → ((read_rows n net ls).says.ok ≡ true) × Contained (read_rows n net ls).net whole
  unfolding read_rows
  rows_accepted n net [] o c f = (refl, c)
  rows_accepted n net (l ∷ ls) o c f =
      let r = f l (Memᴰ.head refl) in
      let e = ap read_set_row r.is_text ∙ row_back r.side r.activity r.set r.low r.some (w r.side r.activity r.set r.on) in
      let ok : (row_says net (read_set_row l)).ok ≡ true = rw e (put_accepts_within net whole o q c r.side r.activity r.set r.low r.some r.on) in
      let d : Contained (row_gives net (read_set_row l)) whole = rw e (put_keeps_within net whole o q c r.side r.activity r.set r.low r.some r.on) in
      rw ok (rows_accepted (n + 1) (row_gives net (read_set_row l)) ls (row-orderly net (read_set_row l) o) d (λ line i. f line (Memᴰ.tail i)))

  ends : ends_ok whole.start whole.end ≡ true
  ends = orderly_ends whole q

  fresh : Net
  fresh = fresh_net whole.start whole.end

  -- the rows after the first three lines of the text, put into the fresh net
  after : FileReading
  after = read_rows 4 fresh (activity_lines whole activities 0)

  empty_side : (side : Side) → empty_at fresh side ≡ empty_at whole side
  unfolding fresh
  empty_side side = same_empty fresh whole side (fresh_start whole.start whole.end) (fresh-end whole.start whole.end)

  fresh_contained : Contained fresh whole
  unfolding fresh
  fresh_contained = record {
    same_start = fresh_start whole.start whole.end;
    same_end = fresh-end whole.start whole.end;
    among = λ side a m h i.
        let e = (fresh_on_side whole.start whole.end ends side a m).0 i in
        let z = side_just_empty (sides_of whole side) (empty_at whole side) (orderly_sides whole q side) a h (e.0 ∙ empty_side side) in
        rw (e.1, z) (one_listed 0);
  }

  accepted_after : (after.says.ok ≡ true) × Contained after.net whole
  unfolding after fresh
  accepted_after = rows_accepted 4 fresh (activity_lines whole activities 0) (fresh_orderly whole.start whole.end ends) fresh_contained (net_row_of whole)

  -- each set of the net is one of the two empty sets or has its row
  all_put : (side : Side) (a m : ℕ) → a < activities → OnSide whole side a m → OnSide fresh side a m ⊎ HasRow (activity_lines whole activities 0) side a m
  unfolding fresh
  all_put side a m h i = elim (dec_eq m 0) [
    | yes e ↦
        elim (dec_eq a (empty_at whole side)) [
          | yes d ↦ inl ((fresh_on_side whole.start whole.end ends side a m).1 (d ∙ sym (empty_side side), e))
          | no d ↦ absurd (false-not-true ((orderly_side whole q side a h).never_empty d) (rw e at i))
        ]
    | no d ↦ inr (record { line = _; there = net_row whole side a m h i (omega arith); is_row = record { is_text = refl; is_activity = h; not_empty = omega arith; is_mask = w side a m i } })
  ]

  after_net : after.net ≡ uncounted whole
  unfolding after fresh
  after_net =
      let f = accepted_after in
      let g = rows_ends 4 fresh (activity_lines whole activities 0) f.0 in
      sym (rows-uncounted 4 fresh (activity_lines whole activities 0) (fresh_orderly whole.start whole.end ends) (fresh-uncounted whole.start whole.end))
      ∙ contained-same after.net whole (rows_orderly 4 fresh (activity_lines whole activities 0) (fresh_orderly whole.start whole.end ends)) q f.1
      (record {
        same_start = sym (g.0 ∙ fresh_start whole.start whole.end);
        same_end = sym (g.1 ∙ fresh-end whole.start whole.end);
        among = λ side a m h i. (rows_hold 4 fresh (activity_lines whole activities 0) f.0 side a m).1 (all_put side a m h i);
      })

  -- the text's lines are read up to its rows
  text_after : read_net (net_text whole) ≡ after
  unfolding after fresh from_header from_start from_end net_lines head_lines
  text_after =
      let f = ends_facts whole.start whole.end ends in
      rw (
        read_short (net_text whole) (net_short whole q),
        text_lines whole,
        start_back whole.start f.0,
        end_back whole.end f.1,
        ne_eqb whole.start whole.end f.2,
      )

reading_ext : (r : FileReading) (s : Says) (net : Net) → r.says ≡ s → r.net ≡ net → r ≡ record { says = s; net = net }
reading_ext r s net p q = rw (← p, ← q)

sets_back : (net : Net) → orderly net ≡ true → MaskSets net → read_net (net_text net) ≡ read_as (uncounted net)
unfolding after
sets_back net o w = text_after net o w ∙ reading_ext (after net o w) (accepted 0) (uncounted net) (rows_said 4 (fresh net o w) (activity_lines net activities 0) (accepted_after net o w).0) (after_net net o w)

pub round_trip : RoundTrip
round_trip net o w = sets_back net (facts_orderly net o) (set_is_mask net w)

pub round_trip-same : RoundTripSame
round_trip-same net o w e = round_trip net o w ∙ ap read_as e

-- ---- the two calls one after the other

-- the bytes up to the answered length are the text
pub written_front : (net : Net) (buf : List ℕ) (n : ℕ) → write_says net (length buf) ≡ accepted n → (orderly net ≡ true) × (take n (write_gives net buf) ≡ net_text net)
unfolding write_says write_gives
written_front net buf n = go (orderly net) (leb (length (net_text net)) (length buf))
  where
    go : (t u : Bool) → unless t disorderly (unless u text_too_long (accepted (length (net_text net)))) ≡ accepted n
        → (t ≡ true) × (take n (cond (unless t disorderly (unless u text_too_long (accepted (length (net_text net))))).ok (net_text net ++ drop (length (net_text net)) buf) buf) ≡ net_text net)
    go true true e =
        let k : length (net_text net) ≡ n = ap (λ (s : Says). s.value) e in
        (refl, ap (λ (m : ℕ). take m (net_text net ++ drop (length (net_text net)) buf)) (sym k) ∙ take-append_seam (net_text net) (drop (length (net_text net)) buf))
    go true false e = absurd (accepted-not-refused n text_too_long 0 (sym e))
    go false u e = absurd (accepted-not-refused n disorderly 0 (sym e))

pub written_read : WrittenRead
written_read net buf n w e = let f = written_front net buf n e in ap read_net f.1 ∙ sets_back net f.0 (set_is_mask net w)

write-told : (net : Net) (room : ℕ) → Told refused (write_refusals net room) (accepted (length (net_text net))) (write_says net room)
unfolding write_says
write-told net room =
    orderly_link refused (accepted (length (net_text net))) _ _ net
    (λ o. whole_link refused (accepted (length (net_text net))) text_too_long (room < length (net_text net)) [] (leb (length (net_text net)) room) _
    (λ e h. let k = leb-true (length (net_text net)) room e in omega arith) (leb-false (length (net_text net)) room)
    (λ e. told_end refused (accepted (length (net_text net)))))

pub write-listed : WriteListed
write-listed net room = chain_listed (write_refusals net room) refl (length (net_text net)) (write-told net room)

pub write_said : WriteSaid
write_said net room n = told-value (write_refusals net room) (length (net_text net)) n (write-told net room)

-- what the writer reads of a net are its ends and its sides
lines-uncounted : (net : Net) (n a : ℕ) → activity_lines (uncounted net) n a ≡ activity_lines net n a
unfolding activity_lines
lines-uncounted net zero a = refl
lines-uncounted net (suc n) a = ap (λ (ls : List (List ℕ)). side_lines net Input a ++ (side_lines net Output a ++ ls)) (lines-uncounted net n (a + 1))

text-uncounted : (net : Net) → net_text (uncounted net) ≡ net_text net
unfolding net_text net_lines
text-uncounted net = rw (lines-uncounted net activities 0)

pub write-passes_over : WritePassesOver
unfolding write_says write_gives
write-passes_over net other o q e buf = (
  passes_over (λ n. write_says n (length buf)) (λ n h. rw (uncounted-orderly n h, h, text-uncounted n)) net other o q e,
  passes_over (λ n. write_gives n buf) (λ n h. rw (uncounted-orderly n h, h, text-uncounted n)) net other o q e,
)

-- ---- whatever is read

pub net-as_listed : NetListed
net-as_listed = net_listed

pub net-accepted : NetAccepted
net-accepted text = (accepted_readable text, readable_accepted text)

pub same-rows-same-net : SameRowsSameNet
same-rows-same-net text other s = (same-accepted text other s, same-net text other s)

pub refused-fresh : RefusedFresh
refused-fresh text n p e = read-refused text (ap (λ (s : Says). s.ok) e)

pub lines-read : LinesRead
lines-read line = (start_exactly line, end_exactly line, row_exactly line)

pub row_says-side : RowSaysSide
row_says-side net line side a m o i = rw ((row_exactly line side a m).1 i) (put_says_side net side a m (facts_orderly net o) i.is_activity)

pub read-orderly : (text : List ℕ) → orderly (read_net text).net ≡ true
read-orderly = net_orderly

pub whatever_orderly : ReadOrderly
whatever_orderly text = orderly_facts (read_net text).net (net_orderly text)

pub read-uncounted : ReadUncounted
read-uncounted = net-uncounted

pub read_said : ReadSaid
read_said = accepted_said

read-masks : (text : List ℕ) → (read_net text).says ≡ accepted 0 → MaskSets (read_net text).net
read-masks text h side a m i = ⊎_elim (λ e. omega arith) (λ r. r.is_row.is_mask) (((read_said text h).sets_read side a m).0 i)

pub read_again : ReadAgain
read_again text h = sets_back (read_net text).net (read-orderly text) (read-masks text h) ∙ ap read_as (net-uncounted text) ∙ sym (reading_ext (read_net text) (accepted 0) (read_net text).net h refl)
