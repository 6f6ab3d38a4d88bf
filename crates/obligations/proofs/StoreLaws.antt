-- A law of writing: a part of a list that was copied over is a run of stores. Assumes nothing.
use Rattle.std.proofs.Common.{ℕ, ◌+◌, ◌≤◌, ◌≡◌, sym, ◌∙◌, List, length, take, drop, append_assoc}
use Rattle.std.proofs.Math.Seq.{sets, drop-drop}
use borrow.Rule.Slice.PartMut.{put_mid}
use Rattle.std.proofs.lemmas.List.Edits.{sets-eq}

pub put-sets : (xs t : List ℕ) (at k : ℕ) → at + length t ≤ length xs → k ≡ length t → put_mid at k xs t ≡ sets xs at t
put-sets xs t at k h e =
    rw (e, drop-drop (length t) at xs) (sym (append_assoc (take at xs) t (drop (at + length t) xs))) ∙ sym (sets-eq t xs at h)
