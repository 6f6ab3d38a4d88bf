-- The buffer after a call of the writer: as it was after a refusal, and with the text at its front else. Assumes nothing.
use Prim.Native.Nat.{ℕ, ◌≤◌, ◌<◌}
use mathlib.Core.Path.{◌≡◌, ◌∙◌}
use mathlib.Core.Bool.{true, false}
use mathlib.Core.List.{List}
use native.Mathlib.Nat.{zero-add}
use native.Mathlib.Omega.{arith}
use borrow.Author.Tests.{le-leb, lt-leb}
use lib.ListN.{length}
use lib.Seq.{sets, sets-eq}
use Rattle.net.specs.Refusals.{with_place}
use Rattle.net.specs.Orderly.{orderly}
use Rattle.net.specs.declared.Net.{Net}
use Rattle.netfile.specs.NetFile.{net_text, write_says, write_gives, NetWritten}
use Rattle.std.specs.Prelude.{Ok, Err}
use Rattle.net.specs.declared.refusal.Refusal.TheVariants.{Disorderly, TextTooLong}

module _ (net : Net) (buf : List ℕ) where
  pub written_disorderly : orderly net ≡ false → NetWritten net buf (Err (with_place Disorderly 0)) buf
  unfolding write_says write_gives
  written_disorderly o = record { says = rw o; gives = rw o }

  pub written_short : orderly net ≡ true → length buf < length (net_text net) → NetWritten net buf (Err (with_place TextTooLong 0)) buf
  unfolding write_says write_gives
  written_short o h = let e = lt-leb (length (net_text net)) (length buf) h in record { says = rw (o, e); gives = rw (o, e) }

  pub written_whole : orderly net ≡ true → length (net_text net) ≤ length buf → (n : ℕ) (buf' : List ℕ) → n ≡ length (net_text net) → buf' ≡ sets buf 0 (net_text net) → NetWritten net buf (Ok n) buf'
  unfolding write_says write_gives
  written_whole o h n buf' q b =
      let e = le-leb (length (net_text net)) (length buf) h in
      record { says = rw (o, e, q); gives = rw (o, e) (b ∙ sets-eq (net_text net) buf 0 (omega arith) ∙ rw zero-add) }
