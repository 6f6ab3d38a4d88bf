-- Laws of pieces: those from index i on are the piece there and those after it. Assumes nothing.
use Prim.Native.Nat.{ℕ, ◌+◌, ◌≤◌, ◌<◌}
use mathlib.Core.Path.{◌≡◌, ap, ◌∙◌}
use mathlib.Core.List.{List, [], ◌++◌}
use lib.ListN.{length, get_or, drop}
use Rattle.std.proofs.lemmas.List.{at_drop_more, drop_all}
use Rattle.report.specs.declared.write.Piece.{Piece}
use Rattle.report.specs.Pieces.{piece_text, pieces_text}

pub piece_first : (ps : List Piece) (i : ℕ) (d p : Piece) → i < length ps → get_or ps i d ≡ p → pieces_text (drop i ps) ≡ piece_text p ++ pieces_text (drop (i + 1) ps)
piece_first ps i d p l e = at_drop_more pieces_text ps i d l ∙ ap (λ (q : Piece). piece_text q ++ pieces_text (drop (i + 1) ps)) e

pub pieces-none : (ps : List Piece) (i : ℕ) → length ps ≤ i → pieces_text (drop i ps) ≡ []
pieces-none ps i h = ap pieces_text (drop_all i ps h)
