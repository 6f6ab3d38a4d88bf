-- The pieces of which the code puts lines together: definitions of which only contracts of private functions speak.
use Rattle.std.specs.Prelude.{ℕ, List, [], ◌∷◌, ◌++◌}
use Rattle.text.specs.Decimal.{print_number}
use Rattle.report.specs.declared.write.Piece.{Piece}
use Rattle.report.specs.declared.write.Piece.TheVariants.{Bytes, Number}

abbrev pub piece_text : Piece → List ℕ
piece_text (Bytes t) = t.now
piece_text (Number n) = print_number n

abbrev pub pieces_text : List Piece → List ℕ
pieces_text [] = []
pieces_text (p ∷ ps) = piece_text p ++ pieces_text ps
