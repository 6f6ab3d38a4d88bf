use Rattle.std.proofs.Common.{drop}
use Rattle.text.proofs.StoreLaws.{Storing}
use Rattle.report.specs.Pieces.{pieces_text}
use Rattle.report.proofs.write.write_pieces.Given as goal

abbrev pub invariant-loop-piece : goal.invariant-loop-piece
invariant-loop-piece l = Storing l.initial.out (pieces_text l.pieces) l.out (pieces_text (drop l.piece-index l.pieces))
