-- `write_pieces` meets its contract. The loop's invariant: the pieces from the one at the index on, stored, give the buffer with all
-- stored. Assumes nothing.
use Rattle.std.proofs.Common.{refl, ◌+◌, drop, arith}
use Rattle.text.specs.Decimal.{print_number}
use Rattle.text.proofs.StoreLaws.{storing_start, storing_room, storing_more, storing_end}
use Rattle.report.specs.Pieces.{pieces_text}
use Rattle.report.proofs.PieceLaws.{piece_first, pieces-none}
use Rattle.report.proofs.write.write_pieces.Goals as goal
use Rattle.report.proofs.write.write_pieces.Goals.{in-Bytes, in-Number}

pub loop-piece-init : goal.loop-piece-init
loop-piece-init c = storing_start c.args.out.now (pieces_text c.args.pieces.now) _ c.requires refl

pub bytes-requires : goal.bytes-requires
bytes-requires c =
    let ps = c.args.pieces.now in
    let l = c.loop-piece in
    storing_room _ _ _ _ l.invariant c.in-Bytes.t.now (pieces_text (drop (l.piece-index + 1) ps)) (piece_first ps l.piece-index _ _ c.loop-piece-test.true c.in-Bytes.is)

pub number-requires : goal.number-requires
number-requires c =
    let ps = c.args.pieces.now in
    let l = c.loop-piece in
    storing_room _ _ _ _ l.invariant (print_number c.in-Number.n) (pieces_text (drop (l.piece-index + 1) ps)) (piece_first ps l.piece-index _ _ c.loop-piece-test.true c.in-Number.is)

pub loop-piece-preserved : goal.loop-piece-preserved
loop-piece-preserved c =
    let ps = c.args.pieces.now in
    let l = c.loop-piece in
    elim c.match-piece.branch [
      | in-Bytes w ↦
          rw w.out-is
          (storing_more _ _ _ _ l.invariant w.in-Bytes.t.now (pieces_text (drop (l.piece-index + 1) ps)) _ (piece_first ps l.piece-index _ _ c.loop-piece-test.true w.in-Bytes.is) w.bytes.ensures)
      | in-Number w ↦
          rw w.out-is
          (storing_more _ _ _ _ l.invariant (print_number w.in-Number.n) (pieces_text (drop (l.piece-index + 1) ps)) _ (piece_first ps l.piece-index _ _ c.loop-piece-test.true w.in-Number.is) w.number.ensures)
    ]

pub returns : goal.returns
returns c = storing_end _ _ _ _ c.loop-piece.invariant (pieces-none c.args.pieces.now c.loop-piece.piece-index (omega (arith, c.loop-piece-test.false)))
