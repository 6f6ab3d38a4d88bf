-- `write_head` meets its contract: five pieces, one after the other. Assumes nothing.
use Rattle.std.proofs.Common.{refl, sym, ap, [], ◌∷◌, ◌++◌}
use mathlib.Core.List.{append-nil}
use Rattle.text.specs.Lines.{unlines, cr, lf}
use Rattle.text.specs.Fields.{comma}
use Rattle.text.specs.Decimal.{print_number}
use Rattle.netfile.specs.NetFile.{head_lines}
use Rattle.text.proofs.SinkLaws.{left_start, left_room, left_more, left_end}
use Rattle.netfile.proofs.TextLaws.{to_start, to_end, head_bytes}
use Rattle.netfile.proofs.write.write_head.Goals as goal

pub bytes-requires : goal.bytes-requires
bytes-requires g c =
    let a = c.args in
    let k = g.met.S.Sink.laws in
    let l0 = left_start k a.out.now (unlines (head_lines a.start a.end)) (to_start ++ (print_number a.start ++ (to_end ++ (print_number a.end ++ (comma ∷ cr ∷ lf ∷ []))))) c.requires (head_bytes a.start a.end) in
    left_room k l0 to_start (print_number a.start ++ (to_end ++ (print_number a.end ++ (comma ∷ cr ∷ lf ∷ [])))) refl refl

pub number-requires : goal.number-requires
number-requires g c =
    let a = c.args in
    let k = g.met.S.Sink.laws in
    let l0 = left_start k a.out.now (unlines (head_lines a.start a.end)) (to_start ++ (print_number a.start ++ (to_end ++ (print_number a.end ++ (comma ∷ cr ∷ lf ∷ []))))) c.requires (head_bytes a.start a.end) in
    let l1 = left_more k l0 to_start (print_number a.start ++ (to_end ++ (print_number a.end ++ (comma ∷ cr ∷ lf ∷ [])))) refl refl c.bytes.ensures in
    left_room k l1 (print_number a.start) (to_end ++ (print_number a.end ++ (comma ∷ cr ∷ lf ∷ []))) (ap print_number c.from.ensures) refl

pub bytes-requires-2 : goal.bytes-requires-2
bytes-requires-2 g c =
    let a = c.args in
    let k = g.met.S.Sink.laws in
    let l0 = left_start k a.out.now (unlines (head_lines a.start a.end)) (to_start ++ (print_number a.start ++ (to_end ++ (print_number a.end ++ (comma ∷ cr ∷ lf ∷ []))))) c.requires (head_bytes a.start a.end) in
    let l1 = left_more k l0 to_start (print_number a.start ++ (to_end ++ (print_number a.end ++ (comma ∷ cr ∷ lf ∷ [])))) refl refl c.bytes.ensures in
    let l2 = left_more k l1 (print_number a.start) (to_end ++ (print_number a.end ++ (comma ∷ cr ∷ lf ∷ []))) (ap print_number c.from.ensures) refl c.number.ensures in
    left_room k l2 to_end (print_number a.end ++ (comma ∷ cr ∷ lf ∷ [])) refl refl

pub number-requires-2 : goal.number-requires-2
number-requires-2 g c =
    let a = c.args in
    let k = g.met.S.Sink.laws in
    let l0 = left_start k a.out.now (unlines (head_lines a.start a.end)) (to_start ++ (print_number a.start ++ (to_end ++ (print_number a.end ++ (comma ∷ cr ∷ lf ∷ []))))) c.requires (head_bytes a.start a.end) in
    let l1 = left_more k l0 to_start (print_number a.start ++ (to_end ++ (print_number a.end ++ (comma ∷ cr ∷ lf ∷ [])))) refl refl c.bytes.ensures in
    let l2 = left_more k l1 (print_number a.start) (to_end ++ (print_number a.end ++ (comma ∷ cr ∷ lf ∷ []))) (ap print_number c.from.ensures) refl c.number.ensures in
    let l3 = left_more k l2 to_end (print_number a.end ++ (comma ∷ cr ∷ lf ∷ [])) refl refl c.bytes-2.ensures in
    left_room k l3 (print_number a.end) (comma ∷ cr ∷ lf ∷ []) (ap print_number c.from-2.ensures) refl

pub bytes-requires-3 : goal.bytes-requires-3
bytes-requires-3 g c =
    let a = c.args in
    let k = g.met.S.Sink.laws in
    let l0 = left_start k a.out.now (unlines (head_lines a.start a.end)) (to_start ++ (print_number a.start ++ (to_end ++ (print_number a.end ++ (comma ∷ cr ∷ lf ∷ []))))) c.requires (head_bytes a.start a.end) in
    let l1 = left_more k l0 to_start (print_number a.start ++ (to_end ++ (print_number a.end ++ (comma ∷ cr ∷ lf ∷ [])))) refl refl c.bytes.ensures in
    let l2 = left_more k l1 (print_number a.start) (to_end ++ (print_number a.end ++ (comma ∷ cr ∷ lf ∷ []))) (ap print_number c.from.ensures) refl c.number.ensures in
    let l3 = left_more k l2 to_end (print_number a.end ++ (comma ∷ cr ∷ lf ∷ [])) refl refl c.bytes-2.ensures in
    let l4 = left_more k l3 (print_number a.end) (comma ∷ cr ∷ lf ∷ []) (ap print_number c.from-2.ensures) refl c.number-2.ensures in
    left_room k l4 (comma ∷ cr ∷ lf ∷ []) [] refl refl

pub returns : goal.returns
returns g c =
    let a = c.args in
    let k = g.met.S.Sink.laws in
    let l0 = left_start k a.out.now (unlines (head_lines a.start a.end)) (to_start ++ (print_number a.start ++ (to_end ++ (print_number a.end ++ (comma ∷ cr ∷ lf ∷ []))))) c.requires (head_bytes a.start a.end) in
    let l1 = left_more k l0 to_start (print_number a.start ++ (to_end ++ (print_number a.end ++ (comma ∷ cr ∷ lf ∷ [])))) refl refl c.bytes.ensures in
    let l2 = left_more k l1 (print_number a.start) (to_end ++ (print_number a.end ++ (comma ∷ cr ∷ lf ∷ []))) (ap print_number c.from.ensures) refl c.number.ensures in
    let l3 = left_more k l2 to_end (print_number a.end ++ (comma ∷ cr ∷ lf ∷ [])) refl refl c.bytes-2.ensures in
    let l4 = left_more k l3 (print_number a.end) (comma ∷ cr ∷ lf ∷ []) (ap print_number c.from-2.ensures) refl c.number-2.ensures in
    let l5 = left_more k l4 (comma ∷ cr ∷ lf ∷ []) [] refl (sym (append-nil _)) c.bytes-3.ensures in
    left_end k l5 refl
