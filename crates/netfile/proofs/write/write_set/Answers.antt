-- `write_set` meets its contract: no byte for the empty set, else six pieces, one after the other. Assumes nothing.
use Rattle.std.proofs.Common.{refl, sym, ap, [], ◌∷◌, ◌++◌}
use mathlib.Core.List.{append-nil}
use Rattle.text.specs.Lines.{unlines, cr, lf}
use Rattle.text.specs.Fields.{comma}
use Rattle.text.specs.Decimal.{print_number}
use Rattle.text.specs.Members.{print_members}
use Rattle.netfile.specs.NetFile.{side_word, set_lines}
use Rattle.text.proofs.SinkLaws.{left_start, left_room, left_more, left_end}
use Rattle.netfile.proofs.TextLaws.{set_none, set_bytes}
use Rattle.netfile.proofs.write.write_set.Goals as goal

pub returns-then-m-eq0 : goal.returns-then-m-eq0
returns-then-m-eq0 g c =
    let a = c.args in
    let k = g.met.S.Sink.laws in
    left_end k (left_start k a.out.now (unlines (set_lines a.side a.a a.m)) (unlines (set_lines a.side a.a a.m)) c.requires refl) (ap unlines (set_none a.side a.a a.m c.if-m-eq0.true))

pub bytes-requires : goal.bytes-requires
bytes-requires g c =
    let a = c.args in
    let k = g.met.S.Sink.laws in
    let l0 = left_start k a.out.now (unlines (set_lines a.side a.a a.m)) (side_word a.side ++ ((comma ∷ []) ++ (print_number a.a ++ ((comma ∷ []) ++ (print_members a.m ++ (cr ∷ lf ∷ [])))))) c.requires (set_bytes a.side a.a a.m c.if-m-eq0.false) in
    left_room k l0 (side_word a.side) ((comma ∷ []) ++ (print_number a.a ++ ((comma ∷ []) ++ (print_members a.m ++ (cr ∷ lf ∷ []))))) c.word.ensures refl

pub bytes-requires-2 : goal.bytes-requires-2
bytes-requires-2 g c =
    let a = c.args in
    let k = g.met.S.Sink.laws in
    let l0 = left_start k a.out.now (unlines (set_lines a.side a.a a.m)) (side_word a.side ++ ((comma ∷ []) ++ (print_number a.a ++ ((comma ∷ []) ++ (print_members a.m ++ (cr ∷ lf ∷ [])))))) c.requires (set_bytes a.side a.a a.m c.if-m-eq0.false) in
    let l1 = left_more k l0 (side_word a.side) ((comma ∷ []) ++ (print_number a.a ++ ((comma ∷ []) ++ (print_members a.m ++ (cr ∷ lf ∷ []))))) c.word.ensures refl c.bytes.ensures in
    left_room k l1 (comma ∷ []) (print_number a.a ++ ((comma ∷ []) ++ (print_members a.m ++ (cr ∷ lf ∷ [])))) refl refl

pub number-requires : goal.number-requires
number-requires g c =
    let a = c.args in
    let k = g.met.S.Sink.laws in
    let l0 = left_start k a.out.now (unlines (set_lines a.side a.a a.m)) (side_word a.side ++ ((comma ∷ []) ++ (print_number a.a ++ ((comma ∷ []) ++ (print_members a.m ++ (cr ∷ lf ∷ [])))))) c.requires (set_bytes a.side a.a a.m c.if-m-eq0.false) in
    let l1 = left_more k l0 (side_word a.side) ((comma ∷ []) ++ (print_number a.a ++ ((comma ∷ []) ++ (print_members a.m ++ (cr ∷ lf ∷ []))))) c.word.ensures refl c.bytes.ensures in
    let l2 = left_more k l1 (comma ∷ []) (print_number a.a ++ ((comma ∷ []) ++ (print_members a.m ++ (cr ∷ lf ∷ [])))) refl refl c.bytes-2.ensures in
    left_room k l2 (print_number a.a) ((comma ∷ []) ++ (print_members a.m ++ (cr ∷ lf ∷ []))) (ap print_number c.from.ensures) refl

pub bytes-requires-3 : goal.bytes-requires-3
bytes-requires-3 g c =
    let a = c.args in
    let k = g.met.S.Sink.laws in
    let l0 = left_start k a.out.now (unlines (set_lines a.side a.a a.m)) (side_word a.side ++ ((comma ∷ []) ++ (print_number a.a ++ ((comma ∷ []) ++ (print_members a.m ++ (cr ∷ lf ∷ [])))))) c.requires (set_bytes a.side a.a a.m c.if-m-eq0.false) in
    let l1 = left_more k l0 (side_word a.side) ((comma ∷ []) ++ (print_number a.a ++ ((comma ∷ []) ++ (print_members a.m ++ (cr ∷ lf ∷ []))))) c.word.ensures refl c.bytes.ensures in
    let l2 = left_more k l1 (comma ∷ []) (print_number a.a ++ ((comma ∷ []) ++ (print_members a.m ++ (cr ∷ lf ∷ [])))) refl refl c.bytes-2.ensures in
    let l3 = left_more k l2 (print_number a.a) ((comma ∷ []) ++ (print_members a.m ++ (cr ∷ lf ∷ []))) (ap print_number c.from.ensures) refl c.number.ensures in
    left_room k l3 (comma ∷ []) (print_members a.m ++ (cr ∷ lf ∷ [])) refl refl

pub write_members-requires : goal.write_members-requires
write_members-requires g c =
    let a = c.args in
    let k = g.met.S.Sink.laws in
    let l0 = left_start k a.out.now (unlines (set_lines a.side a.a a.m)) (side_word a.side ++ ((comma ∷ []) ++ (print_number a.a ++ ((comma ∷ []) ++ (print_members a.m ++ (cr ∷ lf ∷ [])))))) c.requires (set_bytes a.side a.a a.m c.if-m-eq0.false) in
    let l1 = left_more k l0 (side_word a.side) ((comma ∷ []) ++ (print_number a.a ++ ((comma ∷ []) ++ (print_members a.m ++ (cr ∷ lf ∷ []))))) c.word.ensures refl c.bytes.ensures in
    let l2 = left_more k l1 (comma ∷ []) (print_number a.a ++ ((comma ∷ []) ++ (print_members a.m ++ (cr ∷ lf ∷ [])))) refl refl c.bytes-2.ensures in
    let l3 = left_more k l2 (print_number a.a) ((comma ∷ []) ++ (print_members a.m ++ (cr ∷ lf ∷ []))) (ap print_number c.from.ensures) refl c.number.ensures in
    let l4 = left_more k l3 (comma ∷ []) (print_members a.m ++ (cr ∷ lf ∷ [])) refl refl c.bytes-3.ensures in
    left_room k l4 (print_members a.m) (cr ∷ lf ∷ []) refl refl

pub bytes-requires-4 : goal.bytes-requires-4
bytes-requires-4 g c =
    let a = c.args in
    let k = g.met.S.Sink.laws in
    let l0 = left_start k a.out.now (unlines (set_lines a.side a.a a.m)) (side_word a.side ++ ((comma ∷ []) ++ (print_number a.a ++ ((comma ∷ []) ++ (print_members a.m ++ (cr ∷ lf ∷ [])))))) c.requires (set_bytes a.side a.a a.m c.if-m-eq0.false) in
    let l1 = left_more k l0 (side_word a.side) ((comma ∷ []) ++ (print_number a.a ++ ((comma ∷ []) ++ (print_members a.m ++ (cr ∷ lf ∷ []))))) c.word.ensures refl c.bytes.ensures in
    let l2 = left_more k l1 (comma ∷ []) (print_number a.a ++ ((comma ∷ []) ++ (print_members a.m ++ (cr ∷ lf ∷ [])))) refl refl c.bytes-2.ensures in
    let l3 = left_more k l2 (print_number a.a) ((comma ∷ []) ++ (print_members a.m ++ (cr ∷ lf ∷ []))) (ap print_number c.from.ensures) refl c.number.ensures in
    let l4 = left_more k l3 (comma ∷ []) (print_members a.m ++ (cr ∷ lf ∷ [])) refl refl c.bytes-3.ensures in
    let l5 = left_more k l4 (print_members a.m) (cr ∷ lf ∷ []) refl refl c.write_members.ensures in
    left_room k l5 (cr ∷ lf ∷ []) [] refl refl

pub returns : goal.returns
returns g c =
    let a = c.args in
    let k = g.met.S.Sink.laws in
    let l0 = left_start k a.out.now (unlines (set_lines a.side a.a a.m)) (side_word a.side ++ ((comma ∷ []) ++ (print_number a.a ++ ((comma ∷ []) ++ (print_members a.m ++ (cr ∷ lf ∷ [])))))) c.requires (set_bytes a.side a.a a.m c.if-m-eq0.false) in
    let l1 = left_more k l0 (side_word a.side) ((comma ∷ []) ++ (print_number a.a ++ ((comma ∷ []) ++ (print_members a.m ++ (cr ∷ lf ∷ []))))) c.word.ensures refl c.bytes.ensures in
    let l2 = left_more k l1 (comma ∷ []) (print_number a.a ++ ((comma ∷ []) ++ (print_members a.m ++ (cr ∷ lf ∷ [])))) refl refl c.bytes-2.ensures in
    let l3 = left_more k l2 (print_number a.a) ((comma ∷ []) ++ (print_members a.m ++ (cr ∷ lf ∷ []))) (ap print_number c.from.ensures) refl c.number.ensures in
    let l4 = left_more k l3 (comma ∷ []) (print_members a.m ++ (cr ∷ lf ∷ [])) refl refl c.bytes-3.ensures in
    let l5 = left_more k l4 (print_members a.m) (cr ∷ lf ∷ []) refl refl c.write_members.ensures in
    let l6 = left_more k l5 (cr ∷ lf ∷ []) [] refl (sym (append-nil _)) c.bytes-4.ensures in
    left_end k l6 refl
