-- `write_text` meets its contract: the first three lines, and then the rows. Assumes nothing.
use Rattle.std.proofs.Common.{refl, sym, [], ◌++◌}
use mathlib.Core.List.{append-nil}
use Rattle.obligations.specs.Limits.{activities}
use Rattle.text.specs.Lines.{unlines}
use Rattle.netfile.specs.NetFile.{head_lines, activity_lines, net_text}
use Rattle.text.proofs.SinkLaws.{left_start, left_room, left_more, left_end}
use Rattle.netfile.proofs.TextLaws.{net_text_lem}
use Rattle.netfile.proofs.write.write_text.Goals as goal

pub write_head-requires : goal.write_head-requires
write_head-requires g c =
    let net = c.args.net.now in
    let k = g.met.S.Sink.laws in
    let l = left_start k c.args.out.now (net_text net) (unlines (head_lines net.start net.end) ++ unlines (activity_lines net activities 0)) c.requires.room (net_text_lem net) in
    left_room k l (unlines (head_lines net.start net.end)) (unlines (activity_lines net activities 0)) refl refl

pub write_rows-requires-clause-room : goal.write_rows-requires-clause-room
write_rows-requires-clause-room g c =
    let net = c.args.net.now in
    let k = g.met.S.Sink.laws in
    let l = left_start k c.args.out.now (net_text net) (unlines (head_lines net.start net.end) ++ unlines (activity_lines net activities 0)) c.requires.room (net_text_lem net) in
    let m = left_more k l (unlines (head_lines net.start net.end)) (unlines (activity_lines net activities 0)) refl refl c.write_head.ensures in
    m.fits

pub returns : goal.returns
returns g c =
    let net = c.args.net.now in
    let k = g.met.S.Sink.laws in
    let l = left_start k c.args.out.now (net_text net) (unlines (head_lines net.start net.end) ++ unlines (activity_lines net activities 0)) c.requires.room (net_text_lem net) in
    let m = left_more k l (unlines (head_lines net.start net.end)) (unlines (activity_lines net activities 0)) refl refl c.write_head.ensures in
    left_end k (left_more k m (unlines (activity_lines net activities 0)) [] refl (sym (append-nil _)) c.write_rows.ensures) refl
