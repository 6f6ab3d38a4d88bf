-- `split_once` meets its contract: the byte is found where `bytes_before` says. Assumes nothing.
use Rattle.std.proofs.Common.{◌+◌, ◌≡◌, suc, sym, ap, ◌∙◌, take, drop, arith}
use Rattle.std.proofs.lemmas.List.{take_rest}
use Rattle.text.specs.Bytes.{bytes_before}
use Rattle.text.proofs.ByteLaws.{cut_found, cut_none}
use Rattle.text.proofs.bytes.split_once.Goals as goal

pub returns-in_err-i : goal.returns-in_err-i
returns-in_err-i c = rw c.from_residual.ensures (cut_none c.args.c c.args.s.now (sym c.in_err-i.ensures))

pub returns : goal.returns
returns c =
    let f = cut_found c.args.c c.args.s.now c.in_ok-i.i (sym c.in_ok-i.ensures) in
    let after : c.in_ok-i.i + 1 ≡ suc (bytes_before c.args.c c.args.s.now) = omega (arith, f.0) in
    record {
      inside = omega (arith, f.0, f.1);
      before_it = ap (λ i. take i c.args.s.now) (sym f.0);
      behind_it = take_rest c.args.s.now (c.in_ok-i.i + 1) ∙ ap (λ i. drop i c.args.s.now) after;
    }
