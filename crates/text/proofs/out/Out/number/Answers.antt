-- `number` meets its contract: a printed number is its last digits, as many as it has. Assumes nothing.
use Rattle.std.proofs.Common.{◌+◌, ◌-◌, ◌≡◌, ◌∙◌, ap, refl, sym, length, take, drop, arith, length-drop}
use Rattle.std.proofs.lemmas.List.{length-take-le}
use Rattle.text.specs.Decimal.{last_digits, print_number}
use Rattle.text.proofs.DigitLaws.{number_last, one_digit}
use Rattle.text.proofs.WriteLaws.{appends_part}
use Rattle.text.proofs.out.Out.number.Goals as goal

pub bytes-requires : goal.bytes-requires
bytes-requires c = rw (one_digit c.args.n c.if-n-lt10.true) at c.requires

pub returns-then-n-lt10 : goal.returns-then-n-lt10
returns-then-n-lt10 c = rw (one_digit c.args.n c.if-n-lt10.true) c.bytes.ensures

pub returns : goal.returns
returns c =
    let out = c.args.self.now in
    let w = c.number_width.result in
    let n = c.args.n in
    let part : length (take (out.len + w - out.len) (drop out.len out.buf.now)) ≡ length (print_number n) =
    length-take-le (out.len + w - out.len) (drop out.len out.buf.now) (omega (arith, c.number_width.ensures, length-drop out.len out.buf.now)) ∙ omega (arith, c.number_width.ensures) in
    let printed : c.fill_digits.new.digits ≡ print_number n =
    c.fill_digits.ensures ∙ ap (λ k. last_digits k n) part ∙ sym (number_last n) in
    appends_part out _ (print_number n) c.fill_digits.new.digits (out.len + w - out.len) c.requires printed (omega (arith, c.number_width.ensures)) refl refl (omega (arith, c.number_width.ensures))
