-- `next` meets what the iterator claims: a text that isn't empty has a first line, and the lines behind it. Assumes nothing.
use Rattle.std.proofs.Common.{rules}
use Rattle.text.specs.Reading.{lines_left}
use Rattle.text.proofs.IterLaws.{makes-progress}
use Rattle.text.proofs.LineLaws.{lines_cut}
use Rattle.text.proofs.lines.LinesIterator.next.Goals as goal

pub returns-clause-steps : goal.returns-clause-steps
returns-clause-steps c = rw (c.split_line.ensures.line, c.split_line.ensures.rest) (lines_cut c.args.self.now.rest.now (search rules))

pub returns-clause-goes : goal.returns-clause-goes
returns-clause-goes c = makes-progress lines_left _ _ _ _ (returns-clause-steps c)
