-- `next` meets what the iterator claims: what is left is cut at its first separator, or is the last field. Assumes nothing.
use Rattle.std.proofs.Common.{ap, ◌∙◌}
use Rattle.text.specs.Reading.{fields_of, fields_left}
use Rattle.text.proofs.IterLaws.{makes-progress}
use Rattle.text.proofs.FieldLaws.{split_cut, split_uncut}
use Rattle.text.proofs.fields.FieldsIterator.next.Goals as goal

pub returns-in-Some-clause-steps : goal.returns-in-Some-clause-steps
returns-in-Some-clause-steps c =
    ap (fields_of c.args.self.now.separator) c.in_ok-s.was ∙ split_cut _ _ _ _ c.in-Some.ensures

pub returns-in-None-clause-steps : goal.returns-in-None-clause-steps
returns-in-None-clause-steps c =
    ap (fields_of c.args.self.now.separator) c.in_ok-s.was ∙ split_uncut _ _ c.in-None.ensures

pub returns-in-Some-clause-goes : goal.returns-in-Some-clause-goes
returns-in-Some-clause-goes c = makes-progress fields_left _ _ _ _ (returns-in-Some-clause-steps c)

pub returns-in-None-clause-goes : goal.returns-in-None-clause-goes
returns-in-None-clause-goes c = makes-progress fields_left _ _ _ _ (returns-in-None-clause-steps c)
