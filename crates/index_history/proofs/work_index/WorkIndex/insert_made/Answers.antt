use Rattle.std.proofs.Common.{refl, sym, ap, ◌∙◌}
use Rattle.work_numbers.specs.Working.{with_noted}
use Rattle.index_history.proofs.Represents.{inserted}
use Rattle.index_history.proofs.work_index.WorkIndex.insert_made.Goals as goal

pub returns-clause-kept : goal.returns-clause-kept
returns-clause-kept g c = λ h turn t.
    inserted c.args.self.now _ h turn t c.args.made.0 c.args.made.1 c.args.made.2 c.requires.fresh c.add.ensures.facts
    c.add.ensures.numbers
    (c.in_ok-note.ensures.ok ∙ ap (with_noted c.args.self.now.work) c.number.ensures)

pub returns-clause-says : goal.returns-clause-says
returns-clause-says g c = λ h t. (sym (t.numbers.inserted c.args.made.0) ∙ c.requires.fresh, refl)
