use Rattle.std.proofs.Common.{refl}
use Rattle.work_numbers.specs.Telling.{take_entry}
use Rattle.index_history.proofs.Represents.{no_insert_take, rests}
use Rattle.index_history.proofs.work_index.WorkIndex.take.Goals as goal

pub returns-clause-kept : goal.returns-clause-kept
returns-clause-kept g c = λ h turn t.
    rests c.args.self.now _ h turn t (take_entry c.take.result) refl (no_insert_take turn c.take.result)
    (c.take.ensures.kept h turn t.numbers)

pub returns-clause-says : goal.returns-clause-says
returns-clause-says g c = λ h t. c.take.ensures.says h t.numbers
