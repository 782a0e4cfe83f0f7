use Rattle.std.proofs.Common.{refl}
use Rattle.work_numbers.specs.Telling.{return_entry}
use Rattle.index_history.proofs.Represents.{no_insert_return, rests}
use Rattle.index_history.proofs.work_index.WorkIndex.give_back.Goals as goal

pub returns-clause-kept : goal.returns-clause-kept
returns-clause-kept g c = λ h turn t.
    rests c.args.self.now _ h turn t (return_entry c.give_back.result c.args.number) refl
    (no_insert_return turn c.args.number c.give_back.result)
    (c.give_back.ensures.kept h turn t.numbers)

pub returns-clause-says : goal.returns-clause-says
returns-clause-says g c = λ h t. c.give_back.ensures.says h t.numbers
