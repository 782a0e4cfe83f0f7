use Rattle.std.proofs.Common.{None, refl}
use Rattle.index_history.proofs.Represents.{rests}
use Rattle.index_history.proofs.work_index.WorkIndex.lacking.Goals as goal

pub returns-clause-kept : goal.returns-clause-kept
returns-clause-kept g c = λ h turn t. rests c.args.self.now _ h turn t None refl refl
    (c.lacking.ensures.kept h turn t.numbers)

pub returns-clause-says : goal.returns-clause-says
returns-clause-says g c = λ h t. c.lacking.ensures.says h t.numbers
