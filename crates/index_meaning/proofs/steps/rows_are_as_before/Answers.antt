use Rattle.index_meaning.proofs.Growth.{rows_are_as_before}
use Rattle.index_meaning.proofs.steps.rows_are_as_before.Goals as goal

pub returns : goal.returns
returns c = rows_are_as_before
