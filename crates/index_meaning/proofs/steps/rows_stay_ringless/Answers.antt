use Rattle.index_meaning.proofs.Growth.{rows_stay_ringless}
use Rattle.index_meaning.proofs.steps.rows_stay_ringless.Goals as goal

pub returns : goal.returns
returns c = rows_stay_ringless
