use Rattle.index_meaning.proofs.Deletions.{rows_are_ringless}
use Rattle.index_meaning.proofs.laws.rows_are_ringless.Goals as goal

pub returns : goal.returns
returns c = rows_are_ringless
