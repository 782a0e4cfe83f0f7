use Rattle.index_meaning.proofs.Deletions.{rows_tell_deletion}
use Rattle.index_meaning.proofs.laws.rows_tell_deletion.Goals as goal

pub returns : goal.returns
returns c = rows_tell_deletion
