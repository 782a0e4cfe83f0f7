use Rattle.index_meaning.proofs.Growth.{row_deletion_stays}
use Rattle.index_meaning.proofs.steps.row_deletion_stays.Goals as goal

pub returns : goal.returns
returns c = row_deletion_stays
