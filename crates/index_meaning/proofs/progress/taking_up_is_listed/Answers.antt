use Rattle.index_meaning.proofs.Progressing.{taking_up_is_listed}
use Rattle.index_meaning.proofs.progress.taking_up_is_listed.Goals as goal

pub returns : goal.returns
returns c = taking_up_is_listed
