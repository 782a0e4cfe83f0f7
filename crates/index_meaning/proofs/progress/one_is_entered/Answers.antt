use Rattle.index_meaning.proofs.Progressing.{one_is_entered}
use Rattle.index_meaning.proofs.progress.one_is_entered.Goals as goal

pub returns : goal.returns
returns c = one_is_entered
