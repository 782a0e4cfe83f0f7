use Rattle.index_meaning.proofs.Progressing.{one_is_judged}
use Rattle.index_meaning.proofs.progress.one_is_judged.Goals as goal

pub returns : goal.returns
returns c = one_is_judged
