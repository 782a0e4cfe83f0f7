use Rattle.index_meaning.proofs.Progressing.{one_arrives}
use Rattle.index_meaning.proofs.progress.one_arrives.Goals as goal

pub returns : goal.returns
returns c = one_arrives
