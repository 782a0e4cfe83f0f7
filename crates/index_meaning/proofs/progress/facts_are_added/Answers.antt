use Rattle.index_meaning.proofs.Progressing.{facts_are_added}
use Rattle.index_meaning.proofs.progress.facts_are_added.Goals as goal

pub returns : goal.returns
returns c = facts_are_added
