use Rattle.index_meaning.proofs.Progressing.{nothing_is_taken_up}
use Rattle.index_meaning.proofs.progress.nothing_is_taken_up.Goals as goal

pub returns : goal.returns
returns c = nothing_is_taken_up
