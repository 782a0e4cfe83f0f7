use Rattle.index_meaning.proofs.Progressing.{rest_is_taken_up}
use Rattle.index_meaning.proofs.progress.rest_is_taken_up.Goals as goal

pub returns : goal.returns
returns c = rest_is_taken_up
