use Rattle.index_meaning.proofs.Progressing.{taken_up_is_at_rest}
use Rattle.index_meaning.proofs.progress.taken_up_is_at_rest.Goals as goal

pub returns : goal.returns
returns c = taken_up_is_at_rest
