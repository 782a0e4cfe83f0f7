use Rattle.index_meaning.proofs.Left.{left_is_new}
use Rattle.index_meaning.proofs.steps.left_is_new.Goals as goal

pub returns : goal.returns
returns c = left_is_new
