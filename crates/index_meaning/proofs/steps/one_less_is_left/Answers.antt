use Rattle.index_meaning.proofs.Left.{one_less_is_left}
use Rattle.index_meaning.proofs.steps.one_less_is_left.Goals as goal

pub returns : goal.returns
returns c = one_less_is_left
