use Rattle.index_meaning.proofs.Left.{judged_is_left}
use Rattle.index_meaning.proofs.steps.judged_is_left.Goals as goal

pub returns : goal.returns
returns c = judged_is_left
