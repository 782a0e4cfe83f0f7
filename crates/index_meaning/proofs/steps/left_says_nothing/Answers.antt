use Rattle.index_meaning.proofs.Left.{left_says_nothing}
use Rattle.index_meaning.proofs.steps.left_says_nothing.Goals as goal

pub returns : goal.returns
returns c = left_says_nothing
