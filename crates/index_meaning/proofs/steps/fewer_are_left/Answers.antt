use Rattle.index_meaning.proofs.Left.{fewer_are_left}
use Rattle.index_meaning.proofs.steps.fewer_are_left.Goals as goal

pub returns : goal.returns
returns c = fewer_are_left
