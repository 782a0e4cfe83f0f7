use Rattle.index_meaning.proofs.Left.{deletes_are_left}
use Rattle.index_meaning.proofs.steps.deletes_are_left.Goals as goal

pub returns : goal.returns
returns c = deletes_are_left
