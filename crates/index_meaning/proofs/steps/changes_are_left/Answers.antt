use Rattle.index_meaning.proofs.Left.{changes_are_left}
use Rattle.index_meaning.proofs.steps.changes_are_left.Goals as goal

pub returns : goal.returns
returns c = changes_are_left
