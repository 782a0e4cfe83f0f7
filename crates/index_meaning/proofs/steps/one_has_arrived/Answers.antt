use Rattle.index_meaning.proofs.Growth.{one_has_arrived}
use Rattle.index_meaning.proofs.steps.one_has_arrived.Goals as goal

pub returns : goal.returns
returns c = one_has_arrived
