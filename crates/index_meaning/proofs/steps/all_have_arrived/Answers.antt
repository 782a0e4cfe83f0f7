use Rattle.index_meaning.proofs.Arriving.{all_have_arrived}
use Rattle.index_meaning.proofs.steps.all_have_arrived.Goals as goal

pub returns : goal.returns
returns c = all_have_arrived
