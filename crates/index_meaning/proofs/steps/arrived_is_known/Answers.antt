use Rattle.index_meaning.proofs.Arriving.{arrived_is_known}
use Rattle.index_meaning.proofs.steps.arrived_is_known.Goals as goal

pub returns : goal.returns
returns c = arrived_is_known
