use Rattle.index_meaning.proofs.Arriving.{arrived_grows}
use Rattle.index_meaning.proofs.steps.arrived_grows.Goals as goal

pub returns : goal.returns
returns c = arrived_grows
