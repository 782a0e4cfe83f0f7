use Rattle.index_meaning.proofs.Arriving.{arrived_stays}
use Rattle.index_meaning.proofs.steps.arrived_stays.Goals as goal

pub returns : goal.returns
returns c = arrived_stays
