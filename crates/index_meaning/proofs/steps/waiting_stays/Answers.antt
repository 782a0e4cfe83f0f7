use Rattle.index_meaning.proofs.Arriving.{waiting_stays}
use Rattle.index_meaning.proofs.steps.waiting_stays.Goals as goal

pub returns : goal.returns
returns c = waiting_stays
