use Rattle.index_meaning.proofs.Growth.{held_stays}
use Rattle.index_meaning.proofs.steps.held_stays.Goals as goal

pub returns : goal.returns
returns c = held_stays
