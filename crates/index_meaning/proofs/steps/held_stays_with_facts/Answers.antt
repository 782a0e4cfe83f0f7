use Rattle.index_meaning.proofs.Growth.{held_stays_with_facts}
use Rattle.index_meaning.proofs.steps.held_stays_with_facts.Goals as goal

pub returns : goal.returns
returns c = held_stays_with_facts
