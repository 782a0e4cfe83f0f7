use Rattle.index_meaning.proofs.Counts.{counted_stays}
use Rattle.index_meaning.proofs.steps.counted_stays.Goals as goal

pub returns : goal.returns
returns c = counted_stays
