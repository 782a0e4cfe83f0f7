use Rattle.index_meaning.proofs.Concerning.{judging_concerns}
use Rattle.index_meaning.proofs.concerns.judging_concerns.Goals as goal

pub returns : goal.returns
returns c = judging_concerns
