use Rattle.index_meaning.proofs.Concerning.{entering_concerns}
use Rattle.index_meaning.proofs.concerns.entering_concerns.Goals as goal

pub returns : goal.returns
returns c = entering_concerns
