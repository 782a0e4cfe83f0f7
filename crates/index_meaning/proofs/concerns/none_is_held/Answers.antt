use Rattle.index_meaning.proofs.Concerning.{none_is_held}
use Rattle.index_meaning.proofs.concerns.none_is_held.Goals as goal

pub returns : goal.returns
returns c = none_is_held
