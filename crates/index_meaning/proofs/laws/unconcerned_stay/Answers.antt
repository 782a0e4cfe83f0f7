use Rattle.index_meaning.proofs.Unconcerned.{unconcerned_stay}
use Rattle.index_meaning.proofs.laws.unconcerned_stay.Goals as goal

pub returns : goal.returns
returns c = unconcerned_stay
