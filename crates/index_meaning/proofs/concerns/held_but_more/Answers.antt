use Rattle.index_meaning.proofs.Concerning.{held_but_more}
use Rattle.index_meaning.proofs.concerns.held_but_more.Goals as goal

pub returns : goal.returns
returns c = held_but_more
