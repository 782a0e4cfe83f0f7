use Rattle.index_meaning.proofs.Holding.{row_is_of_holder}
use Rattle.index_meaning.proofs.laws.row_is_of_holder.Goals as goal

pub returns : goal.returns
returns c = row_is_of_holder
