use Rattle.index_meaning.proofs.Holding.{rows_tell_holders}
use Rattle.index_meaning.proofs.laws.rows_tell_holders.Goals as goal

pub returns : goal.returns
returns c = rows_tell_holders
