use Rattle.index_meaning.proofs.Values.{rows_tell_values}
use Rattle.index_meaning.proofs.laws.rows_tell_values.Goals as goal

pub returns : goal.returns
returns c = rows_tell_values
