use Rattle.index_meaning.proofs.Resting.{rows_tell_states}
use Rattle.index_meaning.proofs.laws.rows_tell_states.Goals as goal

pub returns : goal.returns
returns c = rows_tell_states
