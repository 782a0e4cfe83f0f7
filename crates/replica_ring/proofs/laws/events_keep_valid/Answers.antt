use Rattle.replica_ring.proofs.Running.{events_keep_valid}
use Rattle.replica_ring.proofs.laws.events_keep_valid.Goals as goal

pub returns : goal.returns
returns c = events_keep_valid
