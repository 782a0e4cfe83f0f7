use Rattle.store_history.proofs.Starts.{begins_represented}
use Rattle.store_history.proofs.beginning.represents_beginning.Goals as goal

pub returns : goal.returns
returns g c = begins_represented g.D.Disk c.args.store.now c.arrivals_are_held.ensures
