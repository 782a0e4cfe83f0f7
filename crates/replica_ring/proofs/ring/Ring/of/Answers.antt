use Rattle.replica_ring.proofs.Stepping.{none_valid}
use Rattle.replica_ring.proofs.ring.Ring.of.Goals as goal

pub invariant_of-result : goal.invariant_of-result
invariant_of-result c = none_valid c.args.stores c.in_ok-maps.maps.items c.in_ok-maps.ensures
