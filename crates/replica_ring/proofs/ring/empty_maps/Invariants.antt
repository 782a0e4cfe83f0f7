use Rattle.std.proofs.Common.{◌≡◌, replicate}
use Rattle.std.specs.FinMap.{empty}
use Rattle.replica_ring.proofs.ring.empty_maps.Given as goal

abbrev pub invariant-stores : goal.invariant-stores
invariant-stores l = l.maps.items ≡ replicate l.counter empty
