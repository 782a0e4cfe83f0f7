use Rattle.std.proofs.Common.{◌≡◌, drop}
use Rattle.replica_ring.specs.Rings.{run}
use Rattle.replica_ring.proofs.ring.run_ring.Given as goal

abbrev pub invariant-loop-event : goal.invariant-loop-event
invariant-loop-event l = run l.ring (drop l.event-index l.events) ≡ run l.fn.ring l.fn.events
