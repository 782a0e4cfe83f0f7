use Rattle.std.proofs.Common.{subst, sym}
use Rattle.peer_base.specs.Blobs.{AreBlobs}
use Rattle.peer_base.proofs.Racks.{blobs_empty}
use Rattle.peer_base.proofs.held.Rack.empty.Goals as goal

pub invariant_of-result : goal.invariant_of-result
invariant_of-result c = subst AreBlobs (sym c.empty.ensures) blobs_empty
