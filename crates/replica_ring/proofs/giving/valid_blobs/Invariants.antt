use Rattle.std.proofs.Common.{◌≡◌, ◌++◌, drop}
use Rattle.replica_ring.specs.Taking.{valid_blobs}
use Rattle.replica_ring.proofs.giving.valid_blobs.Given as goal

abbrev pub invariant-loop-blob : goal.invariant-loop-blob
invariant-loop-blob l = l.found.items ++ valid_blobs (drop l.blob-index l.blobs) ≡ valid_blobs l.blobs
