use Rattle.blob_checks.proofs.Hashed.{AreCounted}
use Rattle.blob_checks.proofs.checking.own_count.Given as goal

abbrev pub invariant-blobs : goal.invariant-blobs
invariant-blobs l = AreCounted l.blobs l.i
