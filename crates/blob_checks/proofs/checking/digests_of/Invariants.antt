use Rattle.std.proofs.Common.{◌≡◌, length}
use Rattle.sha_lanes.specs.Message.{texts}
use Rattle.blob_checks.proofs.Hashed.{AreFilled}
use Rattle.blob_checks.proofs.checking.digests_of.Given as goal

abbrev pub invariant-blobs : goal.invariant-blobs
invariant-blobs l = record {
  long : length l.messages ≡ 64;
  filled : AreFilled l.blobs (texts l.messages) l.i;
}
