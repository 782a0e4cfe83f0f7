use Rattle.std.proofs.Common.{◌≡◌, length}
use Rattle.sha_lanes.specs.Message.{texts}
use Rattle.file_cut.specs.Cutting.{together}
use Rattle.file_cut.proofs.Named.{AreFilled}
use Rattle.file_cut.proofs.group.digests_of.Given as goal

abbrev pub invariant-chunks : goal.invariant-chunks
invariant-chunks l = record {
  long : length l.chunks ≡ together;
  filled : AreFilled l.size l.bytes (texts l.chunks) l.i;
}
