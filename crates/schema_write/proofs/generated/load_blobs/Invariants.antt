use Rattle.std.proofs.Common.{◌≡◌}
use Rattle.schema_write.specs.Generated.{load_blobs}
use Rattle.schema_write.proofs.generated.load_blobs.Given as goal

-- the blobs before this one are there
abbrev pub invariant-loop-i : goal.invariant-loop-i
invariant-loop-i l = l.blobs ≡ load_blobs l.i l.start
