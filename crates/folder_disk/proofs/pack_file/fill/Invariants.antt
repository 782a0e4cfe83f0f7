use Rattle.std.proofs.Common.{length, ◌-◌, ◌≡◌, ◌≤◌}
use Rattle.folder_disk.proofs.pack_file.fill.Given as goal

abbrev pub invariant-pieces : goal.invariant-pieces
invariant-pieces l = record {
  within : l.filled ≤ length l.buf;
  same : length l.buf ≡ length l.fn.buf;
}

abbrev pub decreases-pieces : goal.decreases-pieces
decreases-pieces l = length l.fn.buf - l.filled
