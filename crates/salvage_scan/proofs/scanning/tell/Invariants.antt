use Rattle.std.proofs.Common.{length, ◌-◌, ◌+◌, ◌≤◌, drop}
use Rattle.salvage_scan.specs.Pieces.{ScanRun}
use Rattle.salvage_scan.specs.Ahead.{AreKnown}
use Rattle.salvage_scan.proofs.scanning.tell.Given as goal

-- what was told leads to the bytes that are left
abbrev pub invariant-places : goal.invariant-places
invariant-places l = record {
  within : l.at ≤ length l.bytes;
  known : AreKnown l.bytes l.lookout.records;
  leads : ScanRun l.last l.place l.fn.clean l.bytes l.found (l.place + l.at) l.clean (drop l.at l.bytes);
}

abbrev pub decreases-places : goal.decreases-places
decreases-places l = length l.bytes - l.at
