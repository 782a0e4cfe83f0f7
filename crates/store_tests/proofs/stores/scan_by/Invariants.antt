use Rattle.std.proofs.Common.{◌≡◌, ◌≤◌, ◌-◌, length}
use Rattle.salvage_scan.specs.Pieces.{fed}
use Rattle.store_tests.proofs.stores.scan_by.Given as goal

-- what was fed
abbrev pub invariant-pieces : goal.invariant-pieces
invariant-pieces l = record { within : l.at ≤ length l.bytes; counts : fed l.scanner ≡ l.at }

abbrev pub decreases-pieces : goal.decreases-pieces
decreases-pieces l = length l.bytes - l.at
