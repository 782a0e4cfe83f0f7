use Rattle.std.proofs.Common.{◌≡◌, ◌≤◌, ◌-◌, length, drop}
use Rattle.http_wire.specs.Lines.{further, scanned}
use Rattle.http_wire.proofs.scanning.scan.Given as goal

-- what is left gives the whole
abbrev pub invariant-steps : goal.invariant-steps
invariant-steps l = (l.at ≤ length l.bytes) × (further l.at (scanned l.place (drop l.at l.bytes)) ≡ scanned l.fn.place l.bytes)

abbrev pub decreases-steps : goal.decreases-steps
decreases-steps l = length l.bytes - l.at
