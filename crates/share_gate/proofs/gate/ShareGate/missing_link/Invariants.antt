use Rattle.std.proofs.Common.{◌≡◌, ◌≤◌, ◌-◌, length}
use Rattle.share_gate.specs.Gates.{gate_missing_from}
use Rattle.share_gate.proofs.gate.ShareGate.missing_link.Given as goal

abbrev pub invariant-links : goal.invariant-links
invariant-links l = record {
  told : gate_missing_from l.fn.self l.fn.r l.via l.i ≡ gate_missing_from l.fn.self l.fn.r l.via 2;
  from : 2 ≤ l.i;
  within : l.i ≤ length l.via;
}

abbrev pub decreases-links : goal.decreases-links
decreases-links l = length l.via - l.i
