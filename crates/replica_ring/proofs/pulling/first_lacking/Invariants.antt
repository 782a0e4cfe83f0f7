use Rattle.std.proofs.Common.{◌≡◌, ◌++◌, ◌-◌, ◌≤◌, length, take}
use Rattle.sync_core.specs.Copying.{lacking}
use Rattle.replica_ring.proofs.Walking.{lacked}
use Rattle.replica_ring.proofs.pulling.first_lacking.Given as goal

abbrev pub invariant-loop-r : goal.invariant-loop-r
invariant-loop-r l = record {
  within : length l.found.items ≤ l.count;
  all : l.found.items ++ take (l.count - length l.found.items) (lacked l.to l.r-iterator) ≡ take l.count (lacking l.from l.to);
}
