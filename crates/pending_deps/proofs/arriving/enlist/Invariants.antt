use Rattle.std.proofs.Common.{take, ◌≤◌, ◌+◌, ◌*◌}
use Rattle.schema_fact.specs.Dependencies.{dependencies}
use Rattle.pending_deps.specs.Arriving.{IsEnlisted}
use Rattle.pending_deps.proofs.arriving.enlist.Given as goal

abbrev pub invariant-loop-i : goal.invariant-loop-i
invariant-loop-i g l = record {
  enlisted : IsEnlisted l.state l.fn.waiters l.waiters l.r (take l.i (dependencies l.fact)) l.missing;
  ticks : l.steps ≤ l.fn.steps + 1 + 3 * l.i;
}
