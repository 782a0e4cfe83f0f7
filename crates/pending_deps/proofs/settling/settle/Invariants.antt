use Rattle.std.proofs.Common.{◌≡◌, ◌+◌, ◌-◌, ◌≤◌, ℕ, Bool, List, true, length, Some, slice_get}
use Rattle.std.specs.FinMap.{entries}
use Rattle.claim_model.specs.Facts.{Facts}
use Rattle.index_rows.specs.Pairs.{number}
use Rattle.pending_deps.specs.Settling.{CountsMissing, Settling, KeepsOthers}
use Rattle.pending_deps.proofs.Steps.{Releasing}
use Rattle.pending_deps.proofs.Ticks.{HasTicked}
use Rattle.pending_deps.proofs.settling.settle.Given as goal

abbrev pub invariant-group : goal.invariant-group
invariant-group g l = record {
  counted : CountsMissing l.state l.waiters;
  kept : KeepsOthers l.fn.state l.state;
  settles : (facts : Facts) (old : List ℕ → Bool) → Settling facts old l.fn.state l.fn.waiters l.fn.order 0 → Releasing facts old l.state l.waiters l.order l.i l.x;
  place : slice_get l.order l.i ≡ Some l.x;
  ticks : HasTicked l.fn.steps l.fn.waiters l.order l.i l.steps l.waiters;
  less : number (λ e. true) (entries l.waiters) + length l.order ≤ number (λ e. true) (entries l.initial.waiters) + length l.initial.order;
}

abbrev pub decreases-group : goal.decreases-group
decreases-group g l = number (λ e. true) (entries l.waiters)

abbrev pub invariant-next : goal.invariant-next
invariant-next g l = record {
  counted : CountsMissing l.state l.waiters;
  kept : KeepsOthers l.fn.state l.state;
  settles : (facts : Facts) (old : List ℕ → Bool) → Settling facts old l.fn.state l.fn.waiters l.fn.order 0 → Settling facts old l.state l.waiters l.order l.i;
  within : l.i ≤ length l.order;
  ticks : HasTicked l.fn.steps l.fn.waiters l.order l.i l.steps l.waiters;
}

abbrev pub decreases-next : goal.decreases-next
decreases-next g l = number (λ e. true) (entries l.waiters) + (length l.order - l.i)
