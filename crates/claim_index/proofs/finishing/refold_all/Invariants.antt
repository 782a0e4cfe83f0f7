-- The permanodes from here on are still to be looked at.
use Rattle.std.proofs.Common.{List, ℕ, ◌≤◌, ◌+◌, [], drop, take}
use Rattle.std.specs.List.{sum_by}
use Rattle.attr_fold.specs.Refolded.{refold_steps}
use Rattle.index_rows.specs.declared.rows.Rows.{Rows}
use Rattle.claim_index.specs.Halfway.{CanBeFinished}
use Rattle.claim_index.proofs.Refolds.{IsSameBeside}
use Rattle.claim_index.proofs.finishing.refold_all.Given as goal

pub record AreRefolded (rows after : Rows) (left : List (List ℕ)) : Type 0 where
  pub same : IsSameBeside rows after
  pub finished : CanBeFinished [] left after

abbrev pub invariant-loop-p : goal.invariant-loop-p
invariant-loop-p g l = record {
  refolded : AreRefolded l.fn.rows l.rows (drop l.p-index l.p-items);
  ticks : l.steps ≤ l.fn.steps + sum_by (refold_steps l.fn.rows.facts.ordered l.fn.rows.state l.fn.rows.changes) (take l.p-index l.p-items);
}
