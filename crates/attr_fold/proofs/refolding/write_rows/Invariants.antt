use Rattle.std.proofs.Common.{true, ◌≤◌, ◌+◌}
use Rattle.std.specs.FinMap.{entries}
use Rattle.index_rows.specs.Pairs.{number}
use Rattle.attr_fold.proofs.Written.{IsWriting}
use Rattle.attr_fold.proofs.refolding.write_rows.Given as goal

abbrev pub invariant-rows : goal.invariant-rows
invariant-rows g l = record {
  writing : IsWriting l.p l.stands l.fn.turns l.fn.holders l.turns l.holders;
  ticks : l.steps + number (λ e. true) (entries l.turns.given) ≤ l.fn.steps + number (λ e. true) (entries l.fn.turns.given);
}

abbrev pub decreases-rows : goal.decreases-rows
decreases-rows g l = number (λ e. true) (entries l.turns.given)
