use Rattle.std.proofs.Common.{take, true, length, ◌≤◌, ◌+◌, ◌*◌}
use Rattle.std.specs.FinMap.{entries}
use Rattle.index_rows.specs.Pairs.{number}
use Rattle.attr_fold.specs.Turns.{told, Tells}
use Rattle.attr_fold.proofs.refolding.turns_of.Given as goal

-- what the turns tell so far
abbrev pub invariant-loop-n : goal.invariant-loop-n
invariant-loop-n g l = record {
  tells : Tells l.p (told l.rows.facts.ordered l.rows.deletes (take l.n l.moment-items)) l.turns l.n;
  few : number (λ e. true) (entries l.turns.given) ≤ l.n;
  ticks : l.steps ≤ l.fn.steps + 1 + length l.moment-items + 2 * l.n;
}
