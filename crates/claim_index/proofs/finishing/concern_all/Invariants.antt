-- What was looked at is told.
use Rattle.std.proofs.Common.{◌≡◌, ◌≤◌, ◌+◌, ◌*◌, ◌++◌, take}
use Rattle.std.specs.List.{flat_map}
use Rattle.index_meaning.specs.Touching.{concerned_by}
use Rattle.claim_index.proofs.finishing.concern_all.Given as goal

abbrev pub invariant-loop-y : goal.invariant-loop-y
invariant-loop-y g l = record {
  added : l.concerned ≡ l.fn.concerned ++ flat_map (concerned_by l.rows.facts.ordered l.rows.state) (take l.y-index l.changed);
  ticks : l.steps ≤ l.fn.steps + 2 * l.y-index;
}
