use Rattle.std.proofs.Common.{◌≡◌, ◌≤◌, ◌+◌, ◌++◌, length}
use Rattle.index_rows.specs.Changes.{moments_until}
use Rattle.index_rows.proofs.Until.{walked}
use Rattle.index_rows.proofs.change_rows.ChangeRows.until.Given as goal

-- what was found, and what is still to come, is the whole
abbrev pub invariant-loop-key : goal.invariant-loop-key
invariant-loop-key g l = record {
  whole : l.moments.items ++ walked l.when l.p l.key-iterator ≡ moments_until l.self l.when l.p;
  ticks : l.steps + length (walked l.when l.p l.key-iterator)
      ≤ l.fn.steps + 1 + length (moments_until l.self l.when l.p);
}
