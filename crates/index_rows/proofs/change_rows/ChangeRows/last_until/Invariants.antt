use Rattle.std.proofs.Common.{◌≡◌, ◌≤◌, ◌+◌, None, length}
use Rattle.std.specs.List.{last_or}
use Rattle.index_rows.specs.Changes.{moments_until}
use Rattle.index_rows.proofs.Until.{walked}
use Rattle.index_rows.proofs.change_rows.ChangeRows.last_until.Given as goal

-- the last of those still to come, or else this one, is the last of all
abbrev pub invariant-loop-key : goal.invariant-loop-key
invariant-loop-key g l = record {
  last : last_or l.last (walked l.when l.p l.key-iterator) ≡ last_or None (moments_until l.self l.when l.p);
  ticks : l.steps + length (walked l.when l.p l.key-iterator)
      ≤ l.fn.steps + 1 + length (moments_until l.self l.when l.p);
}
