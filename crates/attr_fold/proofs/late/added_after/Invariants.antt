use Rattle.std.proofs.Common.{◌≡◌, ◌≤◌, ◌+◌, ◌*◌, length, Some}
use Rattle.index_rows.specs.Changes.{changes_after}
use Rattle.attr_fold.specs.Following.{added_from, counted_after}
use Rattle.attr_fold.proofs.late.added_after.Given as goal

-- what is added from the first moment on is what was added, with what is from the one at hand on
abbrev pub invariant-walk : goal.invariant-walk
invariant-walk g l = record {
  same : added_from l.key.0 l.key.1 0
      (counted_after l.rows.facts.ordered l.rows.deletes l.rows.changes l.key.2 l.moment)
      ≡ added_from l.key.0 l.key.1 l.times
      (counted_after l.rows.facts.ordered l.rows.deletes l.rows.changes l.key.2 l.at);
  ticks : l.steps + 3 * length (changes_after l.rows.changes l.key.2 (Some l.at))
      ≤ l.fn.steps + 3 * length (changes_after l.rows.changes l.key.2 (Some l.moment));
}

abbrev pub decreases-walk : goal.decreases-walk
decreases-walk g l = length (changes_after l.rows.changes l.key.2 (Some l.at))
