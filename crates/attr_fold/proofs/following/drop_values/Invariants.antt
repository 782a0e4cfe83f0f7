use Rattle.std.proofs.Common.{◌≡◌, ◌≤◌, ◌+◌, ◌*◌, length}
use Rattle.index_rows.specs.Changes.{changes_before}
use Rattle.attr_fold.specs.Following.{AreFewer}
use Rattle.attr_fold.proofs.Dropping.{IsLeft}
use Rattle.attr_fold.proofs.following.drop_values.Given as goal

-- what is there behind the changes before the first moment was there behind those before the one at hand
abbrev pub invariant-walk : goal.invariant-walk
invariant-walk g l = record {
  facts : l.rows.facts ≡ l.fn.rows.facts;
  state : l.rows.state ≡ l.fn.rows.state;
  waiters : l.rows.waiters ≡ l.fn.rows.waiters;
  deletes : l.rows.deletes ≡ l.fn.rows.deletes;
  changes : l.rows.changes ≡ l.fn.rows.changes;
  removals : l.rows.removals ≡ l.fn.rows.removals;
  fewer : AreFewer l.key.0 l.key.2 l.fn.rows.holders l.rows.holders;
  left : IsLeft l.fn.rows.facts.ordered l.fn.rows.deletes l.fn.rows.changes l.key.0 l.key.2 l.moment l.at
      l.rows.holders;
  ticks : l.steps + 4 * length (changes_before l.fn.rows.changes l.key.2 l.at)
      ≤ l.fn.steps + 4 * length (changes_before l.fn.rows.changes l.key.2 l.moment);
}

abbrev pub decreases-walk : goal.decreases-walk
decreases-walk g l = length (changes_before l.rows.changes l.key.2 l.at)
