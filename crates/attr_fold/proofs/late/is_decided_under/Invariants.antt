use Rattle.std.proofs.Common.{◌≡◌, ◌≤◌, ◌+◌, ◌*◌, length}
use Rattle.std.specs.List.{list_any}
use Rattle.index_rows.specs.Removals.{removals_after}
use Rattle.attr_fold.specs.Following.{counted_under, decides}
use Rattle.attr_fold.proofs.late.is_decided_under.Given as goal

-- no removal from the first moment on to the one at hand decides
abbrev pub invariant-walk : goal.invariant-walk
invariant-walk g l = record {
  same : list_any (decides l.all l.key.0 l.key.1) (counted_under l.rows.facts.ordered l.rows.deletes l.rows.removals
      l.key.2 l.mark l.moment)
      ≡ list_any (decides l.all l.key.0 l.key.1) (counted_under l.rows.facts.ordered l.rows.deletes l.rows.removals
      l.key.2 l.mark l.at);
  ticks : l.steps + 3 * length (removals_after l.rows.removals l.key.2 l.mark l.at)
      ≤ l.fn.steps + 3 * length (removals_after l.rows.removals l.key.2 l.mark l.moment);
}

abbrev pub decreases-walk : goal.decreases-walk
decreases-walk g l = length (removals_after l.rows.removals l.key.2 l.mark l.at)
