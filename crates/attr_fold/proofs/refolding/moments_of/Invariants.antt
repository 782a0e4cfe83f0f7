use Rattle.std.proofs.Common.{◌≡◌, ◌≤◌, ◌+◌, ◌++◌, map, length, None}
use Rattle.index_rows.specs.Changes.{changes_after}
use Rattle.attr_fold.specs.Turns.{all_moments}
use Rattle.attr_fold.proofs.refolding.moments_of.Given as goal

abbrev pub invariant-walk : goal.invariant-walk
invariant-walk g l = record {
  walked : l.moments.items ++ map (λ e. e.0.1) (changes_after l.changes l.p l.last) ≡ all_moments l.changes l.p;
  ticks : l.steps + length (changes_after l.changes l.p l.last) ≤ l.fn.steps + length (changes_after l.changes l.p None);
}

abbrev pub decreases-walk : goal.decreases-walk
decreases-walk g l = length (changes_after l.changes l.p l.last)
