use Rattle.std.proofs.Common.{◌≡◌, ◌≤◌, ◌+◌, ◌*◌, length, IfSome, true}
use Rattle.std.specs.List.{sum_by}
use Rattle.std.specs.FinMap.{contains_key}
use Rattle.index_rows.specs.Changes.{moments_to, moments_until}
use Rattle.index_rows.specs.Deletes.{tree_rows}
use Rattle.index_rows.specs.Values.{row_last_change}
use Rattle.row_answers.specs.Moments.{moment_steps}
use Rattle.row_answers.proofs.Walking.{last_date}
use Rattle.row_answers.proofs.folding.last_change_at.Given as goal

-- the last that counts of those up to the next moment is the last of all
abbrev pub invariant-back : goal.invariant-back
invariant-back g l = record {
  told : last_date l.rows.changes l.p l.rows.facts.ordered l.rows.deletes l.when l.next
      ≡ row_last_change l.rows.facts.ordered l.rows.deletes l.rows.changes l.when l.p;
  row : IfSome l.next (λ k. contains_key l.rows.changes (l.p, k) ≡ true);
  ticks : l.steps + sum_by (λ k. 5 + 6 * tree_rows l.rows.facts.ordered l.rows.deletes k.1)
      (moments_to l.rows.changes l.p l.next)
      ≤ l.fn.steps + 1 + sum_by (moment_steps l.rows.facts.ordered l.rows.deletes)
      (moments_until l.rows.changes l.when l.p);
}

abbrev pub decreases-back : goal.decreases-back
decreases-back g l = length (moments_to l.rows.changes l.p l.next)
