use Rattle.std.proofs.Common.{◌≡◌, ◌≤◌, ◌+◌, ◌*◌, map, fold, drop}
use Rattle.std.specs.List.{sum_by}
use Rattle.index_rows.specs.Changes.{moments_until}
use Rattle.index_rows.specs.Deletes.{tree_rows}
use Rattle.index_rows.specs.Values.{row_values}
use Rattle.row_answers.specs.Moments.{moment_steps, moment_values}
use Rattle.row_answers.proofs.folding.fold_at.Given as goal

-- what the moments still to come leave of the values so far is what all leave
abbrev pub invariant-loop-moment : goal.invariant-loop-moment
invariant-loop-moment g l = record {
  are : l.moment-items ≡ moments_until l.rows.changes l.when l.p;
  told : fold (moment_values l.rows.facts.ordered l.rows.deletes l.when l.attr) (map (λ t. t.now) l.found.items)
      (drop l.moment-index l.moment-items)
      ≡ row_values l.rows.facts.ordered l.rows.deletes l.rows.changes l.when l.p l.attr;
  ticks : l.steps + sum_by (λ k. 5 + 6 * tree_rows l.rows.facts.ordered l.rows.deletes k.1)
      (drop l.moment-index l.moment-items)
      ≤ l.fn.steps + 1 + sum_by (moment_steps l.rows.facts.ordered l.rows.deletes)
      (moments_until l.rows.changes l.when l.p);
}
