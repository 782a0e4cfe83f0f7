use Rattle.std.proofs.Common.{◌+◌, ◌*◌, Some, option_copied}
use Rattle.schema_fact.specs.Dependencies.{part_refs}
use Rattle.claim_model.specs.Ready.{is_ready, round}
use Rattle.index_look.specs.Known.{IsSo}
use Rattle.index_look.specs.Walk.{number_after}
use Rattle.plain_answers.proofs.Learning.{Onward}
use Rattle.plain_answers.proofs.known.+ready.Given as goal

-- how many facts are behind `after` goes down by one from each round to the next
abbrev pub decreases-ready_within : goal.decreases-ready_within
decreases-ready_within g l = 5 * number_after (g.T.FactTable.facts l.table.now) (option_copied l.after)

abbrev pub decreases-all_ready : goal.decreases-all_ready
decreases-all_ready g l = 5 * number_after (g.T.FactTable.facts l.table.now) (Some l.after.now) + 4

abbrev pub decreases-parts_ready : goal.decreases-parts_ready
decreases-parts_ready g l = 5 * number_after (g.T.FactTable.facts l.table.now) (Some l.after.now) + 3

abbrev pub decreases-part_ready : goal.decreases-part_ready
decreases-part_ready g l = 5 * number_after (g.T.FactTable.facts l.table.now) (Some l.after.now) + 2

abbrev pub decreases-target_ready : goal.decreases-target_ready
decreases-target_ready g l = 5 * number_after (g.T.FactTable.facts l.table.now) (Some l.after.now) + 1

-- what is found of the refs that are left is found of all
abbrev pub invariant-parts_ready-loop-part : goal.invariant-parts_ready-loop-part
invariant-parts_ready-loop-part g l = record {
  onward : Onward (round (g.T.FactTable.facts l.table) (number_after (g.T.FactTable.facts l.table) (Some l.after)))
      (is_ready (g.T.FactTable.facts l.table)) part_refs l.parts l.part-index;
  so : IsSo (g.T.FactTable.facts l.table) l.known;
}
