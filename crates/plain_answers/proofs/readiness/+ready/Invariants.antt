use Rattle.std.proofs.Common.{◌≡◌, ◌+◌, ◌*◌, true, Some, option_copied, take}
use Rattle.std.specs.List.{list_all}
use Rattle.schema_fact.specs.Dependencies.{part_refs}
use Rattle.claim_model.specs.Ready.{round}
use Rattle.index_look.specs.Walk.{number_after}
use Rattle.plain_answers.proofs.readiness.+ready.Given as goal

-- how many facts are behind `after` goes down by one from each round to the next
abbrev pub decreases-ready_within : goal.decreases-ready_within
decreases-ready_within g l = 4 * number_after (g.T.FactTable.facts l.table.now) (option_copied l.after)

abbrev pub decreases-all_ready : goal.decreases-all_ready
decreases-all_ready g l = 4 * number_after (g.T.FactTable.facts l.table.now) (Some l.after.now) + 3

abbrev pub decreases-parts_ready : goal.decreases-parts_ready
decreases-parts_ready g l = 4 * number_after (g.T.FactTable.facts l.table.now) (Some l.after.now) + 2

abbrev pub decreases-target_ready : goal.decreases-target_ready
decreases-target_ready g l = 4 * number_after (g.T.FactTable.facts l.table.now) (Some l.after.now) + 1

-- the refs so far are ready
abbrev pub invariant-parts_ready-loop-i : goal.invariant-parts_ready-loop-i
invariant-parts_ready-loop-i g l = list_all (round (g.T.FactTable.facts l.table) (number_after (g.T.FactTable.facts l.table) (Some l.after))) (part_refs (take l.i l.parts)) ≡ true
