use Rattle.std.proofs.Common.{◌+◌, ◌*◌, Some, option_copied}
use Rattle.claim_model.specs.Trees.{is_sound_tree, part_fits, sound_within}
use Rattle.index_look.specs.Known.{IsSo}
use Rattle.index_look.specs.Walk.{number_after}
use Rattle.plain_answers.proofs.Learning.{Onward}
use Rattle.plain_answers.proofs.known.+sound.Given as goal

-- how many facts are behind `after` goes down by one from each tree to those within
abbrev pub decreases-sound_within : goal.decreases-sound_within
decreases-sound_within g l = 4 * number_after (g.T.FactTable.facts l.table.now) (option_copied l.after)

abbrev pub decreases-parts_fit : goal.decreases-parts_fit
decreases-parts_fit g l = 4 * number_after (g.T.FactTable.facts l.table.now) (Some l.after.now) + 3

abbrev pub decreases-all_fit : goal.decreases-all_fit
decreases-all_fit g l = 4 * number_after (g.T.FactTable.facts l.table.now) (Some l.after.now) + 2

abbrev pub decreases-part_fits : goal.decreases-part_fits
decreases-part_fits g l = 4 * number_after (g.T.FactTable.facts l.table.now) (Some l.after.now) + 1

-- what is found of the parts that are left is found of all
abbrev pub invariant-all_fit-loop-part : goal.invariant-all_fit-loop-part
invariant-all_fit-loop-part g l = record {
  onward : Onward (part_fits (g.T.FactTable.facts l.table)
      (sound_within (g.T.FactTable.facts l.table) (number_after (g.T.FactTable.facts l.table) (Some l.after))))
      (part_fits (g.T.FactTable.facts l.table) (is_sound_tree (g.T.FactTable.facts l.table))) (λ parts. parts) l.parts l.part-index;
  so : IsSo (g.T.FactTable.facts l.table) l.known;
}
