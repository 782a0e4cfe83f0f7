use Rattle.std.proofs.Common.{◌≡◌, ◌≤◌, ◌+◌, ◌*◌, drop, length}
use Rattle.std.specs.List.{list_all}
use Rattle.schema_fact.specs.Dependencies.{part_refs}
use Rattle.claim_model.specs.Trees.{part_fits}
use Rattle.row_answers.specs.Told.{says_sound}
use Rattle.claim_index.proofs.soundness.all_fit.Given as goal

-- the answer is that for what is left
abbrev pub invariant-loop-part : goal.invariant-loop-part
invariant-loop-part g l = record {
  fit : list_all (part_fits l.facts (says_sound l.state)) (drop l.part-index l.parts)
      ≡ list_all (part_fits l.facts (says_sound l.state)) l.parts;
  ticks : l.steps + 2 * length (part_refs (drop l.part-index l.parts)) ≤ l.fn.steps + 2 * length (part_refs l.parts);
}
