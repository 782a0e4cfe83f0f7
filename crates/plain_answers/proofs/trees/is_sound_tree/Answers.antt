use Rattle.std.proofs.Common.{ap, ◌∙◌}
use Rattle.claim_model.specs.Trees.{sound_within}
use Rattle.plain_answers.proofs.Walking.{number_all}
use Rattle.plain_answers.proofs.trees.is_sound_tree.Goals as goal

pub returns : goal.returns
returns g c =
    let facts = g.T.FactTable.facts c.args.table.now in
    c.sound_within.ensures ∙ ap (λ n. sound_within facts n c.args.r.now) (number_all facts)
