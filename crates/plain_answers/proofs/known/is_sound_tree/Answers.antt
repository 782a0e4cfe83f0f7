use Rattle.std.proofs.Common.{◌≡◌, ◌∷◌, [], None}
use Rattle.std.proofs.lemmas.Result.{IfOk-weaker}
use Rattle.claim_model.specs.Trees.{is_sound_tree, sound_within}
use Rattle.index_look.specs.Walk.{number_after}
use Rattle.plain_answers.specs.Learnt.{Finds}
use Rattle.plain_answers.proofs.Learning.{settled, deep_enough_sound}
use Rattle.plain_answers.proofs.known.is_sound_tree.Goals as goal

pub returns-clause-value : goal.returns-clause-value
returns-clause-value g c =
    let facts = g.T.FactTable.facts c.args.table.now in
    let r = c.args.r.now in
    let within = sound_within facts (number_after facts None) in
    IfOk-weaker c.sound_within.result (Finds within (is_sound_tree facts) (r ∷ [])) (λ answer. answer ≡ is_sound_tree facts r)
    (λ answer. settled (within r) (is_sound_tree facts r) answer (deep_enough_sound facts r)) c.sound_within.ensures.finds
