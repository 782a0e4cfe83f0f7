use Rattle.std.proofs.Common.{◌≡◌, ◌∷◌, [], None}
use Rattle.std.proofs.lemmas.Result.{IfOk-weaker}
use Rattle.claim_model.specs.Ready.{is_ready, round}
use Rattle.index_look.specs.Walk.{number_after}
use Rattle.plain_answers.specs.Learnt.{Finds}
use Rattle.plain_answers.proofs.Learning.{settled, deep_enough}
use Rattle.plain_answers.proofs.known.is_ready.Goals as goal

pub returns-clause-value : goal.returns-clause-value
returns-clause-value g c =
    let facts = g.T.FactTable.facts c.args.table.now in
    let r = c.args.r.now in
    let within = round facts (number_after facts None) in
    IfOk-weaker c.ready_within.result (Finds within (is_ready facts) (r ∷ [])) (λ answer. answer ≡ is_ready facts r)
    (λ answer. settled (within r) (is_ready facts r) answer (deep_enough facts r)) c.ready_within.ensures.finds
