use Rattle.std.proofs.Common.{ap, ◌∙◌}
use Rattle.claim_model.specs.Ready.{round}
use Rattle.plain_answers.proofs.Walking.{number_all}
use Rattle.plain_answers.proofs.readiness.is_ready.Goals as goal

pub returns : goal.returns
returns g c =
    let facts = g.T.FactTable.facts c.args.table.now in
    c.ready_within.ensures ∙ ap (λ n. round facts n c.args.r.now) (number_all facts)
