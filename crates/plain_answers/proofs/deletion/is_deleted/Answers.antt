use Rattle.std.proofs.Common.{ap, ◌∙◌}
use Rattle.claim_model.specs.Deleted.{deleted_within}
use Rattle.plain_answers.proofs.Walking.{number_all}
use Rattle.plain_answers.proofs.deletion.is_deleted.Goals as goal

pub returns : goal.returns
returns g c =
    let facts = g.T.FactTable.facts c.args.table.now in
    c.deleted_within.ensures ∙ ap (λ n. deleted_within facts (g.V.Verifier.accepts c.args.keys.now) c.args.when.now n c.args.x.now) (number_all facts)
