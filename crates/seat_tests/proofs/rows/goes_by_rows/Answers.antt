use Rattle.std.proofs.Common.{sym, ◌∙◌}
use Rattle.std.proofs.lemmas.Bool.{eqb-true}
use Rattle.seat_tests.proofs.FewSteps.{few_steps}
use Rattle.seat_tests.proofs.rows.goes_by_rows.Goals as goal

pub returns-clause-few : goal.returns-clause-few
returns-clause-few g c = λ none.
    let found = c.in_ok-refs.ensures in
    few_steps c.args.query.now _ _ _ _ c.in_ok-refs.refs c.requires.asked found.search.answer (sym c.len.ensures ∙ eqb-true _ 0 none)
    (found.ticks (sym c.stale.ensures ∙ c.if-stale.false))
