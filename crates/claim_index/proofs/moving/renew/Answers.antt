use Rattle.std.proofs.Common.{◌≤◌, length, sym, ap, subst, ◌∙◌}
use Rattle.std.proofs.lemmas.Result.{on_ok_weaker}
use Rattle.index_rows.specs.declared.fact_rows.FactRows.{FactRows}
use Rattle.index_rows.specs.Loose.{numbers_of}
use Rattle.claim_index.specs.Halfway.{facts_in}
use Rattle.claim_index.specs.Numbers.{with_numbers}
use Rattle.claim_index.proofs.moving.renew.Goals as goal

pub returns-clause-map : goal.returns-clause-map
returns-clause-map g c = ap facts_in c.rebuild.ensures.facts ∙ c.move_all.ensures.map

pub returns-clause-same : goal.returns-clause-same
returns-clause-same g c =
    ap (λ (f : FactRows). with_numbers (numbers_of f.loose) c.move_all.new.numbers.numbers) c.rebuild.ensures.facts ∙ c.move_all.ensures.same

pub returns-clause-fewer : goal.returns-clause-fewer
returns-clause-fewer g c =
    subst (λ (f : FactRows). length (numbers_of f.loose) ≤ length (numbers_of c.args.rows.now.facts.loose)) (sym c.rebuild.ensures.facts) c.move_all.ensures.fewer

pub returns-clause-settled : goal.returns-clause-settled
returns-clause-settled g c = on_ok_weaker c.rebuild.result
    (λ rest. record {
      none = ap (λ (f : FactRows). numbers_of f.loose) c.rebuild.ensures.facts ∙ c.in_ok-move_all.ensures.none;
      rest = rest;
    })
    c.rebuild.ensures.rest
