use Rattle.std.proofs.Common.{◌≡◌, ◌≤◌, length, sym, ap, subst, ◌∙◌, arith}
use Rattle.std.proofs.lemmas.Result.{on_ok_weaker}
use Rattle.claim_model.specs.Facts.{Facts}
use Rattle.index_rows.specs.declared.fact_rows.FactRows.{FactRows}
use Rattle.index_rows.specs.Loose.{numbers_of}
use Rattle.index_rows.specs.Touched.{touched_in}
use Rattle.index_rows.specs.Waiting.{arrived}
use Rattle.claim_index.specs.Additions.{IsAddedAlone}
use Rattle.claim_index.specs.Halfway.{facts_in}
use Rattle.claim_index.specs.Numbers.{with_numbers}
use Rattle.claim_index.proofs.Settled.{moved_in, moved_one}
use Rattle.claim_index.proofs.moving.settle.Goals as goal

pub take_up-requires : goal.take_up-requires
take_up-requires g c = λ fresh.
    moved_one c.args.rows.now.facts c.move_all.new.facts c.in_ok-move_all.ensures.none c.move_all.ensures.map
    (g.V.Verifier.accepts c.args.keys.now) c.args.rows.now c.args.r.now (c.requires fresh)

pub returns-clause-map : goal.returns-clause-map
returns-clause-map g c = ap facts_in c.take_up.ensures.facts ∙ c.move_all.ensures.map

pub returns-clause-same : goal.returns-clause-same
returns-clause-same g c =
    ap (λ (f : FactRows). with_numbers (numbers_of f.loose) c.move_all.new.numbers.numbers) c.take_up.ensures.facts ∙ c.move_all.ensures.same

pub returns-clause-fewer : goal.returns-clause-fewer
returns-clause-fewer g c =
    subst (λ (f : FactRows). length (numbers_of f.loose) ≤ length (numbers_of c.args.rows.now.facts.loose)) (sym c.take_up.ensures.facts) c.move_all.ensures.fewer

pub returns-clause-settled : goal.returns-clause-settled
returns-clause-settled g c = on_ok_weaker c.take_up.result
    (λ rest. record {
      none = ap (λ (f : FactRows). numbers_of f.loose) c.take_up.ensures.facts ∙ c.in_ok-move_all.ensures.none;
      rest = rest;
    })
    c.take_up.ensures.rest

pub returns-clause-ticks : goal.returns-clause-ticks
returns-clause-ticks g c = λ fresh.
    let old = c.args.rows.now in
    let now = c.move_all.new.facts in
    let a = g.V.Verifier.accepts c.args.keys.now in
    let r = c.args.r.now in
    let t = c.take_up.ensures.ticks fresh in
    let same : length (touched_in (arrived now.ordered old.state) now.ordered a r)
    ≡ length (touched_in (arrived (facts_in old.facts) old.state) (facts_in old.facts) a r)
    = ap (λ (m : Facts). length (touched_in (arrived m old.state) m a r)) (moved_in old.facts now c.in_ok-move_all.ensures.none c.move_all.ensures.map) in
    omega (arith, c.move_all.ensures.ticks, t, same)

pub returns-clause-few_ticks : goal.returns-clause-few_ticks
returns-clause-few_ticks g c = λ fresh it.
    let old = c.args.rows.now in
    let now = c.move_all.new.facts in
    let a = g.V.Verifier.accepts c.args.keys.now in
    let t = c.take_up.ensures.few_ticks fresh (subst (λ (m : Facts). IsAddedAlone m a c.args.r.now)
    (sym (moved_in old.facts now c.in_ok-move_all.ensures.none c.move_all.ensures.map)) it) in
    omega (arith, c.move_all.ensures.ticks, t)
