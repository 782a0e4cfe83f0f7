use Rattle.std.proofs.Common.{◌∙◌, ap, sym}
use Rattle.claim_model.specs.Genuine.{permanodes}
use Rattle.index_look.specs.Look.{permanode_after}
use Rattle.search_eval.specs.Walk.{is_found, up_to}
use Rattle.search_meets.proofs.Walk.{fewer, permanodes_ascend}
use Rattle.search_eval.proofs.Walk.{at_end, begins, goes_on, up_to_none, when_full}
use Rattle.search_eval.proofs.answering.found_among_all.Goals as goal

pub walk-init : goal.walk-init
walk-init g c =
    let facts = g.K.Look.facts c.args.look.now in
    let accepts = g.K.Look.accepts c.args.look.now in
    let none = c.start-walk.ensures.found in (
      ap (up_to c.args.stop) none ∙ up_to_none c.args.stop ∙ sym none,
      begins (is_found facts accepts c.args.query.now) c.args.stop (permanodes facts accepts) _ _ none c.start-walk.ensures.asked,
    )

pub walk-smaller : goal.walk-smaller
walk-smaller g c =
    let facts = g.K.Look.facts c.args.look.now in
    let accepts = g.K.Look.accepts c.args.look.now in
    fewer (permanodes facts accepts) c.walk.after c.in-Some.p (permanodes_ascend facts accepts)
    (c.in-Some.ensures ∙ ap (λ o. permanode_after facts accepts o) c.as_ref.ensures.value)

pub walk-preserved : goal.walk-preserved
walk-preserved g c =
    let facts = g.K.Look.facts c.args.look.now in
    let accepts = g.K.Look.accepts c.args.look.now in (
      c.in_ok-come_to.ensures.short,
      goes_on (is_found facts accepts c.args.query.now) c.args.stop (permanodes facts accepts) c.walk.after c.in-Some.p _ _ _ _ _ (permanodes_ascend facts accepts)
          (c.in-Some.ensures ∙ ap (λ o. permanode_after facts accepts o) c.as_ref.ensures.value) c.in_ok-come_to.ensures.all c.walk.invariant.1,
    )

pub returns-then-is_full : goal.returns-then-is_full
returns-then-is_full g c =
    let facts = g.K.Look.facts c.args.look.now in
    let accepts = g.K.Look.accepts c.args.look.now in
    when_full facts accepts c.args.query.now c.args.stop c.walk.after c.in-Some.p _ _ _ _ (c.in-Some.ensures ∙ ap (λ o. permanode_after facts accepts o) c.as_ref.ensures.value)
    c.in_ok-come_to.ensures.all c.walk.invariant.1 (sym c.is_full.ensures ∙ c.if-is_full.true)

pub returns : goal.returns
returns g c =
    let facts = g.K.Look.facts c.args.look.now in
    let accepts = g.K.Look.accepts c.args.look.now in
    at_end facts accepts c.args.query.now c.args.stop c.walk.after _ _ _ (c.in_default.ensures ∙ ap (λ o. permanode_after facts accepts o) c.as_ref.ensures.value)
    c.in_ok-ask.ensures.found c.walk.invariant.1
