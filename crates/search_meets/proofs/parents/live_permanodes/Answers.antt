use Rattle.std.proofs.Common.{◌∙◌, ℕ, Bool, List, ap, subst, sym, not}
use Rattle.claim_model.specs.Deleted.{is_deleted}
use Rattle.claim_model.specs.Genuine.{permanodes}
use Rattle.index_look.specs.Look.{permanode_after}
use Rattle.search_meets.proofs.Gathering.{begins, ends, goes_on}
use Rattle.search_meets.proofs.Walk.{Ascends, fewer, filter_ascends, permanodes_ascend}
use Rattle.search_meets.proofs.parents.live_permanodes.Goals as goal

pub walk-init : goal.walk-init
walk-init g c =
    let facts = g.K.Look.facts c.args.look.now in
    let accepts = g.K.Look.accepts c.args.look.now in
    begins (λ r. not (is_deleted facts accepts c.args.when.now r)) (permanodes facts accepts) _ c.empty-live.ensures

pub walk-smaller : goal.walk-smaller
walk-smaller g c =
    let facts = g.K.Look.facts c.args.look.now in
    let accepts = g.K.Look.accepts c.args.look.now in
    fewer (permanodes facts accepts) c.walk.after c.in-Some.p (permanodes_ascend facts accepts)
    (c.in-Some.ensures ∙ ap (λ o. permanode_after facts accepts o) c.as_ref.ensures.value)

pub walk-preserved : goal.walk-preserved
walk-preserved g c =
    let facts = g.K.Look.facts c.args.look.now in
    let accepts = g.K.Look.accepts c.args.look.now in
    goes_on (λ r. not (is_deleted facts accepts c.args.when.now r)) (permanodes facts accepts) c.walk.after c.in-Some.p _ _ _ (permanodes_ascend facts accepts)
    (c.in-Some.ensures ∙ ap (λ o. permanode_after facts accepts o) c.as_ref.ensures.value) c.in_ok-keep_live.ensures c.walk.invariant

pub returns-clause-all : goal.returns-clause-all
returns-clause-all g c =
    let facts = g.K.Look.facts c.args.look.now in
    let accepts = g.K.Look.accepts c.args.look.now in
    ends (λ r. not (is_deleted facts accepts c.args.when.now r)) (permanodes facts accepts) c.walk.after _ _
    (c.in_default.ensures ∙ ap (λ o. permanode_after facts accepts o) c.as_ref.ensures.value) c.walk.invariant

pub returns-clause-ascending : goal.returns-clause-ascending
returns-clause-ascending g c =
    let facts = g.K.Look.facts c.args.look.now in
    let accepts = g.K.Look.accepts c.args.look.now in
    let t : List ℕ → Bool = λ r. not (is_deleted facts accepts c.args.when.now r) in
    subst Ascends
    (sym (ends t (permanodes facts accepts) c.walk.after _ _ (c.in_default.ensures ∙ ap (λ o. permanode_after facts accepts o) c.as_ref.ensures.value) c.walk.invariant))
    (filter_ascends t (permanodes facts accepts) (permanodes_ascend facts accepts))
