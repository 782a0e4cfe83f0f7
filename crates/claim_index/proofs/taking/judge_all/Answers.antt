-- The ref at hand is the first of those that are left.
use Rattle.std.proofs.Common.{List, ℕ, ◌∙◌, ◌+◌, drop, subst, refl}
use Rattle.std.proofs.lemmas.Bool.{false≢true}
use Rattle.claim_index.specs.Halfway.{IsHalfway, CanBeJudged}
use Rattle.claim_index.proofs.Members.{drop_first}
use Rattle.claim_index.proofs.AddTicks.{judged_adds, judged_ticks, judged_upto}
use Rattle.claim_index.proofs.taking.judge_all.Goals as goal
use Rattle.index_rows.proofs.LooseFacts.{in_order}

pub judge_one-requires : goal.judge_one-requires
judge_one-requires g c = λ t. absurd (false≢true t)

pub loop-x-preserved : goal.loop-x-preserved
loop-x-preserved g c =
    let a = g.V.Verifier.accepts c.args.keys.now in
    let order = c.args.order.now in
    let i = c.loop-x.x-index in
    let x = c.x-item.result in
    let first = drop_first order i x c.loop-x-test.true c.x-item.is in
    let rest = drop (i + 1) order in
    let was = c.loop-x.invariant in
    let told = c.in_ok-judge_one.ensures in
    let half = subst (λ (l : List (List ℕ)). IsHalfway a l c.loop-x.work.deletes c.loop-x.work.concerned c.loop-x.rows) first was.2 in
    let can = subst (λ (l : List (List ℕ)). CanBeJudged l c.loop-x.rows) first was.3 in (
      c.judge_one.ensures.facts ∙ was.0,
      λ y. told.taken y ∙ was.1 y,
      told.halfway rest half can,
      told.reached rest half can,
      judged_adds c.loop-x.rows.facts.ordered c.args.rows.now.facts.ordered (in_order was.0) a order i x c.loop-x-test.true c.x-item.is _ _ _ _ _ _ was.4 told.adds,
      judged_ticks c.loop-x.rows.facts.ordered c.args.rows.now.facts.ordered (in_order was.0) a order i x c.loop-x-test.true c.x-item.is c.args.steps.now c.loop-x.steps c.judge_one.new.steps was.5 (c.judge_one.ensures.ticks refl),
    )

pub returns-in_err-judge_one-clause-ticks : goal.returns-in_err-judge_one-clause-ticks
returns-in_err-judge_one-clause-ticks g c =
    judged_upto c.loop-x.rows.facts.ordered c.args.rows.now.facts.ordered (in_order c.loop-x.invariant.0) (g.V.Verifier.accepts c.args.keys.now) c.args.order.now c.loop-x.x-index c.x-item.result c.loop-x-test.true c.x-item.is
    c.args.steps.now c.loop-x.steps c.judge_one.new.steps c.loop-x.invariant.5 (c.judge_one.ensures.ticks refl)
