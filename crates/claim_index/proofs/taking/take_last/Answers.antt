use Rattle.std.proofs.Common.{◌≤◌, ◌+◌, ◌*◌, ℕ, List, [], ◌∷◌, length, refl, sym, ap, subst, ◌∙◌, arith}
use Rattle.std.specs.List.{sum_by}
use Rattle.std.proofs.lemmas.Result.{on_ok_weaker}
use Rattle.std.specs.FinMap.{contains_key}
use Rattle.claim_model.specs.Facts.{Facts}
use Rattle.claim_index.proofs.TakeTicks.{freed_adds, taking_sum, alone_among, alone_sum, one_of}
use Rattle.claim_index.specs.Costs.{look_steps, AreTaken}
use Rattle.claim_index.proofs.OneArrived.{half_arrived, able_arrived, one_half, one_able}
use Rattle.claim_index.proofs.OneFollowed.{few_still}
use Rattle.claim_index.proofs.OneJudged.{ok_then}
use Rattle.claim_index.proofs.LoneTicks.{arrival_few, order_few, order_only, none_left, still_idle}
use Rattle.claim_index.specs.Additions.{IsAddedAlone, IsLastToJudge}
use Rattle.claim_index.proofs.taking.take_last.Goals as goal
use Rattle.index_rows.proofs.LooseFacts.{in_order}

pub judge_all-requires-clause-halfway : goal.judge_all-requires-clause-halfway
judge_all-requires-clause-halfway g c =
    let e = c.in_ok-order.ensures in
    half_arrived (g.V.Verifier.accepts c.args.keys.now) c.args.rows.now c.arrive.new.rows e.facts e.deletes e.changes
    e.removals e.holders c.args.r.now _ c.as_slice-refs.result.now
    c.args.work.now.deletes c.args.work.now.concerned c.as_slice-refs.ensures c.requires.halfway
    c.requires.fresh.absent e.arrived

pub judge_all-requires-clause-reached : goal.judge_all-requires-clause-reached
judge_all-requires-clause-reached g c =
    let e = c.in_ok-order.ensures in
    able_arrived (g.V.Verifier.accepts c.args.keys.now) c.args.rows.now c.arrive.new.rows e.facts e.deletes e.changes
    e.removals e.holders c.args.r.now _ c.as_slice-refs.result.now
    c.args.work.now.deletes c.args.work.now.concerned c.as_slice-refs.ensures c.requires.halfway
    c.requires.fresh.absent e.arrived

pub returns-clause-adds : goal.returns-clause-adds
returns-clause-adds g c =
    let e = c.in_ok-order.ensures in
    on_ok_weaker c.judge_all.result
    (freed_adds c.args.rows.now.facts.ordered c.args.rows.now.state c.arrive.new.rows.state c.arrive.new.rows.waiters
    c.args.r.now _ e.arrived (g.V.Verifier.accepts c.args.keys.now) c.args.rows.now.facts.ordered
    c.arrive.new.rows.facts.ordered c.as_slice-refs.result.now
    c.args.work.now.deletes c.judge_all.new.work.deletes c.args.work.now.concerned c.judge_all.new.work.concerned
    c.as_slice-refs.ensures (in_order e.facts)) c.judge_all.ensures.adds

pub returns-clause-ticks : goal.returns-clause-ticks
returns-clause-ticks g c = λ n few.
    let e = c.in_ok-order.ensures in
    let s = taking_sum c.args.rows.now.facts.ordered c.args.rows.now.state c.arrive.new.rows.state
    c.arrive.new.rows.waiters c.args.r.now _ e.arrived (g.V.Verifier.accepts c.args.keys.now)
    c.arrive.new.rows.facts.ordered c.as_slice-refs.result.now
    c.as_slice-refs.ensures (in_order e.facts) c.args.steps.now c.arrive.new.steps c.judge_all.new.steps
    c.arrive.ensures.ticks c.judge_all.ensures.ticks in
    omega (arith, s)

pub judge_one-requires : goal.judge_one-requires
judge_one-requires g c = λ t.
    let e = c.in_ok-order.ensures in
    let x = c.index-refs-0.result in
    let whole = one_of c.as_slice-refs.result.now x c.if-refs-eq1.true c.index-refs-0.is in (
      [],
      one_half (g.V.Verifier.accepts c.args.keys.now) c.args.rows.now c.arrive.new.rows e.facts e.deletes e.changes
          e.removals e.holders c.args.r.now _ c.as_slice-refs.result.now
          c.args.work.now.deletes c.args.work.now.concerned c.as_slice-refs.ensures c.requires.halfway
          c.requires.fresh.absent e.arrived x whole,
      one_able (g.V.Verifier.accepts c.args.keys.now) c.args.rows.now c.arrive.new.rows e.facts e.deletes e.changes
          e.removals e.holders c.args.r.now _ c.as_slice-refs.result.now
          c.args.work.now.deletes c.args.work.now.concerned c.as_slice-refs.ensures c.requires.halfway
          c.requires.fresh.absent e.arrived x whole,
    )

pub returns-then-refs-eq1-clause-halfway : goal.returns-then-refs-eq1-clause-halfway
returns-then-refs-eq1-clause-halfway g c =
    let e = c.in_ok-order.ensures in
    let x = c.index-refs-0.result in
    let whole = one_of c.as_slice-refs.result.now x c.if-refs-eq1.true c.index-refs-0.is in
    ok_then c.judge_one.result (λ f. f []
    (one_half (g.V.Verifier.accepts c.args.keys.now) c.args.rows.now c.arrive.new.rows e.facts e.deletes e.changes
    e.removals e.holders c.args.r.now _ c.as_slice-refs.result.now
    c.args.work.now.deletes c.args.work.now.concerned c.as_slice-refs.ensures c.requires.halfway
    c.requires.fresh.absent e.arrived x whole)
    (one_able (g.V.Verifier.accepts c.args.keys.now) c.args.rows.now c.arrive.new.rows e.facts e.deletes e.changes
    e.removals e.holders c.args.r.now _ c.as_slice-refs.result.now
    c.args.work.now.deletes c.args.work.now.concerned c.as_slice-refs.ensures c.requires.halfway
    c.requires.fresh.absent e.arrived x whole)) c.judge_one.ensures.halfway

pub returns-then-refs-eq1-clause-adds : goal.returns-then-refs-eq1-clause-adds
returns-then-refs-eq1-clause-adds g c =
    let e = c.in_ok-order.ensures in
    let x = c.index-refs-0.result in
    let whole = one_of c.as_slice-refs.result.now x c.if-refs-eq1.true c.index-refs-0.is in
    on_ok_weaker c.judge_one.result
    (freed_adds c.args.rows.now.facts.ordered c.args.rows.now.state c.arrive.new.rows.state c.arrive.new.rows.waiters
    c.args.r.now _ e.arrived (g.V.Verifier.accepts c.args.keys.now) c.args.rows.now.facts.ordered
    c.arrive.new.rows.facts.ordered (x ∷ [])
    c.args.work.now.deletes c.judge_one.new.work.deletes c.args.work.now.concerned c.judge_one.new.work.concerned
    (sym whole ∙ c.as_slice-refs.ensures) (in_order e.facts)) c.judge_one.ensures.adds

pub returns-then-refs-eq1-clause-ticks : goal.returns-then-refs-eq1-clause-ticks
returns-then-refs-eq1-clause-ticks g c = λ n few.
    let a = g.V.Verifier.accepts c.args.keys.now in
    let e = c.in_ok-order.ensures in
    let x = c.index-refs-0.result in
    let whole = one_of c.as_slice-refs.result.now x c.if-refs-eq1.true c.index-refs-0.is in
    let all : AreTaken c.arrive.new.rows = λ y. e.arrived.same y ∙ sym (c.requires.others y)
    ∙ ap (λ (f : Facts). contains_key f y) (sym (in_order e.facts)) in
    let here = few x (alone_among c.args.rows.now.facts.ordered c.args.rows.now.state c.arrive.new.rows.state
    c.arrive.new.rows.waiters c.args.r.now _ e.arrived x (sym whole ∙ c.as_slice-refs.ensures)) in
    let t = c.judge_one.ensures.more_ticks
    (one_half (g.V.Verifier.accepts c.args.keys.now) c.args.rows.now c.arrive.new.rows e.facts e.deletes e.changes
    e.removals e.holders c.args.r.now _ c.as_slice-refs.result.now
    c.args.work.now.deletes c.args.work.now.concerned c.as_slice-refs.ensures c.requires.halfway
    c.requires.fresh.absent e.arrived x whole)
    (one_able (g.V.Verifier.accepts c.args.keys.now) c.args.rows.now c.arrive.new.rows e.facts e.deletes e.changes
    e.removals e.holders c.args.r.now _ c.as_slice-refs.result.now
    c.args.work.now.deletes c.args.work.now.concerned c.as_slice-refs.ensures c.requires.halfway
    c.requires.fresh.absent e.arrived x whole) all n (few_still a c.args.rows.now.facts.ordered
    c.arrive.new.rows.facts.ordered (in_order e.facts) x n here) in
    let s = alone_sum c.args.rows.now.facts.ordered c.args.rows.now.state c.arrive.new.rows.state
    c.arrive.new.rows.waiters c.args.r.now _ e.arrived a c.arrive.new.rows.facts.ordered x
    (sym whole ∙ c.as_slice-refs.ensures) (in_order e.facts)
    c.args.steps.now c.arrive.new.steps c.judge_one.new.steps (8 + 4 * n) c.arrive.ensures.ticks
    (let u = t in omega (arith, u)) in
    omega (arith, s)

pub returns-then-refs-eq1-clause-taken : goal.returns-then-refs-eq1-clause-taken
returns-then-refs-eq1-clause-taken g c =
    on_ok_weaker c.judge_one.result (λ told y. told y ∙ c.in_ok-order.ensures.arrived.same y) c.judge_one.ensures.taken

-- a claim that adds one value, on which nothing depends

pub returns-in_err-order-clause-few_ticks : goal.returns-in_err-order-clause-few_ticks
returns-in_err-order-clause-few_ticks g c = λ it.
    let few_first = arrival_few c.args.rows.now.facts.ordered (g.V.Verifier.accepts c.args.keys.now) c.args.r.now it
    c.args.rows.now.state c.requires.others in
    omega (arith, few_first, c.arrive.ensures.ticks)

pub returns-clause-idle : goal.returns-clause-idle
returns-clause-idle g c = λ it idle.
    let a = g.V.Verifier.accepts c.args.keys.now in
    let old = c.args.rows.now in
    let e = c.in_ok-order.ensures in
    let refs = c.as_slice-refs.result.now in
    let few = order_few old.facts.ordered a c.args.r.now it old.state c.arrive.new.rows.state c.arrive.new.rows.waiters
    c.requires.others _ e.arrived in
    let none = none_left refs (subst (λ (xs : List (List ℕ)). length xs ≤ 1) (sym c.as_slice-refs.ensures) few)
    c.if-refs-eq1.false in
    on_ok_weaker c.judge_all.result
    (still_idle c.arrive.new.rows.facts.ordered a c.args.work.now.deletes c.args.work.now.concerned idle refs
    c.judge_all.new.work.deletes c.judge_all.new.work.concerned none) c.judge_all.ensures.adds

pub returns-clause-few_ticks : goal.returns-clause-few_ticks
returns-clause-few_ticks g c = λ it.
    let a = g.V.Verifier.accepts c.args.keys.now in
    let old = c.args.rows.now in
    let e = c.in_ok-order.ensures in
    let refs = c.as_slice-refs.result.now in
    let few = order_few old.facts.ordered a c.args.r.now it old.state c.arrive.new.rows.state c.arrive.new.rows.waiters
    c.requires.others _ e.arrived in
    let none = none_left refs (subst (λ (xs : List (List ℕ)). length xs ≤ 1) (sym c.as_slice-refs.ensures) few)
    c.if-refs-eq1.false in
    let few_first = arrival_few c.args.rows.now.facts.ordered (g.V.Verifier.accepts c.args.keys.now) c.args.r.now it
    c.args.rows.now.state c.requires.others in
    let no_looks = ap (sum_by (look_steps c.arrive.new.rows.facts.ordered a)) none in
    omega (arith, few_first, no_looks, c.arrive.ensures.ticks, c.judge_all.ensures.ticks)

pub returns-then-refs-eq1-clause-idle : goal.returns-then-refs-eq1-clause-idle
returns-then-refs-eq1-clause-idle g c = λ it idle.
    let a = g.V.Verifier.accepts c.args.keys.now in
    let old = c.args.rows.now in
    let e = c.in_ok-order.ensures in
    let x = c.index-refs-0.result in
    let whole = one_of c.as_slice-refs.result.now x c.if-refs-eq1.true c.index-refs-0.is in
    let it_is = order_only old.facts.ordered a c.args.r.now it old.state c.arrive.new.rows.state
    c.arrive.new.rows.waiters c.requires.others _ e.arrived x (sym whole ∙ c.as_slice-refs.ensures) in
    let last : IsLastToJudge a x c.args.work.now.deletes c.args.work.now.concerned c.arrive.new.rows = record {
      halfway = one_half a old c.arrive.new.rows e.facts e.deletes e.changes e.removals e.holders c.args.r.now _
          c.as_slice-refs.result.now c.args.work.now.deletes c.args.work.now.concerned c.as_slice-refs.ensures
          c.requires.halfway c.requires.fresh.absent e.arrived x whole;
      able = one_able a old c.arrive.new.rows e.facts e.deletes e.changes e.removals e.holders c.args.r.now _
          c.as_slice-refs.result.now c.args.work.now.deletes c.args.work.now.concerned c.as_slice-refs.ensures
          c.requires.halfway c.requires.fresh.absent e.arrived x whole;
      taken = λ y. e.arrived.same y ∙ sym (c.requires.others y)
          ∙ ap (λ (f : Facts). contains_key f y) (sym (in_order e.facts));
      adds = subst (λ (f : Facts). IsAddedAlone f a x) (sym (in_order e.facts))
          (subst (λ (y : List ℕ). IsAddedAlone old.facts.ordered a y) (sym it_is) it);
    } in
    c.judge_one.ensures.idle refl last idle

pub returns-then-refs-eq1-clause-few_ticks : goal.returns-then-refs-eq1-clause-few_ticks
returns-then-refs-eq1-clause-few_ticks g c = λ it.
    let a = g.V.Verifier.accepts c.args.keys.now in
    let old = c.args.rows.now in
    let e = c.in_ok-order.ensures in
    let x = c.index-refs-0.result in
    let whole = one_of c.as_slice-refs.result.now x c.if-refs-eq1.true c.index-refs-0.is in
    let it_is = order_only old.facts.ordered a c.args.r.now it old.state c.arrive.new.rows.state
    c.arrive.new.rows.waiters c.requires.others _ e.arrived x (sym whole ∙ c.as_slice-refs.ensures) in
    let last : IsLastToJudge a x c.args.work.now.deletes c.args.work.now.concerned c.arrive.new.rows = record {
      halfway = one_half a old c.arrive.new.rows e.facts e.deletes e.changes e.removals e.holders c.args.r.now _
          c.as_slice-refs.result.now c.args.work.now.deletes c.args.work.now.concerned c.as_slice-refs.ensures
          c.requires.halfway c.requires.fresh.absent e.arrived x whole;
      able = one_able a old c.arrive.new.rows e.facts e.deletes e.changes e.removals e.holders c.args.r.now _
          c.as_slice-refs.result.now c.args.work.now.deletes c.args.work.now.concerned c.as_slice-refs.ensures
          c.requires.halfway c.requires.fresh.absent e.arrived x whole;
      taken = λ y. e.arrived.same y ∙ sym (c.requires.others y)
          ∙ ap (λ (f : Facts). contains_key f y) (sym (in_order e.facts));
      adds = subst (λ (f : Facts). IsAddedAlone f a x) (sym (in_order e.facts))
          (subst (λ (y : List ℕ). IsAddedAlone old.facts.ordered a y) (sym it_is) it);
    } in
    let few_first = arrival_few c.args.rows.now.facts.ordered (g.V.Verifier.accepts c.args.keys.now) c.args.r.now it
    c.args.rows.now.state c.requires.others in
    let t = c.judge_one.ensures.few_ticks refl last in
    omega (arith, few_first, t, c.arrive.ensures.ticks)
