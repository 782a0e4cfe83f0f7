-- The claim at hand is the last of those that are left.
use Rattle.std.proofs.Common.{◌≡◌, ◌∙◌, ◌+◌, ◌-◌, [], List, ℕ, ap, subst, take, length, arith}
use Rattle.claim_index.proofs.EnterTicks.{last_within, adds_step, ticks_step, some_ticks, taken_still}
use Rattle.std.specs.List.{list_any}
use Rattle.std.specs.Str.{bytes_eq}
use Rattle.claim_index.specs.Halfway.{IsHalfway, CanBeFinished}
use Rattle.claim_index.proofs.Members.{among_last, take_last, drop_first}
use Rattle.claim_index.proofs.finishing.enter_all.Goals as goal

pub enter_one-requires-clause-fresh : goal.enter_one-requires-clause-fresh
enter_one-requires-clause-fresh g c =
    let d = c.index-deletes-i.result in
    let left = take_last c.args.deletes.now c.claims.i d c.claims-test.true c.claims.auto.i c.index-deletes-i.is in
    c.claims.invariant.entered.finished.fresh d
    (ap (list_any (bytes_eq d)) left ∙ among_last (take (c.claims.i - 1) c.args.deletes.now) d)

pub claims-preserved : goal.claims-preserved
claims-preserved g c =
    let d = c.index-deletes-i.result in
    let left = take_last c.args.deletes.now c.claims.i d c.claims-test.true c.claims.auto.i c.index-deletes-i.is in
    let others = take (c.claims.i - 1) c.args.deletes.now in
    let told = c.in_ok-enter_one.ensures in
    let within = last_within c.claims.i (length c.args.deletes.now) c.claims-test.true c.claims.auto.i in
    let cut = drop_first c.args.deletes.now (c.claims.i - 1) d within c.index-deletes-i.is in
    let same : (c.claims.i - 1) + 1 ≡ c.claims.i = omega (arith, c.claims-test.true) in
    record {
      entered = record {
        facts = c.enter_one.ensures.facts ∙ c.claims.invariant.entered.facts;
        taken = λ y. told.taken y ∙ c.claims.invariant.entered.taken y;
        finished = told.finished others
            (subst (λ (refs : List (List ℕ)). CanBeFinished refs c.claims.concerned c.claims.rows) left
            c.claims.invariant.entered.finished);
        halfway = λ accepts half. told.halfway accepts others
            (subst (λ (refs : List (List ℕ)). IsHalfway accepts [] refs c.claims.concerned c.claims.rows) left
            (c.claims.invariant.entered.halfway accepts half));
      };
      adds = λ accepts half all.
          adds_step c.args.rows.now c.claims.rows c.claims.invariant.entered.facts accepts c.args.deletes.now c.claims.i d cut same c.args.concerned.now c.claims.concerned c.enter_one.new.concerned
          (c.claims.invariant.adds accepts half all)
          (told.adds accepts others (subst (λ (refs : List (List ℕ)). IsHalfway accepts [] refs c.claims.concerned c.claims.rows) left (c.claims.invariant.entered.halfway accepts half))
          (taken_still c.args.rows.now c.claims.rows c.claims.invariant.entered.facts c.claims.invariant.entered.taken all));
      ticks = λ accepts half all.
          ticks_step c.args.rows.now c.claims.rows c.claims.invariant.entered.facts accepts c.args.deletes.now c.claims.i d cut same c.args.steps.now c.claims.steps c.enter_one.new.steps
          (c.claims.invariant.ticks accepts half all)
          (c.enter_one.ensures.ticks accepts others (subst (λ (refs : List (List ℕ)). IsHalfway accepts [] refs c.claims.concerned c.claims.rows) left (c.claims.invariant.entered.halfway accepts half))
          (taken_still c.args.rows.now c.claims.rows c.claims.invariant.entered.facts c.claims.invariant.entered.taken all));
    }

pub returns-in_err-enter_one-clause-ticks : goal.returns-in_err-enter_one-clause-ticks
returns-in_err-enter_one-clause-ticks g c = λ accepts half all.
    let d = c.index-deletes-i.result in
    let left = take_last c.args.deletes.now c.claims.i d c.claims-test.true c.claims.auto.i c.index-deletes-i.is in
    let others = take (c.claims.i - 1) c.args.deletes.now in
    let within = last_within c.claims.i (length c.args.deletes.now) c.claims-test.true c.claims.auto.i in
    let cut = drop_first c.args.deletes.now (c.claims.i - 1) d within c.index-deletes-i.is in
    let same : (c.claims.i - 1) + 1 ≡ c.claims.i = omega (arith, c.claims-test.true) in
    some_ticks c.args.rows.now accepts c.args.deletes.now (c.claims.i - 1) c.args.steps.now c.enter_one.new.steps
    (ticks_step c.args.rows.now c.claims.rows c.claims.invariant.entered.facts accepts c.args.deletes.now c.claims.i d cut same c.args.steps.now c.claims.steps c.enter_one.new.steps
    (c.claims.invariant.ticks accepts half all)
    (c.enter_one.ensures.ticks accepts others (subst (λ (refs : List (List ℕ)). IsHalfway accepts [] refs c.claims.concerned c.claims.rows) left (c.claims.invariant.entered.halfway accepts half))
    (taken_still c.args.rows.now c.claims.rows c.claims.invariant.entered.facts c.claims.invariant.entered.taken all)))
