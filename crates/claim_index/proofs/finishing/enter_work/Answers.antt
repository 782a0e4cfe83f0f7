-- A single claim, or all of them.
use Rattle.std.proofs.Common.{◌≤◌, ◌+◌, ◌∙◌, inl, ℕ, List, [], sym, subst}
use Rattle.std.proofs.lemmas.Result.{on_ok_weaker}
use Rattle.claim_verify.specs.Verifier.{Accepts}
use Rattle.claim_index.specs.Costs.{all_concerned, finish_steps, AddsEntered, AreTaken, EntersWithin, IsCovered}
use Rattle.claim_index.specs.Halfway.{IsHalfway, CanBeFinished}
use Rattle.claim_index.proofs.Alone.{if_ok}
use Rattle.claim_index.proofs.FinishTicks.{enters_less}
use Rattle.claim_index.proofs.finishing.enter_work.Goals as goal

pub enter_alone-requires : goal.enter_alone-requires
enter_alone-requires g c = record {
  finished = subst (λ (ds : List (List ℕ)). CanBeFinished ds c.args.concerned.now c.args.rows.now) c.in-Some.ensures.0
      c.requires.finished;
  able = c.requires.able;
  none = sym c.as_slice.ensures ∙ c.in-Some.ensures.1;
}

pub returns-in-Some-clause-halfway : goal.returns-in-Some-clause-halfway
returns-in-Some-clause-halfway g c = on_ok_weaker c.enter_alone.result
    (λ told accepts half. told accepts
    (subst (λ (ds : List (List ℕ)). IsHalfway accepts [] ds c.args.concerned.now c.args.rows.now) c.in-Some.ensures.0
    half))
    c.enter_alone.ensures.halfway

pub returns-in-Some-clause-adds : goal.returns-in-Some-clause-adds
returns-in-Some-clause-adds g c =
    let rows = c.args.rows.now in
    let cs = c.args.concerned.now in
    on_ok_weaker c.enter_alone.result
    (λ told. subst (λ (ds : List (List ℕ)). (accepts : Accepts) → IsHalfway accepts [] ds cs rows → AreTaken rows
    → AddsEntered rows.facts.ordered accepts ds cs c.enter_alone.new.concerned) (sym c.in-Some.ensures.0) told)
    c.enter_alone.ensures.adds

pub returns-in-Some-clause-ticks : goal.returns-in-Some-clause-ticks
returns-in-Some-clause-ticks g c =
    let rows = c.args.rows.now in
    let cs = c.args.concerned.now in
    subst (λ (ds : List (List ℕ)). (accepts : Accepts) (heads ps : List (List ℕ)) → IsHalfway accepts [] ds cs rows
    → AreTaken rows
    → IsCovered rows.facts.ordered accepts (all_concerned rows.facts.ordered accepts ds cs) heads ps
    → c.enter_alone.new.steps ≤ c.args.steps.now + finish_steps rows.facts.ordered accepts ds heads ps)
    (sym c.in-Some.ensures.0) c.enter_alone.ensures.ticks

pub returns-in-Some-clause-within : goal.returns-in-Some-clause-within
returns-in-Some-clause-within g c =
    let rows = c.args.rows.now in
    let cs = c.args.concerned.now in
    on_ok_weaker c.enter_alone.result
    (λ told. subst (λ (ds : List (List ℕ)). (accepts : Accepts) (heads ps : List (List ℕ))
    → IsHalfway accepts [] ds cs rows → AreTaken rows
    → IsCovered rows.facts.ordered accepts (all_concerned rows.facts.ordered accepts ds cs) heads ps
    → EntersWithin rows.facts.ordered accepts ds c.enter_alone.new.concerned heads ps c.args.steps.now
    c.enter_alone.new.steps) (sym c.in-Some.ensures.0) told)
    c.enter_alone.ensures.within

pub returns-in-None-clause-ticks : goal.returns-in-None-clause-ticks
returns-in-None-clause-ticks g c = λ accepts heads ps half all is.
    enters_less c.args.rows.now.facts.ordered accepts c.args.deletes.now heads ps c.args.steps.now c.enter_all.new.steps
    (c.enter_all.ensures.ticks accepts half all)

pub returns-in-None-clause-within : goal.returns-in-None-clause-within
returns-in-None-clause-within g c = if_ok c.enter_all.result
    (λ accepts heads ps half all is. inl (c.enter_all.ensures.ticks accepts half all))
