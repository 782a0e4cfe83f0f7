-- What was entered and what was looked at again, together.
use Rattle.std.proofs.Common.{◌≤◌, ◌+◌, ◌∙◌, ℕ, List, [], sym, subst}
use Rattle.std.proofs.lemmas.Result.{on_ok_weaker}
use Rattle.claim_index.specs.Costs.{all_concerned, finish_steps, AddsEntered, AreTaken, EntersWithin, IsCovered}
use Rattle.claim_index.specs.Halfway.{IsHalfway}
use Rattle.claim_index.proofs.EnterTicks.{taken_still}
use Rattle.claim_index.proofs.FinishTicks.{finish_within}
use Rattle.claim_index.proofs.finishing.finish.Goals as goal

pub returns-clause-taken : goal.returns-clause-taken
returns-clause-taken g c =
    on_ok_weaker c.refold_all.result (λ told y. told y ∙ c.in_ok-enter_work.ensures.taken y) c.refold_all.ensures.taken

pub returns-clause-halfway : goal.returns-clause-halfway
returns-clause-halfway g c =
    on_ok_weaker c.refold_all.result
    (λ told accepts half. told accepts (c.in_ok-enter_work.ensures.halfway accepts
    (subst (λ (refs : List (List ℕ)). IsHalfway accepts [] refs c.args.work.concerned c.args.rows.now)
    (sym c.as_slice.ensures) half)))
    c.refold_all.ensures.halfway

pub returns-in_err-enter_work-clause-ticks : goal.returns-in_err-enter_work-clause-ticks
returns-in_err-enter_work-clause-ticks g c = λ accepts heads ps.
    let rows = c.args.rows.now in
    let cs = c.args.work.concerned in
    subst (λ (ds : List (List ℕ)). IsHalfway accepts [] ds cs rows → AreTaken rows
    → IsCovered rows.facts.ordered accepts (all_concerned rows.facts.ordered accepts ds cs) heads ps
    → c.enter_work.new.steps ≤ c.args.steps.now + finish_steps rows.facts.ordered accepts ds heads ps)
    c.as_slice.ensures (c.enter_work.ensures.ticks accepts heads ps)

pub returns-clause-ticks : goal.returns-clause-ticks
returns-clause-ticks g c = λ accepts heads ps half all is.
    let rows = c.args.rows.now in
    let now = c.enter_work.new.rows in
    let work = c.args.work in
    let concerned = c.enter_work.new.concerned in
    let told = c.in_ok-enter_work.ensures in
    let begun = subst (λ (refs : List (List ℕ)). IsHalfway accepts [] refs work.concerned rows) (sym c.as_slice.ensures)
    half in
    let adds = subst (λ (refs : List (List ℕ)). AddsEntered rows.facts.ordered accepts refs work.concerned concerned)
    c.as_slice.ensures (told.adds accepts begun all) in
    let within = subst (λ (ds : List (List ℕ)). IsHalfway accepts [] ds work.concerned rows → AreTaken rows
    → IsCovered rows.facts.ordered accepts (all_concerned rows.facts.ordered accepts ds work.concerned) heads ps
    → EntersWithin rows.facts.ordered accepts ds concerned heads ps c.args.steps.now c.enter_work.new.steps)
    c.as_slice.ensures (told.within accepts heads ps) half all is in
    finish_within accepts rows now c.enter_work.ensures.facts work.deletes work.concerned concerned heads ps adds
    (told.halfway accepts begun) (taken_still rows now c.enter_work.ensures.facts told.taken all) c.args.steps.now
    c.enter_work.new.steps c.refold_all.new.steps (c.refold_all.ensures.ticks accepts) within is
