-- What `enter` and `concern_all` say, together.
use Rattle.std.proofs.lemmas.Result.{on_ok_weaker}
use Rattle.claim_index.proofs.OneEntered.{can_go_on, goes_on}
use Rattle.claim_index.proofs.EnterOne.{one_failed, one_adds, one_ticks}
use Rattle.claim_index.proofs.finishing.enter_one.Goals as goal

pub returns-clause-finished : goal.returns-clause-finished
returns-clause-finished g c =
    on_ok_weaker c.concern_all.result
    (can_go_on c.args.rows.now c.enter.new.rows c.args.d.now c.in_ok-changed.changed c.in_ok-changed.ensures.entered
    c.enter.ensures.facts c.enter.ensures.waiters c.enter.ensures.changes c.enter.ensures.removals
    c.enter.ensures.holders
    c.as_slice.result.now c.args.concerned.now c.concern_all.new.concerned c.as_slice.ensures)
    c.concern_all.ensures.added

pub returns-clause-halfway : goal.returns-clause-halfway
returns-clause-halfway g c =
    on_ok_weaker c.concern_all.result
    (goes_on c.args.rows.now c.enter.new.rows c.args.d.now c.in_ok-changed.changed c.in_ok-changed.ensures.entered
    c.enter.ensures.facts c.enter.ensures.waiters c.enter.ensures.changes c.enter.ensures.removals
    c.enter.ensures.holders
    c.as_slice.result.now c.args.concerned.now c.concern_all.new.concerned c.as_slice.ensures)
    c.concern_all.ensures.added

pub returns-in_err-changed-clause-ticks : goal.returns-in_err-changed-clause-ticks
returns-in_err-changed-clause-ticks g c = λ accepts others half all.
    one_failed accepts c.args.rows.now others c.args.d.now c.args.concerned.now half all c.args.steps.now
    c.enter.new.steps c.enter.ensures.ticks

pub returns-clause-adds : goal.returns-clause-adds
returns-clause-adds g c =
    on_ok_weaker c.concern_all.result
    (λ added accepts others half all. one_adds accepts c.args.rows.now others c.args.d.now c.args.concerned.now half
    all c.enter.new.rows c.enter.ensures.facts c.in_ok-changed.changed c.as_slice.result.now
    c.in_ok-changed.ensures.entered c.as_slice.ensures
    c.in_ok-changed.ensures.front c.args.concerned.now c.concern_all.new.concerned added)
    c.concern_all.ensures.added

pub returns-clause-ticks : goal.returns-clause-ticks
returns-clause-ticks g c = λ accepts others half all.
    one_ticks accepts c.args.rows.now others c.args.d.now c.args.concerned.now half all c.in_ok-changed.changed
    c.as_slice.result.now c.as_slice.ensures
    c.in_ok-changed.ensures.front c.args.steps.now c.enter.new.steps c.concern_all.new.steps c.enter.ensures.ticks
    c.concern_all.ensures.ticks
