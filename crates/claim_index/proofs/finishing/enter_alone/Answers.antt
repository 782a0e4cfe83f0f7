-- What `enter`, `concern_all` and `settle_or_concern` say, together.
use Rattle.std.proofs.Common.{◌∙◌, ◌∷◌, [], ap}
use Rattle.std.proofs.lemmas.Result.{on_ok_weaker}
use Rattle.std.specs.FinMap.{contains_key}
use Rattle.index_rows.specs.States.{States}
use Rattle.index_meaning.specs.Progress.{beside_count}
use Rattle.index_meaning.proofs.Keeping.{same_refs}
use Rattle.claim_index.specs.Costs.{refolds_steps}
use Rattle.claim_index.proofs.Alone.{adds_none, alone_adds, alone_finished, alone_halfway, alone_ticks, alone_within}
use Rattle.claim_index.proofs.Alone.{entering_ticks, entering_within, front_ticks, if_ok, is_cut, is_folded}
use Rattle.claim_index.proofs.Alone.{mid_finished, none_finished, none_halfway, still_able, IsCut, IsEnteredBeside}
use Rattle.claim_index.proofs.LoopTicks.{left}
use Rattle.claim_index.proofs.OneFollowed.{own_bytes}
use Rattle.claim_index.proofs.Refolds.{IsSameBeside}
use Rattle.claim_index.proofs.finishing.enter_alone.Goals as goal
use Rattle.claim_index.proofs.finishing.enter_alone.Goals.{After-settle_or_concern, In_default, In-Some}

pub enter-requires-clause-fresh : goal.enter-requires-clause-fresh
enter-requires-clause-fresh g c = c.requires.finished.fresh c.args.d.now (left _ (own_bytes c.args.d.now))

pub returns-in_err-changed-clause-ticks : goal.returns-in_err-changed-clause-ticks
returns-in_err-changed-clause-ticks g c = λ accepts heads ps half all is.
    entering_ticks accepts c.args.rows.now c.args.d.now c.args.concerned.now heads ps half all c.args.steps.now
    c.enter.new.steps c.enter.ensures.ticks

-- ---- nothing changed

entered_of : (g : _) (c : goal.In_default g)
    → IsEnteredBeside c.args.rows.now c.enter.new.rows c.args.d.now c.in_ok-changed.changed
entered_of g c =
    let told = c.enter.ensures in
    record {
      is = c.in_ok-changed.ensures.entered;
      facts = told.facts;
      waiters = told.waiters;
      changes = told.changes;
      removals = told.removals;
      holders = told.holders;
    }

pub returns-in_default-clause-finished : goal.returns-in_default-clause-finished
returns-in_default-clause-finished g c =
    let at = (goal.at.returns-in_default-clause-finished g c).In_default in
    none_finished c.args.rows.now c.enter.new.rows c.args.d.now c.in_ok-changed.changed (entered_of g at)
    c.as_slice.result.now c.as_slice.ensures c.in_default.ensures.cases c.args.concerned.now c.requires.finished

pub returns-in_default-clause-halfway : goal.returns-in_default-clause-halfway
returns-in_default-clause-halfway g c =
    let at = (goal.at.returns-in_default-clause-halfway g c).In_default in
    none_halfway c.args.rows.now c.enter.new.rows c.args.d.now c.in_ok-changed.changed (entered_of g at)
    c.as_slice.result.now c.as_slice.ensures c.in_default.ensures.cases c.args.concerned.now

pub returns-in_default-clause-adds : goal.returns-in_default-clause-adds
returns-in_default-clause-adds g c = λ accepts half all.
    adds_none c.args.rows.now.facts.ordered accepts (c.args.d.now ∷ []) c.args.concerned.now

pub returns-in_default-clause-ticks : goal.returns-in_default-clause-ticks
returns-in_default-clause-ticks g c = λ accepts heads ps half all is.
    entering_ticks accepts c.args.rows.now c.args.d.now c.args.concerned.now heads ps half all c.args.steps.now
    c.enter.new.steps c.enter.ensures.ticks

pub returns-in_default-clause-within : goal.returns-in_default-clause-within
returns-in_default-clause-within g c = λ accepts heads ps half all is.
    entering_within accepts c.args.rows.now c.args.d.now c.args.concerned.now heads ps half all c.args.steps.now
    c.enter.new.steps c.enter.ensures.ticks c.args.concerned.now

-- ---- something changed

cut_of : (g : _) (c : goal.In-Some g)
    → IsCut c.args.rows.now c.enter.new.rows c.args.d.now c.in_ok-changed.changed c.in-Some.front.now c.in-Some.last.now
cut_of g c =
    let told = c.enter.ensures in
    let entered : IsEnteredBeside c.args.rows.now c.enter.new.rows c.args.d.now c.in_ok-changed.changed = record {
      is = c.in_ok-changed.ensures.entered;
      facts = told.facts;
      waiters = told.waiters;
      changes = told.changes;
      removals = told.removals;
      holders = told.holders;
    } in
    is_cut c.args.rows.now c.enter.new.rows c.args.d.now c.in_ok-changed.changed c.as_slice.result.now
    c.in-Some.front.now c.in-Some.last.now entered c.in_ok-changed.ensures.front c.as_slice.ensures
    c.in-Some.ensures.cases.0

pub returns-in_err-concern_all-clause-ticks : goal.returns-in_err-concern_all-clause-ticks
returns-in_err-concern_all-clause-ticks g c = λ accepts heads ps half all is.
    let at = (goal.at.returns-in_err-concern_all-clause-ticks g c).In-Some in
    front_ticks c.args.rows.now c.enter.new.rows c.args.d.now c.in_ok-changed.changed c.in-Some.front.now
    c.in-Some.last.now (cut_of g at) c.args.concerned.now c.requires.none accepts half all heads ps c.args.steps.now
    c.enter.new.steps c.concern_all.new.steps c.enter.ensures.ticks c.concern_all.ensures.ticks

pub settle_or_concern-requires : goal.settle_or_concern-requires
settle_or_concern-requires g c =
    let rows = c.args.rows.now in
    let mid = c.enter.new.rows in
    let entered = (cut_of g (goal.at.settle_or_concern-requires g c).In-Some).entered in
    let can = mid_finished rows mid c.args.d.now c.in_ok-changed.changed entered c.args.concerned.now
    c.requires.finished in
    record {
      counted = can.counted;
      listed = can.listed;
      able = still_able rows mid c.args.d.now c.in_ok-changed.changed entered c.requires.able;
    }

pub returns-clause-taken : goal.returns-clause-taken
returns-clause-taken g c = if_ok c.settle_or_concern.result
    (λ y. ap (λ (s : States). contains_key s y) c.settle_or_concern.ensures.state
    ∙ same_refs beside_count c.args.rows.now.state c.enter.new.rows.state c.in_ok-changed.ensures.entered.kept y)

same_of : (g : _) (c : goal.After-settle_or_concern g) → IsSameBeside c.enter.new.rows c.settle_or_concern.new.rows
same_of g c =
    let seen = c.settle_or_concern.ensures in
    record {
      facts = seen.facts;
      state = seen.state;
      waiters = seen.waiters;
      deletes = seen.deletes;
      changes = seen.changes;
      removals = seen.removals;
    }

pub returns-clause-finished : goal.returns-clause-finished
returns-clause-finished g c =
    let at = goal.at.returns-clause-finished g c in
    on_ok_weaker c.settle_or_concern.result
    (λ seen. alone_finished c.args.rows.now c.enter.new.rows c.args.d.now c.in_ok-changed.changed c.in-Some.front.now
    c.in-Some.last.now (cut_of g at.In-Some) c.args.concerned.now c.requires.none c.concern_all.new.concerned
    c.in_ok-concern_all.ensures.added c.settle_or_concern.new.rows c.settle_or_concern.new.concerned
    c.concern_all.new.steps c.settle_or_concern.new.steps seen (same_of g at.After-settle_or_concern)
    c.requires.finished)
    c.settle_or_concern.ensures.seen

pub returns-clause-halfway : goal.returns-clause-halfway
returns-clause-halfway g c =
    let at = goal.at.returns-clause-halfway g c in
    on_ok_weaker c.settle_or_concern.result
    (λ seen. alone_halfway c.args.rows.now c.enter.new.rows c.args.d.now c.in_ok-changed.changed c.in-Some.front.now
    c.in-Some.last.now (cut_of g at.In-Some) c.args.concerned.now c.requires.none c.concern_all.new.concerned
    c.in_ok-concern_all.ensures.added c.settle_or_concern.new.rows c.settle_or_concern.new.concerned
    c.concern_all.new.steps c.settle_or_concern.new.steps seen (same_of g at.After-settle_or_concern))
    c.settle_or_concern.ensures.seen

pub returns-clause-adds : goal.returns-clause-adds
returns-clause-adds g c =
    let cut = cut_of g (goal.at.returns-clause-adds g c).In-Some in
    on_ok_weaker c.settle_or_concern.result
    (λ seen. alone_adds c.args.rows.now c.enter.new.rows c.args.d.now c.in_ok-changed.changed c.in-Some.front.now
    c.in-Some.last.now cut c.args.concerned.now c.requires.none c.concern_all.new.concerned
    c.in_ok-concern_all.ensures.added c.settle_or_concern.new.rows c.settle_or_concern.new.concerned
    c.concern_all.new.steps c.settle_or_concern.new.steps seen)
    c.settle_or_concern.ensures.seen

pub returns-clause-ticks : goal.returns-clause-ticks
returns-clause-ticks g c = λ accepts heads ps half all is.
    let rows = c.args.rows.now in
    let cut = cut_of g (goal.at.returns-clause-ticks g c).In-Some in
    let folds = is_folded rows c.enter.new.rows c.args.d.now c.in_ok-changed.changed c.in-Some.front.now
    c.in-Some.last.now cut c.args.concerned.now c.requires.none accepts half all heads ps is in
    alone_ticks rows c.enter.new.rows c.args.d.now c.in_ok-changed.changed c.in-Some.front.now c.in-Some.last.now cut
    c.args.concerned.now c.requires.none accepts half all heads ps c.args.steps.now c.enter.new.steps
    c.concern_all.new.steps c.enter.ensures.ticks c.concern_all.ensures.ticks c.settle_or_concern.new.steps
    (c.settle_or_concern.ensures.ticks (refolds_steps rows.facts.ordered accepts heads ps) folds)

pub returns-clause-within : goal.returns-clause-within
returns-clause-within g c =
    let rows = c.args.rows.now in
    let cut = cut_of g (goal.at.returns-clause-within g c).In-Some in
    on_ok_weaker c.settle_or_concern.result
    (λ seen accepts heads ps half all is.
    let folds = is_folded rows c.enter.new.rows c.args.d.now c.in_ok-changed.changed c.in-Some.front.now
    c.in-Some.last.now cut c.args.concerned.now c.requires.none accepts half all heads ps is in
    alone_within rows c.enter.new.rows c.args.d.now c.in_ok-changed.changed c.in-Some.front.now c.in-Some.last.now cut
    c.args.concerned.now c.requires.none c.concern_all.new.concerned c.in_ok-concern_all.ensures.added
    c.settle_or_concern.new.rows c.settle_or_concern.new.concerned c.concern_all.new.steps
    c.settle_or_concern.new.steps seen accepts half all heads ps c.args.steps.now c.enter.new.steps
    c.enter.ensures.ticks c.concern_all.ensures.ticks
    (c.settle_or_concern.ensures.ticks (refolds_steps rows.facts.ordered accepts heads ps) folds))
    c.settle_or_concern.ensures.seen
