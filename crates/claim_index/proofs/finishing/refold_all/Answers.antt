-- Each permanode that was looked at is right.
use Rattle.std.proofs.Common.{ℕ, List, ◌∙◌, ◌+◌, ap, subst, drop, arith}
use Rattle.std.proofs.lemmas.List.Sums.{sum_by-take-le}
use Rattle.attr_fold.specs.Refolded.{refold_steps}
use Rattle.claim_index.proofs.LoopTicks.{sum_next, sum_upto}
use Rattle.claim_index.proofs.RefoldSum.{same_steps, refolds_whole}
use Rattle.std.proofs.Math.ListN.{drop_of_length-le}
use Rattle.std.specs.List.{list_any}
use Rattle.std.specs.Str.{bytes_eq}
use Rattle.std.specs.FinMap.{contains_key}
use Rattle.claim_index.proofs.Members.{drop_first}
use Rattle.claim_index.proofs.Refolds.{IsSameBeside, same-refl, same-trans, AreHeldBut, held_now, held_by_members}
use Rattle.claim_index.proofs.Refolds.{still_finished, still_halfway}
use Rattle.claim_index.proofs.finishing.refold_all.Goals as goal

pub loop-p-init : goal.loop-p-init
loop-p-init g c =
    let rows = c.args.rows.now in
    let items = c.as_slice-p-items.result.now in
    let same = held_by_members c.args.concerned items rows
    (λ q. ap (list_any (bytes_eq q)) c.as_slice-p-items.ensures.refs ∙ c.in_ok-refs.ensures q) in
    record {
      refolded = record {
        same = same-refl rows;
        finished = still_finished rows rows (same-refl rows) items c.args.concerned c.requires (same c.requires.held);
      };
      ticks = omega arith;
    }

pub refold-requires-clause-counted : goal.refold-requires-clause-counted
refold-requires-clause-counted g c = c.loop-p.invariant.refolded.finished.counted

pub refold-requires-clause-listed : goal.refold-requires-clause-listed
refold-requires-clause-listed g c = c.loop-p.invariant.refolded.finished.listed

pub refold-requires-clause-held : goal.refold-requires-clause-held
refold-requires-clause-held g c = (
  drop c.loop-p.p-index c.as_slice-p-items.result.now,
  c.loop-p.invariant.refolded.finished.held,
)

pub loop-p-preserved : goal.loop-p-preserved
loop-p-preserved g c =
    let told = c.refold.ensures in
    let same : IsSameBeside c.loop-p.rows c.refold.new.rows = record {
      facts = told.facts;
      state = told.state;
      waiters = told.waiters;
      deletes = told.deletes;
      changes = told.changes;
      removals = told.removals;
    } in
    let left = drop c.loop-p.p-index c.as_slice-p-items.result.now in
    let rest = drop (c.loop-p.p-index + 1) c.as_slice-p-items.result.now in
    let first = drop_first c.as_slice-p-items.result.now c.loop-p.p-index c.p-item.result c.loop-p-test.true
    c.p-item.is in
    let held = c.in_ok-refold.ensures.held rest
    (subst (λ (refs : List (List ℕ)). AreHeldBut refs c.loop-p.rows) first c.loop-p.invariant.refolded.finished.held) in
    let all = c.loop-p.invariant.refolded.same in
    let steps = same_steps c.args.rows.now c.loop-p.rows all.facts all.state all.changes c.p-item.result in
    let next = sum_next (refold_steps c.args.rows.now.facts.ordered c.args.rows.now.state c.args.rows.now.changes)
    c.as_slice-p-items.result.now c.loop-p.p-index c.p-item.result c.loop-p-test.true c.p-item.is in
    record {
      refolded = record {
        same = same-trans c.args.rows.now c.loop-p.rows c.refold.new.rows c.loop-p.invariant.refolded.same same;
        finished = still_finished c.loop-p.rows c.refold.new.rows same rest left c.loop-p.invariant.refolded.finished
            (held_now c.loop-p.rows c.refold.new.rows same rest held);
      };
      ticks = omega (arith, c.loop-p.invariant.ticks, c.refold.ensures.ticks, steps, next);
    }

pub returns-clause-taken : goal.returns-clause-taken
returns-clause-taken g c = λ y. ap (λ state. contains_key state y) c.loop-p.invariant.refolded.same.state

pub returns-clause-halfway : goal.returns-clause-halfway
returns-clause-halfway g c =
    let none = drop_of_length-le c.as_slice-p-items.result.now c.loop-p-test.false in
    let held = subst (λ (refs : List (List ℕ)). AreHeldBut refs c.loop-p.rows) none
    c.loop-p.invariant.refolded.finished.held in
    λ accepts half.
    still_halfway c.args.rows.now c.loop-p.rows c.loop-p.invariant.refolded.same accepts c.args.concerned held half

pub returns-in_err-refold-clause-ticks : goal.returns-in_err-refold-clause-ticks
returns-in_err-refold-clause-ticks g c = λ accepts heads ps half taken is.
    let items = c.as_slice-p-items.result.now in
    let all = c.loop-p.invariant.refolded.same in
    let steps = same_steps c.args.rows.now c.loop-p.rows all.facts all.state all.changes c.p-item.result in
    let upto = sum_upto (refold_steps c.args.rows.now.facts.ordered c.args.rows.now.state c.args.rows.now.changes)
    items c.loop-p.p-index c.p-item.result c.loop-p-test.true c.p-item.is in
    let whole = refolds_whole c.args.rows.now accepts items c.args.concerned heads ps c.as_slice-p-items.ensures.order
    (λ q. ap (list_any (bytes_eq q)) c.as_slice-p-items.ensures.refs ∙ c.in_ok-refs.ensures q) half.changed taken is in
    omega (arith, c.loop-p.invariant.ticks, c.refold.ensures.ticks, steps, upto, whole)

pub returns-clause-ticks : goal.returns-clause-ticks
returns-clause-ticks g c = λ accepts heads ps half taken is.
    let items = c.as_slice-p-items.result.now in
    let part = sum_by-take-le (refold_steps c.args.rows.now.facts.ordered c.args.rows.now.state
    c.args.rows.now.changes) items c.loop-p.p-index in
    let whole = refolds_whole c.args.rows.now accepts items c.args.concerned heads ps c.as_slice-p-items.ensures.order
    (λ q. ap (list_any (bytes_eq q)) c.as_slice-p-items.ensures.refs ∙ c.in_ok-refs.ensures q) half.changed taken is in
    omega (arith, c.loop-p.invariant.ticks, part, whole)
