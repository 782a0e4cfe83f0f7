use Rattle.std.proofs.Common.{◌≡◌, ◌+◌, ℕ, List, Some, drop, arith}
use Rattle.salvage_scan.specs.declared.found.Clean.{Clean}
use Rattle.salvage_scan.specs.Scan.{joined}
use Rattle.salvage_scan.specs.Pieces.{ScanRun}
use Rattle.salvage_scan.proofs.Telling.{tells_nothing, kept_step, passed_step, junk_step, nothing_waits}
use Rattle.salvage_scan.proofs.NoHeader.{run_told, stays_broken}
use Rattle.salvage_scan.proofs.scanning.tell.Goals as goal

pub overflow_add-at : goal.overflow_add-at
overflow_add-at c =
    let t = kept_step c.args.last c.args.place c.args.bytes.now c.places.at _ _ _ c.places-test.true c.in-Kept.ensures.front in
    omega (arith, t.within, c.requires)

pub overflow_add-place : goal.overflow_add-place
overflow_add-place c =
    let t = kept_step c.args.last c.args.place c.args.bytes.now c.places.at _ _ _ c.places-test.true c.in-Kept.ensures.front in
    omega (arith, t.within, c.requires)

pub overflow_add-at-in-Kept : goal.overflow_add-at-in-Kept
overflow_add-at-in-Kept c =
    let t = kept_step c.args.last c.args.place c.args.bytes.now c.places.at _ _ _ c.places-test.true c.in-Kept.ensures.front in
    omega (arith, t.within, c.requires)

pub overflow_add-at-in-Kept-2 : goal.overflow_add-at-in-Kept-2
overflow_add-at-in-Kept-2 c =
    let t = kept_step c.args.last c.args.place c.args.bytes.now c.places.at _ _ _ c.places-test.true c.in-Kept.ensures.front in
    omega (arith, t.within, c.requires)

pub renew-requires-clause-at : goal.renew-requires-clause-at
renew-requires-clause-at c =
    let t = kept_step c.args.last c.args.place c.args.bytes.now c.places.at _ _ _ c.places-test.true c.in-Kept.ensures.front in
    t.within

pub places-smaller-in-Kept : goal.places-smaller-in-Kept
places-smaller-in-Kept c =
    let t = kept_step c.args.last c.args.place c.args.bytes.now c.places.at _ _ _ c.places-test.true c.in-Kept.ensures.front in
    omega (arith, t.within, t.moves)

pub places-preserved-in-Kept : goal.places-preserved-in-Kept
places-preserved-in-Kept c =
    let t = kept_step c.args.last c.args.place c.args.bytes.now c.places.at _ _ _ c.places-test.true c.in-Kept.ensures.front in
    record {
      within = t.within;
      leads = rw c.in_ok-push-in-Kept.ensures.ok (t.leads c.args.clean c.places.clean c.places.found c.places.invariant.leads);
      known = c.renew.ensures;
    }

pub overflow_add-at-in-Passed : goal.overflow_add-at-in-Passed
overflow_add-at-in-Passed c =
    let t = passed_step c.args.last c.args.place c.args.bytes.now c.places.at _ c.places-test.true c.in-Passed.ensures.front in
    omega (arith, t.within, c.requires)

pub places-smaller-in-Passed : goal.places-smaller-in-Passed
places-smaller-in-Passed c =
    let t = passed_step c.args.last c.args.place c.args.bytes.now c.places.at _ c.places-test.true c.in-Passed.ensures.front in
    omega (arith, t.within, t.moves)

pub places-preserved-in-Passed : goal.places-preserved-in-Passed
places-preserved-in-Passed c =
    let t = passed_step c.args.last c.args.place c.args.bytes.now c.places.at _ c.places-test.true c.in-Passed.ensures.front in
    record {
      within = t.within;
      leads = tells_nothing c.args.last c.args.place c.args.bytes.now c.places.at _ _ c.args.clean c.places.clean c.places.found t c.places.invariant.leads;
      known = rw (c.leave.ensures, c.next_front.ensures.records) c.places.invariant.known;
    }

pub past_junk-at-requires : goal.past_junk-at-requires
past_junk-at-requires c =
    let t = junk_step c.args.last c.args.place c.args.bytes.now c.places.at c.places-test.true c.in-Junk.ensures.front in
    t.within

pub places-smaller : goal.places-smaller
places-smaller c = omega (arith, c.past_junk-at.ensures.after, c.past_junk-at.ensures.within)

pub places-preserved : goal.places-preserved
places-preserved c =
    let x : List ℕ = c.args.bytes.now in
    let at : ℕ = c.places.at in
    let now : Clean = c.broken_at-clean.result in
    let t = junk_step c.args.last c.args.place x at c.places-test.true c.in-Junk.ensures.front in
    let one : ScanRun c.args.last c.args.place c.args.clean x c.places.found (c.args.place + (at + 1)) now (drop (at + 1) x) =
    rw c.broken_at-clean.ensures (tells_nothing c.args.last c.args.place x at _ _ c.args.clean c.places.clean c.places.found t c.places.invariant.leads) in
    let broken : (q : ℕ) → joined now (Some q) ≡ now = rw c.broken_at-clean.ensures (stays_broken c.places.clean (c.args.place + at)) in
    record {
      within = c.past_junk-at.ensures.within;
      leads = run_told c.args.last c.args.place c.args.clean now x (at + 1) _ c.places.found broken c.past_junk-at.ensures one;
      known = rw c.next_front.ensures.records c.places.invariant.known;
    }

pub returns-clause-waits : goal.returns-clause-waits
returns-clause-waits c = nothing_waits c.args.last c.args.bytes.now c.places.at c.places-test.false
