use Rattle.std.proofs.Common.{◌≡◌, length, ap, ◌∙◌, arith}
use Rattle.std.specs.FinMap.{contains_key}
use Rattle.index_rows.specs.Changes.{Changes, changes_before}
use Rattle.index_rows.proofs.LooseFacts.{in_order}
use Rattle.attr_fold.proofs.Dropping.{back_in, before_stands, counted_still, first_in, listed_still, fewer_then}
use Rattle.attr_fold.proofs.Dropping.{gone_at_end, gone_at_last, one_back, one_less, prev_in}
use Rattle.attr_fold.proofs.following.drop_values.Goals as goal

pub take_back-requires-clause-counted : goal.take_back-requires-clause-counted
take_back-requires-clause-counted g c =
    let at = c.walk.invariant in
    counted_still c.args.rows.now c.walk.rows at.facts at.state at.deletes c.requires.counted

pub take_back-requires-clause-change : goal.take_back-requires-clause-change
take_back-requires-clause-change g c =
    let at = c.walk.invariant in
    let old = c.args.rows.now in
    let attr = c.args.key.now.0 in
    let p = c.args.key.now.2 in
    let prev = prev_in old.changes c.walk.rows.changes p c.permanode.result.now c.walk.at c.in-Some.before at.changes
    c.permanode.ensures c.in-Some.ensures.prev in
    listed_still old c.walk.rows at.facts at.state at.changes c.requires.listed p c.in-Some.before
    (ap (λ (cs : Changes). contains_key cs (p, c.in-Some.before)) at.changes
    ∙ before_stands old.changes p c.walk.at c.in-Some.before _ prev)

pub walk-smaller : goal.walk-smaller
walk-smaller g c =
    let at = c.walk.invariant in
    let old = c.args.rows.now in
    let attr = c.args.key.now.0 in
    let p = c.args.key.now.2 in
    let prev = prev_in old.changes c.walk.rows.changes p c.permanode.result.now c.walk.at c.in-Some.before at.changes
    c.permanode.ensures c.in-Some.ensures.prev in
    let less = one_less old.changes p c.walk.at c.in-Some.before prev in
    let now : length (changes_before c.walk.rows.changes p c.walk.at) ≡ length
    (changes_before old.changes p c.walk.at) = ap (λ (cs : Changes). length (changes_before cs p c.walk.at))
    at.changes in
    let new : length (changes_before c.take_back.new.rows.changes p c.in-Some.before) ≡ length
    (changes_before old.changes p c.in-Some.before)
    = ap (λ (cs : Changes). length (changes_before cs p c.in-Some.before))
    (c.in_ok-take_back.ensures.changes ∙ at.changes) in
    omega (arith, less, now, new)

pub walk-preserved : goal.walk-preserved
walk-preserved g c =
    let at = c.walk.invariant in
    let old = c.args.rows.now in
    let attr = c.args.key.now.0 in
    let p = c.args.key.now.2 in
    let prev = prev_in old.changes c.walk.rows.changes p c.permanode.result.now c.walk.at c.in-Some.before at.changes
    c.permanode.ensures c.in-Some.ensures.prev in
    let told = c.in_ok-take_back.ensures in
    let done = c.in_ok-take_back.field-0 in
    let back = back_in attr p old.facts.ordered c.walk.rows.facts.ordered old.deletes c.walk.rows.deletes
    c.in-Some.before done c.take_back.new.rows.holders (in_order at.facts) at.deletes told.back in
    let one = one_back old.facts.ordered old.deletes old.changes attr p c.args.moment.now c.walk.at c.in-Some.before
    prev c.walk.rows.holders c.take_back.new.rows.holders done at.left told.fewer back in
    let less = one_less old.changes p c.walk.at c.in-Some.before prev in
    let a = at.ticks in
    let b = c.prev_of.ensures.ticks in
    let d = c.take_back.ensures.ticks in
    record {
      facts = told.facts ∙ at.facts;
      state = told.state ∙ at.state;
      waiters = told.waiters ∙ at.waiters;
      deletes = told.deletes ∙ at.deletes;
      changes = told.changes ∙ at.changes;
      removals = told.removals ∙ at.removals;
      fewer = fewer_then attr p old.holders c.walk.rows.holders c.take_back.new.rows.holders at.fewer told.fewer;
      left = λ value t u. (one value t u).1;
      ticks = omega (arith, less, a, b, d);
    }

pub returns-then-branch-clause-fewer : goal.returns-then-branch-clause-fewer
returns-then-branch-clause-fewer g c =
    fewer_then c.args.key.now.0 c.args.key.now.2 c.args.rows.now.holders c.walk.rows.holders
    c.take_back.new.rows.holders c.walk.invariant.fewer c.in_ok-take_back.ensures.fewer

pub returns-then-branch-clause-gone : goal.returns-then-branch-clause-gone
returns-then-branch-clause-gone g c =
    let at = c.walk.invariant in
    let old = c.args.rows.now in
    let attr = c.args.key.now.0 in
    let p = c.args.key.now.2 in
    let prev = prev_in old.changes c.walk.rows.changes p c.permanode.result.now c.walk.at c.in-Some.before at.changes
    c.permanode.ensures c.in-Some.ensures.prev in
    let told = c.in_ok-take_back.ensures in
    let done = c.in_ok-take_back.field-0 in
    let back = back_in attr p old.facts.ordered c.walk.rows.facts.ordered old.deletes c.walk.rows.deletes
    c.in-Some.before done c.take_back.new.rows.holders (in_order at.facts) at.deletes told.back in
    let one = one_back old.facts.ordered old.deletes old.changes attr p c.args.moment.now c.walk.at c.in-Some.before
    prev c.walk.rows.holders c.take_back.new.rows.holders done at.left told.fewer back in
    gone_at_end old.facts.ordered old.deletes old.changes attr p c.args.moment.now c.take_back.new.rows.holders done
    c.if-branch.true (λ value t u. (one value t u).0)

pub returns-then-branch-clause-ticks : goal.returns-then-branch-clause-ticks
returns-then-branch-clause-ticks g c =
    let at = c.walk.invariant in
    let old = c.args.rows.now in
    let attr = c.args.key.now.0 in
    let p = c.args.key.now.2 in
    let prev = prev_in old.changes c.walk.rows.changes p c.permanode.result.now c.walk.at c.in-Some.before at.changes
    c.permanode.ensures c.in-Some.ensures.prev in
    let less = one_less old.changes p c.walk.at c.in-Some.before prev in
    let a = at.ticks in
    let b = c.prev_of.ensures.ticks in
    let d = c.take_back.ensures.ticks in
    omega (arith, less, a, b, d)

pub returns-in_err-take_back-clause-ticks : goal.returns-in_err-take_back-clause-ticks
returns-in_err-take_back-clause-ticks g c =
    let at = c.walk.invariant in
    let old = c.args.rows.now in
    let attr = c.args.key.now.0 in
    let p = c.args.key.now.2 in
    let prev = prev_in old.changes c.walk.rows.changes p c.permanode.result.now c.walk.at c.in-Some.before at.changes
    c.permanode.ensures c.in-Some.ensures.prev in
    let less = one_less old.changes p c.walk.at c.in-Some.before prev in
    let a = at.ticks in
    let b = c.prev_of.ensures.ticks in
    let d = c.take_back.ensures.ticks in
    omega (arith, less, a, b, d)

pub returns-clause-gone : goal.returns-clause-gone
returns-clause-gone g c =
    let at = c.walk.invariant in
    let old = c.args.rows.now in
    let p = c.args.key.now.2 in
    gone_at_last old.facts.ordered old.deletes old.changes c.args.key.now.0 p c.args.moment.now c.walk.at
    c.walk.rows.holders
    (first_in old.changes c.walk.rows.changes p c.permanode.result.now c.walk.at at.changes c.permanode.ensures
    c.in_default.ensures.first) at.left
