use Rattle.std.proofs.Common.{◌||◌, sym, ap, ◌∙◌, arith}
use Rattle.std.specs.List.{list_any}
use Rattle.attr_fold.specs.Following.{counted_under, decides}
use Rattle.attr_fold.proofs.Behind.{more_under, none_under, one_under, removal_changes, under_stands}
use Rattle.attr_fold.proofs.late.is_decided_under.Goals as goal

pub is_decided_by-requires-clause-change : goal.is_decided_by-requires-clause-change
is_decided_by-requires-clause-change g c =
    let old = c.args.rows.now in
    let p = c.args.key.now.2 in
    let k = c.in-Some.next in
    c.requires.listed p k
    (removal_changes old.facts.ordered old.changes old.removals c.requires.taken p c.args.mark k
    (under_stands old.removals p c.permanode.result.now c.permanode.ensures c.args.mark c.walk.at k
    c.in-Some.ensures.next))

pub walk-smaller : goal.walk-smaller
walk-smaller g c =
    let one = one_under c.args.rows.now.removals c.args.key.now.2 c.permanode.result.now c.permanode.ensures
    c.args.mark c.walk.at c.in-Some.next c.in-Some.ensures.next in
    omega (arith, one)

pub walk-preserved : goal.walk-preserved
walk-preserved g c =
    let old = c.args.rows.now in
    let key = c.args.key.now in
    let mark = c.args.mark in
    let one = one_under old.removals key.2 c.permanode.result.now c.permanode.ensures mark c.walk.at c.in-Some.next
    c.in-Some.ensures.next in
    let a = c.walk.invariant.ticks in
    let b = c.next_of.ensures.ticks in
    let d = c.is_decided_by.ensures.ticks in
    record {
      same = c.walk.invariant.same
          ∙ more_under old.removals key.2 c.permanode.result.now c.permanode.ensures mark c.walk.at c.in-Some.next
          c.in-Some.ensures.next old.facts.ordered old.deletes (decides c.args.all key.0 key.1)
          ∙ ap (λ b. b || list_any (decides c.args.all key.0 key.1)
          (counted_under old.facts.ordered old.deletes old.removals key.2 mark c.in-Some.next))
          (sym c.if-is_decided_by.ensures.decided);
      ticks = omega (arith, one, a, b, d);
    }

pub returns-then-is_decided_by-clause-decided : goal.returns-then-is_decided_by-clause-decided
returns-then-is_decided_by-clause-decided g c =
    let old = c.args.rows.now in
    let key = c.args.key.now in
    let mark = c.args.mark in
    sym (c.walk.invariant.same
    ∙ more_under old.removals key.2 c.permanode.result.now c.permanode.ensures mark c.walk.at c.in-Some.next
    c.in-Some.ensures.next old.facts.ordered old.deletes (decides c.args.all key.0 key.1)
    ∙ ap (λ b. b || list_any (decides c.args.all key.0 key.1)
    (counted_under old.facts.ordered old.deletes old.removals key.2 mark c.in-Some.next))
    (sym c.if-is_decided_by.ensures.decided))

pub returns-clause-decided : goal.returns-clause-decided
returns-clause-decided g c =
    let old = c.args.rows.now in
    let key = c.args.key.now in
    sym (c.walk.invariant.same ∙ none_under old.removals key.2 c.permanode.result.now c.permanode.ensures c.args.mark
    c.walk.at c.in_default.ensures.last old.facts.ordered old.deletes (decides c.args.all key.0 key.1))
