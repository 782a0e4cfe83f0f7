use Rattle.std.proofs.Common.{◌∷◌, [], sym, ap, ◌∙◌, arith}
use Rattle.attr_fold.specs.Following.{added_from, counted, counted_after}
use Rattle.attr_fold.proofs.Adding.{added_on, taken_on}
use Rattle.attr_fold.proofs.Behind.{all_behind, next_stands, nothing_behind, one_behind}
use Rattle.attr_fold.proofs.late.added_after.Goals as goal

pub added_by-requires-clause-change : goal.added_by-requires-clause-change
added_by-requires-clause-change g c =
    let old = c.args.rows.now in
    let p = c.args.key.now.2 in
    c.requires.listed p c.in-Some.next (next_stands old.changes p c.permanode.result.now c.permanode.ensures c.walk.at
    c.in-Some.next c.in-Some.ensures.next)

pub walk-smaller : goal.walk-smaller
walk-smaller g c =
    let one = one_behind c.args.rows.now.changes c.args.key.now.2 c.permanode.result.now c.permanode.ensures c.walk.at
    c.in-Some.next c.in-Some.ensures.next in
    omega (arith, one)

pub walk-preserved : goal.walk-preserved
walk-preserved g c =
    let old = c.args.rows.now in
    let key = c.args.key.now in
    let one = one_behind old.changes key.2 c.permanode.result.now c.permanode.ensures c.walk.at c.in-Some.next
    c.in-Some.ensures.next in
    let a = c.walk.invariant.ticks in
    let b = c.next_of.ensures.ticks in
    let d = c.added_by.ensures.ticks in
    record {
      same = c.walk.invariant.same
          ∙ ap (added_from key.0 key.1 c.walk.times)
          (all_behind old.changes key.2 c.permanode.result.now c.permanode.ensures c.walk.at c.in-Some.next
          c.in-Some.ensures.next old.facts.ordered old.deletes)
          ∙ added_on key.0 key.1 (counted old.facts.ordered old.deletes (c.in-Some.next ∷ []))
          (counted_after old.facts.ordered old.deletes old.changes key.2 c.in-Some.next) c.walk.times c.in-Some-2.more
          (sym c.in-Some-2.is ∙ c.in_ok-more.ensures.added);
      ticks = omega (arith, one, a, b, d);
    }

pub returns-in-None-clause-added : goal.returns-in-None-clause-added
returns-in-None-clause-added g c =
    let old = c.args.rows.now in
    let key = c.args.key.now in
    sym (c.walk.invariant.same
    ∙ ap (added_from key.0 key.1 c.walk.times)
    (all_behind old.changes key.2 c.permanode.result.now c.permanode.ensures c.walk.at c.in-Some.next
    c.in-Some.ensures.next old.facts.ordered old.deletes)
    ∙ taken_on key.0 key.1 (counted old.facts.ordered old.deletes (c.in-Some.next ∷ []))
    (counted_after old.facts.ordered old.deletes old.changes key.2 c.in-Some.next) c.walk.times
    (sym c.in-None.is ∙ c.in_ok-more.ensures.added))

pub returns-clause-added : goal.returns-clause-added
returns-clause-added g c =
    let old = c.args.rows.now in
    let key = c.args.key.now in
    sym (c.walk.invariant.same
    ∙ ap (added_from key.0 key.1 c.walk.times) (nothing_behind old.changes key.2 c.permanode.result.now
    c.permanode.ensures c.walk.at c.in_default.ensures.last old.facts.ordered old.deletes))
