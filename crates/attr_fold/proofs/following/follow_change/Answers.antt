use Rattle.std.proofs.Common.{◌≡◌, [], List, map, sym, ap, subst, refl, arith}
use Rattle.std.proofs.lemmas.Result.{IfOk-weaker}
use Rattle.schema_fact.specs.declared.changes.Change.{Change}
use Rattle.attr_fold.specs.Following.{counted, counted_after, counted_before, IsSettled}
use Rattle.attr_fold.proofs.Among.{followed_is_settled}
use Rattle.attr_fold.proofs.Behind.{fewer_behind}
use Rattle.attr_fold.proofs.Dropping.{fewer_before}
use Rattle.attr_fold.proofs.Walking.{Row}
use Rattle.attr_fold.proofs.following.follow_change.Goals as goal

pub returns-then-is_last-clause-settled : goal.returns-then-is_last-clause-settled
returns-then-is_last-clause-settled g c =
    let old = c.args.rows.now in
    let p = c.args.p.now in
    let k = c.args.moment.now in
    let new = c.follow_last.new.rows.holders in
    IfOk-weaker c.follow_last.result _ _
    (λ answer told done d found.
    let none : counted_after old.facts.ordered old.deletes old.changes p k ≡ [] =
    ap (λ (es : List Row). counted old.facts.ordered old.deletes (map (λ (e : Row). e.0.1) es))
    (c.if-is_last.ensures.last refl) in
    subst (λ (back : List Change). IsSettled p d (counted_before old.facts.ordered old.deletes old.changes p k) back
    old.holders new) (sym none)
    (followed_is_settled p d (counted_before old.facts.ordered old.deletes old.changes p k) old.holders new
    (told done d found)))
    c.follow_last.ensures.followed

pub returns-then-is_last-clause-ticks : goal.returns-then-is_last-clause-ticks
returns-then-is_last-clause-ticks g c =
    let f = fewer_before c.args.rows.now.changes c.args.p.now c.args.moment.now in
    let d = c.is_last.ensures.ticks in
    let e = c.follow_last.ensures.ticks in
    omega (arith, d, e, f)

pub returns-clause-ticks : goal.returns-clause-ticks
returns-clause-ticks g c =
    let f = fewer_behind c.args.rows.now.changes c.args.p.now c.args.moment.now in
    let d = c.is_last.ensures.ticks in
    let e = c.follow_late.ensures.ticks in
    let h = c.if-is_last.ensures.more refl in
    omega (arith, d, e, f, h)

pub returns-then-is_last-clause-added : goal.returns-then-is_last-clause-added
returns-then-is_last-clause-added g c = λ d found add.
    let f = c.is_last.ensures.ticks in
    let e = c.follow_last.ensures.added d found add in
    omega (arith, f, e)

pub returns-clause-added : goal.returns-clause-added
returns-clause-added g c = λ d found add.
    let f = c.is_last.ensures.ticks in
    let e = c.follow_late.ensures.added d found add in
    omega (arith, f, e)

pub returns-then-is_last-clause-done : goal.returns-then-is_last-clause-done
returns-then-is_last-clause-done g c = λ d found add. c.follow_last.ensures.done d found

pub returns-clause-done : goal.returns-clause-done
returns-clause-done g c = c.follow_late.ensures.done
