use Rattle.std.proofs.Common.{sym, subst, arith}
use Rattle.std.proofs.lemmas.Result.{IfOk-weaker}
use Rattle.index_rows.specs.Changes.{Changes}
use Rattle.index_rows.specs.Holders.{IsHeldBut}
use Rattle.attr_fold.specs.Following.{counted_after, counted_before, IsSettled}
use Rattle.attr_fold.proofs.Followed.{nothing_held}
use Rattle.attr_fold.proofs.Among.{not_counted, settled_late}
use Rattle.attr_fold.proofs.Walking.{change_is}
use Rattle.attr_fold.proofs.Standing.{dies, lives}
use Rattle.attr_fold.proofs.following.follow.Goals as goal

pub returns-then-not-holds_values-clause-followed :
    goal.returns-then-not-holds_values-clause-followed
returns-then-not-holds_values-clause-followed g c = λ done but before one was.
    let old = c.args.rows.now in
    subst (λ (cs : Changes). IsHeldBut but old.facts.ordered old.state old.deletes cs old.holders) (sym one.more)
    (nothing_held before c.args.p.now c.args.moment.now one.fresh old.facts.ordered old.state old.deletes but
    old.holders was c.are_counted.ensures
    (sym c.if-not-holds_values.ensures.holds))

pub returns-then-has_deleters-clause-followed : goal.returns-then-has_deleters-clause-followed
returns-then-has_deleters-clause-followed g c = λ done but before one was.
    let old = c.args.rows.now in
    let p = c.args.p.now in
    let k = c.args.moment.now in
    subst (λ (cs : Changes). IsHeldBut but old.facts.ordered old.state old.deletes cs old.holders) (sym one.more)
    (not_counted before p k one.fresh old.facts.ordered old.state old.deletes but old.holders was c.are_counted.ensures
    (dies old.facts.ordered old.state old.deletes c.requires.counted p k (c.requires.listed p k c.requires.there)
    c.if-has_deleters.ensures.some))

pub returns-clause-followed : goal.returns-clause-followed
returns-clause-followed g c =
    let old = c.args.rows.now in
    let p = c.args.p.now in
    let k = c.args.moment.now in
    let new = c.follow_change-followed.new.rows.holders in
    let change = c.requires.listed p k c.requires.there in
    IfOk-weaker c.follow_change-followed.result _ _
    (λ answer told done but before one was.
    let live = lives old.facts.ordered old.state old.deletes c.requires.counted p k change
    c.if-has_deleters.ensures.some in
    subst (λ (cs : Changes). IsHeldBut but old.facts.ordered old.state old.deletes cs new)
    (sym one.more)
    (settled_late before p k one.fresh old.facts.ordered old.state old.deletes but old.holders was
    c.are_counted.ensures change live (sym c.if-not-holds_values.ensures.holds) new c.are_counted-2.ensures
    (subst (λ (cs : Changes). IsSettled p change.change (counted_before old.facts.ordered old.deletes cs p k)
    (counted_after old.facts.ordered old.deletes cs p k) old.holders new) one.more
    (told done change.change (change_is old.facts.ordered old.state p k change)))))
    c.follow_change-followed.ensures.settled

pub returns-clause-ticks : goal.returns-clause-ticks
returns-clause-ticks g c =
    let a = c.holds_values.ensures.ticks in
    let b = c.has_deleters.ensures.ticks in
    let d = c.follow_change-followed.ensures.ticks in
    omega (arith, a, b, d)

pub returns-clause-added : goal.returns-clause-added
returns-clause-added g c = λ d found add.
    let a = c.holds_values.ensures.ticks in
    let b = c.has_deleters.ensures.ticks in
    let e = c.follow_change-followed.ensures.added d found add in
    omega (arith, a, b, e)

pub returns-clause-done : goal.returns-clause-done
returns-clause-done g c = c.follow_change-followed.ensures.done
