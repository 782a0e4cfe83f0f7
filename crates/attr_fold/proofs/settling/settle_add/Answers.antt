use Rattle.std.proofs.Common.{sym, subst}
use Rattle.std.proofs.lemmas.Result.{on_ok_weaker}
use Rattle.schema_fact.specs.declared.changes.Act.TheVariants.{Add as adds}
use Rattle.index_rows.specs.Counted.{has_deleters}
use Rattle.index_rows.specs.Holders.{Holders}
use Rattle.attr_fold.specs.Following.{counted_after, counted_before, IsTurned}
use Rattle.attr_fold.proofs.Deciding.{turned_none, turned_less, turned_more}
use Rattle.attr_fold.proofs.settling.settle_add.Goals as goal

pub returns-then-is_taken_after-clause-settled : goal.returns-then-is_taken_after-clause-settled
returns-then-is_taken_after-clause-settled g c = λ on.
    let k = c.args.key in
    let old = c.args.rows.now in
    let front = counted_before old.facts.ordered old.deletes old.changes k.2 c.args.moment.now in
    let back = counted_after old.facts.ordered old.deletes old.changes k.2 c.args.moment.now in
    turned_none k.2 k.0 k.1 on front back old.holders (sym c.if-is_taken_after.ensures.taken)
    (has_deleters old.state c.args.moment.now.1)

pub returns-then-has_deleters-clause-settled : goal.returns-then-has_deleters-clause-settled
returns-then-has_deleters-clause-settled g c = on_ok_weaker c.lower.result (λ put on.
    let k = c.args.key in
    let old = c.args.rows.now in
    let front = counted_before old.facts.ordered old.deletes old.changes k.2 c.args.moment.now in
    let back = counted_after old.facts.ordered old.deletes old.changes k.2 c.args.moment.now in
    subst (λ (hs : Holders). IsTurned (has_deleters old.state c.args.moment.now.1) k.2
    (record { on = on; act = adds; attr = k.0; value = k.1 }) front back
    old.holders hs) (sym put)
    (turned_less k.2 k.0 k.1 on front back old.holders (sym c.if-is_taken_after.ensures.taken)
    (has_deleters old.state c.args.moment.now.1)
    (sym c.if-has_deleters.ensures.some)))
    c.lower.ensures.ok

pub returns-else-has_deleters-clause-settled : goal.returns-else-has_deleters-clause-settled
returns-else-has_deleters-clause-settled g c = on_ok_weaker c.raise.result (λ put on.
    let k = c.args.key in
    let old = c.args.rows.now in
    let front = counted_before old.facts.ordered old.deletes old.changes k.2 c.args.moment.now in
    let back = counted_after old.facts.ordered old.deletes old.changes k.2 c.args.moment.now in
    subst (λ (hs : Holders). IsTurned (has_deleters old.state c.args.moment.now.1) k.2
    (record { on = on; act = adds; attr = k.0; value = k.1 }) front back
    old.holders hs) (sym put)
    (turned_more k.2 k.0 k.1 on front back old.holders (sym c.if-is_taken_after.ensures.taken)
    (has_deleters old.state c.args.moment.now.1)
    (sym c.if-has_deleters.ensures.some)))
    c.raise.ensures.ok
