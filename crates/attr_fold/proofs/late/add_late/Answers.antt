use Rattle.std.proofs.Common.{refl, sym, subst}
use Rattle.std.proofs.lemmas.Result.{on_ok_weaker}
use Rattle.schema_fact.specs.declared.changes.Act.TheVariants.{Add as adds}
use Rattle.index_rows.specs.Holders.{Holders}
use Rattle.attr_fold.specs.Following.{counted_after, counted_before, IsSettled}
use Rattle.attr_fold.proofs.Deciding.{added_late, untouched}
use Rattle.attr_fold.proofs.late.add_late.Goals as goal

pub returns-then-is_taken_after-clause-settled : goal.returns-then-is_taken_after-clause-settled
returns-then-is_taken_after-clause-settled g c = λ on.
    let k = c.args.key in
    let old = c.args.rows.now in
    let front = counted_before old.facts.ordered old.deletes old.changes k.2 c.args.moment.now in
    let back = counted_after old.facts.ordered old.deletes old.changes k.2 c.args.moment.now in
    untouched k.2 k.0 k.1 on front back old.holders adds refl (sym c.if-is_taken_after.ensures.taken)

pub returns-clause-settled : goal.returns-clause-settled
returns-clause-settled g c = on_ok_weaker c.raise.result (λ put on.
    let k = c.args.key in
    let old = c.args.rows.now in
    let front = counted_before old.facts.ordered old.deletes old.changes k.2 c.args.moment.now in
    let back = counted_after old.facts.ordered old.deletes old.changes k.2 c.args.moment.now in
    subst (λ (hs : Holders). IsSettled k.2 (record { on = on; act = adds; attr = k.0; value = k.1 }) front back
    old.holders hs) (sym put)
    (added_late k.2 k.0 k.1 on front back old.holders (sym c.if-is_taken_after.ensures.taken)))
    c.raise.ensures.ok
