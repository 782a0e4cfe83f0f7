use Rattle.std.proofs.Common.{◌≡◌, ◌==◌, List, ℕ, false, length, sym, ap, subst, ◌∙◌}
use Rattle.schema_fact.specs.declared.changes.Act.TheVariants.{Del as removes}
use Rattle.index_rows.specs.Holders.{Holders, with_times}
use Rattle.attr_fold.specs.Following.{counted_after, counted_before, IsSettled}
use Rattle.attr_fold.proofs.Adding.{told_none, told_some}
use Rattle.attr_fold.proofs.Deciding.{absent_late, removed_late, untouched, untouched_all}
use Rattle.attr_fold.proofs.late.remove_late.Goals as goal

pub returns-then-is_empty-clause-settled : goal.returns-then-is_empty-clause-settled
returns-then-is_empty-clause-settled g c = λ done on.
    let k = c.args.key in
    let old = c.args.rows.now in
    let front = counted_before old.facts.ordered old.deletes old.changes k.2 c.args.moment.now in
    let back = counted_after old.facts.ordered old.deletes old.changes k.2 c.args.moment.now in
    untouched_all k.2 k.0 k.1 on front back old.holders removes
    (sym c.is_emptied_after.ensures.emptied ∙ done)

pub returns-then-not-has-clause-settled : goal.returns-then-not-has-clause-settled
returns-then-not-has-clause-settled g c = λ done on.
    let k = c.args.key in
    let old = c.args.rows.now in
    let front = counted_before old.facts.ordered old.deletes old.changes k.2 c.args.moment.now in
    let back = counted_after old.facts.ordered old.deletes old.changes k.2 c.args.moment.now in
    absent_late k.2 k.0 k.1 on front back old.holders
    (ap (λ (v : List ℕ). length v == 0) (sym c.value.ensures) ∙ sym c.if-is_empty.ensures)
    (sym c.if-not-has.ensures.number)

pub returns-in_ok-set-in-Some-clause-settled : goal.returns-in_ok-set-in-Some-clause-settled
returns-in_ok-set-in-Some-clause-settled g c = λ done on.
    let k = c.args.key in
    let old = c.args.rows.now in
    let front = counted_before old.facts.ordered old.deletes old.changes k.2 c.args.moment.now in
    let back = counted_after old.facts.ordered old.deletes old.changes k.2 c.args.moment.now in
    let one : (length k.1 == 0) ≡ false = ap (λ (v : List ℕ). length v == 0) (sym c.value.ensures)
    ∙ sym c.if-is_empty.ensures in
    let told = told_some k.0 k.1 back 0 c.in-Some.times (sym c.in-Some.is ∙ c.in_ok-times.ensures.added) in
    subst (λ (hs : Holders). IsSettled k.2 (record { on = on; act = removes; attr = k.0; value = k.1 }) front back
    old.holders hs) (sym (c.in_ok-set-in-Some.ensures.ok ∙ ap (with_times old.holders k) told.1))
    (removed_late k.2 k.0 k.1 on front back old.holders told.0 one (sym c.if-not-has.ensures.number))

pub returns-in-None-clause-settled : goal.returns-in-None-clause-settled
returns-in-None-clause-settled g c = λ done on.
    let k = c.args.key in
    let old = c.args.rows.now in
    let front = counted_before old.facts.ordered old.deletes old.changes k.2 c.args.moment.now in
    let back = counted_after old.facts.ordered old.deletes old.changes k.2 c.args.moment.now in
    let one : (length k.1 == 0) ≡ false = ap (λ (v : List ℕ). length v == 0) (sym c.value.ensures)
    ∙ sym c.if-is_empty.ensures in
    untouched k.2 k.0 k.1 on front back old.holders removes one
    (told_none k.0 k.1 back 0 (sym c.in-None.is ∙ c.in_ok-times.ensures.added))
