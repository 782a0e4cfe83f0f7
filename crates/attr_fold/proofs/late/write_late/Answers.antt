use Rattle.std.proofs.Common.{◌≡◌, sym, subst, ◌∙◌}
use Rattle.std.proofs.lemmas.Result.{IfOk-weaker}
use Rattle.schema_fact.specs.declared.changes.Act.{Act}
use Rattle.schema_fact.specs.declared.changes.Act.TheVariants.{Set as sets, Add as adds, Del as removes}
use Rattle.attr_fold.specs.Following.{counted_after, counted_before, IsSettled}
use Rattle.attr_fold.proofs.Deciding.{untouched_all}
use Rattle.attr_fold.proofs.late.write_late.Goals as goal

pub returns-in-Set-clause-settled : goal.returns-in-Set-clause-settled
returns-in-Set-clause-settled g c = λ done on.
    let k = c.args.key in
    let old = c.args.rows.now in
    let front = counted_before old.facts.ordered old.deletes old.changes k.2 c.args.moment.now in
    let back = counted_after old.facts.ordered old.deletes old.changes k.2 c.args.moment.now in
    subst (λ (a : Act). IsSettled k.2 (record { on = on; act = a; attr = k.0; value = k.1 }) front back old.holders
    old.holders) (sym c.in-Set.is)
    (untouched_all k.2 k.0 k.1 on front back old.holders sets (sym c.is_emptied_after.ensures.emptied ∙ done))

pub returns-in_ok-add_late-in-Add-clause-settled : goal.returns-in_ok-add_late-in-Add-clause-settled
returns-in_ok-add_late-in-Add-clause-settled g c = λ done on.
    let k = c.args.key in
    let old = c.args.rows.now in
    let front = counted_before old.facts.ordered old.deletes old.changes k.2 c.args.moment.now in
    let back = counted_after old.facts.ordered old.deletes old.changes k.2 c.args.moment.now in
    subst (λ (a : Act). IsSettled k.2 (record { on = on; act = a; attr = k.0; value = k.1 }) front back old.holders
    c.add_late.new.rows.holders) (sym c.in-Add.is)
    (c.in_ok-add_late-in-Add.ensures.settled on)

pub returns-in-Del-clause-settled : goal.returns-in-Del-clause-settled
returns-in-Del-clause-settled g c = IfOk-weaker c.remove_late.result _ _ (λ answer told done on.
    let k = c.args.key in
    let old = c.args.rows.now in
    let front = counted_before old.facts.ordered old.deletes old.changes k.2 c.args.moment.now in
    let back = counted_after old.facts.ordered old.deletes old.changes k.2 c.args.moment.now in
    subst (λ (a : Act). IsSettled k.2 (record { on = on; act = a; attr = k.0; value = k.1 }) front back old.holders
    c.remove_late.new.rows.holders) (sym c.in-Del.is)
    (told done on))
    c.remove_late.ensures.settled

pub returns-in-Set-clause-done : goal.returns-in-Set-clause-done
returns-in-Set-clause-done g c = λ e. absurd (let d : sets ≡ adds = sym c.in-Set.is ∙ e in cc d)

pub returns-in-Set-clause-added : goal.returns-in-Set-clause-added
returns-in-Set-clause-added g c = λ e. absurd (let d : sets ≡ adds = sym c.in-Set.is ∙ e in cc d)

pub returns-in-Del-clause-done : goal.returns-in-Del-clause-done
returns-in-Del-clause-done g c = λ e. absurd (let d : removes ≡ adds = sym c.in-Del.is ∙ e in cc d)

pub returns-in-Del-clause-added : goal.returns-in-Del-clause-added
returns-in-Del-clause-added g c = λ e. absurd (let d : removes ≡ adds = sym c.in-Del.is ∙ e in cc d)
