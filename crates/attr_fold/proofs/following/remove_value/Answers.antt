use Rattle.std.proofs.Common.{◌==◌, List, ℕ, length, sym, ap, subst, ◌∙◌}
use Rattle.schema_fact.specs.declared.changes.Act.TheVariants.{Del as removes}
use Rattle.index_rows.specs.Holders.{Holders}
use Rattle.attr_fold.specs.Following.{counted_before, IsFollowed}
use Rattle.attr_fold.proofs.Deciding.{dropped}
use Rattle.attr_fold.proofs.Dropping.{all_removed, on_both}
use Rattle.attr_fold.proofs.following.remove_value.Goals as goal

pub returns-then-is_empty-clause-followed : goal.returns-then-is_empty-clause-followed
returns-then-is_empty-clause-followed g c =
    let k = c.args.key.now in
    let old = c.args.rows.now in
    let said = counted_before old.facts.ordered old.deletes old.changes k.2 c.args.moment.now in
    on_both c.drop_values.result
    (λ fewer gone on. all_removed k.2 k.0 k.1 on said old.holders c.drop_values.new.rows.holders fewer gone (ap (λ (v : List ℕ). length v == 0) (sym c.value.ensures) ∙ sym c.if-is_empty.ensures))
    c.drop_values.ensures.fewer c.drop_values.ensures.gone

pub returns-clause-followed : goal.returns-clause-followed
returns-clause-followed g c = λ on.
    let k = c.args.key.now in
    let old = c.args.rows.now in
    let said = counted_before old.facts.ordered old.deletes old.changes k.2 c.args.moment.now in
    subst (λ (hs : Holders). IsFollowed k.2 (record { on = on; act = removes; attr = k.0; value = k.1 }) said old.holders hs) (sym c.drop_row.ensures.value)
    (dropped k.2 k.0 k.1 on said old.holders
    (ap (λ (v : List ℕ). length v == 0) (sym c.value.ensures) ∙ sym c.if-is_empty.ensures))
