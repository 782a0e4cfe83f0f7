use Rattle.std.proofs.Common.{sym, subst}
use Rattle.std.proofs.lemmas.Result.{on_ok_weaker}
use Rattle.schema_fact.specs.declared.changes.Act.TheVariants.{Set as sets}
use Rattle.index_rows.specs.Holders.{Holders}
use Rattle.attr_fold.specs.Following.{counted_before, IsFollowed}
use Rattle.attr_fold.proofs.Dropping.{set_alone}
use Rattle.attr_fold.proofs.following.set_value.Goals as goal

pub returns-clause-followed : goal.returns-clause-followed
returns-clause-followed g c =
    let k = c.args.key in
    let old = c.args.rows.now in
    let mid = c.drop_values.new.rows.holders in
    let said = counted_before old.facts.ordered old.deletes old.changes k.2 c.args.moment.now in
    on_ok_weaker c.set.result (λ put on.
    subst (λ (hs : Holders). IsFollowed k.2 (record { on = on; act = sets; attr = k.0; value = k.1 }) said old.holders hs) (sym put)
    (set_alone k.2 k.0 k.1 on said old.holders mid c.in_ok-drop_values.ensures.fewer c.in_ok-drop_values.ensures.gone))
    c.set.ensures.ok
