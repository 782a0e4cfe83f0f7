use Rattle.std.proofs.Common.{sym, subst}
use Rattle.std.proofs.lemmas.Result.{on_ok_weaker}
use Rattle.schema_fact.specs.declared.changes.Act.{Act}
use Rattle.schema_fact.specs.declared.changes.Act.TheVariants.{Add as adds}
use Rattle.index_rows.specs.Holders.{Holders}
use Rattle.attr_fold.specs.Following.{counted_before, IsFollowed}
use Rattle.attr_fold.proofs.Deciding.{added}
use Rattle.attr_fold.proofs.following.write_change.Goals as goal

pub returns-in-Set-clause-followed : goal.returns-in-Set-clause-followed
returns-in-Set-clause-followed g c =
    let k = c.args.key in
    let old = c.args.rows.now in
    let said = counted_before old.facts.ordered old.deletes old.changes k.2 c.args.moment.now in
    on_ok_weaker c.set_value.result (λ told on.
    subst (λ (a : Act). IsFollowed k.2 (record { on = on; act = a; attr = k.0; value = k.1 }) said old.holders c.set_value.new.rows.holders) (sym c.in-Set.is) (told on))
    c.set_value.ensures.followed

pub returns-in-Add-clause-followed : goal.returns-in-Add-clause-followed
returns-in-Add-clause-followed g c =
    let k = c.args.key in
    let old = c.args.rows.now in
    let said = counted_before old.facts.ordered old.deletes old.changes k.2 c.args.moment.now in
    on_ok_weaker c.raise.result (λ put on.
    subst (λ (a : Act). IsFollowed k.2 (record { on = on; act = a; attr = k.0; value = k.1 }) said old.holders
    c.raise.new.self) (sym c.in-Add.is)
    (subst (λ (hs : Holders). IsFollowed k.2 (record { on = on; act = adds; attr = k.0; value = k.1 }) said old.holders hs) (sym put)
    (added k.2 k.0 k.1 on said old.holders))) c.raise.ensures.ok

pub returns-in-Del-clause-followed : goal.returns-in-Del-clause-followed
returns-in-Del-clause-followed g c =
    let k = c.args.key in
    let old = c.args.rows.now in
    let said = counted_before old.facts.ordered old.deletes old.changes k.2 c.args.moment.now in
    on_ok_weaker c.remove_value.result (λ told on.
    subst (λ (a : Act). IsFollowed k.2 (record { on = on; act = a; attr = k.0; value = k.1 }) said old.holders c.remove_value.new.rows.holders) (sym c.in-Del.is) (told on))
    c.remove_value.ensures.followed
