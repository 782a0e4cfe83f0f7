use Rattle.std.proofs.Common.{◌≡◌, [], true, ap, ◌∙◌, arith}
use Rattle.std.specs.List.{list_any}
use Rattle.index_rows.specs.Removals.{mark_of}
use Rattle.index_rows.proofs.ByMark.{fewer_under}
use Rattle.attr_fold.specs.Following.{counted_under, decides}
use Rattle.attr_fold.proofs.Taking.{emptied_under}
use Rattle.attr_fold.proofs.late.is_emptied_after.Goals as goal

pub returns-clause-emptied : goal.returns-clause-emptied
returns-clause-emptied g c =
    let old = c.args.rows.now in
    let key = c.args.key.now in
    let mark : c.mark_of-mark.result ≡ mark_of key.0 [] = c.mark_of-mark.ensures
    ∙ ap (λ a. mark_of a []) c.attr.ensures in
    c.is_decided_under.ensures.decided
    ∙ ap (λ m. list_any (decides true key.0 key.1) (counted_under old.facts.ordered old.deletes old.removals key.2 m
    c.args.moment.now)) mark
    ∙ emptied_under old.facts.ordered old.deletes old.changes old.removals c.requires.taken key.2 key.0 key.1
    c.args.moment.now

pub returns-clause-ticks : goal.returns-clause-ticks
returns-clause-ticks g c =
    let old = c.args.rows.now in
    let few = fewer_under old.facts.ordered c.args.key.now.2 c.args.moment.now old.changes old.removals
    c.requires.taken c.mark_of-mark.result in
    let a = c.is_decided_under.ensures.ticks in
    omega (arith, few, a)
