use Rattle.std.proofs.Common.{◌≡◌, ◌<◌, ◌∙◌, Some, sym, ap, arith, option_copied}
use Rattle.std.specs.List.{list_any}
use Rattle.claim_model.specs.Deleted.{deleted_within}
use Rattle.index_look.specs.Walk.{entries_after, number_after}
use Rattle.plain_answers.proofs.Walking.{none_left, one_less, all_entries}
use Rattle.plain_answers.proofs.Deleting.{deletes_x, gone, stands}
use Rattle.plain_answers.proofs.deletion.+deleted_within.Goals as goal

pub returns-in_default : goal.returns-in_default
returns-in_default g t c =
    let facts = g.T.FactTable.facts c.args.table.now in
    sym (ap (λ n. deleted_within facts (g.V.Verifier.accepts c.args.keys.now) c.args.when.now n c.args.x.now) (none_left facts (option_copied c.args.after) c.in_default.ensures.value))

pub walk-init : goal.walk-init
walk-init g t c =
    let facts = g.T.FactTable.facts c.args.table.now in
    ap (list_any (deletes_x facts (g.V.Verifier.accepts c.args.keys.now) c.args.when.now c.args.x.now (number_after facts (Some c.in-Some.next)))) (all_entries facts)

pub deleted_within-requires : goal.deleted_within-requires
deleted_within-requires g t c =
    let facts = g.T.FactTable.facts c.args.table.now in
    let is : number_after facts (option_copied c.args.after) ≡ t = c.decreases in
    let less : number_after facts (Some c.in-Some.next) < t = omega (arith, is, one_less facts (option_copied c.args.after) c.in-Some.next c.in-Some.ensures.value) in
    λ κs lives. (less, lives)

pub returns-then-not-deleted_within : goal.returns-then-not-deleted_within
returns-then-not-deleted_within g t c =
    let facts = g.T.FactTable.facts c.args.table.now in
    gone facts (g.V.Verifier.accepts c.args.keys.now) c.args.when.now c.args.x.now (number_after facts (Some c.in-Some.next)) (number_after facts (option_copied c.args.after))
    (entries_after facts c.walk.place) (c.in-Some-entry_after.entry.0, c.in-Some-entry_after.entry.1.now) _
    (one_less facts (option_copied c.args.after) c.in-Some.next c.in-Some.ensures.value)
    (ap (λ o. entries_after facts o) (sym c.as_ref.ensures.value) ∙ c.in-Some-entry_after.ensures.next)
    c.if-not-can_be_deleted_at.ensures.value c.walk.invariant c.if-deletes.ensures c.if-is_genuine.ensures c.if-not-deleted_within.ensures

pub returns : goal.returns
returns g t c =
    let facts = g.T.FactTable.facts c.args.table.now in
    stands facts (g.V.Verifier.accepts c.args.keys.now) c.args.when.now c.args.x.now (number_after facts (Some c.in-Some.next)) (number_after facts (option_copied c.args.after))
    (entries_after facts c.walk.place)
    (one_less facts (option_copied c.args.after) c.in-Some.next c.in-Some.ensures.value)
    (ap (λ o. entries_after facts o) (sym c.as_ref.ensures.value) ∙ c.in_default-entry_after.ensures.last)
    c.if-not-can_be_deleted_at.ensures.value c.walk.invariant
