use Rattle.std.proofs.Common.{◌≡◌, ◌&&◌, not, Some, option_copied, length}
use Rattle.std.specs.List.{list_any}
use Rattle.std.specs.FinMap.{entries}
use Rattle.claim_model.specs.Deleted.{deletes, deleted_within}
use Rattle.claim_model.specs.Facts.{Entry}
use Rattle.claim_model.specs.Genuine.{is_genuine}
use Rattle.index_look.specs.Walk.{entries_after, number_after}
use Rattle.plain_answers.proofs.deletion.+deleted_within.Given as goal

abbrev pub decreases-deleted_within : goal.decreases-deleted_within
decreases-deleted_within g l = number_after (g.T.FactTable.facts l.table.now) (option_copied l.after)

-- the answer is that for the facts that are left
abbrev pub invariant-walk : goal.invariant-walk
invariant-walk g l =
    let facts = g.T.FactTable.facts l.table in
    let accepts = g.V.Verifier.accepts l.keys in
    let test = λ (e : Entry). deletes l.x l.when e.1.kind && is_genuine facts accepts e.0 && not (deleted_within facts accepts l.when (number_after facts (Some l.next)) e.0) in
    list_any test (entries_after facts l.place) ≡ list_any test (entries facts)

abbrev pub decreases-walk : goal.decreases-walk
decreases-walk g l = length (entries_after (g.T.FactTable.facts l.table) l.place)
