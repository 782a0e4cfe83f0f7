use Rattle.std.proofs.Common.{◌++◌, filter}
use Rattle.std.specs.Map.{keys_of}
use Rattle.row_answers.specs.Told.{told_holds}
use Rattle.plain_answers.proofs.Walking.{all_entries}
use Rattle.row_answers.proofs.Walking.{walk_had}
use Rattle.row_answers.proofs.answers.holding.Goals as goal

pub walk-init : goal.walk-init
walk-init g c =
    let rows = c.args.rows.now in
    (λ i. c.empty-found.ensures i ++ filter
    (told_holds rows.facts.ordered rows.state rows.deletes rows.changes c.args.when.now c.args.attr.now
    c.args.value.now)
    (keys_of (all_entries rows.facts.ordered i)))

pub keep_holder-requires-clause-fact : goal.keep_holder-requires-clause-fact
keep_holder-requires-clause-fact g c = walk_had c.args.rows.now.facts.ordered _ _ _ _ c.in-Some.ensures.next
