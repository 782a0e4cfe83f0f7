use Rattle.std.proofs.Common.{sym, ap, ◌∙◌, is_some}
use Rattle.std.proofs.lemmas.Bool.{false≢true}
use Rattle.std.proofs.lemmas.Result.{IfOk-weaker}
use Rattle.schema_fact.specs.Changes.{change_seen}
use Rattle.attr_fold.specs.Following.{added_from}
use Rattle.attr_fold.proofs.Adding.{decided_one}
use Rattle.attr_fold.proofs.Dropping.{none_counted_of, one_counted}
use Rattle.attr_fold.proofs.Behind.{beside_one}
use Rattle.attr_fold.proofs.Standing.{dies, lives}
use Rattle.attr_fold.proofs.Walking.{change_is}
use Rattle.attr_fold.proofs.late.added_by.Goals as goal

pub returns-in_default-clause-added : goal.returns-in_default-clause-added
returns-in_default-clause-added g c =
    absurd (false≢true (ap is_some (c.in_default.ensures.value
    ∙ change_is c.args.rows.now.facts.ordered c.args.rows.now.state c.args.key.now.2 c.args.moment.now
    c.requires.change)))

pub returns-then-not-decides-clause-added : goal.returns-then-not-decides-clause-added
returns-then-not-decides-clause-added g c =
    let old = c.args.rows.now in
    let key = c.args.key.now in
    beside_one old.facts.ordered old.deletes c.args.moment.now (change_seen c.in-Some.change)
    (sym c.in-Some.ensures.value) key.0 key.1 (sym c.if-not-decides.ensures) c.args.times

pub returns-then-has_deleters-clause-added : goal.returns-then-has_deleters-clause-added
returns-then-has_deleters-clause-added g c =
    let old = c.args.rows.now in
    let key = c.args.key.now in
    let k = c.args.moment.now in
    sym (ap (added_from key.0 key.1 c.args.times) (none_counted_of old.facts.ordered old.deletes k
    (dies old.facts.ordered old.state old.deletes c.requires.counted key.2 k c.requires.change
    c.if-has_deleters.ensures.some)))

pub returns-clause-added : goal.returns-clause-added
returns-clause-added g c =
    let old = c.args.rows.now in
    let key = c.args.key.now in
    let k = c.args.moment.now in
    let change = change_seen c.in-Some.change in
    let one = one_counted old.facts.ordered old.deletes k change (sym c.in-Some.ensures.value)
    (lives old.facts.ordered old.state old.deletes c.requires.counted key.2 k c.requires.change
    c.if-has_deleters.ensures.some) in
    IfOk-weaker c.added_once.result _ _
    (λ more told. told ∙ sym (ap (added_from key.0 key.1 c.args.times) one
    ∙ decided_one key.0 key.1 change (sym c.if-not-decides.ensures) c.args.times))
    c.added_once.ensures
