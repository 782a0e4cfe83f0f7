use Rattle.std.proofs.Common.{sym, ap, ◌∙◌, is_some, not}
use Rattle.std.proofs.lemmas.Bool.{false≢true}
use Rattle.schema_fact.specs.Changes.{change_seen}
use Rattle.attr_fold.specs.Following.{decides}
use Rattle.attr_fold.proofs.Behind.{in_one, out_of_one}
use Rattle.attr_fold.proofs.Standing.{by_deleters}
use Rattle.attr_fold.proofs.Walking.{change_is}
use Rattle.attr_fold.proofs.late.is_decided_by.Goals as goal

pub returns-in_default-clause-decided : goal.returns-in_default-clause-decided
returns-in_default-clause-decided g c =
    absurd (false≢true (ap is_some (c.in_default.ensures.value ∙ change_is c.args.rows.now.facts.ordered c.args.rows.now.state c.args.key.now.2 c.args.moment.now c.requires.change)))

pub returns-then-not-decides-clause-decided : goal.returns-then-not-decides-clause-decided
returns-then-not-decides-clause-decided g c =
    let old = c.args.rows.now in
    let change = change_seen c.in-Some.change in
    sym (out_of_one old.facts.ordered old.deletes c.args.moment.now change (sym c.in-Some.ensures.value) (decides c.args.all c.args.key.now.0 c.args.key.now.1)
    (sym c.if-not-decides.ensures))

pub returns-clause-decided : goal.returns-clause-decided
returns-clause-decided g c =
    let old = c.args.rows.now in
    let change = change_seen c.in-Some.change in
    ap not (c.has_deleters.ensures.some ∙ by_deleters old.facts.ordered old.state old.deletes c.requires.counted c.args.key.now.2 c.args.moment.now c.requires.change)
    ∙ sym (in_one old.facts.ordered old.deletes c.args.moment.now change (sym c.in-Some.ensures.value) (decides c.args.all c.args.key.now.0 c.args.key.now.1)
    (sym c.if-not-decides.ensures))
