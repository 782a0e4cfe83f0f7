use Rattle.std.proofs.Common.{◌≡◌, OnOk, subst}
use Rattle.schema_fact.specs.Changes.{change_seen}
use Rattle.attr_fold.proofs.Standing.{noted_is}
use Rattle.attr_fold.proofs.refolding.note_moment.Goals as goal

pub returns-clause-noted : goal.returns-clause-noted
returns-clause-noted g c =
    subst (λ t. OnOk c.note.result (c.note.new.self ≡ t))
    (noted_is c.args.rows.now.facts.ordered c.args.rows.now.state c.args.rows.now.deletes c.requires.counted c.args.p.now
    c.args.turns.now c.args.moment.now c.args.n c.requires.change (change_seen c.in-Some.change) c.has_deleters-counts.result
    c.in-Some.ensures.value c.has_deleters-counts.ensures.some)
    c.note.ensures
