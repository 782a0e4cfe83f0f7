use Rattle.std.proofs.Common.{ap, ◌∙◌, sym, subst}
use Rattle.std.specs.Vec.Iter.{into_iter_items}
use Rattle.index_rows.specs.Stored.{AreAllValid}
use Rattle.plain_index.proofs.Collected.{collected, valid_in_map}
use Rattle.plain_index.proofs.index.PlainIndex.build.Goals as goal

pub returns-clause-facts : goal.returns-clause-facts
returns-clause-facts g c =
    let run = c.in_ok-facts.ensures.runs tt in
    let items = (c.into_iter.ensures.runs run.0 run.0.seen).4 run.2 ∙ ap into_iter_items run.1 ∙ c.into_iter.ensures.rest ∙ c.into_vec.ensures in
    collected c.args.facts run.0.items c.in_ok-facts.facts.entries c.requires.distinct items run.3.0

pub invariant_of-result : goal.invariant_of-result
invariant_of-result g c =
    let run = c.in_ok-facts.ensures.runs tt in
    let items = (c.into_iter.ensures.runs run.0 run.0.seen).4 run.2 ∙ ap into_iter_items run.1 ∙ c.into_iter.ensures.rest ∙ c.into_vec.ensures in
    let same = collected c.args.facts run.0.items c.in_ok-facts.facts.entries c.requires.distinct items run.3.0 in
    subst AreAllValid (sym same) (valid_in_map c.args.facts c.requires.valid)
