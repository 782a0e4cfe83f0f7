use Rattle.std.proofs.Common.{◌∙◌, ap}
use Rattle.blobref.specs.Blobref.{ref_of}
use Rattle.answer_text.specs.Search.{search_text}
use Rattle.search_eval.specs.Answer.{answer}
use Rattle.fact_lines.proofs.load.tagged.Goals as goal

pub returns : goal.returns
returns g c =
    let facts = g.K.Look.facts c.args.look.now in
    let accepts = g.K.Look.accepts c.args.look.now in
    c.of.ensures ∙ ap ref_of (c.as_slice.ensures ∙ c.in_ok-text.ensures
    ∙ ap search_text (c.in_ok-refs.ensures ∙ ap (answer facts accepts) c.in_ok-query.ensures.asked))
