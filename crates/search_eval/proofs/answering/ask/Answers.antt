use Rattle.std.proofs.Common.{◌∙◌, ap, filter}
use Rattle.search_query.specs.View.{view}
use Rattle.search_meets.specs.Meaning.{meets}
use Rattle.search_eval.proofs.Walk.{live_kept}
use Rattle.search_eval.proofs.answering.ask.Goals as goal

pub returns-clause-found : goal.returns-clause-found
returns-clause-found g c =
    let facts = g.K.Look.facts c.args.look.now in
    let accepts = g.K.Look.accepts c.args.look.now in
    live_kept facts accepts c.args.query.now c.args.stop _ _ _ _ (c.deref-2.ensures.value ∙ c.in_ok-met.ensures ∙ ap (filter (meets facts accepts (view c.args.query.now.constraint) c.args.query.now.at)) c.deref.ensures.value) c.in_ok-keep_live.ensures
