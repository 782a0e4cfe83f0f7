use Rattle.std.proofs.Common.{◌∙◌, sym, ap, filter}
use Rattle.std.proofs.lemmas.Result.{IfOk-weaker}
use Rattle.search_eval.specs.Walk.{is_found, up_to}
use Rattle.search_eval.proofs.Beginning.{found_plain, found_some}
use Rattle.search_eval.proofs.answering.found_among.Goals as goal

pub returns-then-is_plain-clause-all : goal.returns-then-is_plain-clause-all
returns-then-is_plain-clause-all g c =
    IfOk-weaker c.cut.result _ _
    (λ now is. found_plain (g.K.Look.facts c.args.look.now) (g.K.Look.accepts c.args.look.now) c.args.query.now c.args.stop c.args.refs now c.requires
    (sym c.is_plain.ensures ∙ c.if-is_plain.true) is)
    c.cut.ensures

pub returns-clause-all : goal.returns-clause-all
returns-clause-all g c =
    let t = is_found (g.K.Look.facts c.args.look.now) (g.K.Look.accepts c.args.look.now) c.args.query.now in
    IfOk-weaker c.asked_among.result _ _
    (λ now is. found_some (g.K.Look.facts c.args.look.now) (g.K.Look.accepts c.args.look.now) c.args.query.now c.args.stop c.args.refs now c.requires
    (is ∙ ap (λ rs. up_to c.args.stop (filter t rs)) c.as_slice.ensures))
    c.asked_among.ensures
