use Rattle.std.proofs.Common.{◌∙◌, ap}
use Rattle.search_eval.specs.Walk.{is_found}
use Rattle.search_eval.proofs.Walk.{both_ok, taken_in, were_asked, whole}
use Rattle.search_eval.proofs.answering.come_to.Goals as goal

pub returns-clause-all : goal.returns-clause-all
returns-clause-all g c =
    let t = is_found (g.K.Look.facts c.args.look.now) (g.K.Look.accepts c.args.look.now) c.args.query.now in
    let walk = c.args.walk.now in
    both_ok c.ask.result c.ask.ensures.found c.ask.ensures.asked
    (λ is nothing rest. were_asked t c.args.stop _ _ _ _ rest is nothing ∙ ap (λ zs. whole t c.args.stop walk.found zs rest) c.in_ok-push.ensures.items ∙ taken_in t c.args.stop walk.found walk.asked.items c.args.p rest)
