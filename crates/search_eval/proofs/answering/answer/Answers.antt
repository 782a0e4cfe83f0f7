use Rattle.std.proofs.Common.{◌∙◌, None}
use Rattle.search_eval.proofs.Walk.{ascends_as}
use Rattle.search_eval.proofs.answering.answer.Goals as goal

pub rising-requires : goal.rising-requires
rising-requires g c =
    ascends_as None _ (g.K.Look.facts c.args.look.now) (g.K.Look.accepts c.args.look.now) c.args.query.now (c.as_slice.ensures ∙ c.in_ok-refs-in-Mod.ensures.all)

pub falling-requires : goal.falling-requires
falling-requires g c =
    ascends_as None _ (g.K.Look.facts c.args.look.now) (g.K.Look.accepts c.args.look.now) c.args.query.now (c.as_slice-in-ModDown.ensures ∙ c.in_ok-refs-in-ModDown.ensures.all)
