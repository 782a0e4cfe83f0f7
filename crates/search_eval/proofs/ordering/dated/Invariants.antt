use Rattle.std.proofs.Common.{◌≡◌, take}
use Rattle.claim_model.specs.Claims.{last_change}
use Rattle.search_eval.specs.Answer.{dated}
use Rattle.search_eval.proofs.ordering.dated.Given as goal

abbrev pub invariant-loop-r : goal.invariant-loop-r
invariant-loop-r g l = l.dated.items ≡ dated (last_change (g.K.Look.facts l.look) (g.K.Look.accepts l.look) l.when) (take l.r-index l.refs)
