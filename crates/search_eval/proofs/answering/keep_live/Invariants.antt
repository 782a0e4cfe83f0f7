use Rattle.std.proofs.Common.{◌≡◌, ◌++◌, filter, not, take}
use Rattle.claim_model.specs.Deleted.{is_deleted}
use Rattle.search_eval.specs.Walk.{up_to}
use Rattle.search_eval.proofs.answering.keep_live.Given as goal

abbrev pub invariant-loop-r : goal.invariant-loop-r
invariant-loop-r g l =
    l.kept ≡ up_to l.stop (l.fn.kept ++ filter (λ r. not (is_deleted (g.K.Look.facts l.look) (g.K.Look.accepts l.look) l.when r)) (take l.r-index l.refs))
