use Rattle.std.proofs.Common.{◌≡◌, map, take, Some, None}
use Rattle.search_query.specs.View.{test_leaves_of}
use Rattle.search_query.specs.declared.query.Constraint.TheViews.{out-PermanodeTest}
use Rattle.search_meets.specs.Values.{live_meets}
use Rattle.search_meets.proofs.valuing.named_marks.Given as goal

abbrev pub invariant-loop-r : goal.invariant-loop-r
invariant-loop-r g l =
    l.out.items ≡ map (live_meets (g.K.Look.facts l.look) (g.K.Look.accepts l.look) (test_leaves_of (out-PermanodeTest l.test)) None l.when (Some l.attr)) (take l.r-index l.refs)
