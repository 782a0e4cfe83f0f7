use Rattle.std.proofs.Common.{◌≡◌, map, take}
use Rattle.search_query.specs.View.{test_leaves_of}
use Rattle.search_query.specs.declared.query.Constraint.TheViews.{out-PermanodeTest}
use Rattle.index_look.specs.Known.{IsSo}
use Rattle.search_meets.specs.Computed.{set_refs}
use Rattle.search_meets.proofs.valuing.set_links.Given as goal

abbrev pub invariant-loop-r : goal.invariant-loop-r
invariant-loop-r g l =
    (l.out.items ≡ map (set_refs (g.K.Look.facts l.look) (g.K.Look.accepts l.look) (test_leaves_of (out-PermanodeTest l.test)) l.when l.attr) (take l.r-index l.refs))
    × IsSo (g.K.Look.facts l.look) l.known
