use Rattle.std.proofs.Common.{◌≡◌, map, take}
use Rattle.search_meets.specs.Values.{is_live}
use Rattle.search_meets.proofs.valuing.live_marks.Given as goal

abbrev pub invariant-loop-r : goal.invariant-loop-r
invariant-loop-r g l = l.out.items ≡ map (is_live (g.K.Look.facts l.look) (g.K.Look.accepts l.look) l.when) (take l.r-index l.refs)
