use Rattle.std.proofs.Common.{◌≡◌, map, take}
use Rattle.index_look.specs.Known.{IsSo}
use Rattle.search_meets.specs.Values.{kin_of}
use Rattle.search_meets.proofs.kin.each_kin.Given as goal

abbrev pub invariant-loop-r : goal.invariant-loop-r
invariant-loop-r g l = (l.out.items ≡ map (kin_of (g.K.Look.facts l.look) (g.K.Look.accepts l.look) l.kin l.when) (take l.r-index l.refs))
    × IsSo (g.K.Look.facts l.look) l.known
