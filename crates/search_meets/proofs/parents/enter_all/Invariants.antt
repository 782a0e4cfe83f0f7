use Rattle.std.proofs.Common.{take}
use Rattle.search_meets.specs.Computed.{AreParents}
use Rattle.search_meets.proofs.parents.enter_all.Given as goal

abbrev pub invariant-loop-p : goal.invariant-loop-p
invariant-loop-p g l = AreParents (g.K.Look.facts l.look) (g.K.Look.accepts l.look) l.when l.refs (take l.p-index l.live) l.found
