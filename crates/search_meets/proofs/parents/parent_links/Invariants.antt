use Rattle.std.proofs.Common.{◌≡◌, map, take}
use Rattle.claim_model.specs.Claims.{parents}
use Rattle.search_meets.proofs.parents.parent_links.Given as goal

abbrev pub invariant-loop-r : goal.invariant-loop-r
invariant-loop-r g l = l.out.items ≡ map (parents (g.K.Look.facts l.look) (g.K.Look.accepts l.look) l.when) (take l.r-index l.refs)
