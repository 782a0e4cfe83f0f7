use Rattle.std.proofs.Common.{◌≡◌, filter, take}
use Rattle.index_look.specs.Known.{IsSo}
use Rattle.search_meets.specs.Computed.{is_candidate}
use Rattle.search_meets.proofs.valuing.candidates.Given as goal

abbrev pub invariant-loop-v : goal.invariant-loop-v
invariant-loop-v g l = (l.kept ≡ filter (is_candidate (g.K.Look.facts l.look) l.value l.matches) (take l.v-index l.found))
    × IsSo (g.K.Look.facts l.look) l.known
