use Rattle.std.specs.FinMap.{len}
use Rattle.delete_claims.specs.Flipping.{Flipping}
use Rattle.index_rows.specs.Deletes.{row_stands}
use Rattle.delete_claims.proofs.Rounds.{late}
use Rattle.delete_claims.proofs.Ticks.{HasTicked}
use Rattle.delete_claims.proofs.flipping.flip_from.Given as goal

abbrev pub invariant-chain : goal.invariant-chain
invariant-chain g l = record {
  flipping : Flipping l.facts l.deletes l.fn.state l.state l.changed l.at l.up;
  ticks : HasTicked l.facts (row_stands l.facts l.deletes) l.start l.fn.steps l.changed l.at l.steps;
}

abbrev pub decreases-chain : goal.decreases-chain
decreases-chain g l = late l.facts (len l.facts) l.at
