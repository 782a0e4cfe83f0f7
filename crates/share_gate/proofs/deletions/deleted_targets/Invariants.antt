use Rattle.std.proofs.Common.{take}
use Rattle.share_gate.specs.Tables.{AreDeleted}
use Rattle.share_gate.proofs.deletions.deleted_targets.Given as goal

-- the targets are of the refs so far
abbrev pub invariant-loop-r : goal.invariant-loop-r
invariant-loop-r g l =
    AreDeleted (g.K.Look.facts l.look) (g.V.Verifier.accepts l.keys) (take l.r-index l.refs) l.targets
