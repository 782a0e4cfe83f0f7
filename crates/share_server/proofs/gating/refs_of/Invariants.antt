use Rattle.std.proofs.Common.{◌≡◌, take}
use Rattle.share_server.specs.Serving.{refs_of}
use Rattle.share_server.proofs.gating.refs_of.Given as goal

abbrev pub invariant-loop-entry : goal.invariant-loop-entry
invariant-loop-entry l = l.refs ≡ refs_of (take l.entry-index l.facts)
