use Rattle.std.proofs.Common.{◌+◌, arith}
use Rattle.sha_lanes.proofs.Digests.{hash_at}
use Rattle.sha_lanes.proofs.blocks.hash_blocks.Goals as goal

pub runs-preserved : goal.runs-preserved
runs-preserved c = (
  omega (arith, c.runs.invariant.0, c.min-run.ensures),
  λ h held. c.hash_some.ensures h (c.runs.invariant.1 h held),
)

pub returns : goal.returns
returns c = λ h held.
    hash_at h c.args.message.now c.args.tail.now c.runs.state c.runs.next (c.args.at + c.args.blocks)
    (omega (arith, c.runs.invariant.0)) (c.runs.invariant.1 h held)
