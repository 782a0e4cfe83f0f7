use Rattle.std.proofs.Common.{ℕ, List, ◌+◌, ◌<◌, arith}
use Rattle.sha_lanes.specs.Message.{block_in, with_tail}
use Rattle.sha_lanes.proofs.Digests.{hash_next}
use Rattle.sha_lanes.proofs.blocks.hash_run.Goals as goal

pub lanes-preserved : goal.lanes-preserved
lanes-preserved g c = λ h held.
    let m : List ℕ = c.args.message.now in
    let t : List ℕ = c.args.tail.now in
    let j : ℕ = c.lanes.lane in
    let i : ℕ = c.args.at + j in
    let b : List ℕ = block_in (with_tail m t) i in
    let below : j < g.row.N = omega arith in
    let loaded : j < c.load.lane = omega arith in
    hash_next h m t c.lanes.state _ i _ (omega arith) (c.lanes.invariant h held)
    (λ lt. c.compress.ensures b (c.schedule_of-words.ensures j b below (c.load.invariant.put j loaded lt)))
