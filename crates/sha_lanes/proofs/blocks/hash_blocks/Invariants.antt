use Rattle.std.proofs.Common.{◌≡◌, ℕ, List, ◌+◌}
use Rattle.sha_lanes.specs.Hashing.{IsHashAfter}
use Rattle.sha_lanes.proofs.blocks.hash_blocks.Given as goal

abbrev pub invariant-runs : goal.invariant-runs
invariant-runs l = (l.next + l.left ≡ l.at + l.blocks)
    × ((h : List ℕ) → IsHashAfter h l.message l.fn.tail l.fn.state l.at → IsHashAfter h l.message l.fn.tail l.state l.next)

abbrev pub decreases-runs : goal.decreases-runs
decreases-runs l = l.left
