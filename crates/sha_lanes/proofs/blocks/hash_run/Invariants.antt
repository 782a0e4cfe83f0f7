use Rattle.std.proofs.Common.{ℕ, List, ◌+◌, ◌<◌, length}
use Rattle.sha_lanes.specs.Hashing.{IsHashAfter}
use Rattle.sha_lanes.specs.Lanes.{AreRows}
use Rattle.sha_lanes.specs.Message.{block_in, whole_blocks, with_tail}
use Rattle.sha_lanes.specs.Schedules.{HasBlock}
use Rattle.sha_lanes.proofs.blocks.hash_run.Given as goal

abbrev pub invariant-load : goal.invariant-load
invariant-load g l = record {
  rows : AreRows g.row.N l.words;
  put : (j : ℕ) → j < l.lane → l.fn.at + j < whole_blocks (length l.fn.message) + 2
      → HasBlock l.words j (block_in (with_tail l.fn.message l.fn.tail) (l.fn.at + j));
}

abbrev pub invariant-lanes : goal.invariant-lanes
invariant-lanes g l = (h : List ℕ) → IsHashAfter h l.fn.message l.fn.tail l.fn.state l.fn.at
    → IsHashAfter h l.fn.message l.fn.tail l.state (l.fn.at + l.lane)
