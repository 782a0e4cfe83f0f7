use Rattle.std.proofs.Common.{◌≤◌, ◌+◌, ◌*◌, drop}
use Rattle.file_tree.specs.Fetching.{PartsRead, PartRead}
use Rattle.file_tree.specs.Reading.{Rests}
use Rattle.file_tree.proofs.Fetches.{SoFar}
use Rattle.file_tree.proofs.reading.+reading.Given as goal

-- each tree within a part may have one level less
abbrev pub decreases-read_parts : goal.decreases-read_parts
decreases-read_parts g l = 3 * l.depth + 2

abbrev pub decreases-read_asked : goal.decreases-read_asked
decreases-read_asked g l = 3 * l.depth + 1

abbrev pub decreases-read_part : goal.decreases-read_part
decreases-read_part g l = 3 * l.depth

-- what was read, and what is left to read, are the whole
abbrev pub invariant-read_parts-loop-i : goal.invariant-read_parts-loop-i
invariant-read_parts-loop-i g l =
    let shelf = g.B.Shelf in
    let sink = g.K.Sink in
    record {
      so_far : SoFar shelf l.fn.shelf l.shelf (sink.written l.fn.sink) (sink.written l.sink)
          (PartsRead (PartRead l.depth) l.parts l.from l.count) (PartsRead (PartRead l.depth) (drop l.i l.parts) l.at l.left);
      rests : Rests shelf l.fn.shelf l.shelf;
      later : sink.faults l.fn.sink ≤ sink.faults l.sink;
    }
