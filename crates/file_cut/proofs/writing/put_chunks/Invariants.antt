use Rattle.std.proofs.Common.{◌≡◌, ◌≤◌, length}
use Rattle.file_cut.proofs.Chunks.{SoFar}
use Rattle.file_cut.proofs.writing.put_chunks.Given as goal

-- the chunks so far are whole, were read and were put
abbrev pub invariant-pieces : goal.invariant-pieces
invariant-pieces g l =
    let source = g.S.Source in
    record {
      so : SoFar source g.B.Shelf l.size l.full l.most l.fn.source l.source l.fn.shelf l.shelf l.draft l.left;
      same : length l.buf ≡ length l.fn.buf;
      later : source.faults l.fn.source ≤ source.faults l.source;
    }

abbrev pub decreases-pieces : goal.decreases-pieces
decreases-pieces g l = l.left
