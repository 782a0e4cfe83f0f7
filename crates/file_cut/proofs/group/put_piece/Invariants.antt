use Rattle.std.proofs.Common.{◌*◌, drop}
use Rattle.file_cut.proofs.Together.{AreTaken}
use Rattle.file_cut.proofs.group.put_piece.Given as goal

-- the chunks so far were put
abbrev pub invariant-chunks : goal.invariant-chunks
invariant-chunks g l = AreTaken g.B.Shelf l.size l.full l.fn.shelf l.shelf l.fn.draft l.draft l.bytes (drop (l.i * l.size) l.bytes)
