use Rattle.std.proofs.Common.{◌≤◌, ◌-◌, take, length}
use Rattle.edge_base.specs.Edge.{SourceGave}
use Rattle.file_cut.proofs.pieces.read_piece.Given as goal

-- what was taken from the source stands in front
abbrev pub invariant-pieces : goal.invariant-pieces
invariant-pieces g l =
    let source = g.S.Source in
    record {
      gave : SourceGave (source.left l.fn.source) (source.left l.source) (take l.at l.buf);
      within : l.at ≤ length l.buf;
      later : source.faults l.fn.source ≤ source.faults l.source;
    }

abbrev pub decreases-pieces : goal.decreases-pieces
decreases-pieces g l = length l.buf - l.at
