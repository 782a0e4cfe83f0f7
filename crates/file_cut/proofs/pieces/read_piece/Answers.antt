use Rattle.std.proofs.Common.{◌≤◌, take, length, sym, subst, arith}
use Rattle.edge_base.specs.Edge.{SourceGave}
use Rattle.edge_base.proofs.Moves.{SourceGave-chain}
use Rattle.file_cut.proofs.Filling.{filled, filled_within}
use Rattle.file_cut.proofs.pieces.read_piece.Goals as goal

pub pieces-preserved : goal.pieces-preserved
pieces-preserved g c =
    let left = g.S.Source.left in
    let n = c.in_ok-n.n in
    let bound : n ≤ length c.read.new.buf = subst (λ k. n ≤ k) (sym c.read.auto.buf) c.in_ok-n.ensures.bound in
    let within : c.pieces.at ≤ length c.pieces.buf = c.pieces.invariant.within in
    record {
      gave = subst (SourceGave (left c.args.source.now) (left c.read.new.self)) (sym (filled c.pieces.at n c.pieces.buf c.read.new.buf within c.read.auto.buf bound))
          (SourceGave-chain (left c.args.source.now) (left c.pieces.source) (left c.read.new.self) (take c.pieces.at c.pieces.buf) (take n c.read.new.buf) c.pieces.invariant.gave c.in_ok-n.ensures.bytes);
      within = filled_within c.pieces.at n c.pieces.buf c.read.new.buf within c.read.auto.buf bound;
      later = omega (arith, c.in_ok-n.ensures.cause.later);
    }
