use Rattle.std.proofs.Common.{◌+◌, arith}
use Rattle.file_tree.proofs.Runs.{zeros_more, zeros_front}
use Rattle.file_tree.proofs.zeros.write_zeros.Goals as goal

pub returns-in_err-write_all-clause-front : goal.returns-in_err-write_all-clause-front
returns-in_err-write_all-clause-front g c =
    let took = c.pieces.invariant.took in
    zeros_front (g.K.Sink.written c.args.sink.now) (g.K.Sink.written c.pieces.sink) (g.K.Sink.written c.write_all.new.sink) took.0 c.pieces.left c.args.count c.min-n.result c.front_of-piece.result.now took.1 (omega (arith, c.min-n.ensures)) c.front_of-piece.ensures took.2 c.in_err-write_all.ensures.front

pub pieces-preserved : goal.pieces-preserved
pieces-preserved g c =
    let took = c.pieces.invariant.took in
    record {
      took = (took.0 + c.min-n.result, omega (arith, took.1, c.min-n.ensures), zeros_more (g.K.Sink.written c.args.sink.now) (g.K.Sink.written c.pieces.sink) (g.K.Sink.written c.write_all.new.sink) took.0 c.min-n.result c.front_of-piece.result.now c.front_of-piece.ensures took.2 c.in_ok-write_all.ensures.whole);
      later = omega (arith, c.in_ok-write_all.ensures.cause.later);
    }
