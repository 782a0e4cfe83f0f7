use Rattle.std.proofs.Common.{arith}
use Rattle.http_wire.proofs.Closings.{closing_more}
use Rattle.http_wire.proofs.closing.some_closing.Goals as goal

pub loop-header-preserved : goal.loop-header-preserved
loop-header-preserved c = closing_more c.args.text.now c.args.headers.now c.loop-header.header-index _ c.loop-header.closes c.is_closing-closes.result (omega arith) c.loop-header.invariant c.is_closing-closes.ensures
