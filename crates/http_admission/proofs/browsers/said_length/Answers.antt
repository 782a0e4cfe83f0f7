use Rattle.std.proofs.Common.{arith, sym, ◌∙◌}
use Rattle.http_admission.proofs.Headers.{length_more}
use Rattle.http_admission.proofs.browsers.said_length.Goals as goal

pub loop-header-preserved : goal.loop-header-preserved
loop-header-preserved c = c.loop-header.invariant ∙ length_more c.args.text.now c.args.headers.now c.loop-header.header-index _ (omega arith) (sym c.if-is_length.ensures)
