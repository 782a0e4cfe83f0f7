use Rattle.std.proofs.Common.{arith}
use Rattle.http_admission.specs.Admissions.{gives_origin}
use Rattle.http_admission.proofs.Headers.{any_more}
use Rattle.http_admission.proofs.foreign.has_origin.Goals as goal

pub loop-header-preserved : goal.loop-header-preserved
loop-header-preserved c = any_more (gives_origin c.args.origin.now) c.args.text.now c.args.headers.now c.loop-header.header-index _ c.loop-header.is c.gives_origin-is.result (omega arith) c.loop-header.invariant c.gives_origin-is.ensures
