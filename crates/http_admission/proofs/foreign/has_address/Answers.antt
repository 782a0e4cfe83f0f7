use Rattle.std.proofs.Common.{arith}
use Rattle.http_admission.specs.Admissions.{gives_address}
use Rattle.http_admission.proofs.Headers.{any_more}
use Rattle.http_admission.proofs.foreign.has_address.Goals as goal

pub loop-header-preserved : goal.loop-header-preserved
loop-header-preserved c = any_more (gives_address c.args.address.now) c.args.text.now c.args.headers.now c.loop-header.header-index _ c.loop-header.is c.gives_address-is.result (omega arith) c.loop-header.invariant c.gives_address-is.ensures
