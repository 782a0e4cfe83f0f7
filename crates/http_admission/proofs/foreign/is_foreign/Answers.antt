use Rattle.std.proofs.Common.{arith, map}
use Rattle.httparse.specs.Spans.{header_bytes}
use Rattle.http_admission.specs.Admissions.{says_foreign}
use Rattle.http_admission.proofs.Headers.{any_more}
use Rattle.http_admission.proofs.foreign.is_foreign.Goals as goal

pub loop-header-preserved : goal.loop-header-preserved
loop-header-preserved c = any_more (says_foreign (map (header_bytes c.args.text.now) c.args.headers.now)) c.args.text.now c.args.headers.now c.loop-header.header-index _ c.loop-header.is c.says_foreign-is.result (omega arith) c.loop-header.invariant c.says_foreign-is.ensures
