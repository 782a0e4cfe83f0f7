use Rattle.std.proofs.Common.{arith}
use Rattle.http_admission.specs.Admissions.{says_page}
use Rattle.http_admission.proofs.Headers.{any_more}
use Rattle.http_admission.proofs.foreign.names_page.Goals as goal

pub loop-header-preserved : goal.loop-header-preserved
loop-header-preserved c = any_more says_page c.args.text.now c.args.headers.now c.loop-header.header-index _ c.loop-header.is c.says_page-is.result (omega arith) c.loop-header.invariant c.says_page-is.ensures
