use Rattle.std.proofs.Common.{arith}
use Rattle.peer_http.proofs.Pages.{no_after}
use Rattle.peer_http.proofs.answers.is_page.Goals as goal

pub returns-in-None : goal.returns-in-None
returns-in-None c = rw c.in-None.is (no_after c.args.limit c.args.page.now (omega arith))
