use Rattle.peer_requests.proofs.Marked.{set_marked, marked_beyond}
use Rattle.std.proofs.Common.{arith}
use Rattle.peer_requests.proofs.free_number.mark.Goals as goal

pub returns-then-number-flags : goal.returns-then-number-flags
returns-then-number-flags c = set_marked c.args.flags.now c.args.number (omega (arith, c.if-number-flags.true))

pub returns-else-number-flags : goal.returns-else-number-flags
returns-else-number-flags c = marked_beyond c.args.flags.now c.args.number (omega (arith, c.if-number-flags.false))
