use Rattle.std.proofs.Common.{◌+◌, ◌-◌, ◌*◌, length}
use Rattle.blob_server.proofs.sharing.+halves.Given as goal

abbrev pub decreases-attend_all : goal.decreases-attend_all
decreases-attend_all g l = 3 * length l.desks.now

abbrev pub decreases-attend_both-first : goal.decreases-attend_both-first
decreases-attend_both-first g l = 3 * length l.front.now + 1

abbrev pub decreases-attend_both-rest : goal.decreases-attend_both-rest
decreases-attend_both-rest g l = 3 * length l.back.now + 1

abbrev pub decreases-attend_both : goal.decreases-attend_both
decreases-attend_both g l = 3 * length l.front.now + 3 * length l.back.now - 1
