use Rattle.std.proofs.Common.{sym}
use Rattle.index_rows.proofs.WalksBack.{change_prev, change_begins, change_first}
use Rattle.index_rows.proofs.change_rows.ChangeRows.prev_of.Goals as goal

pub returns-then-eq-clause-prev : goal.returns-then-eq-clause-prev
returns-then-eq-clause-prev g c =
    change_prev c.args.self.now c.args.p.now c.args.before.now c.in-Some.key c.in-Some.ensures.prev (sym c.if-eq.ensures)

pub returns-else-eq-clause-first : goal.returns-else-eq-clause-first
returns-else-eq-clause-first g c =
    change_begins c.args.self.now c.args.p.now c.args.before.now c.in-Some.key c.in-Some.ensures.prev (sym c.if-eq.ensures)

pub returns-in-None-clause-first : goal.returns-in-None-clause-first
returns-in-None-clause-first g c =
    change_first c.args.self.now c.args.p.now c.args.before.now c.in-None.ensures.first
