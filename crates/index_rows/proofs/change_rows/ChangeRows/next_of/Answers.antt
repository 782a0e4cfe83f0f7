use Rattle.std.proofs.Common.{sym, option_copied}
use Rattle.index_rows.proofs.Walks.{change_next, change_ends, change_none}
use Rattle.index_rows.proofs.change_rows.ChangeRows.next_of.Goals as goal

pub returns-then-eq-clause-next : goal.returns-then-eq-clause-next
returns-then-eq-clause-next g c =
    change_next c.args.self.now c.args.p.now c.in-Some.ensures.valid (option_copied c.args.after) c.in-Some.key tt c.in-Some.ensures.next (sym c.if-eq.ensures)

pub returns-else-eq-clause-last : goal.returns-else-eq-clause-last
returns-else-eq-clause-last g c =
    change_ends c.args.self.now c.args.p.now c.in-Some.ensures.valid (option_copied c.args.after) c.in-Some.key tt c.in-Some.ensures.next (sym c.if-eq.ensures)

pub returns-in-None-clause-last : goal.returns-in-None-clause-last
returns-in-None-clause-last g c =
    change_none c.args.self.now c.args.p.now c.in-None.ensures.valid (option_copied c.args.after) c.in-None.ensures.last
