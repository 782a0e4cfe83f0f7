use Rattle.std.proofs.Common.{sym}
use Rattle.index_rows.proofs.RemovalWalks.{removal_next, removal_ends, removal_none}
use Rattle.index_rows.proofs.removal_rows.RemovalRows.next_of.Goals as goal

pub returns-then-is_under-clause-next : goal.returns-then-is_under-clause-next
returns-then-is_under-clause-next g c =
    removal_next c.args.self.now c.args.p.now c.args.mark c.args.after.now c.in-Some.key c.in-Some.ensures.next
    (sym c.if-is_under.ensures)

pub returns-else-is_under-clause-last : goal.returns-else-is_under-clause-last
returns-else-is_under-clause-last g c =
    removal_ends c.args.self.now c.args.p.now c.args.mark c.args.after.now c.in-Some.key c.in-Some.ensures.next
    (sym c.if-is_under.ensures)

pub returns-in-None-clause-last : goal.returns-in-None-clause-last
returns-in-None-clause-last g c =
    removal_none c.args.self.now c.args.p.now c.args.mark c.args.after.now c.in-None.ensures.last
