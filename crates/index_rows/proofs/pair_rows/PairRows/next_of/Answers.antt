use Rattle.std.proofs.Common.{sym, option_copied}
use Rattle.index_rows.proofs.Walks.{group_next, group_ends, group_none}
use Rattle.index_rows.proofs.pair_rows.PairRows.next_of.Goals as goal

pub returns-then-eq-clause-next : goal.returns-then-eq-clause-next
returns-then-eq-clause-next g c =
    group_next c.args.self.now c.args.x.now c.in-Some.ensures.valid (option_copied c.args.after) c.in-Some.key c.in-Some.row c.in-Some.ensures.next (sym c.if-eq.ensures)

pub returns-else-eq-clause-last : goal.returns-else-eq-clause-last
returns-else-eq-clause-last g c =
    group_ends c.args.self.now c.args.x.now c.in-Some.ensures.valid (option_copied c.args.after) c.in-Some.key c.in-Some.row c.in-Some.ensures.next (sym c.if-eq.ensures)

pub returns-in-None-clause-last : goal.returns-in-None-clause-last
returns-in-None-clause-last g c =
    group_none c.args.self.now c.args.x.now c.in-None.ensures.valid (option_copied c.args.after) c.in-None.ensures.last
