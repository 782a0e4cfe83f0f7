use Rattle.std.proofs.Common.{◌∙◌, sym, subst}
use Rattle.std.specs.FinMap as finite
use Rattle.index_rows.specs.Changes.{AllFromFirst}
use Rattle.index_rows.proofs.Walks.{one_change, changes_from_first-insert}
use Rattle.index_rows.proofs.change_rows.ChangeRows.put.Goals as goal

pub returns-clause-ok : goal.returns-clause-ok
returns-clause-ok g c =
    one_change c.self.inside.rows.keys c.insert.new.self.keys (c.args.p.now, c.moment_of-moment.result) c.in_ok-insert.ensures.updates.0
    ∙ (λ i. finite.insert (c.self.view_is i) (c.args.p.now, c.moment_of-moment.ensures.value i) tt)

pub invariant_of-self-2 : goal.invariant_of-self-2
invariant_of-self-2 g c =
    let given = one_change c.self.inside.rows.keys c.insert.new.self.keys (c.args.p.now, c.moment_of-moment.result) c.in_ok-insert.ensures.updates.0 in
    subst AllFromFirst (sym given) (changes_from_first-insert _ (c.args.p.now, c.moment_of-moment.result) tt c.self.invariant c.moment_of-moment.ensures.first)
