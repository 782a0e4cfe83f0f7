use Rattle.std.proofs.Common.{◌∙◌}
use Rattle.std.specs.FinMap as finite
use Rattle.index_rows.proofs.RemovalWalks.{one_removal}
use Rattle.index_rows.proofs.removal_rows.RemovalRows.put.Goals as goal

pub returns-clause-ok : goal.returns-clause-ok
returns-clause-ok g c =
    one_removal c.self.inside.rows.keys c.insert.new.self.keys (c.args.p.now, c.args.mark, c.moment_of-moment.result)
    c.in_ok-insert.ensures.updates.0
    ∙ (λ i. finite.insert (c.self.view_is i) (c.args.p.now, c.args.mark, c.moment_of-moment.ensures.value i) tt)
