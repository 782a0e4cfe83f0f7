use Rattle.std.proofs.Common.{◌≡◌, ◌≤◌, ◌+◌, false, subst, arith}
use Rattle.claim_index.specs.Indexed.{Indexed}
use Rattle.claim_index.proofs.Settled.{no_length}
use Rattle.claim_index.proofs.index.Index.stands.Goals as goal

pub returns-clause-ticks : goal.returns-clause-ticks
returns-clause-ticks g c =
    subst (λ (v : Indexed g.row.V.Denot). v.stale ≡ false → c.fact_at.new.steps ≤ c.args.steps.now + 1) c.self.view_is
    (λ fresh. let none = no_length c.self.inside.rows.facts.loose (c.self.invariant.1 fresh).none in omega (arith, c.fact_at.ensures.ticks, none))
