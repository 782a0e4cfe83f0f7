use Rattle.std.proofs.Common.{◌∙◌, sym, ap}
use Rattle.claim_model.specs.Claims.{last_change}
use Rattle.claim_index.specs.Indexed.{Indexed}
use Rattle.claim_index.proofs.Settled.{all_ordered}
use Rattle.claim_index.proofs.Telling.{all_listed, change_told}
use Rattle.claim_index.proofs.index.IndexLook.last_change.Goals as goal

pub last_change-requires-else-self-clause-listed : goal.last_change-requires-else-self-clause-listed
last_change-requires-else-self-clause-listed g c =
    let a = c.self.inside in
    let settled = c.self.invariant.1 c.if-self.false in
    let rest = settled.rest.tables in
    all_listed a.rows.facts.ordered
    (g.V.Verifier.accepts a.keys) a.rows.state a.rows.waiters a.rows.deletes a.rows.changes a.rows.holders rest

pub returns-else-self : goal.returns-else-self
returns-else-self g c =
    let a = c.self.inside in
    let settled = c.self.invariant.1 c.if-self.false in
    let rest = settled.rest.tables in
    let facts = sym (all_ordered a.rows.facts settled.none) ∙ ap (λ (v : Indexed g.row.V.Denot). v.facts)
    c.self.view_is in
    c.last_change-else-self.ensures
    ∙ change_told a.rows.facts.ordered
    (g.V.Verifier.accepts a.keys) a.rows.state a.rows.waiters a.rows.deletes a.rows.changes a.rows.holders rest
    c.args.when.now c.args.p.now ∙ (λ i. last_change (facts i) (g.V.Verifier.accepts (c.self.view_is i).keys)
    c.args.when.now c.args.p.now)
