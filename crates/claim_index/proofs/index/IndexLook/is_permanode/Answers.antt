use Rattle.std.proofs.Common.{◌∙◌, sym, ap}
use Rattle.claim_model.specs.Genuine.{is_genuine_permanode}
use Rattle.claim_index.specs.Indexed.{Indexed}
use Rattle.claim_index.proofs.Settled.{all_ordered}
use Rattle.claim_index.proofs.Telling.{permanode_told}
use Rattle.claim_index.proofs.index.IndexLook.is_permanode.Goals as goal

pub returns-else-self : goal.returns-else-self
returns-else-self g c =
    let a = c.self.inside in
    let settled = c.self.invariant.1 c.if-self.false in
    let facts = sym (all_ordered a.rows.facts settled.none) ∙ ap (λ (v : Indexed g.row.V.Denot). v.facts)
    c.self.view_is in
    c.is_genuine_permanode.ensures
    ∙ permanode_told a.rows.facts.ordered
    (g.V.Verifier.accepts a.keys) a.rows.state a.rows.waiters a.rows.deletes a.rows.changes a.rows.holders
    settled.rest.tables c.args.r.now
    ∙ (λ i. is_genuine_permanode (facts i) (g.V.Verifier.accepts (c.self.view_is i).keys) c.args.r.now)
