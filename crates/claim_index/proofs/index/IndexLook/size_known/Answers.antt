use Rattle.std.proofs.Common.{◌∙◌, sym, ap}
use Rattle.claim_model.specs.Trees.{file_size}
use Rattle.claim_index.specs.Indexed.{Indexed}
use Rattle.claim_index.proofs.Settled.{all_ordered}
use Rattle.claim_index.proofs.Telling.{size_told}
use Rattle.claim_index.proofs.index.IndexLook.size_known.Goals as goal

pub returns-else-self-clause-value : goal.returns-else-self-clause-value
returns-else-self-clause-value g c =
    let a = c.self.inside in
    let settled = c.self.invariant.1 c.if-self.false in
    let facts = sym (all_ordered a.rows.facts settled.none) ∙ ap (λ (v : Indexed g.row.V.Denot). v.facts)
    c.self.view_is in
    c.file_size.ensures
    ∙ size_told a.rows.facts.ordered
    (g.V.Verifier.accepts a.keys) a.rows.state a.rows.waiters a.rows.deletes a.rows.changes a.rows.holders
    settled.rest.tables c.args.r.now
    ∙ (λ i. file_size (facts i) c.args.r.now)
