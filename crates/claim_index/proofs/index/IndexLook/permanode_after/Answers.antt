use Rattle.std.proofs.Common.{◌∙◌, option_copied, sym, ap}
use Rattle.index_look.specs.Look.{permanode_after}
use Rattle.claim_index.specs.Indexed.{Indexed}
use Rattle.claim_index.proofs.Settled.{all_ordered}
use Rattle.claim_index.proofs.Telling.{after_told}
use Rattle.claim_index.proofs.index.IndexLook.permanode_after.Goals as goal

pub returns-else-self : goal.returns-else-self
returns-else-self g c =
    let a = c.self.inside in
    let settled = c.self.invariant.1 c.if-self.false in
    let rest = settled.rest.tables in
    let facts = sym (all_ordered a.rows.facts settled.none) ∙ ap (λ (v : Indexed g.row.V.Denot). v.facts)
    c.self.view_is in
    c.permanode_after-else-self.ensures
    ∙ after_told a.rows.facts.ordered
    (g.V.Verifier.accepts a.keys) a.rows.state a.rows.waiters a.rows.deletes a.rows.changes a.rows.holders rest
    (option_copied c.args.after)
    ∙ (λ i. permanode_after (facts i) (g.V.Verifier.accepts (c.self.view_is i).keys)
    (option_copied c.args.after))
