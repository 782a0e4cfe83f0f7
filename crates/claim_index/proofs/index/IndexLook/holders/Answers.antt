use Rattle.std.proofs.Common.{◌≡◌, ◌∙◌, ap, sym, subst, IfOk, List, ℕ, length, arith}
use Rattle.std.proofs.lemmas.Bool.{false≢true}
use Rattle.claim_index.specs.Indexed.{Indexed}
use Rattle.claim_model.specs.Claims.{holders}
use Rattle.claim_index.proofs.Settled.{all_ordered}
use Rattle.claim_index.proofs.Telling.{holders_told}
use Rattle.claim_index.proofs.index.IndexLook.holders.Goals as goal

pub returns-else-self-clause-value : goal.returns-else-self-clause-value
returns-else-self-clause-value g c =
    let a = c.self.inside in
    let settled = c.self.invariant.1 c.if-self.false in
    let rest = settled.rest.tables in
    let facts = sym (all_ordered a.rows.facts settled.none) ∙ ap (λ (v : Indexed g.row.V.Denot). v.facts)
    c.self.view_is in
    let is = holders_told a.rows.facts.ordered
    (g.V.Verifier.accepts a.keys) a.rows.state a.rows.waiters a.rows.deletes a.rows.changes a.rows.holders rest
    c.args.attr.now c.args.value.now ∙ (λ i. holders (facts i) (g.V.Verifier.accepts (c.self.view_is i).keys)
    c.args.attr.now c.args.value.now) in
    subst (λ (v : List (List ℕ)). IfOk c.all_of.result (λ refs. refs ≡ v)) is c.all_of.ensures.all

pub returns-then-self-clause-ticks : goal.returns-then-self-clause-ticks
returns-then-self-clause-ticks g c = λ quick. absurd (false≢true
    (sym (ap (λ (v : Indexed g.row.V.Denot). v.stale) c.self.view_is ∙ quick) ∙ c.if-self.true))

pub returns-else-self-clause-ticks : goal.returns-else-self-clause-ticks
returns-else-self-clause-ticks g c = λ quick.
    let a = c.self.inside in
    let settled = c.self.invariant.1 c.if-self.false in
    let rest = settled.rest.tables in
    let facts = sym (all_ordered a.rows.facts settled.none) ∙ ap (λ (v : Indexed g.row.V.Denot). v.facts)
    c.self.view_is in
    let is = holders_told a.rows.facts.ordered
    (g.V.Verifier.accepts a.keys) a.rows.state a.rows.waiters a.rows.deletes a.rows.changes a.rows.holders rest
    c.args.attr.now c.args.value.now ∙ (λ i. holders (facts i) (g.V.Verifier.accepts (c.self.view_is i).keys)
    c.args.attr.now c.args.value.now) in
    let long = ap (λ (rs : List (List ℕ)). length rs) is in
    omega (arith, long, c.all_of.ensures.ticks)
