-- The steps of an insert or a place into an index that isn't stale.
use Rattle.std.proofs.Common.{◌≡◌, ◌≤◌, ◌+◌, ◌*◌, ℕ, false, List, length, sym, ap, ◌∙◌, arith}
use Rattle.std.specs.FinMap.{insert, contains_key}
use Rattle.claim_verify.specs.Verifier.{Accepts}
use Rattle.schema_fact.specs.declared.kinds.Fact.{Fact}
use Rattle.claim_model.specs.Facts.{Facts}
use Rattle.index_rows.specs.declared.rows.Rows.{Rows}
use Rattle.index_rows.specs.Touched.{touched_in, touched}
use Rattle.index_rows.specs.Waiting.{arrived}
use Rattle.index_meaning.proofs.Arriving.{all_have_arrived, arrived_stays}
use Rattle.claim_index.specs.Halfway.{facts_in, IsSettled}
use Rattle.claim_index.proofs.OneMore.{added_within}
use Rattle.claim_index.proofs.Settled.{all_ordered}

module _ (accepts : Accepts) (rows : Rows) (r : List ℕ) (fact : Fact) (settled : IsSettled accepts rows)
    (lacks : contains_key (facts_in rows.facts) r ≡ false) (put : Facts)
    (is_put : put ≡ insert (facts_in rows.facts) r fact) where
  whole : facts_in rows.facts ≡ rows.facts.ordered
  whole = all_ordered rows.facts settled.none

  before : arrived put rows.state ≡ facts_in rows.facts
  before = ap (λ (f : Facts). arrived f rows.state) (is_put ∙ ap (λ (f : Facts). insert f r fact) whole)
      ∙ arrived_stays rows.facts.ordered (insert rows.facts.ordered r fact) rows.state
      (added_within rows.facts.ordered r fact (ap (λ (f : Facts). contains_key f r) (sym whole) ∙ lacks))
      (λ y t. sym (settled.rest.tables.arrived y) ∙ t)
      ∙ all_have_arrived rows.facts.ordered rows.state settled.rest.tables.arrived ∙ sym whole

  pub inserted_ticks : (mid last : ℕ) → last ≤ mid + 12 + 16 * length
      (touched_in (arrived put rows.state) put accepts r)
      → last ≤ mid + 12 + 16 * length (touched (facts_in rows.facts) accepts r fact)
  inserted_ticks mid last b =
      let same : length (touched_in (arrived put rows.state) put accepts r) ≡ length
      (touched (facts_in rows.facts) accepts r fact)
      = λ i. length (touched_in (before i) (is_put i) accepts r) in
      omega (arith, b, same)
