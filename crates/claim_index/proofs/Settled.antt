-- Tables of facts without loose rows.
use Rattle.std.proofs.Common.{◌≡◌, ◌∷◌, ℕ, List, [], length, Option, None, Some, false, refl, sym, ap, subst, ◌∙◌}
use Rattle.std.proofs.lemmas.Option.{same_Some}
use Rattle.std.specs.FinMap.{insert, contains_key}
use Rattle.claim_verify.specs.Verifier.{Accepts}
use Rattle.schema_fact.specs.declared.kinds.Fact.{Fact}
use Rattle.claim_model.specs.Facts.{Facts}
use Rattle.index_rows.specs.declared.fact_rows.FactRows.{FactRows}
use Rattle.index_rows.specs.declared.rows.Rows.{Rows}
use Rattle.index_rows.specs.Loose.{LooseRow, first_of, numbers_of, IsMoved}
use Rattle.index_rows.proofs.LooseFacts.{alone}
use Rattle.claim_index.specs.Halfway.{facts_in, with_facts, HasOneMore, IsSettled}
use Rattle.claim_index.proofs.OneMore.{one_more}

no_rows : (rows : List LooseRow) → numbers_of rows ≡ [] → rows ≡ []
no_rows [] none = refl
no_rows (row ∷ rows) none = absurd (let e : row.0 ∷ numbers_of rows ≡ [] = none in cc e)

pub no_length : (rows : List LooseRow) → numbers_of rows ≡ [] → length rows ≡ 0
no_length [] none = refl
no_length (row ∷ rows) none = absurd (let e : row.0 ∷ numbers_of rows ≡ [] = none in cc e)

-- the number that was taken off is the first one
pub moved_first : (before after : List ℕ) (n : ℕ) (moved : Option ℕ) → Some n ≡ first_of before → IsMoved moved before after → before ≡ n ∷ after
moved_first before after n None first is = absurd (let e : Some n ≡ None = first ∙ ap first_of is.0 in cc e)
moved_first before after n (Some m) first is =
    is ∙ ap (λ (k : ℕ). k ∷ after) (sym (same_Some n m (first ∙ ap first_of is)))

-- all facts are those in order
pub all_ordered : (facts : FactRows) → numbers_of facts.loose ≡ [] → facts_in facts ≡ facts.ordered
all_ordered facts none = alone facts.loose facts.ordered none

-- once all rows were moved
module _ (old facts : FactRows) (none : numbers_of facts.loose ≡ []) (same : facts_in facts ≡ facts_in old) where
  pub moved_in : facts.ordered ≡ facts_in old
  moved_in = sym (all_ordered facts none) ∙ same

  moved_is : ◌≡◌ {A = FactRows} (record { ordered = facts_in old; loose = [] }) facts
  moved_is i = record { ordered = sym moved_in i; loose = sym (no_rows facts.loose none) i }

  pub moved_one : (accepts : Accepts) (rows : Rows) (r : List ℕ)
      → HasOneMore accepts (with_facts rows (record { ordered = facts_in old; loose = [] })) r → HasOneMore accepts (with_facts rows facts) r
  moved_one accepts rows r more = subst (λ (f : FactRows). HasOneMore accepts (with_facts rows f) r) moved_is more

-- a fact that is put among those of a settled index is one more
pub put_more : (accepts : Accepts) (rows : Rows) (facts : FactRows) (r : List ℕ) (fact : Fact) → IsSettled accepts rows
    → contains_key (facts_in rows.facts) r ≡ false → facts.ordered ≡ insert (facts_in rows.facts) r fact
    → HasOneMore accepts (with_facts rows facts) r
put_more accepts rows facts r fact is lacks put =
    let whole = all_ordered rows.facts is.none in
    one_more accepts rows facts r fact is.rest (ap (λ (f : Facts). contains_key f r) (sym whole) ∙ lacks)
    (put ∙ ap (λ (f : Facts). insert f r fact) whole)
