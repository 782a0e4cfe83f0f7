-- A fact that is put among those of an index at rest is one more.
use Rattle.std.proofs.Common.{◌≡◌, ℕ, Bool, true, false, ◌||◌, cond, List, [], Option, None, Some, is_some, refl, sym}
use Rattle.std.proofs.Common.{ap, subst, ◌∙◌, ◌⊎◌, inl, inr}
use Rattle.std.proofs.lemmas.Bool.{cases_Bool, false≢true}
use Rattle.std.proofs.lemmas.Slice.Eq.{bytes_eq-Decides}
use Rattle.std.specs.Str.{bytes_eq}
use Rattle.std.specs.Ordering.{eq_by_cmp}
use Rattle.std.specs.FinMap.{get, insert, remove, contains_key, same_map, get-insert, get-remove}
use Rattle.blobref.specs.Blobref.{ref_cmp}
use Rattle.claim_verify.specs.Verifier.{Accepts}
use Rattle.schema_fact.specs.declared.kinds.Fact.{Fact}
use Rattle.claim_model.specs.Facts.{Facts}
use Rattle.claim_model.specs.Least.{IsWithin}
use Rattle.index_look.proofs.Order.{is_Equal}
use Rattle.index_rows.specs.declared.fact_rows.FactRows.{FactRows}
use Rattle.index_rows.specs.declared.rows.Rows.{Rows}
use Rattle.index_rows.specs.Loose.{LooseRow}
use Rattle.index_rows.proofs.Orders.{ref_total, ref_same}
use Rattle.index_rows.proofs.Puts.{put_at, put_beside}
use Rattle.index_meaning.proofs.Growth.{held_stays_with_facts, rows_are_as_before}
use Rattle.index_meaning.proofs.Listing.{rows_are_listed}
use Rattle.index_meaning.proofs.Progressing.{rest_is_taken_up, facts_are_added}
use Rattle.claim_index.specs.Halfway.{with_facts, HasOneMore, Rests}
use Rattle.claim_index.proofs.Removed.{still_removals}

lacking : {A : Type 0} (o : Option A) → is_some o ≡ false → o ≡ None
lacking None h = refl
lacking (Some x) h = absurd (false≢true (sym h))

module _ (facts : Facts) (r : List ℕ) (fact : Fact) (absent : contains_key facts r ≡ false) where
  pub added_within : IsWithin facts (insert facts r fact)
  added_within y one h = by (cases_Bool (bytes_eq y r))
    where
      by : (bytes_eq y r ≡ true) ⊎ (bytes_eq y r ≡ false) → get (insert facts r fact) y ≡ Some one
      by (inl t) = absurd (false≢true (sym (ap (contains_key facts) ((bytes_eq-Decides y r).0 t) ∙ absent)
          ∙ ap is_some h))
      by (inr f) = put_beside facts r fact y f ∙ h

  -- taken out again
  pub taken_out : remove (insert facts r fact) r ≡ facts
  taken_out = same_map ref_total ref_same (remove (insert facts r fact) r) facts (λ y.
      get-remove ref_total (insert facts r fact) r y ∙ ap (λ o. cond (eq_by_cmp ref_cmp y r) None o)
      (get-insert ref_total facts r fact y) ∙ by y (cases_Bool (eq_by_cmp ref_cmp y r)))
    where
      twice : (b : Bool) (o : Option Fact) → b ≡ false → cond b None (cond b (Some fact) o) ≡ o
      twice true o e = absurd (false≢true (sym e))
      twice false o e = refl

      out : (b : Bool) (o : Option Fact) → b ≡ true → o ≡ None → cond b None (cond b (Some fact) o) ≡ o
      out true o e n = sym n
      out false o e n = absurd (false≢true e)

      by : (y : List ℕ) → (eq_by_cmp ref_cmp y r ≡ true) ⊎ (eq_by_cmp ref_cmp y r ≡ false)
          → cond (eq_by_cmp ref_cmp y r) None (cond (eq_by_cmp ref_cmp y r) (Some fact) (get facts y)) ≡ get facts y
      by y (inl t) = out (eq_by_cmp ref_cmp y r) (get facts y) t
          (lacking (get facts y) (ap (contains_key facts) (same_eq y t) ∙ absent))
        where
          same_eq : (y : List ℕ) → eq_by_cmp ref_cmp y r ≡ true → y ≡ r
          same_eq y t = ref_same y r (is_Equal (ref_cmp y r) t)
      by y (inr f) = twice (eq_by_cmp ref_cmp y r) (get facts y) f

one_in_order : (accepts : Accepts) (rows : Rows) (loose : List LooseRow) (r : List ℕ) (fact : Fact) → Rests accepts rows
    → contains_key rows.facts.ordered r ≡ false
    → HasOneMore accepts (with_facts rows (record { ordered = insert rows.facts.ordered r fact; loose = loose })) r
one_in_order accepts rows loose r fact rests absent =
    let rest = rests.tables in
    let facts = rows.facts.ordered in
    let more = insert facts r fact in
    let within = added_within facts r fact absent in
    let known : (y : List ℕ) → contains_key rows.state y ≡ true
    → contains_key facts y ≡ true = λ y t. sym (rest.arrived y) ∙ t in
    let up = facts_are_added [] [] facts more accepts rows.state rows.waiters rows.deletes rows.changes within
    (rest_is_taken_up facts accepts rows.state rows.waiters rows.deletes rows.changes rows.holders rest) in
    record {
      halfway = record {
        waiting = up.waiting;
        counted = up.counted;
        judged = up.judged;
        changed = up.changed;
        deleted = up.deleted;
        claims = λ d t. absurd (false≢true t);
        once = tt;
        apart = λ d t. absurd (false≢true t);
        held = held_stays_with_facts [] facts more rows.state rows.state rows.deletes rows.changes rows.holders within
            rest.counted.ringless
            (rows_are_listed facts accepts [] rows.state rows.changes rest.arrived rest.judged rest.changed) known
            (rows_are_as_before rows.state) rest.held;
        removals = still_removals facts more within rows.state rows.changes rows.removals
            (rows_are_listed facts accepts [] rows.state rows.changes rest.arrived rest.judged rest.changed)
            rests.removals;
      };
      fresh = record {
        fact = fact;
        found = put_at facts r fact r ((bytes_eq-Decides r r).1 refl);
        absent = lacking
            (get rows.state r) (rest.arrived r ∙ absent);
      };
      others = λ y. by y (cases_Bool (bytes_eq y r)) ∙ ap (λ b. bytes_eq y r || b) (sym (rest.arrived y));
    }
  where
    by : (y : List ℕ) → (bytes_eq y r ≡ true) ⊎ (bytes_eq y r ≡ false)
        → contains_key (insert rows.facts.ordered r fact) y ≡ (bytes_eq y r || contains_key rows.facts.ordered y)
    by y (inl t) = ap is_some (put_at rows.facts.ordered r fact y t)
        ∙ sym (ap (λ b. b || contains_key rows.facts.ordered y) t)
    by y (inr f) = ap is_some (put_beside rows.facts.ordered r fact y f)
        ∙ sym (ap (λ b. b || contains_key rows.facts.ordered y) f)

-- whatever rows are loose
pub one_more : (accepts : Accepts) (rows : Rows) (facts : FactRows) (r : List ℕ) (fact : Fact) → Rests accepts rows
    → contains_key rows.facts.ordered r ≡ false → facts.ordered ≡ insert rows.facts.ordered r fact
    → HasOneMore accepts (with_facts rows facts) r
one_more accepts rows facts r fact rest absent is =
    subst (λ (m : Facts). HasOneMore accepts (with_facts rows (record { ordered = m; loose = facts.loose })) r) (sym is)
    (one_in_order accepts rows facts.loose r fact rest absent)
