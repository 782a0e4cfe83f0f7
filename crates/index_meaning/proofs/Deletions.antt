-- The rows of the genuine delete claims.
use Rattle.std.proofs.Common.{◌≡◌, ℕ, ℤ, Bool, true, false, not, ◌&&◌, cond, List, Option, None, Some, refl, sym, ap, ◌∙◌, is_some}
use Rattle.std.proofs.lemmas.Bool.{and_parts, false≢true}
use Rattle.std.proofs.lemmas.Option.{cond_some, none-some, option_and_then_some}
use Rattle.std.proofs.lemmas.Slice.Eq.{bytes_eq-Decides}
use Rattle.std.specs.Prelude.{option_and_then}
use Rattle.std.specs.Str.{bytes_eq}
use Rattle.std.specs.FinMap.{get, entries, contains_key}
use Rattle.claim_verify.specs.Verifier.{Accepts}
use Rattle.schema_date.specs.declared.date.When.{When}
use Rattle.schema_fact.specs.declared.kinds.Fact.{Fact}
use Rattle.schema_fact.specs.declared.kinds.Signed.{Signed}
use Rattle.schema_fact.specs.declared.kinds.What.{What}
use Rattle.schema_fact.specs.declared.kinds.What.TheVariants.{Set, Add, Del, Delete, Multi}
use Rattle.schema_fact.specs.declared.kinds.Kind.{Kind}
use Rattle.schema_fact.specs.declared.kinds.Kind.TheVariants.{Plain, Key, File, Bytes, Directory, StaticSet, Permanode, Claim, Unread}
use Rattle.claim_model.specs.Facts.{Facts, Entry, passes}
use Rattle.claim_model.specs.Genuine.{is_genuine}
use Rattle.claim_model.specs.Deleted.{counts_at, what_deletes, deletes as deletes_at, can_be_deleted, is_deleted}
use Rattle.claim_model.specs.DeletedBy.{deleted_by_live}
use Rattle.claim_model.proofs.Entries.{IsEntry, any_same, entries_found}
use Rattle.claim_model.proofs.Deletion.{genuine_ready, deletion_is_settled}
use Rattle.claim_model.proofs.DeletedBy.{deletion_is_one}
use Rattle.index_rows.specs.Deletes.{Deletes, IsDelete, Ringless, kind_has_row, row_stands, row_deleted}
use Rattle.index_rows.proofs.Deleting.{counts_ready}
use Rattle.index_meaning.specs.Meaning.{delete_date, genuine_delete, IsDeletesOf}
use Rattle.index_meaning.specs.Laws.{RowsAreRingless, RowsTellDeletion}

what_of : (x : List ℕ) (what : What) → what_deletes x what ≡ true → what ≡ Delete x
what_of x (Set on attr value) h = absurd (false≢true h)
what_of x (Add on attr value) h = absurd (false≢true h)
what_of x (Del on attr value) h = absurd (false≢true h)
what_of x (Delete target) h = ap Delete (sym ((bytes_eq-Decides x target).0 h))
what_of x (Multi changes) h = absurd (false≢true h)

-- what has the date of a delete claim on x is one
claim_of : (x : List ℕ) (kind : Kind) (date : ℤ) → delete_date x kind ≡ Some date
    → (signed : Signed) × (kind ≡ Claim signed date (Delete x))
claim_of x Plain date h = absurd (none-some date h)
claim_of x (Key name) date h = absurd (none-some date h)
claim_of x (File name parts) date h = absurd (none-some date h)
claim_of x (Bytes parts) date h = absurd (none-some date h)
claim_of x (Directory name listing) date h = absurd (none-some date h)
claim_of x (StaticSet members) date h = absurd (none-some date h)
claim_of x (Permanode signed) date h = absurd (none-some date h)
claim_of x (Claim signed on what) date h =
    let parts = cond_some (what_deletes x what) on date h in
    (signed, λ i. Claim signed (parts.1 i) (what_of x what parts.0 i))
claim_of x (Unread name) date h = absurd (none-some date h)

given : {A : Type 0} (b : Bool) (o : Option A) (x : A) → cond b o None ≡ Some x → (b ≡ true) × (o ≡ Some x)
given true o x h = (refl, h)
given false o x h = absurd (none-some x h)

module _ (facts : Facts) (accepts : Accepts) where
  pub delete_of : (x d : List ℕ) (date : ℤ) → genuine_delete facts accepts x d ≡ Some date → IsDelete facts x d date
  delete_of x d date h =
      let parts = given (is_genuine facts accepts d) (option_and_then (λ (fact : Fact). delete_date x fact.kind)
      (get facts d)) date h in
      option_and_then_some (λ (fact : Fact). delete_date x fact.kind) (get facts d) date parts.1
      (λ fact found dated.
      let claim = claim_of x fact.kind date dated in
      record {
        fact = fact;
        signed = claim.0;
        found = found;
        says = claim.1;
        ready =
            genuine_ready facts accepts d parts.0;
      })

  module _ (deletes : Deletes) (is : IsDeletesOf facts accepts deletes) where
    pub ringless : Ringless facts deletes
    ringless x d date h = delete_of x d date (sym (is x d) ∙ h)

    some_date : (g b : Bool) (date : ℤ) → is_some (cond g (cond b (Some date) None) None) ≡ (g && b)
    some_date true true date = refl
    some_date true false date = refl
    some_date false b date = refl

    own_row : (d : List ℕ) (fact : Fact) → get facts d ≡ Some fact → (signed : Signed) (date : ℤ) (x : List ℕ)
        → fact.kind ≡ Claim signed date (Delete x)
        → contains_key deletes (x, d) ≡ is_genuine facts accepts d
    own_row d fact found signed date x says =
        ap is_some (is x d ∙ ap (λ o. cond (is_genuine facts accepts d)
        (option_and_then (λ (f : Fact). delete_date x f.kind) o) None) found
        ∙ ap (λ k. cond (is_genuine facts accepts d) (delete_date x k) None) says)
        ∙ some_date (is_genuine facts accepts d) (bytes_eq x x) date
        ∙ ap (λ b. is_genuine facts accepts d && b) ((bytes_eq-Decides x x).1 refl)
        ∙ and_true (is_genuine facts accepts d)
      where
        and_true : (b : Bool) → (b && true) ≡ b
        and_true true = refl
        and_true false = refl

    module _ (when : When) where
      date_of : (x : List ℕ) (kind : Kind) → deletes_at x when kind ≡ true
          → (date : ℤ) × (delete_date x kind ≡ Some date)
      date_of x Plain h = absurd (false≢true h)
      date_of x (Key name) h = absurd (false≢true h)
      date_of x (File name parts) h = absurd (false≢true h)
      date_of x (Bytes parts) h = absurd (false≢true h)
      date_of x (Directory name listing) h = absurd (false≢true h)
      date_of x (StaticSet members) h = absurd (false≢true h)
      date_of x (Permanode signed) h = absurd (false≢true h)
      date_of x (Claim signed date what) h =
          (date, ap (λ b. cond b (Some date) None) (and_parts (counts_at when date) (what_deletes x what) h).1)
      date_of x (Unread name) h = absurd (false≢true h)

      -- the row of a delete claim stands where the claim is genuine
      stands_genuine : (x : List ℕ) (e : Entry) → IsEntry facts e → deletes_at x when e.1.kind ≡ true
          → row_stands facts deletes e.0 ≡ is_genuine facts accepts e.0
      stands_genuine x e found h =
          let dated = date_of x e.1.kind h in
          let claim = claim_of x e.1.kind dated.0 dated.1 in
          ap (passes (λ (fact : Fact). kind_has_row deletes e.0 fact.kind)) found
          ∙ ap (kind_has_row deletes e.0) claim.1 ∙ own_row e.0 e.1 found claim.0 dated.0 x claim.1

      live_same : (gone : List ℕ → Bool) (x : List ℕ)
          → deleted_by_live facts (row_stands facts deletes) when gone x
          ≡ deleted_by_live facts (is_genuine facts accepts) when gone x
      live_same gone x = ap (λ b. passes (λ (fact : Fact). can_be_deleted fact.kind) (get facts x) && b)
          (any_same facts _ _ (entries facts) (entries_found facts) each)
        where
          by : (a b c d : Bool) → (a ≡ true → b ≡ c) → (a && b && d) ≡ (a && c && d)
          by true b c d h = ap (λ (t : Bool). t && d) (h refl)
          by false b c d h = refl

          each : (e : Entry) → IsEntry facts e
              → (deletes_at x when e.1.kind && row_stands facts deletes e.0 && not (gone e.0))
              ≡ (deletes_at x when e.1.kind && is_genuine facts accepts e.0 && not (gone e.0))
          each e found = by (deletes_at x when e.1.kind) (row_stands facts deletes e.0) (is_genuine facts accepts e.0)
              (not (gone e.0)) (stands_genuine x e found)

      pub deletion : (x : List ℕ) → row_deleted facts deletes when x ≡ is_deleted facts accepts when x
      deletion x =
          sym (deletion_is_one facts (row_stands facts deletes) when (is_deleted facts accepts when)
          (counts_ready facts deletes ringless)
          (λ y. deletion_is_settled facts accepts when y ∙ sym (live_same (is_deleted facts accepts when) y)) x)

pub rows_are_ringless : RowsAreRingless
rows_are_ringless = ringless

pub rows_tell_deletion : RowsTellDeletion
rows_tell_deletion = deletion
