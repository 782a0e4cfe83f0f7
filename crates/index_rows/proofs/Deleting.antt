-- Deletion by rows is deletion by delete claims whose rows stand.
use Rattle.std.proofs.Common.{◌≡◌, ℕ, Bool, true, false, not, ◌&&◌, ◌||◌, cond, List, [], ◌∷◌, filter, Option, None, Some, refl, sym, ap, ◌∙◌, ◌⊎◌, inl, inr, Ordering, is_some, ℤ}
use Rattle.std.proofs.lemmas.Bool.{cases_Bool, cond-true, cond-false, false≢true, and_parts}
use Rattle.std.proofs.lemmas.Option.{same_Some}
use Rattle.std.specs.List.{list_any, AllByRecursion}
use Rattle.std.specs.Str.{bytes_eq}
use Rattle.std.specs.Ordering.{is_eq, eq_by_cmp}
use Rattle.std.specs.declared.cmp.Ordering.TheVariants.{Less, Equal, Greater}
use Rattle.std.specs.Cmp.{IsTotalOrder}
use Rattle.std.specs.FinMap.{FinMap, get, entries, find, get-entries, IsAntisymmetric}
use Rattle.schema_date.specs.declared.date.When.{When}
use Rattle.schema_fact.specs.declared.kinds.Fact.{Fact}
use Rattle.schema_fact.specs.declared.kinds.What.{What}
use Rattle.schema_fact.specs.declared.kinds.What.TheVariants.{Set, Add, Del, Delete, Multi}
use Rattle.schema_fact.specs.declared.kinds.Kind.{Kind}
use Rattle.schema_fact.specs.declared.kinds.Kind.TheVariants.{Plain, Key, File, Bytes, Directory, StaticSet, Permanode, Claim, Unread}
use Rattle.claim_model.specs.Facts.{Facts, Entry, passes}
use Rattle.claim_model.specs.Deleted.{counts_at, can_be_deleted, deletes}
use Rattle.claim_model.specs.DeletedBy.{deleted_by_live, CountsReady}
use Rattle.claim_model.proofs.DeletedBy.{deleted_by_is_settled, deletion_is_one}
use Rattle.claim_model.proofs.Least.{same_truth}
use Rattle.index_rows.specs.Pairs.{Pair}
use Rattle.index_rows.specs.Deletes.{Deletes, kind_has_row, what_has_row, row_stands, Ringless, is_live, any_live, row_deleted}
use Rattle.index_rows.proofs.Orders.{ref_total, ref_same, pair_total, pair_same}
use Rattle.index_look.proofs.Keys.{entries_held}

module _ {A : Type 0} where
  -- some element that passes, with what holds of all
  pub any_some : (p : A → Bool) (P : A → Type 0) (es : List A) → AllByRecursion P es → list_any p es ≡ true → (e : A) × P e × (p e ≡ true)
  any_some p P [] all h = absurd (false≢true h)
  any_some p P (e ∷ es) all h = by (any_some p P es all.1) (cases_Bool (p e))
    where
      by : (list_any p es ≡ true → (e : A) × P e × (p e ≡ true)) → (p e ≡ true) ⊎ (p e ≡ false) → (e : A) × P e × (p e ≡ true)
      by more (inl t) = (e, all.0, t)
      by more (inr f) = more (sym (ap (λ b. b || list_any p es) f) ∙ h)

  pub any-filter : (p q : A → Bool) (es : List A) → list_any p (filter q es) ≡ list_any (λ e. q e && p e) es
  any-filter p q [] = refl
  any-filter p q (e ∷ es) = by (q e) (any-filter p q es)
    where
      by : (b : Bool) → list_any p (filter q es) ≡ list_any (λ e. q e && p e) es → list_any p (cond b (e ∷ filter q es) (filter q es)) ≡ (b && p e || list_any (λ e. q e && p e) es)
      by true h = ap (λ b. p e || b) h
      by false h = h

is_Equal : (r : Ordering) → is_eq r ≡ true → r ≡ Equal
is_Equal Less e = absurd (false≢true e)
is_Equal Equal e = refl
is_Equal Greater e = absurd (false≢true e)

or_right : (a b : Bool) → b ≡ true → (a || b) ≡ true
or_right true b h = refl
or_right false b h = h

module _ {K X : Type 0} {R : K → K → Ordering} (o : IsTotalOrder R) (same : IsAntisymmetric R) where
  pub any_found : (p : K × X → Bool) (es : List (K × X)) (k : K) (v : X) → find R k es ≡ Some v → p (k, v) ≡ true → list_any p es ≡ true
  any_found p [] k v h t = absurd (let e : None ≡ Some v = h in cc e)
  any_found p (e ∷ es) k v h t = by (any_found p es k v) (cases_Bool (eq_by_cmp R k e.0))
    where
      by : (find R k es ≡ Some v → p (k, v) ≡ true → list_any p es ≡ true) → (eq_by_cmp R k e.0 ≡ true) ⊎ (eq_by_cmp R k e.0 ≡ false) → (p e || list_any p es) ≡ true
      by more (inl q) =
          let key : k ≡ e.0 = same k e.0 (is_Equal (R k e.0) q) in
          let value : e.1 ≡ v = same_Some e.1 v (sym (cond-true (eq_by_cmp R k e.0) (Some e.1) (find R k es) q) ∙ h) in
          (λ i. p (sym key i, value i) || list_any p es) ∙ ap (λ b. b || list_any p es) t
      by more (inr q) = or_right (p e) (list_any p es) (more (sym (cond-false (eq_by_cmp R k e.0) (Some e.1) (find R k es) q) ∙ h) t)

  -- what a look-up finds is among the entries
  pub any_get : (p : K × X → Bool) (m : FinMap R X) (k : K) (v : X) → get m k ≡ Some v → p (k, v) ≡ true → list_any p (entries m) ≡ true
  any_get p m k v h t = any_found p (entries m) k v (sym (get-entries m k) ∙ h) t

  pub any_entry : (p : K × X → Bool) (m : FinMap R X) → list_any p (entries m) ≡ true → (e : K × X) × (get m e.0 ≡ Some e.1) × (p e ≡ true)
  any_entry p m h = any_some p (λ e. get m e.0 ≡ Some e.1) (entries m) (entries_held o same m) h

pub a_value : {A : Type 0} (o : Option A) → is_some o ≡ true → (x : A) × (o ≡ Some x)
a_value None h = absurd (false≢true h)
a_value (Some x) h = (x, refl)

module _ (facts : Facts) (rows : Deletes) where
  abbrev HasRow : List ℕ → Type 0
  HasRow d = (x : List ℕ) × (date : ℤ) × (get rows (x, d) ≡ Some date)

  what_row : (d : List ℕ) (what : What) → what_has_row rows d what ≡ true → HasRow d
  what_row d (Set on attr value) h = absurd (false≢true h)
  what_row d (Add on attr value) h = absurd (false≢true h)
  what_row d (Del on attr value) h = absurd (false≢true h)
  what_row d (Delete target) h = let found = a_value (get rows (target, d)) h in (target, found.0, found.1)
  what_row d (Multi changes) h = absurd (false≢true h)

  kind_row : (d : List ℕ) (kind : Kind) → kind_has_row rows d kind ≡ true → HasRow d
  kind_row d Plain h = absurd (false≢true h)
  kind_row d (Key name) h = absurd (false≢true h)
  kind_row d (File name parts) h = absurd (false≢true h)
  kind_row d (Bytes parts) h = absurd (false≢true h)
  kind_row d (Directory name entry) h = absurd (false≢true h)
  kind_row d (StaticSet members) h = absurd (false≢true h)
  kind_row d (Permanode signed) h = absurd (false≢true h)
  kind_row d (Claim signed date what) h = what_row d what h
  kind_row d (Unread name) h = absurd (false≢true h)

  fact_row : (d : List ℕ) (o : Option Fact) → passes (λ (fact : Fact). kind_has_row rows d fact.kind) o ≡ true → HasRow d
  fact_row d None h = absurd (false≢true h)
  fact_row d (Some fact) h = kind_row d fact.kind h

  -- a claim that counts has its row
  pub row_of : (d : List ℕ) → row_stands facts rows d ≡ true → HasRow d
  row_of d h = fact_row d (get facts d) h

  module _ (ringless : Ringless facts rows) where
    -- and a row that stands is that of one that counts
    pub row_counts : (x d : List ℕ) (date : ℤ) → get rows (x, d) ≡ Some date → row_stands facts rows d ≡ true
    row_counts x d date h =
        let is = ringless x d date h in
        ap (passes (λ (fact : Fact). kind_has_row rows d fact.kind)) is.found ∙ ap (kind_has_row rows d) is.says ∙ ap is_some h

    pub counts_ready : CountsReady facts (row_stands facts rows)
    counts_ready d h = let row = row_of d h in (ringless row.0 d row.1 row.2).ready

    module _ (when : When) (gone : List ℕ → Bool) (x : List ℕ) where
      abbrev claim_live : Entry → Bool
      claim_live e = deletes x when e.1.kind && row_stands facts rows e.0 && not (gone e.0)

      abbrev row_live : Pair × ℤ → Bool
      row_live e = bytes_eq x e.0.0 && true && is_live when gone e

      to_rows : list_any claim_live (entries facts) ≡ true → list_any row_live (entries rows) ≡ true
      to_rows h =
          let e = any_entry ref_total ref_same claim_live facts h in
          let both = and_parts (deletes x when e.0.1.kind && row_stands facts rows e.0.0) (not (gone e.0.0)) e.2 in
          let more = and_parts (deletes x when e.0.1.kind) (row_stands facts rows e.0.0) both.0 in
          let row = row_of e.0.0 more.1 in
          let is = ringless row.0 e.0.0 row.1 row.2 in
          let own : e.0.1 ≡ is.fact = same_Some e.0.1 is.fact (sym e.1 ∙ is.found) in
          let says : deletes x when (Claim is.signed row.1 (Delete row.0)) ≡ true = sym (ap (deletes x when) (ap (λ (f : Fact). f.kind) own ∙ is.says)) ∙ more.0 in
          let parts = and_parts (counts_at when row.1) (bytes_eq x row.0) says in
          any_get pair_total pair_same row_live rows (row.0, e.0.0) row.1 row.2 (λ i. parts.1 i && true && (parts.0 i && both.1 i))

      to_claims : list_any row_live (entries rows) ≡ true → list_any claim_live (entries facts) ≡ true
      to_claims h =
          let e = any_entry pair_total pair_same row_live rows h in
          let first = and_parts (bytes_eq x e.0.0.0 && true) (is_live when gone e.0) e.2 in
          let here = and_parts (bytes_eq x e.0.0.0) true first.0 in
          let live = and_parts (counts_at when e.0.1) (not (gone e.0.0.1)) first.1 in
          let is = ringless e.0.0.0 e.0.0.1 e.0.1 e.1 in
          let says : deletes x when is.fact.kind ≡ true = ap (deletes x when) is.says ∙ (λ i. live.0 i && here.0 i) in
          any_get ref_total ref_same claim_live facts e.0.0.1 is.fact is.found (λ i. says i && row_counts e.0.0.0 e.0.0.1 e.0.1 e.1 i && live.1 i)

      pub live_same : deleted_by_live facts (row_stands facts rows) when gone x ≡ (passes (λ fact. can_be_deleted fact.kind) (get facts x) && any_live rows when gone x None)
      live_same = ap (λ b. passes (λ fact. can_be_deleted fact.kind) (get facts x) && b)
          (same_truth _ _ to_rows to_claims ∙ sym (any-filter (is_live when gone) (λ (e : Pair × ℤ). bytes_eq x e.0.0 && true) (entries rows)))

    -- what is deleted by rows
    pub row_deleted_is : (when : When) (x : List ℕ)
        → row_deleted facts rows when x ≡ (passes (λ fact. can_be_deleted fact.kind) (get facts x) && any_live rows when (row_deleted facts rows when) x None)
    row_deleted_is when x = deleted_by_is_settled facts (row_stands facts rows) when counts_ready x ∙ live_same when (row_deleted facts rows when) x

    -- and no other test is so
    pub row_deletion_is_one : (when : When) (gone : List ℕ → Bool)
        → ((x : List ℕ) → gone x ≡ (passes (λ fact. can_be_deleted fact.kind) (get facts x) && any_live rows when gone x None))
        → (x : List ℕ) → gone x ≡ row_deleted facts rows when x
    row_deletion_is_one when gone is x = deletion_is_one facts (row_stands facts rows) when gone counts_ready (λ y. is y ∙ sym (live_same when gone y)) x
