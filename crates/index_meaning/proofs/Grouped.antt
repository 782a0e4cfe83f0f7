-- The rows of the changes of a permanode are at most as many as the changes on it of genuine claims.
use Rattle.std.proofs.Common.{◌≡◌, ◌≤◌, ℕ, ℤ, Bool, true, ◌&&◌, ◌||◌, cond, List, [], ◌∷◌, length, map, filter, flat_map, Option, None, Some, refl, sym, ap, ◌∙◌, is_some, slice_get, arith}
use Rattle.std.proofs.lemmas.Bool.{false≢true, and_parts}
use Rattle.std.proofs.lemmas.List.Folds.{list_any-append}
use Rattle.std.proofs.lemmas.List.{length-map}
use Rattle.std.proofs.lemmas.Slice.Eq.{bytes_eq-Decides}
use Rattle.std.specs.List.{list_any}
use Rattle.std.specs.Str.{bytes_eq}
use Rattle.std.specs.Ordering.{is_eq, eq_by_cmp, int_cmp, ordering_then}
use Rattle.std.specs.FinMap.{get, entries, find, contains_key}
use Rattle.std.proofs.lemmas.Cmp.{tied_itself}
use Rattle.claim_verify.specs.Verifier.{Accepts}
use Rattle.schema_date.specs.declared.date.When.TheVariants.{Always}
use Rattle.schema_fact.specs.declared.kinds.Fact.{Fact}
use Rattle.schema_fact.specs.declared.kinds.Signed.{Signed}
use Rattle.schema_fact.specs.declared.kinds.What.{What}
use Rattle.schema_fact.specs.declared.kinds.Kind.{Kind}
use Rattle.schema_fact.specs.declared.kinds.Kind.TheVariants.{Plain, Key, File, Bytes, Directory, StaticSet, Permanode, Claim, Unread}
use Rattle.claim_model.specs.Facts.{Facts, Entry, passes}
use Rattle.claim_model.specs.Genuine.{is_genuine}
use Rattle.schema_fact.specs.Changes.{changes_of}
use Rattle.schema_fact.specs.declared.changes.Change.{Change}
use Rattle.claim_model.specs.Claims.{Moment, moment_cmp, changes_on}
use Rattle.index_rows.specs.Changes.{Changes, ChangeKey, change_cmp, changes_after}
use Rattle.index_rows.specs.Touched.{group_of}
use Rattle.index_rows.proofs.Deleting.{any-filter, any_get, any_found}
use Rattle.index_rows.proofs.Orders.{ref_total, ref_same, moment_total, moment_same, change_total, change_same}
use Rattle.index_rows.proofs.Sums.{number_length, rows_within}
use Rattle.index_meaning.specs.Meaning.{is_change_on, genuine_change, IsChangesOf}
use Rattle.index_meaning.proofs.Moments.{claim_change}

any_map : {A B : Type 0} (p : B → Bool) (f : A → B) (xs : List A) → list_any p (map f xs) ≡ list_any (λ x. p (f x)) xs
any_map p f [] = refl
any_map p f (x ∷ xs) = ap (λ b. p (f x) || b) (any_map p f xs)

any_flat_map : {A B : Type 0} (p : B → Bool) (f : A → List B) (es : List A) → list_any p (flat_map f es) ≡ list_any (λ e. list_any p (f e)) es
any_flat_map p f [] = refl
any_flat_map p f (e ∷ es) = list_any-append p (f e) (flat_map f es) ∙ ap (λ b. list_any p (f e) || b) (any_flat_map p f es)

module _ (p : List ℕ) (k : Moment) where
  -- a change on p at the moment is among those of its claim
  in_claim : (signed : Signed) (date : ℤ) (what : What) → is_change_on p k (Claim signed date what) ≡ true
      → list_any (λ (c : Moment × Change). eq_by_cmp moment_cmp k c.0) (changes_on p Always k.1 (Claim signed date what)) ≡ true
  in_claim signed date what h = by (slice_get (changes_of what) k.2) refl
    where
      test : Option Change → Bool
      test o = passes (λ (c : Change). bytes_eq p c.on) o

      parts : (is_eq (int_cmp k.0 date) ≡ true) × (test (slice_get (changes_of what) k.2) ≡ true)
      parts = and_parts (is_eq (int_cmp k.0 date)) (test (slice_get (changes_of what) k.2)) h

      found : find moment_cmp k (changes_on p Always k.1 (Claim signed date what)) ≡ slice_get (changes_of what) k.2
      found = claim_change p Always k signed date what ∙ (λ i. cond (parts.0 i && true) (cond (parts.1 i) (slice_get (changes_of what) k.2) None) None)

      by : (o : Option Change) → slice_get (changes_of what) k.2 ≡ o → list_any (λ (c : Moment × Change). eq_by_cmp moment_cmp k c.0) (changes_on p Always k.1 (Claim signed date what)) ≡ true
      by None e = absurd (false≢true (sym (ap test e) ∙ parts.1))
      by (Some c) e = any_found moment_total moment_same (λ (c : Moment × Change). eq_by_cmp moment_cmp k c.0) (changes_on p Always k.1 (Claim signed date what)) k c (found ∙ e)
          (ap is_eq (tied_itself moment_total k))

  in_kind : (kind : Kind) → is_change_on p k kind ≡ true → list_any (λ (c : Moment × Change). eq_by_cmp moment_cmp k c.0) (changes_on p Always k.1 kind) ≡ true
  in_kind Plain h = absurd (false≢true h)
  in_kind (Key name) h = absurd (false≢true h)
  in_kind (File name list) h = absurd (false≢true h)
  in_kind (Bytes list) h = absurd (false≢true h)
  in_kind (Directory name listing) h = absurd (false≢true h)
  in_kind (StaticSet members) h = absurd (false≢true h)
  in_kind (Permanode signed) h = absurd (false≢true h)
  in_kind (Claim signed date what) h = in_claim signed date what h
  in_kind (Unread name) h = absurd (false≢true h)

  in_group : (facts : Facts) (accepts : Accepts) → genuine_change facts accepts p k ≡ true
      → list_any (λ (c : Moment × Change). eq_by_cmp moment_cmp k c.0) (group_of facts accepts p) ≡ true
  in_group facts accepts h =
      any_flat_map here (λ (e : Entry). changes_on p Always e.0 e.1.kind) (filter (λ (e : Entry). is_genuine facts accepts e.0) (entries facts))
      ∙ any-filter (λ (e : Entry). list_any here (changes_on p Always e.0 e.1.kind)) (λ (e : Entry). is_genuine facts accepts e.0) (entries facts)
      ∙ by (get facts k.1) refl
    where
      here : Moment × Change → Bool
      here c = eq_by_cmp moment_cmp k c.0

      parts : (is_genuine facts accepts k.1 ≡ true) × (passes (λ (fact : Fact). is_change_on p k fact.kind) (get facts k.1) ≡ true)
      parts = and_parts (is_genuine facts accepts k.1) (passes (λ (fact : Fact). is_change_on p k fact.kind) (get facts k.1)) h

      by : (o : Option Fact) → get facts k.1 ≡ o
          → list_any (λ (e : Entry). is_genuine facts accepts e.0 && list_any here (changes_on p Always e.0 e.1.kind)) (entries facts) ≡ true
      by None e = absurd (false≢true (sym (ap (passes (λ (fact : Fact). is_change_on p k fact.kind)) e) ∙ parts.1))
      by (Some fact) e = any_get ref_total ref_same (λ (e : Entry). is_genuine facts accepts e.0 && list_any here (changes_on p Always e.0 e.1.kind)) facts k.1 fact e
          (λ i. parts.0 i && in_kind fact.kind (sym (ap (passes (λ (fact : Fact). is_change_on p k fact.kind)) e) ∙ parts.1) i)

same_test : (p : List ℕ) (a b : Moment) → eq_by_cmp change_cmp (p, a) (p, b) ≡ eq_by_cmp moment_cmp a b
same_test p a b = λ i. is_eq (ordering_then (tied_itself ref_total p i) (moment_cmp a b))

any_same : {A : Type 0} (p q : A → Bool) → ((x : A) → p x ≡ q x) → (xs : List A) → list_any p xs ≡ list_any q xs
any_same p q h [] = refl
any_same p q h (x ∷ xs) = λ i. h x i || any_same p q h xs i

module _ (facts : Facts) (accepts : Accepts) (changes : Changes) (changed : IsChangesOf facts accepts [] changes) (p : List ℕ) where
  pub group_count : length (changes_after changes p None) ≤ length (group_of facts accepts p)
  group_count =
      let le = rows_within change_total change_same changes own (map (λ (c : Moment × Change). (p, c.0)) (group_of facts accepts p)) each in
      let n = number_length own (entries changes) in
      let m = length-map {B = ChangeKey} (group_of facts accepts p) (λ (c : Moment × Change). (p, c.0)) in
      omega (arith, le, n, m)
    where
      own : ChangeKey × Unit {0} → Bool
      own e = bytes_eq p e.0.0 && true

      each : (k : ChangeKey) (v : Unit {0}) → get changes k ≡ Some v → own (k, v) ≡ true → list_any (eq_by_cmp change_cmp k) (map (λ (c : Moment × Change). (p, c.0)) (group_of facts accepts p)) ≡ true
      each k v e t =
          let is : p ≡ k.0 = (bytes_eq-Decides p k.0).0 ((and_parts (bytes_eq p k.0) true t).0) in
          let there : contains_key changes (p, k.1) ≡ true = ap (λ q. contains_key changes (q, k.1)) is ∙ ap is_some e in
          let genuine : genuine_change facts accepts p k.1 ≡ true = (and_parts (genuine_change facts accepts p k.1) true (sym (changed p k.1) ∙ there)).0 in
          ap (λ q. list_any (eq_by_cmp change_cmp (q, k.1)) (map (λ (c : Moment × Change). (p, c.0)) (group_of facts accepts p))) (sym is)
          ∙ any_map (eq_by_cmp change_cmp (p, k.1)) (λ (c : Moment × Change). (p, c.0)) (group_of facts accepts p)
          ∙ any_same (λ (c : Moment × Change). eq_by_cmp change_cmp (p, k.1) (p, c.0)) (λ (c : Moment × Change). eq_by_cmp moment_cmp k.1 c.0) (λ c. same_test p k.1 c.0) (group_of facts accepts p)
          ∙ in_group p k.1 facts accepts genuine
