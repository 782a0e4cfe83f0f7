-- Facts in boxes, and the map of facts that they make.
use Rattle.std.proofs.Common.{◌≡◌, ℕ, Bool, true, false, cond, List, [], ◌∷◌, filter, map, Option, None, Some, option_map, refl, sym, ap, subst, ◌∙◌}
use Rattle.std.proofs.lemmas.Option.{same_Some}
use Rattle.std.specs.declared.ops.Bound.TheVariants.{Unbounded}
use Rattle.std.specs.List.Sorted.{IsStrictlySortedBy}
use Rattle.std.specs.Map.{lookup, keys_of}
use Rattle.std.specs.List.{find}
use Rattle.std.specs.Ordering.{eq_by_cmp}
use Rattle.std.specs.BTreeMap.{is_at}
use Rattle.std.specs.BTreeMap.Range.{is_from_start, range_contains}
use Rattle.std.specs.FinMap.{get, insert, remove, empty, entries, get-empty, get-insert, get-remove}
use Rattle.blobref.specs.Blobref.{ref_cmp, is_after}
use Rattle.schema_fact.specs.declared.kinds.Fact.{Fact}
use Rattle.schema_fact.specs.Validity.{IsValid}
use Rattle.claim_model.specs.Facts.{Facts, Entry}
use Rattle.index_look.specs.Walk.{entries_after, ref_after}
use Rattle.std.specs.declared.alloc.Global.{Global}
use Rattle.std.specs.Prelude.{Box}
use Rattle.index_rows.specs.Stored.{Stored, stored_facts, AreAllValid, start_after}
use Rattle.index_rows.proofs.Orders.{ref_total, ref_same}
use Rattle.index_rows.proofs.RefMaps.{get_at, one_given, one_taken}
use Rattle.index_rows.proofs.Groups.{same_head, from_range, from_range_none}

abbrev unboxed : Stored → Entry
unboxed e = (e.0, e.1.value)

abbrev all_unboxed : List Stored → List Entry
all_unboxed es = map (λ e. (e.0, e.1.value)) es

module _ (p : List ℕ → Bool) where
  lookup-unboxed : (es : List Stored) → lookup p (all_unboxed es) ≡ option_map (λ b. b.value) (lookup p es)
  lookup-unboxed [] = refl
  lookup-unboxed (e ∷ es) = by (p e.0) (lookup-unboxed es)
    where
      by : (b : Bool) → lookup p (all_unboxed es) ≡ option_map (λ b. b.value) (lookup p es)
          → cond b (Some e.1.value) (lookup p (all_unboxed es)) ≡ option_map (λ b. b.value) (cond b (Some e.1) (lookup p es))
      by true h = refl
      by false h = h

  filter-unboxed : (es : List Stored) → filter (λ e. p e.0) (all_unboxed es) ≡ all_unboxed (filter (λ e. p e.0) es)
  filter-unboxed [] = refl
  filter-unboxed (e ∷ es) = by (p e.0) (filter-unboxed es)
    where
      by : (b : Bool) → filter (λ e. p e.0) (all_unboxed es) ≡ all_unboxed (filter (λ e. p e.0) es)
          → cond b (unboxed e ∷ filter (λ e. p e.0) (all_unboxed es)) (filter (λ e. p e.0) (all_unboxed es)) ≡ all_unboxed (cond b (e ∷ filter (λ e. p e.0) es) (filter (λ e. p e.0) es))
      by true h = λ i. unboxed e ∷ h i
      by false h = h

keys-unboxed : (es : List Stored) → keys_of (all_unboxed es) ≡ keys_of es
keys-unboxed [] = refl
keys-unboxed (e ∷ es) = ap (λ ks. e.0 ∷ ks) (keys-unboxed es)

-- the fact of a ref
pub stored_at : (es : List Stored) (r : List ℕ) → get (stored_facts es) r ≡ option_map (λ b. b.value) (lookup (is_at (ref_cmp r)) es)
stored_at es r = get_at ref_total ref_same (all_unboxed es) r ∙ lookup-unboxed (is_at (ref_cmp r)) es

-- one fact more, or less
module _ (es fs : List Stored) (k : List ℕ) where
  pub one_stored : (v : Box Fact Global) → ((q : List ℕ) → lookup (is_at (ref_cmp q)) fs ≡ cond (is_at (ref_cmp k) q) (Some v) (lookup (is_at (ref_cmp q)) es))
      → stored_facts fs ≡ insert (stored_facts es) k v.value
  one_stored v h = one_given ref_total ref_same (all_unboxed es) (all_unboxed fs) k v.value (λ q.
      lookup-unboxed (is_at (ref_cmp q)) fs ∙ ap (option_map (λ b. b.value)) (h q) ∙ by q (is_at (ref_cmp k) q)
      ∙ ap (cond (is_at (ref_cmp k) q) (Some v.value)) (sym (lookup-unboxed (is_at (ref_cmp q)) es)))
    where
      by : (q : List ℕ) (b : Bool) → option_map (λ b. b.value) (cond b (Some v) (lookup (is_at (ref_cmp q)) es)) ≡ cond b (Some v.value) (option_map (λ b. b.value) (lookup (is_at (ref_cmp q)) es))
      by q true = refl
      by q false = refl

  pub one_dropped : ((q : List ℕ) → lookup (is_at (ref_cmp q)) fs ≡ cond (is_at (ref_cmp k) q) None (lookup (is_at (ref_cmp q)) es))
      → stored_facts fs ≡ remove (stored_facts es) k
  one_dropped h = one_taken ref_total ref_same (all_unboxed es) (all_unboxed fs) k (λ q.
      lookup-unboxed (is_at (ref_cmp q)) fs ∙ ap (option_map (λ b. b.value)) (h q) ∙ by q (is_at (ref_cmp k) q)
      ∙ ap (cond (is_at (ref_cmp k) q) None) (sym (lookup-unboxed (is_at (ref_cmp q)) es)))
    where
      by : (q : List ℕ) (b : Bool) → option_map (λ b. b.value) (cond b None (lookup (is_at (ref_cmp q)) es)) ≡ cond b None (option_map (λ b. b.value) (lookup (is_at (ref_cmp q)) es))
      by q true = refl
      by q false = refl

-- the rows behind a ref
after_is : (facts : Facts) (after : Option (List ℕ)) → filter (λ e. is_from_start ref_cmp (start_after after) e.0) (entries facts) ≡ entries_after facts after
after_is facts None = refl
after_is facts (Some r) = refl

module _ (es : List Stored) (after : Option (List ℕ)) (sorted : IsStrictlySortedBy ref_cmp (keys_of es)) where
  abbrev in_range : List ℕ → Bool
  in_range r = range_contains ref_cmp (start_after after) Unbounded r

  sorted_unboxed : IsStrictlySortedBy ref_cmp (keys_of (all_unboxed es))
  sorted_unboxed = subst (IsStrictlySortedBy ref_cmp) (sym (keys-unboxed es)) sorted

  pub stored_next : (f : Stored) (fs : List Stored) → filter (λ e. range_contains ref_cmp (start_after after) Unbounded e.0) es ≡ f ∷ fs
      → entries_after (stored_facts es) after ≡ (f.0, f.1.value) ∷ entries_after (stored_facts es) (Some f.0)
  stored_next f fs h = sym (after_is (stored_facts es) after)
      ∙ from_range ref_total ref_same (all_unboxed es) (start_after after) sorted_unboxed (unboxed f) (all_unboxed fs) (filter-unboxed in_range es ∙ ap all_unboxed h)

  pub stored_last : filter (λ e. range_contains ref_cmp (start_after after) Unbounded e.0) es ≡ [] → entries_after (stored_facts es) after ≡ []
  stored_last h = sym (after_is (stored_facts es) after)
      ∙ from_range_none ref_total ref_same (all_unboxed es) (start_after after) sorted_unboxed (filter-unboxed in_range es ∙ ap all_unboxed h)

-- all stay valid
pub valid-empty : AreAllValid empty
valid-empty r fact h = absurd (let e : None ≡ Some fact = sym (get-empty ref_cmp r) ∙ h in cc e)

pub valid-insert : (facts : Facts) (k : List ℕ) (v : Fact) → AreAllValid facts → IsValid v → AreAllValid (insert facts k v)
valid-insert facts k v all valid r fact h = by (eq_by_cmp ref_cmp r k) (sym (get-insert ref_total facts k v r) ∙ h)
  where
    by : (b : Bool) → cond b (Some v) (get facts r) ≡ Some fact → IsValid fact
    by true e = subst IsValid (same_Some v fact e) valid
    by false e = all r fact e

pub valid-remove : (facts : Facts) (k : List ℕ) → AreAllValid facts → AreAllValid (remove facts k)
valid-remove facts k all r fact h = by (eq_by_cmp ref_cmp r k) (sym (get-remove ref_total facts k r) ∙ h)
  where
    by : (b : Bool) → cond b None (get facts r) ≡ Some fact → IsValid fact
    by true e = absurd (let f : None ≡ Some fact = e in cc f)
    by false e = all r fact e

-- what a look-up tells of the map
module _ (facts : Facts) (es : List Stored) (is : stored_facts es ≡ facts) (r : List ℕ) where
  pub found_at : (f : Box Fact Global) → Some f ≡ lookup (is_at (ref_cmp r)) es → Some f.value ≡ get facts r
  found_at f h = ap (option_map (λ b. b.value)) h ∙ sym (stored_at es r) ∙ ap (λ m. get m r) is

  pub none_at : None ≡ lookup (is_at (ref_cmp r)) es → None ≡ get facts r
  none_at h = ap (option_map (λ b. b.value)) h ∙ sym (stored_at es r) ∙ ap (λ m. get m r) is

-- the first ref among those behind another
module _ (p : List ℕ → Bool) where
  first_found : (es : List Entry) (f : Entry) (fs : List Entry) → filter (λ e. p e.0) es ≡ f ∷ fs → Some f.0 ≡ find p (keys_of es)
  first_found [] f fs h = absurd (let e : [] ≡ f ∷ fs = h in cc e)
  first_found (e ∷ es) f fs h = by (p e.0) (first_found es f fs) h
    where
      by : (b : Bool) → (filter (λ e. p e.0) es ≡ f ∷ fs → Some f.0 ≡ find p (keys_of es))
          → cond b (e ∷ filter (λ e. p e.0) es) (filter (λ e. p e.0) es) ≡ f ∷ fs → Some f.0 ≡ cond b (Some e.0) (find p (keys_of es))
      by true more h = ap (λ (g : Entry). Some g.0) (sym (same_head e f _ fs h))
      by false more h = more h

  none_found : (es : List Entry) → filter (λ e. p e.0) es ≡ [] → None ≡ find p (keys_of es)
  none_found [] h = refl
  none_found (e ∷ es) h = by (p e.0) (none_found es) h
    where
      by : (b : Bool) → (filter (λ e. p e.0) es ≡ [] → None ≡ find p (keys_of es))
          → cond b (e ∷ filter (λ e. p e.0) es) (filter (λ e. p e.0) es) ≡ [] → None ≡ cond b (Some e.0) (find p (keys_of es))
      by true more h = absurd (let d : e ∷ filter (λ e. p e.0) es ≡ [] = h in cc d)
      by false more h = more h

module _ (facts : Facts) (after : Option (List ℕ)) where
  pub first_after : (f : Entry) (fs : List Entry) → entries_after facts after ≡ f ∷ fs → Some f.0 ≡ ref_after facts after
  first_after f fs h = first_found (is_after after) (entries facts) f fs h

  pub none_after : entries_after facts after ≡ [] → None ≡ ref_after facts after
  none_after h = none_found (is_after after) (entries facts) h
