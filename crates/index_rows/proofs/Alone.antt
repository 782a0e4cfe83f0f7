-- Keys with rows that say nothing, as a set in order has them.
use Rattle.std.proofs.Common.{◌≡◌, Bool, true, false, ◌||◌, cond, filter, List, [], ◌∷◌, Option, Some, None, refl, sym, ap, ◌∙◌, subst, Ordering}
use Rattle.std.specs.declared.ops.Bound.{Bound}
use Rattle.std.specs.declared.ops.Bound.TheVariants.{Unbounded}
use Rattle.std.specs.List.{list_any}
use Rattle.std.specs.List.Sorted.{IsStrictlySortedBy}
use Rattle.std.specs.Map.{lookup, keys_of}
use Rattle.std.specs.Ordering.{is_lt}
use Rattle.std.specs.Cmp.{IsTotalOrder}
use Rattle.std.specs.BTreeMap.{is_at}
use Rattle.std.specs.BTreeMap.Range.{range_contains, is_from_start}
use Rattle.std.specs.FinMap.{insert, remove, entries, from_entries, IsAntisymmetric}
use Rattle.index_rows.specs.Changes.{keys_alone}
use Rattle.index_rows.proofs.RefMaps.{one_given, one_taken}
use Rattle.index_rows.proofs.Groups.{from_range, from_range_none, from_range_all}

module _ {K : Type 0} where
  pub lookup-alone : (p : K → Bool) (ks : List K)
      → lookup p (keys_alone ks) ≡ cond (list_any p ks) (Some tt) None
  lookup-alone p [] = refl
  lookup-alone p (k ∷ ks) = by (p k) (lookup-alone p ks)
    where
      by : (b : Bool) → lookup p (keys_alone ks) ≡ cond (list_any p ks) (Some tt) None
          → cond b (Some tt) (lookup p (keys_alone ks)) ≡ cond (b || list_any p ks) (Some tt) None
      by true h = refl
      by false h = h

  pub filter-alone : (p : K → Bool) (ks : List K) → filter (λ e. p e.0) (keys_alone ks) ≡ keys_alone (filter p ks)
  filter-alone p [] = refl
  filter-alone p (k ∷ ks) = by (p k) (filter-alone p ks)
    where
      by : (b : Bool) → filter (λ e. p e.0) (keys_alone ks) ≡ keys_alone (filter p ks)
          → cond b ((k, tt) ∷ filter (λ e. p e.0) (keys_alone ks)) (filter (λ e. p e.0) (keys_alone ks))
          ≡ keys_alone (cond b (k ∷ filter p ks) (filter p ks))
      by true h = ap (λ es. (k, tt) ∷ es) h
      by false h = h

  pub keys_of-alone : (ks : List K) → keys_of (keys_alone ks) ≡ ks
  keys_of-alone [] = refl
  keys_of-alone (k ∷ ks) = ap (λ js. k ∷ js) (keys_of-alone ks)

module _ {K : Type 0} {R : K → K → Ordering} (o : IsTotalOrder R) (same : IsAntisymmetric R) where
  -- a set with one key more
  pub one_added : (ks js : List K) (k : K)
      → ((q : K) → list_any (is_at (R q)) js ≡ cond (is_at (R k) q) true (list_any (is_at (R q)) ks))
      → from_entries {R = R} (keys_alone js) ≡ insert (from_entries (keys_alone ks)) k tt
  one_added ks js k h = one_given o same (keys_alone ks) (keys_alone js) k tt (λ q.
      lookup-alone (is_at (R q)) js ∙ ap (λ b. cond b (Some tt) None) (h q)
      ∙ by (is_at (R k) q) (list_any (is_at (R q)) ks)
      ∙ ap (cond (is_at (R k) q) (Some tt)) (sym (lookup-alone (is_at (R q)) ks)))
    where
      by : (c b : Bool)
          → ◌≡◌ {A = Option (Unit {0})} (cond (cond c true b) (Some tt) None) (cond c (Some tt) (cond b (Some tt) None))
      by true b = refl
      by false b = refl

  -- and without one
  pub one_out : (ks js : List K) (k : K)
      → ((q : K) → list_any (is_at (R q)) js ≡ cond (is_at (R k) q) false (list_any (is_at (R q)) ks))
      → from_entries {R = R} (keys_alone js) ≡ remove (from_entries (keys_alone ks)) k
  one_out ks js k h = one_taken o same (keys_alone ks) (keys_alone js) k (λ q.
      lookup-alone (is_at (R q)) js ∙ ap (λ b. cond b (Some tt) None) (h q)
      ∙ by (is_at (R k) q) (list_any (is_at (R q)) ks)
      ∙ ap (cond (is_at (R k) q) None) (sym (lookup-alone (is_at (R q)) ks)))
    where
      by : (c b : Bool)
          → ◌≡◌ {A = Option (Unit {0})} (cond (cond c false b) (Some tt) None) (cond c None (cond b (Some tt) None))
      by true b = refl
      by false b = refl

  module _ (ks : List K) (start : Bound K) (sorted : IsStrictlySortedBy R ks) where
    in_order : IsStrictlySortedBy R (keys_of (keys_alone ks))
    in_order = subst (IsStrictlySortedBy R) (sym (keys_of-alone ks)) sorted

    pub set_all : filter (λ e. is_from_start R start e.0) (entries (from_entries {R = R} (keys_alone ks)))
        ≡ keys_alone (filter (range_contains R start Unbounded) ks)
    set_all = from_range_all o same (keys_alone ks) start in_order ∙ filter-alone (range_contains R start Unbounded) ks

    pub set_range : (f : K) (fs : List K) → filter (range_contains R start Unbounded) ks ≡ f ∷ fs
        → filter (λ e. is_from_start R start e.0) (entries (from_entries {R = R} (keys_alone ks)))
        ≡ (f, tt) ∷ filter (λ e. is_lt (R f e.0)) (entries (from_entries {R = R} (keys_alone ks)))
    set_range f fs h = from_range o same (keys_alone ks) start in_order (f, tt) (keys_alone fs)
        (filter-alone (range_contains R start Unbounded) ks ∙ ap keys_alone h)

    pub set_range_none : filter (range_contains R start Unbounded) ks ≡ []
        → filter (λ e. is_from_start R start e.0) (entries (from_entries {R = R} (keys_alone ks))) ≡ []
    set_range_none h = from_range_none o same (keys_alone ks) start in_order
        (filter-alone (range_contains R start Unbounded) ks ∙ ap keys_alone h)
