-- The rows in front of a walk that pass a test, where no row after one that doesn't pass does.
use Rattle.std.proofs.Common.{◌≡◌, Bool, true, false, ◌&&◌, cond, List, [], ◌∷◌, filter, Some, refl, sym, ap, ◌∙◌}
use Rattle.std.proofs.Common.{subst, Ordering}
use Rattle.std.proofs.lemmas.List.Kept.{IsStrictlySortedBy-filter}
use Rattle.std.proofs.lemmas.Map.Keys.{sorted_head, sorted_tail}
use Rattle.std.specs.declared.cmp.Ordering.TheVariants.{Less}
use Rattle.std.specs.declared.ops.Bound.{Bound}
use Rattle.std.specs.declared.ops.Bound.TheVariants.{Unbounded}
use Rattle.std.specs.List.{AllByRecursion}
use Rattle.std.specs.List.Sorted.{IsStrictlySortedBy}
use Rattle.std.specs.Map.{keys_of}
use Rattle.std.specs.Cmp.{IsTotalOrder}
use Rattle.std.specs.BTreeMap.Range.{is_from_start, range_contains}
use Rattle.std.specs.FinMap.{IsAntisymmetric, get, entries, from_entries}
use Rattle.index_look.proofs.Keys.{entries_held}
use Rattle.index_rows.proofs.Groups.{filter_same, filter-filter, filter_none, filter_passing, from_range_all}
use Rattle.index_rows.proofs.Groups.{all_more, all_keys}

module _ {A : Type 0} where
  -- the items in front that pass
  abbrev pub front : (A → Bool) → List A → List A
  front p [] = []
  front p (e ∷ es) = cond (p e) (e ∷ front p es) []

  -- after one that doesn't pass none does
  abbrev pub IsApart : (A → Bool) → List A → Type 0
  IsApart p [] = Unit {0}
  IsApart p (e ∷ es) = (p e ≡ false → AllByRecursion (λ d. p d ≡ false) es) × IsApart p es

  pub front_is : (p : A → Bool) (es : List A) → IsApart p es → filter p es ≡ front p es
  front_is p [] h = refl
  front_is p (e ∷ es) h = by (p e) refl (front_is p es h.1)
    where
      by : (b : Bool) → p e ≡ b → filter p es ≡ front p es
          → cond b (e ∷ filter p es) (filter p es) ≡ cond b (e ∷ front p es) []
      by true t more = ap (λ ds. e ∷ ds) more
      by false f more = filter_none p es (h.0 f)

module _ {K X : Type 0} where
  pub keys_kept : (p : K → Bool) (es : List (K × X)) → keys_of (filter (λ e. p e.0) es) ≡ filter p (keys_of es)
  keys_kept p [] = refl
  keys_kept p (e ∷ es) = by (p e.0) (keys_kept p es)
    where
      by : (b : Bool) → keys_of (filter (λ d. p d.0) es) ≡ filter p (keys_of es)
          → keys_of (cond b (e ∷ filter (λ d. p d.0) es) (filter (λ d. p d.0) es))
          ≡ cond b (e.0 ∷ filter p (keys_of es)) (filter p (keys_of es))
      by true h = ap (λ ks. e.0 ∷ ks) h
      by false h = h

and_true : (b : Bool) → (b && true) ≡ b
and_true true = refl
and_true false = refl

and_false : (b : Bool) → false ≡ (b && false)
and_false true = refl
and_false false = refl

module _ {K X : Type 0} {R : K → K → Ordering} (o : IsTotalOrder R) (same : IsAntisymmetric R) (start : Bound K)
    (p : K → Bool)
    (later : (a b : K) → is_from_start R start a ≡ true → p a ≡ false → R a b ≡ Less → p b ≡ false) where
  apart_rows : (es : List (K × X)) → IsStrictlySortedBy R (keys_of es)
      → AllByRecursion (λ e. is_from_start R start e.0 ≡ true) es → IsApart (λ e. p e.0) es
  apart_rows [] sorted from = tt
  apart_rows (e ∷ es) sorted from = (
    λ f. all_keys o (λ j. p j ≡ false) es
        (all_more (λ j. R e.0 j ≡ Less) (λ j. p j ≡ false) (λ j less. later e.0 j from.0 f less)
        (keys_of es) (sorted_head R e.0 (keys_of es) sorted)),
    apart_rows es (sorted_tail R e.0 (keys_of es) sorted) from.1,
  )

  -- all rows that pass are in front of the walk from the start on, if no row before the start passes
  pub walk_front : (es : List (K × X)) → IsStrictlySortedBy R (keys_of es)
      → ((e : K × X) → get (from_entries {R = R} es) e.0 ≡ Some e.1 → p e.0 ≡ true
      → is_from_start R start e.0 ≡ true)
      → filter (λ e. p e.0) (entries (from_entries {R = R} es))
      ≡ front (λ e. p e.0) (filter (λ e. range_contains R start Unbounded e.0) es)
  walk_front es sorted from =
      filter_same (λ e. p e.0) (λ e. is_from_start R start e.0 && p e.0) all
      (all_more (λ e. get (from_entries {R = R} es) e.0 ≡ Some e.1)
      (λ e. p e.0 ≡ (is_from_start R start e.0 && p e.0)) (λ e held. each e held (p e.0) refl) all
      (entries_held o same (from_entries {R = R} es)))
      ∙ sym (filter-filter (λ e. p e.0) (λ e. is_from_start R start e.0) all)
      ∙ ap (filter (λ e. p e.0)) (from_range_all o same es start sorted)
      ∙ front_is (λ e. p e.0) ranged
      (apart_rows ranged
      (subst (IsStrictlySortedBy R) (sym (keys_kept (range_contains R start Unbounded) es))
      (IsStrictlySortedBy-filter R (range_contains R start Unbounded) (keys_of es) sorted))
      (all_more (λ e. range_contains R start Unbounded e.0 ≡ true) (λ e. is_from_start R start e.0 ≡ true)
      (λ e h. sym (and_true (is_from_start R start e.0)) ∙ h) ranged
      (filter_passing (λ e. range_contains R start Unbounded e.0) es)))
    where
      all : List (K × X)
      all = entries (from_entries {R = R} es)

      ranged : List (K × X)
      ranged = filter (λ e. range_contains R start Unbounded e.0) es

      each : (e : K × X) → get (from_entries {R = R} es) e.0 ≡ Some e.1 → (b : Bool) → p e.0 ≡ b
          → p e.0 ≡ (is_from_start R start e.0 && p e.0)
      each e held true t = t ∙ sym (ap (λ a. a && p e.0) (from e held t) ∙ t)
      each e held false f =
          f ∙ and_false (is_from_start R start e.0) ∙ ap (λ a. is_from_start R start e.0 && a) (sym f)
