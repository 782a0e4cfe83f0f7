-- The changes behind a moment, one after another.
use Rattle.std.proofs.Common.{◌≡◌, ◌≤◌, ◌+◌, ℕ, Bool, true, false, not, ◌&&◌, ◌||◌, cond, List, [], ◌∷◌, ◌++◌, length}
use Rattle.std.proofs.Common.{map}
use Rattle.std.proofs.Common.{filter, Option, Some, None, refl, sym, ap, subst, ◌∙◌, inl, inr, arith}
use Rattle.std.proofs.lemmas.Bool.{and_parts}
use Rattle.std.proofs.lemmas.List.Folds.{list_any-append}
use Rattle.std.specs.List.{filter_map, list_any, cons_option}
use Rattle.std.specs.FinMap.{contains_key, entries}
use Rattle.std.specs.Ordering.{is_lt}
use Rattle.std.specs.Str.{bytes_eq}
use Rattle.schema_date.specs.declared.date.When.TheVariants.{Always}
use Rattle.schema_fact.specs.declared.changes.Change.{Change}
use Rattle.claim_model.specs.Facts.{Facts, passes}
use Rattle.claim_model.specs.Claims.{Moment, moment_cmp}
use Rattle.index_rows.specs.Changes.{Changes, changes_after}
use Rattle.index_rows.specs.Deletes.{Deletes, row_deleted}
use Rattle.index_rows.specs.Removals.{AreRemovals, Removals, RemovalKey, has_mark, removals_after}
use Rattle.index_rows.specs.Values.{change_at}
use Rattle.index_rows.proofs.Stands.{change_stands, removal_stands}
use Rattle.attr_fold.specs.Following.{added_from, counted, counted_after, counted_under, decides}
use Rattle.attr_fold.proofs.Adding.{added_beside}
use Rattle.attr_fold.proofs.Dropping.{counted-append, none_or_one}
use Rattle.attr_fold.proofs.Walking.{Row}

module _ (changes : Changes) (p q : List ℕ) (own : q ≡ p) (at k : Moment)
    (found : changes_after changes q (Some at) ≡ ((q, k), tt) ∷ changes_after changes q (Some k)) where
  pub next_in : changes_after changes p (Some at) ≡ ((p, k), tt) ∷ changes_after changes p (Some k)
  next_in = subst (λ (r : List ℕ). changes_after changes r (Some at) ≡ ((r, k), tt) ∷ changes_after changes r
      (Some k)) own found

  pub next_stands : contains_key changes (p, k) ≡ true
  next_stands = change_stands changes p (Some at) k (changes_after changes p (Some k)) next_in

  pub one_behind : length (changes_after changes p (Some at)) ≡ length (changes_after changes p (Some k)) + 1
  one_behind = ap length next_in ∙ omega arith

  pub all_behind : (facts : Facts) (deletes : Deletes)
      → counted_after facts deletes changes p at
      ≡ counted facts deletes (k ∷ []) ++ counted_after facts deletes changes p k
  all_behind facts deletes =
      ap (λ (es : List Row). counted facts deletes (map (λ (e : Row). e.0.1) es)) next_in
      ∙ counted-append facts deletes (k ∷ []) (map (λ (e : Row). e.0.1) (changes_after changes p (Some k)))

pub nothing_behind : (changes : Changes) (p q : List ℕ) (own : q ≡ p) (at : Moment)
    → changes_after changes q (Some at) ≡ [] → (facts : Facts) (deletes : Deletes)
    → counted_after facts deletes changes p at ≡ []
nothing_behind changes p q own at none facts deletes =
    ap (λ (es : List Row). counted facts deletes (map (λ (e : Row). e.0.1) es))
    (subst (λ (r : List ℕ). changes_after changes r (Some at) ≡ []) own none)

module _ (facts : Facts) (deletes : Deletes) (k : Moment) (c : Change) (is : change_at facts k ≡ Some c)
    (test : Change → Bool) where
  pub told_of_one : list_any test (counted facts deletes (k ∷ [])) ≡ cond (row_deleted facts deletes Always k.1) false
      (test c || false)
  told_of_one = by (row_deleted facts deletes Always k.1)
    where
      by : (gone : Bool) → list_any test (filter_map (change_at facts) (cond (not gone) (k ∷ []) [])) ≡ cond gone
          false (test c || false)
      by true = refl
      by false = ap (λ (o : Option Change). list_any test (cons_option o [])) is

  pub out_of_one : test c ≡ false → list_any test (counted facts deletes (k ∷ [])) ≡ false
  out_of_one f = told_of_one ∙ ap (λ b. cond (row_deleted facts deletes Always k.1) false (b || false)) f
      ∙ by (row_deleted facts deletes Always k.1)
    where
      by : (gone : Bool) → cond gone false false ≡ false
      by true = refl
      by false = refl

  pub in_one : test c ≡ true → list_any test (counted facts deletes (k ∷ [])) ≡ not
      (row_deleted facts deletes Always k.1)
  in_one t = told_of_one ∙ ap (λ b. cond (row_deleted facts deletes Always k.1) false (b || false)) t
      ∙ by (row_deleted facts deletes Always k.1)
    where
      by : (gone : Bool) → cond gone false true ≡ not gone
      by true = refl
      by false = refl

-- a change that has nothing to do with a value, whether it counts or not
pub beside_one : (facts : Facts) (deletes : Deletes) (k : Moment) (c : Change) → change_at facts k ≡ Some c
    → (name value : List ℕ) → decides false name value c ≡ false → (n : ℕ)
    → Some n ≡ added_from name value n (counted facts deletes (k ∷ []))
beside_one facts deletes k c is name value f n = elim (none_or_one facts deletes k c is) [
  | inl none ↦ sym (ap (added_from name value n) none)
  | inr one ↦ sym (ap (added_from name value n) one ∙ added_beside name value c f n)
]

module _ (p : List ℕ) (k : Moment) where
  abbrev behind : Row → Bool
  behind e = bytes_eq p e.0.0 && is_lt (moment_cmp k e.0.1)

  abbrev any : Row → Bool
  any e = bytes_eq p e.0.0 && true

  fewer : (es : List Row) → length (filter behind es) ≤ length (filter any es)
  fewer [] = omega arith
  fewer (e ∷ es) = by (bytes_eq p e.0.0) (is_lt (moment_cmp k e.0.1)) (fewer es)
    where
      by : (a b : Bool) → length (filter behind es) ≤ length (filter any es)
          → length (cond (a && b) (e ∷ filter behind es) (filter behind es)) ≤ length
          (cond (a && true) (e ∷ filter any es) (filter any es))
      by true true h = omega (arith, h)
      by true false h = omega (arith, h)
      by false b h = h

pub fewer_behind : (changes : Changes) (p : List ℕ) (k : Moment)
    → length (changes_after changes p (Some k)) ≤ length (changes_after changes p None)
fewer_behind changes p k = fewer p k (entries changes)

-- ---- the removals under a mark

abbrev Taking : Type 0
Taking = RemovalKey × Unit {0}

module _ (removals : Removals) (p q : List ℕ) (own : q ≡ p) (mark : ℕ) (at k : Moment)
    (found : removals_after removals q mark at ≡ ((q, mark, k), tt) ∷ removals_after removals q mark k) where
  pub next_under : removals_after removals p mark at ≡ ((p, mark, k), tt) ∷ removals_after removals p mark k
  next_under = subst (λ (r : List ℕ).
      removals_after removals r mark at ≡ ((r, mark, k), tt) ∷ removals_after removals r mark k) own found

  pub under_stands : contains_key removals (p, mark, k) ≡ true
  under_stands = removal_stands removals p mark at k (removals_after removals p mark k) next_under

  pub one_under : length (removals_after removals p mark at) ≡ length (removals_after removals p mark k) + 1
  one_under = ap length next_under ∙ omega arith

  module _ (facts : Facts) (deletes : Deletes) (test : Change → Bool) where
    pub more_under : list_any test (counted_under facts deletes removals p mark at)
        ≡ (list_any test (counted facts deletes (k ∷ [])) || list_any test
        (counted_under facts deletes removals p mark k))
    more_under =
        ap (λ (es : List Taking). list_any test (counted facts deletes (map (λ (e : Taking). e.0.2) es))) next_under
        ∙ ap (list_any test)
        (counted-append facts deletes (k ∷ []) (map (λ (e : Taking). e.0.2) (removals_after removals p mark k)))
        ∙ list_any-append test (counted facts deletes (k ∷ [])) (counted_under facts deletes removals p mark k)

pub none_under : (removals : Removals) (p q : List ℕ) (own : q ≡ p) (mark : ℕ) (at : Moment)
    → removals_after removals q mark at ≡ [] → (facts : Facts) (deletes : Deletes) (test : Change → Bool)
    → list_any test (counted_under facts deletes removals p mark at) ≡ false
none_under removals p q own mark at none facts deletes test =
    ap (λ (es : List Taking). list_any test (counted facts deletes (map (λ (e : Taking). e.0.2) es)))
    (subst (λ (r : List ℕ). removals_after removals r mark at ≡ []) own none)

-- a removal is a change
pub removal_changes : (facts : Facts) (changes : Changes) (removals : Removals) → AreRemovals facts changes removals
    → (p : List ℕ) (mark : ℕ) (k : Moment) → contains_key removals (p, mark, k) ≡ true
    → contains_key changes (p, k) ≡ true
removal_changes facts changes removals are p mark k there =
    (and_parts (contains_key changes (p, k)) (passes (has_mark mark) (change_at facts k))
    (sym (are p mark k) ∙ there)).0
