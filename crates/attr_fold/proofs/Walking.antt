-- The changes of a permanode, one after another.
use Rattle.std.proofs.lemmas.Slice.Eq.{bytes_eq-Decides}
use Rattle.std.proofs.Common.{◌≡◌, ℕ, Bool, true, false, ◌&&◌, cond, List, [], ◌∷◌, map, filter, Option, Some, None}
use Rattle.std.proofs.Common.{refl, ap, ◌∙◌, option_and_then, is_some, slice_get}
use Rattle.std.proofs.lemmas.Bool.{and_parts}
use Rattle.std.specs.List.{AllByRecursion}
use Rattle.std.specs.Str.{bytes_eq}
use Rattle.std.specs.FinMap.{get, entries, contains_key}
use Rattle.schema_fact.specs.declared.kinds.Fact.{Fact}
use Rattle.claim_model.specs.Facts.{Facts}
use Rattle.schema_fact.specs.Changes.{changes_of}
use Rattle.claim_model.specs.Claims.{Moment}
use Rattle.index_look.specs.Claims.{claim_says, said}
use Rattle.index_look.proofs.Keys.{entries_held}
use Rattle.index_rows.specs.Changes.{Changes, ChangeKey, changes_after, is_later}
use Rattle.index_rows.specs.States.{States}
use Rattle.index_rows.specs.Values.{change_at, IsChange}
use Rattle.index_rows.proofs.Orders.{change_total, change_same}

abbrev pub Row : Type 0
Row = ChangeKey × Unit {0}

-- ---- what a filter of entries begins with stands in the map

filter_all : {A : Type 0} (P : A → Type 0) (p : A → Bool) (es : List A) → AllByRecursion P es
    → AllByRecursion P (filter p es)
filter_all P p [] h = tt
filter_all P p (e ∷ es) h = by (p e) (filter_all P p es h.1)
  where
    by : (b : Bool) → AllByRecursion P (filter p es) → AllByRecursion P (cond b (e ∷ filter p es) (filter p es))
    by true more = (h.0, more)
    by false more = more

all_pass : {A : Type 0} (q : A → Bool) (es : List A) → AllByRecursion (λ e. q e ≡ true) (filter q es)
all_pass q [] = tt
all_pass q (e ∷ es) = by (q e) refl (all_pass q es)
  where
    by : (b : Bool) → q e ≡ b → AllByRecursion (λ d. q d ≡ true) (filter q es)
        → AllByRecursion (λ d. q d ≡ true) (cond b (e ∷ filter q es) (filter q es))
    by true t more = (t, more)
    by false t more = more

module _ (changes : Changes) (p : List ℕ) where
  all_held : (after : Option Moment)
      → AllByRecursion (λ (e : Row). get changes e.0 ≡ Some e.1) (changes_after changes p after)
  all_held after =
      filter_all _ (λ e. bytes_eq p e.0.0 && is_later after e.0.1) (entries changes)
      (entries_held change_total change_same changes)

  -- each moment of p is that of a row
  pub all_stand : AllByRecursion (λ k. contains_key changes (p, k) ≡ true)
      (map (λ (e : Row). e.0.1) (changes_after changes p None))
  all_stand = by (changes_after changes p None) (all_held None)
      (all_pass (λ (e : Row). bytes_eq p e.0.0 && is_later None e.0.1) (entries changes))
    where
      by : (es : List Row) → AllByRecursion (λ (e : Row). get changes e.0 ≡ Some e.1) es
          → AllByRecursion (λ (e : Row). (bytes_eq p e.0.0 && is_later None e.0.1) ≡ true) es
          → AllByRecursion (λ k. contains_key changes (p, k) ≡ true) (map (λ (e : Row). e.0.1) es)
      by [] held own = tt
      by (e ∷ es) held own =
          let same : p ≡ e.0.0 = (bytes_eq-Decides p e.0.0).0 (and_parts (bytes_eq p e.0.0) true own.0).0 in
          ((λ i. contains_key changes (same i, e.0.1)) ∙ ap is_some held.0, by es held.1 own.1)

-- ---- the change of a moment

module _ (facts : Facts) (state : States) (p : List ℕ) (k : Moment) (is : IsChange facts state p k) where
  said_is : said facts k.1 ≡ Some is.what
  said_is = ap (option_and_then (λ (fact : Fact). claim_says fact.kind)) is.found ∙ ap claim_says is.says

  pub change_is : change_at facts k ≡ Some is.change
  change_is = ap (option_and_then (λ what. slice_get (changes_of what) k.2)) said_is ∙ is.place
