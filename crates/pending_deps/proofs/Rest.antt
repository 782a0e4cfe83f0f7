-- Once all of the order are told, the rows are at rest.
use Rattle.std.proofs.Common.{◌≡◌, ℕ, ◌+◌, Bool, true, false, not, ◌&&◌, ◌||◌, ◌==◌, List, [], ◌∷◌, length, take, Option, None, Some, refl, sym, ap, ◌∙◌, ◌⊎◌, inl, inr, is_some, arith, option_map}
use Rattle.std.proofs.lemmas.Bool.{cases_Bool, false≢true, and_parts}
use Rattle.std.proofs.lemmas.Slice.Eq.{bytes_eq-Decides}
use Rattle.std.specs.List.{list_any, list_all, AllByRecursion}
use Rattle.std.specs.Str.{bytes_eq}
use Rattle.std.specs.FinMap.{get, contains_key, entries}
use Rattle.schema_fact.specs.declared.kinds.Fact.{Fact}
use Rattle.schema_fact.specs.Dependencies.{dependencies}
use Rattle.claim_model.specs.Facts.{Facts, passes}
use Rattle.claim_model.specs.Ready.{is_ready}
use Rattle.claim_model.specs.Least.{passes_or_in, IsClosed, IsWithin}
use Rattle.claim_model.proofs.Least.{ready_after}
use Rattle.index_rows.specs.declared.rows.StateRow.{StateRow}
use Rattle.index_rows.specs.Pairs.{Pair, number}
use Rattle.index_rows.proofs.Orders.{pair_total, pair_same}
use Rattle.index_look.proofs.Keys.{entries_held}
use Rattle.index_rows.proofs.Counting.{bit}
use Rattle.index_rows.proofs.Deleting.{a_value}
use Rattle.index_rows.specs.States.{States}
use Rattle.index_rows.specs.Waiting.{Waiters, waits, depends, arrived, IsWaiting}
use Rattle.pending_deps.specs.Arriving.{BecameReady}
use Rattle.pending_deps.specs.Settling.{CountsMissing, Settling, KeepsOthers, others}

pub kept_same : (a b : States) → KeepsOthers a b → (y : List ℕ) → contains_key b y ≡ contains_key a y
kept_same a b h y = sym (still (get b y)) ∙ ap is_some (h y) ∙ still (get a y)
  where
    still : (o : Option StateRow) → is_some (option_map others o) ≡ is_some o
    still None = refl
    still (Some x) = refl

-- where no row is y's, none is counted
pub number_zero : (waiters : Waiters) (y : List ℕ) → ((d : List ℕ) → contains_key waiters (d, y) ≡ false) → number (waits y) (entries waiters) ≡ 0
number_zero waiters y none = by (entries waiters) (entries_held pair_total pair_same waiters)
  where
    each : (e : Pair × Unit {0}) → get waiters e.0 ≡ Some e.1 → (bytes_eq y e.0.1 ≡ true) ⊎ (bytes_eq y e.0.1 ≡ false) → bytes_eq y e.0.1 ≡ false
    each e h (inl t) = absurd (false≢true (sym (none e.0.0) ∙ ap (λ z. contains_key waiters (e.0.0, z)) ((bytes_eq-Decides y e.0.1).0 t) ∙ ap is_some h))
    each e h (inr f) = f

    by : (es : List (Pair × Unit {0})) → AllByRecursion (λ (e : Pair × Unit {0}). get waiters e.0 ≡ Some e.1) es → number (waits y) es ≡ 0
    by [] h = refl
    by (e ∷ es) h = let more = by es h.1 in (λ i. bit (each e h.0 (cases_Bool (bytes_eq y e.0.1)) i) + more i) ∙ omega arith

take_whole : (xs : List (List ℕ)) → take (length xs) xs ≡ xs
take_whole [] = refl
take_whole (x ∷ xs) = ap (λ ys. x ∷ ys) (take_whole xs)

all_told : (p : List ℕ → Bool) (ds : List (List ℕ)) (d : List ℕ) → list_all p ds ≡ true → list_any (bytes_eq d) ds ≡ true → p d ≡ true
all_told p [] d all h = absurd (false≢true h)
all_told p (e ∷ ds) d all h =
    let parts = and_parts (p e) (list_all p ds) all in
    by (cases_Bool (bytes_eq d e)) (all_told p ds d parts.1) parts.0
  where
    by : (bytes_eq d e ≡ true) ⊎ (bytes_eq d e ≡ false) → (list_any (bytes_eq d) ds ≡ true → p d ≡ true) → p e ≡ true → p d ≡ true
    by (inl t) more here = ap p ((bytes_eq-Decides d e).0 t) ∙ here
    by (inr f) more here = more (sym (ap (λ b. b || list_any (bytes_eq d) ds) f) ∙ h)

module _ (facts before : Facts) (state : States) (waiters : Waiters) (order : List (List ℕ)) (within : IsWithin before facts) (counted : CountsMissing state waiters)
    (is : Settling facts (is_ready before) state waiters order (length order)) where
  abbrev told : List ℕ → Bool
  told = passes_or_in (is_ready before) order

  rows_are : (d y : List ℕ) → contains_key waiters (d, y) ≡ (depends facts y d && not (told d))
  rows_are d y = is.rows d y ∙ ap (λ o. depends facts y d && not (passes_or_in (is_ready before) o d)) (take_whole order)

  closed : IsClosed facts told
  closed y h =
      let row = a_value (get state y) (is.arrived y ∙ known (get facts y) h) in
      sym (is.ready y row.0 row.1) ∙ is.zero y row.0 row.1
      ∙ ap (λ n. n == 0) (counted.missing y row.0 row.1 ∙ number_zero waiters y (λ d. rows_are d y ∙ none d))
    where
      known : (o : Option Fact) → passes (λ (fact : Fact). list_all told (dependencies fact)) o ≡ true → is_some o ≡ true
      known None t = absurd (false≢true t)
      known (Some fact) t = refl

      told_by : (d : List ℕ) (o : Option Fact) → passes (λ (fact : Fact). list_all told (dependencies fact)) o ≡ true → passes (λ (fact : Fact). list_any (bytes_eq d) (dependencies fact)) o ≡ true → told d ≡ true
      told_by d None t u = absurd (false≢true t)
      told_by d (Some fact) t u = all_told told (dependencies fact) d t u

      none : (d : List ℕ) → (depends facts y d && not (told d)) ≡ false
      none d = elim (cases_Bool (depends facts y d)) [
        | inl t ↦ (λ i. t i && not (told_by d (get facts y) h t i))
        | inr f ↦ ap (λ b. b && not (told d)) f
      ]

  pub became_ready : BecameReady before facts order
  became_ready = record { ready = ready_after before facts order within is.reached closed; reached = is.reached }

  pub at_rest : (all : Facts) → ((y : List ℕ) → contains_key state y ≡ true → contains_key all y ≡ true) → facts ≡ arrived all state → IsWaiting all state waiters
  at_rest all known same = record {
    known = known;
    ready = λ y row h. is.ready y row h ∙ sym (became_ready.ready y) ∙ ap (λ f. is_ready f y) same;
    zero = is.zero;
    missing = counted.missing;
    rows = λ d y. rows_are d y ∙ (λ i. depends facts y d && not (sym (became_ready.ready d) i)) ∙ ap (λ f. depends f y d && not (is_ready f d)) same;
  }
