-- The turns of the loops in `settle`, as its calls tell them.
use Rattle.std.proofs.Common.{◌≡◌, ℕ, zero, suc, ◌+◌, ◌-◌, ◌≤◌, ◌<◌, Bool, true, false, ◌&&◌, ◌==◌, cond, List, [], ◌∷◌, ◌++◌, length, Option, None, Some, refl, sym, ap, subst, ◌∙◌, is_some, arith, slice_get, option_map, length-append}
use Rattle.std.proofs.lemmas.Bool.{false≢true}
use Rattle.std.proofs.lemmas.Option.{slice_get_within}
use Rattle.std.proofs.lemmas.Slice.Eq.{bytes_eq-Decides}
use Rattle.std.specs.List.{list_any, AllByRecursion}
use Rattle.std.specs.Str.{bytes_eq}
use Rattle.std.specs.FinMap.{get, insert, remove, contains_key, entries}
use Rattle.claim_model.specs.Facts.{Facts}
use Rattle.index_rows.specs.Pairs.{Pair, number, group_after}
use Rattle.index_rows.proofs.Orders.{pair_total, pair_same}
use Rattle.index_look.proofs.Keys.{entries_held}
use Rattle.index_rows.proofs.Counting.{number-remove}
use Rattle.index_rows.proofs.Deleting.{any_get, any-filter}
use Rattle.index_rows.proofs.DeletionEnds.{all_filter}
use Rattle.index_rows.specs.States.{States}
use Rattle.index_rows.specs.Waiting.{Waiters}
use Rattle.pending_deps.specs.Settling.{row_or_empty, one_less, order_with, HasMissing, CountsMissing, others, KeepsOthers, Settling}
use Rattle.pending_deps.proofs.Steps.{Releasing, released, step_on, has_missing, still_counted, others_kept}

pub row_there : (rows : Waiters) (x : List ℕ) (k : Pair) (v : Unit {0}) (rest : List (Pair × Unit {0})) → group_after rows x None ≡ (k, v) ∷ rest → get rows k ≡ Some v
row_there rows x k v rest h =
    (subst (λ xs. AllByRecursion (λ (e : Pair × Unit {0}). (get rows e.0 ≡ Some e.1) × ((bytes_eq x e.0.0 && true) ≡ true)) xs) h
    (all_filter (λ (e : Pair × Unit {0}). get rows e.0 ≡ Some e.1) (λ (e : Pair × Unit {0}). bytes_eq x e.0.0 && true) (entries rows) (entries_held pair_total pair_same rows))).0.0

none_there : (rows : Waiters) (x : List ℕ) → group_after rows x None ≡ [] → (y : List ℕ) → contains_key rows (x, y) ≡ false
none_there rows x h y = by (get rows (x, y)) refl
  where
    here : (bytes_eq x x && true && true) ≡ true
    here = ap (λ b. b && true && true) ((bytes_eq-Decides x x).1 refl)

    by : (o : Option (Unit {0})) → get rows (x, y) ≡ o → is_some (get rows (x, y)) ≡ false
    by None e = ap is_some e
    by (Some v) e = absurd (false≢true (sym (ap (list_any (λ (e : Pair × Unit {0}). true)) h) ∙ any-filter (λ (e : Pair × Unit {0}). true) (λ (e : Pair × Unit {0}). bytes_eq x e.0.0 && true) (entries rows)
        ∙ any_get pair_total pair_same (λ (e : Pair × Unit {0}). bytes_eq x e.0.0 && true && true) rows (x, y) v e here))

abbrev pub all : Pair × Unit {0} → Bool
all e = true

module _ (state : States) (waiters : Waiters) (order : List (List ℕ)) (place : ℕ) (x : List ℕ) (here : slice_get order place ≡ Some x) (counted : CountsMissing state waiters)
    (w : List ℕ) (row : Unit {0}) (next : group_after waiters x None ≡ ((x, w), row) ∷ group_after waiters x (Some w)) where
  there : get waiters (x, w) ≡ Some row
  there = row_there waiters x (x, w) row (group_after waiters x (Some w)) next

  pub needs : HasMissing state w
  needs = has_missing state waiters counted x w row there

  module _ (state' : States) (waiters' : Waiters) (order' : List (List ℕ)) (ew : waiters' ≡ remove waiters (x, w)) (es : state' ≡ insert state w (one_less (row_or_empty (get state w))))
      (eo : order' ≡ order_with order w (row_or_empty (get state w))) where
    pub turn_counted : CountsMissing state' waiters'
    turn_counted = subst (λ s. CountsMissing s waiters') (sym es) (subst (λ v. CountsMissing (insert state w (one_less (row_or_empty (get state w)))) v) (sym ew) (still_counted state waiters counted x w row there))

    pub turn_kept : (start : States) → KeepsOthers start state → KeepsOthers start state'
    turn_kept start h y = ap (λ s. option_map others (get s y)) es ∙ others_kept state waiters counted x w row there y ∙ h y

    pub turn_releasing : (facts : Facts) (old : List ℕ → Bool) → Releasing facts old state waiters order place x → Releasing facts old state' waiters' order' place x
    turn_releasing facts old is =
        subst (λ s. Releasing facts old s waiters' order' place x) (sym es) (subst (λ v. Releasing facts old (insert state w (one_less (row_or_empty (get state w)))) v order' place x) (sym ew)
        (subst (λ o. Releasing facts old (insert state w (one_less (row_or_empty (get state w)))) (remove waiters (x, w)) o place x) (sym eo)
        (step_on facts old state waiters order place x here counted w row there is)))

    longer : (length order ≤ length order') × (length order' ≤ length order + 1)
    longer = subst (λ o. (length order ≤ length o) × (length o ≤ length order + 1)) (sym eo) (by ((row_or_empty (get state w)).missing == 1))
      where
        by : (b : Bool) → (length order ≤ length (cond b (order ++ w ∷ []) order)) × (length (cond b (order ++ w ∷ []) order) ≤ length order + 1)
        by true = let l : length (order ++ w ∷ []) ≡ length order + 1 = length-append order (w ∷ []) in (omega arith, omega arith)
        by false = (omega arith, omega arith)

    pub turn_place : slice_get order' place ≡ Some x
    turn_place = ap (λ o. slice_get o place) eo ∙ by ((row_or_empty (get state w)).missing == 1)
      where
        front : (xs ys : List (List ℕ)) (i : ℕ) → slice_get xs i ≡ Some x → slice_get (xs ++ ys) i ≡ Some x
        front [] ys i h = absurd (let e : None ≡ Some x = h in cc e)
        front (z ∷ xs) ys zero h = h
        front (z ∷ xs) ys (suc i) h = front xs ys i h

        by : (b : Bool) → slice_get (cond b (order ++ w ∷ []) order) place ≡ Some x
        by true = front order (w ∷ []) place here
        by false = here

    fewer : number all (entries waiters) ≡ 1 + number all (entries waiters')
    fewer = number-remove pair_total pair_same all waiters (x, w) row there ∙ ap (λ v. 1 + number all (entries v)) (sym ew)

    pub turn_falls : number all (entries waiters') < number all (entries waiters)
    turn_falls = omega (arith, fewer)

    pub turn_less : (n : ℕ) → number all (entries waiters) + length order ≤ n → number all (entries waiters') + length order' ≤ n
    turn_less n h = omega (arith, fewer, longer.1, h)

-- at the end of a group
module _ (state : States) (waiters : Waiters) (order : List (List ℕ)) (place : ℕ) (x : List ℕ) (here : slice_get order place ≡ Some x) (none : group_after waiters x None ≡ []) where
  pub end_settling : (facts : Facts) (old : List ℕ → Bool) → Releasing facts old state waiters order place x → Settling facts old state waiters order (place + 1)
  end_settling facts old is = released facts old state waiters order place x here (none_there waiters x none) is

  pub end_within : place + 1 ≤ length order
  end_within = let lt = slice_get_within order place x here in omega (arith, lt)

  pub end_falls : (waiters0 : Waiters) (order0 : List (List ℕ)) → place < length order0 → number all (entries waiters) + length order ≤ number all (entries waiters0) + length order0
      → number all (entries waiters) + (length order - (place + 1)) < number all (entries waiters0) + (length order0 - place)
  end_falls waiters0 order0 lt le = omega (arith, lt, le, end_within)
