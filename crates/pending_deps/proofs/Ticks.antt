-- The steps of what waits and becomes ready.
use Rattle.std.proofs.Common.{◌≡◌, ◌≤◌, ◌+◌, ◌*◌, ℕ, Bool, true, false, ◌||◌, ◌==◌, cond, List, [], ◌∷◌, ◌++◌, length, None, Some, refl, sym, ap, subst, ◌∙◌, arith, slice_get}
use Rattle.std.proofs.lemmas.Bool.{false≢true}
use Rattle.std.proofs.lemmas.List.Folds.{list_any-append}
use Rattle.std.proofs.lemmas.Option.{slice_get_within}
use Rattle.std.specs.List.{list_any}
use Rattle.std.specs.Str.{bytes_eq}
use Rattle.std.specs.FinMap.{get, remove, entries}
use Rattle.index_rows.specs.Pairs.{Pair, number, group_after}
use Rattle.index_rows.proofs.Orders.{pair_total, pair_same}
use Rattle.index_rows.proofs.Counting.{bit, number-remove}
use Rattle.index_rows.specs.States.{States}
use Rattle.index_rows.specs.Waiting.{Waiters}
use Rattle.pending_deps.specs.Settling.{order_with, row_or_empty}
use Rattle.pending_deps.proofs.Steps.{at_place}
use Rattle.pending_deps.proofs.Turns.{row_there}

-- how many rows are of what waits for a ref that passes
abbrev pub waiting_for : (List ℕ → Bool) → Waiters → ℕ
waiting_for test waiters = number (λ e. test e.0.0) (entries waiters)

abbrev pub AllPass : (List ℕ → Bool) → List (List ℕ) → Type 0
AllPass test order = (y : List ℕ) → list_any (bytes_eq y) order ≡ true → test y ≡ true

-- each row that was taken off took four steps, and each ref whose rows are gone one
abbrev pub HasTicked : ℕ → Waiters → List (List ℕ) → ℕ → ℕ → Waiters → Type 0
HasTicked start rows order place now waiters = (test : List ℕ → Bool) → AllPass test order
    → now + 4 * waiting_for test waiters ≤ start + place + 4 * waiting_for test rows

module _ (start now : ℕ) (rows waiters : Waiters) (order : List (List ℕ)) (place : ℕ) (x : List ℕ) (here : slice_get order place ≡ Some x)
    (so : HasTicked start rows order place now waiters)
    (w : List ℕ) (row : Unit {0}) (next : group_after waiters x None ≡ ((x, w), row) ∷ group_after waiters x (Some w)) where
  one_less : (test : List ℕ → Bool) → test x ≡ true → waiting_for test waiters ≡ 1 + waiting_for test (remove waiters (x, w))
  one_less test t =
      number-remove pair_total pair_same (λ (e : Pair × Unit {0}). test e.0.0) waiters (x, w) row (row_there waiters x (x, w) row (group_after waiters x (Some w)) next)
      ∙ ap (λ b. bit b + waiting_for test (remove waiters (x, w))) t

  pub turn_ticks : (waiters' : Waiters) (state : States) (order' : List (List ℕ)) → waiters' ≡ remove waiters (x, w) → order' ≡ order_with order w (row_or_empty (get state w))
      → (stepped now' : ℕ) → stepped ≡ now + 1 → now' ≡ stepped + 3 → HasTicked start rows order' place now' waiters'
  turn_ticks waiters' state order' ew eo stepped now' e1 e2 test all =
      let old : AllPass test order = λ y t. all y (subst (λ o. list_any (bytes_eq y) o ≡ true) (sym eo) (longer y t)) in
      let had = so test old in
      let less = one_less test (old x (at_place order place x here)) in
      let same : waiting_for test waiters' ≡ waiting_for test (remove waiters (x, w)) = ap (waiting_for test) ew in
      omega (arith, e1, e2, had, less, same)
    where
      or_left : (a b : Bool) → a ≡ true → (a || b) ≡ true
      or_left true b t = refl
      or_left false b t = absurd (false≢true t)

      longer : (y : List ℕ) → list_any (bytes_eq y) order ≡ true → list_any (bytes_eq y) (order_with order w (row_or_empty (get state w))) ≡ true
      longer y t = by ((row_or_empty (get state w)).missing == 1)
        where
          by : (b : Bool) → list_any (bytes_eq y) (cond b (order ++ w ∷ []) order) ≡ true
          by true = list_any-append (bytes_eq y) order (w ∷ []) ∙ or_left (list_any (bytes_eq y) order) (list_any (bytes_eq y) (w ∷ [])) t
          by false = t

  -- a turn that fails took no more
  pub failed_ticks : (order' : List (List ℕ)) (stepped now' : ℕ) → order' ≡ order → stepped ≡ now + 1 → now' ≡ stepped + 3
      → now' ≤ start + length order' + 4 * waiting_for (λ y. list_any (bytes_eq y) order') rows
  failed_ticks order' stepped now' eo e1 e2 = subst (λ o. now' ≤ start + length o + 4 * waiting_for (λ y. list_any (bytes_eq y) o) rows) (sym eo)
      (let had = so (λ y. list_any (bytes_eq y) order) (λ y t. t) in
      let less = one_less (λ y. list_any (bytes_eq y) order) (at_place order place x here) in
      let lt = slice_get_within order place x here in
      omega (arith, e1, e2, had, less, lt))

-- at the end of a group
pub end_ticks : (start now : ℕ) (rows waiters : Waiters) (order : List (List ℕ)) (place : ℕ) → HasTicked start rows order place now waiters
    → (stepped : ℕ) → stepped ≡ now + 1 → HasTicked start rows order (place + 1) stepped waiters
end_ticks start now rows waiters order place so stepped e test all = let had = so test all in omega (arith, had, e)

pub first_ticks : (start : ℕ) (rows : Waiters) (order : List (List ℕ)) → HasTicked start rows order 0 start rows
first_ticks start rows order test all = omega arith

-- and at the end of all
pub all_ticks : (start now : ℕ) (rows waiters : Waiters) (order : List (List ℕ)) (place : ℕ) → HasTicked start rows order place now waiters → place ≤ length order
    → now ≤ start + length order + 4 * waiting_for (λ y. list_any (bytes_eq y) order) rows
all_ticks start now rows waiters order place so le = let had = so (λ y. list_any (bytes_eq y) order) (λ y t. t) in omega (arith, had, le)
