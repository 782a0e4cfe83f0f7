-- The steps of an arrival, in terms of the facts.
use Rattle.std.proofs.Common.{◌≡◌, ◌≤◌, ◌+◌, ◌*◌, ℕ, Bool, true, false, ◌||◌, ◌==◌, cond, List, [], ◌∷◌, length, None, sym, ap, subst, ◌∙◌, ◌⊎◌, inl, inr, is_some, arith}
use Rattle.std.proofs.lemmas.Bool.{cases_Bool, and_parts}
use Rattle.std.specs.List.{list_any}
use Rattle.std.specs.Str.{bytes_eq}
use Rattle.std.specs.FinMap.{get, insert, contains_key, same_map, get-retain_keys}
use Rattle.claim_model.specs.Facts.{Facts}
use Rattle.claim_model.specs.Ready.{is_ready}
use Rattle.claim_model.specs.Least.{AreReached, IsWithin}
use Rattle.index_rows.specs.declared.rows.StateRow.{StateRow}
use Rattle.index_rows.specs.Once.{AreNew}
use Rattle.index_rows.specs.States.{States}
use Rattle.index_rows.specs.Touched.{becomes, became, needs_of, namings}
use Rattle.index_rows.specs.Waiting.{Waiters, arrived, depends, IsWaiting}
use Rattle.index_rows.proofs.Arrived.{get-arrived}
use Rattle.index_rows.proofs.Orders.{ref_total, ref_same}
use Rattle.index_rows.proofs.Puts.{put_at, put_beside}
use Rattle.pending_deps.specs.Settling.{Settling}
use Rattle.pending_deps.specs.Arriving.{IsEnlisted, IsNew, arrived_with, arrival_steps}
use Rattle.pending_deps.proofs.Arrival.{begun, within}
use Rattle.pending_deps.proofs.Freed.{are_freed, freed_length, rows_named, waiting_less}
use Rattle.pending_deps.proofs.Ticks.{waiting_for}

-- whatever its row says, r has arrived
pub with_is : (facts : Facts) (state : States) (r : List ℕ) (row : StateRow) → arrived facts (insert state r row) ≡ arrived_with facts state r
with_is facts state r row = same_map ref_total ref_same _ _
    (λ y. get-arrived facts (insert state r row) y ∙ ap (λ b. cond b (get facts y) None) (either y (cases_Bool (bytes_eq y r)))
    ∙ sym (get-retain_keys facts (λ x. bytes_eq x r || contains_key state x) y (λ x t. ap (λ z. bytes_eq z r || contains_key state z) (sym (ref_same y x t)))))
  where
    either : (y : List ℕ) → (bytes_eq y r ≡ true) ⊎ (bytes_eq y r ≡ false) → contains_key (insert state r row) y ≡ (bytes_eq y r || contains_key state y)
    either y (inl t) = ap is_some (put_at state r row y t) ∙ sym (ap (λ b. b || contains_key state y) t)
    either y (inr f) = ap is_some (put_beside state r row y f) ∙ sym (ap (λ b. b || contains_key state y) f)

module _ (facts : Facts) (state : States) (waiters : Waiters) (r : List ℕ) (waiting : IsWaiting facts state waiters) (fresh : IsNew facts state r) (waiters1 : Waiters) (n : ℕ)
    (enlisted : IsEnlisted state waiters waiters1 r (needs_of facts r) n) (order1 : List (List ℕ)) (is_order : order1 ≡ cond (n == 0) (r ∷ []) [])
    (put : States) (is_put : put ≡ insert state r (record { ready = n == 0; genuine = false; sound = false; missing = n; deleters = 0 })) where
  abbrev row : StateRow
  row = record { ready = n == 0; genuine = false; sound = false; missing = n; deleters = 0 }

  abbrev old : List ℕ → Bool
  old = is_ready (arrived facts state)

  abbrev more : Facts
  more = arrived facts (insert state r row)

  start : Settling more old put waiters1 order1 0
  start = begun facts state waiters r waiting fresh waiters1 n enlisted order1 is_order put is_put

  abbrev bound : Facts → ℕ
  bound f = 2 + 3 * length (needs_of facts r) + length (became old f) + 4 * length (namings f (becomes old f))

  pub arrival_ticks : (order2 : List (List ℕ))
      → ((all : Facts) (ready : List ℕ → Bool) → Settling all ready put waiters1 order1 0 → AreReached all ready [] order2 × AreNew ready [] order2)
      → (first mid last : ℕ) → mid ≤ first + 2 + 3 * length (needs_of facts r)
      → last ≤ mid + length order2 + 4 * waiting_for (λ y. list_any (bytes_eq y) order2) waiters1
      → last ≤ first + arrival_steps facts state r
  arrival_ticks order2 settled first mid last before ticks =
      subst (λ f. last ≤ first + bound f) (with_is facts state r row) (omega (arith, before, ticks, few, fewer, named))
    where
      went : AreReached more old [] order2 × AreNew old [] order2
      went = settled more old start

      inside : IsWithin (arrived facts state) more
      inside = within facts state waiters r waiting fresh waiters1 n enlisted order1 is_order put is_put

      few : length order2 ≤ length (became old more)
      few = freed_length (arrived facts state) more inside order2 went.0 went.1

      fewer : waiting_for (λ y. list_any (bytes_eq y) order2) waiters1 ≤ waiting_for (becomes old more) waiters1
      fewer = waiting_less (λ y. list_any (bytes_eq y) order2) (becomes old more) (are_freed (arrived facts state) more inside order2 went.0 went.1) waiters1

      named : waiting_for (becomes old more) waiters1 ≤ length (namings more (becomes old more))
      named = rows_named more (becomes old more) waiters1 (λ d y h. (and_parts (depends more y d) _ (sym (start.rows d y) ∙ h)).0)
