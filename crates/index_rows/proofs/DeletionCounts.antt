-- Counts tell deletion.
use Rattle.std.proofs.Common.{◌≡◌, ℕ, ◌+◌, Bool, true, false, not, ◌&&◌, ◌||◌, List, [], ◌∷◌, Option, None, Some, refl, sym, ap, ◌∙◌, ◌⊎◌, inl, inr, is_some, arith, nat_lt, ℤ}
use Rattle.std.proofs.lemmas.Bool.{cases_Bool, false≢true, and_parts}
use Rattle.std.proofs.lemmas.Slice.Eq.{bytes_eq-Decides}
use Rattle.std.specs.List.{list_any}
use Rattle.std.specs.Str.{bytes_eq}
use Rattle.std.specs.FinMap.{get, contains_key, entries}
use Rattle.schema_date.specs.declared.date.When.TheVariants.{Always}
use Rattle.claim_model.specs.Facts.{Facts, passes}
use Rattle.index_rows.specs.declared.rows.StateRow.{StateRow}
use Rattle.index_rows.specs.Pairs.{Pair, number}
use Rattle.index_rows.specs.Deletes.{Deletes, is_live, any_live, row_deleted}
use Rattle.index_rows.specs.States.{States}
use Rattle.index_rows.specs.Counted.{is_deletable, has_deleters, is_gone, IsCounted}
use Rattle.index_rows.proofs.Orders.{pair_total, pair_same}
use Rattle.index_rows.proofs.Counting.{bit}
use Rattle.index_rows.proofs.Deleting.{any-filter, any_entry, row_deletion_is_one}

some_counted : {A : Type 0} (p : A → Bool) (es : List A) → nat_lt 0 (number p es) ≡ list_any p es
some_counted p [] = refl
some_counted p (e ∷ es) = by (p e) (some_counted p es)
  where
    by : (b : Bool) → nat_lt 0 (number p es) ≡ list_any p es → nat_lt 0 (bit b + number p es) ≡ (b || list_any p es)
    by true h = above (number p es)
      where
        above : (n : ℕ) → nat_lt 0 (1 + n) ≡ true
        above n = grind arith
    by false h = ap (nat_lt 0) (let z : bit false + number p es ≡ number p es = omega arith in z) ∙ h

module _ (facts : Facts) (rows : Deletes) (state : States) (counted : IsCounted facts rows state) where
  abbrev live : List ℕ → Pair × ℤ → Bool
  live y e = bytes_eq y e.0.0 && not (is_gone facts state e.0.1)

  counts_are : (y : List ℕ) → has_deleters state y ≡ list_any (live y) (entries rows)
  counts_are y = by (get state y) refl
    where
      by : (o : Option StateRow) → get state y ≡ o → has_deleters state y ≡ list_any (live y) (entries rows)
      by (Some row) e = ap (passes (λ (r : StateRow). nat_lt 0 r.deleters)) e ∙ ap (nat_lt 0) (counted.counts y row e)
          ∙ some_counted (live y) (entries rows)
      by None e = ap (passes (λ (r : StateRow). nat_lt 0 r.deleters)) e
          ∙ sym (none (cases_Bool (list_any (live y) (entries rows))))
        where
          none : (list_any (live y) (entries rows) ≡ true) ⊎ (list_any (live y) (entries rows) ≡ false)
              → list_any (live y) (entries rows) ≡ false
          none (inr f) = f
          none (inl t) =
              let found = any_entry pair_total pair_same (live y) rows t in
              let here : y ≡ found.0.0.0 =
              (bytes_eq-Decides y found.0.0.0).0
              (and_parts (bytes_eq y found.0.0.0) (not (is_gone facts state found.0.0.1)) found.2).0 in
              absurd (false≢true (sym (ap is_some e) ∙ ap (contains_key state) here
              ∙ counted.arrived.target found.0.0.0 found.0.0.1 (ap is_some found.1)))

  same_test : (y : List ℕ) → list_any (live y) (entries rows) ≡ any_live rows Always (is_gone facts state) y None
  same_test y = pointwise (entries rows)
      ∙ sym (any-filter (is_live Always (is_gone facts state)) (λ (e : Pair × ℤ). bytes_eq y e.0.0 && true)
      (entries rows))
    where
      each : (a b : Bool) → (a && b) ≡ ((a && true) && (true && b))
      each true b = refl
      each false b = refl

      pointwise : (es : List (Pair × ℤ))
          → list_any (live y) es
          ≡ list_any (λ (e : Pair × ℤ). (bytes_eq y e.0.0 && true) && is_live Always (is_gone facts state) e) es
      pointwise [] = refl
      pointwise (e ∷ es) = λ i. each (bytes_eq y e.0.0) (not (is_gone facts state e.0.1)) i || pointwise es i

  pub counts_are_deletion : (y : List ℕ) → is_gone facts state y ≡ row_deleted facts rows Always y
  counts_are_deletion = row_deletion_is_one facts rows counted.ringless Always (is_gone facts state)
      (λ y. ap (λ b. is_deletable facts y && b) (counts_are y ∙ same_test y))
