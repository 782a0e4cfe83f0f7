-- Why the walk of `deleted_at` ends.
use Rattle.std.proofs.Common.{◌≡◌, ℕ, zero, suc, ◌+◌, ◌*◌, ◌≤◌, ◌<◌, Bool, true, false, ◌&&◌, cond, List, [], ◌∷◌, filter, Option, None, Some, refl, sym, ap, subst, ◌∙◌, ◌⊎◌, inl, inr, ℤ, arith, add-zero, zero-add}
use Rattle.std.proofs.lemmas.Bool.{cases_Bool, cond-true, cond-false, false≢true, and_parts}
use Rattle.std.proofs.lemmas.Slice.Eq.{bytes_eq-Decides}
use Rattle.std.specs.List.{AllByRecursion}
use Rattle.std.specs.Str.{bytes_eq}
use Rattle.std.specs.FinMap.{get, entries, len}
use Rattle.blobref.specs.Blobref.{is_after}
use Rattle.schema_date.specs.declared.date.When.{When}
use Rattle.claim_model.specs.Facts.{Facts}
use Rattle.claim_model.specs.Ready.{round, is_ready}
use Rattle.claim_model.proofs.Rounds.{ready_is_settled}
use Rattle.index_rows.specs.Pairs.{Pair, group_after}
use Rattle.index_rows.specs.Deletes.{total, Deletes, IsDelete, Ringless, any_live, target_in}
use Rattle.index_rows.proofs.Orders.{pair_total, pair_same}
use Rattle.index_look.proofs.Keys.{entries_held}
use Rattle.index_rows.proofs.DeletionWalk.{target_before, weight, weights, ahead, Ends, IsAt, on_one, gone}

module _ {A : Type 0} where
  pub all_filter : (P : A → Type 0) (p : A → Bool) (es : List A) → AllByRecursion P es → AllByRecursion (λ e. P e × (p e ≡ true)) (filter p es)
  all_filter P p [] h = tt
  all_filter P p (e ∷ es) h = by (cases_Bool (p e)) (all_filter P p es h.1)
    where
      by : (p e ≡ true) ⊎ (p e ≡ false) → AllByRecursion (λ e. P e × (p e ≡ true)) (filter p es) → AllByRecursion (λ e. P e × (p e ≡ true)) (cond (p e) (e ∷ filter p es) (filter p es))
      by (inl t) more = subst (λ xs. AllByRecursion (λ e. P e × (p e ≡ true)) xs) (sym (cond-true (p e) (e ∷ filter p es) (filter p es) t)) ((h.0, t), more)
      by (inr f) more = subst (λ xs. AllByRecursion (λ e. P e × (p e ≡ true)) xs) (sym (cond-false (p e) (e ∷ filter p es) (filter p es) f)) more

  sum_same : (f g : A → ℕ) (P : A → Type 0) → ((e : A) → P e → f e ≡ g e) → (es : List A) → AllByRecursion P es → total f es ≡ total g es
  sum_same f g P h [] all = refl
  sum_same f g P h (e ∷ es) all = λ i. h e all.0 i + sum_same f g P h es all.1 i

  none_all : (P : A → Type 0) → ((e : A) → P e → ⊥) → (es : List A) → AllByRecursion P es → es ≡ []
  none_all P h [] all = refl
  none_all P h (e ∷ es) all = absurd (h e all.0)

-- what a walk gives stands in the table
pub row_there : (rows : Deletes) (x : List ℕ) (after : Option (List ℕ)) (k : Pair) (v : ℤ) (rest : List (Pair × ℤ)) → group_after rows x after ≡ (k, v) ∷ rest → get rows k ≡ Some v
row_there rows x after k v rest h =
    (subst (λ xs. AllByRecursion (λ (e : Pair × ℤ). (get rows e.0 ≡ Some e.1) × ((bytes_eq x e.0.0 && is_after after e.0.1) ≡ true)) xs) h
    (all_filter (λ (e : Pair × ℤ). get rows e.0 ≡ Some e.1) (λ (e : Pair × ℤ). bytes_eq x e.0.0 && is_after after e.0.1) (entries rows) (entries_held pair_total pair_same rows))).0.0

module _ (facts : Facts) (rows : Deletes) (ringless : Ringless facts rows) where
  abbrev IsOn : List ℕ → Pair × ℤ → Type 0
  IsOn x e = IsDelete facts x e.0.1 e.1

  on_group : (x : List ℕ) → AllByRecursion (IsOn x) (group_after rows x None)
  on_group x = all_more _ (IsOn x) own (group_after rows x None)
      (all_filter (λ (e : Pair × ℤ). get rows e.0 ≡ Some e.1) (λ (e : Pair × ℤ). bytes_eq x e.0.0 && is_after None e.0.1) (entries rows) (entries_held pair_total pair_same rows))
    where
      all_more : {A : Type 0} (P Q : A → Type 0) → ((e : A) → P e → Q e) → (es : List A) → AllByRecursion P es → AllByRecursion Q es
      all_more P Q f [] h = tt
      all_more P Q f (e ∷ es) h = (f e h.0, all_more P Q f es h.1)

      own : (e : Pair × ℤ) → (get rows e.0 ≡ Some e.1) × ((bytes_eq x e.0.0 && true) ≡ true) → IsOn x e
      own e h = subst (λ y. IsDelete facts y e.0.1 e.1) (sym ((bytes_eq-Decides x e.0.0).0 (and_parts (bytes_eq x e.0.0) true h.1).0)) (ringless e.0.0 e.0.1 e.1 h.0)

  ready_next : (r : List ℕ) → is_ready facts r ≡ true → round facts (suc (len facts)) r ≡ true
  ready_next r h = sym (ready_is_settled facts r) ∙ h

  -- nothing deletes what isn't ready
  light : (n : ℕ) (x : List ℕ) → is_ready facts x ≡ false → weight facts rows n x ≡ 1
  light zero x low = refl
  light (suc n) x low = ap (λ es. suc (total (λ (e : Pair × ℤ). weight facts rows n e.0.1) es))
      (none_all (IsOn x) (λ e is. false≢true (sym low ∙ target_before facts rows x e.0.1 e.1 is (len facts) (ready_next e.0.1 is.ready))) (group_after rows x None) (on_group x))

  weight_same : (k j : ℕ) → k + j ≡ len facts → (x : List ℕ) → round facts j x ≡ false → (n m : ℕ) → k ≤ n → k ≤ m → weight facts rows n x ≡ weight facts rows m x
  weight_same zero j sum x low n m le lm =
      let settled : is_ready facts x ≡ false = rw (← sum, zero-add) low in
      light n x settled ∙ sym (light m x settled)
  weight_same (suc k) j sum x low zero m le lm = absurd (omega arith)
  weight_same (suc k) j sum x low (suc n) zero le lm = absurd (omega arith)
  weight_same (suc k) j sum x low (suc n) (suc m) le lm =
      ap suc (sum_same _ _ (IsOn x) (λ e is. weight_same k (suc j) (omega arith) e.0.1 (later e is) n m (omega arith) (omega arith)) (group_after rows x None) (on_group x))
    where
      by : (e : Pair × ℤ) → IsOn x e → (b : Bool) → round facts (suc j) e.0.1 ≡ b → b ≡ false
      by e is false h = refl
      by e is true h = sym (target_before facts rows x e.0.1 e.1 is j h) ∙ low

      later : (e : Pair × ℤ) → IsOn x e → round facts (suc j) e.0.1 ≡ false
      later e is = by e is (round facts (suc j) e.0.1) refl

  weight_is : (d : List ℕ) → weight facts rows (len facts) d ≡ suc (weights facts rows (len facts) d None)
  weight_is d = weight_same (len facts) 0 (add-zero (len facts)) d refl (len facts) (suc (len facts)) (omega arith) (omega arith)

  module _ (when : When) (r : List ℕ) where
    abbrev L : ℕ
    L = len facts

    ahead_same : (k : ℕ) (y : List ℕ) (v : Bool) → Ends facts rows when r k y v → (n m : ℕ) → k ≤ n → k ≤ m → (after : Option (List ℕ)) → ahead facts rows r n y after ≡ ahead facts rows r m y after
    ahead_same zero y v e n m le lm after = at_r n ∙ sym (at_r m)
      where
        w : ℕ
        w = 2 * weights facts rows L y after

        at_r : (n : ℕ) → ahead facts rows r n y after ≡ w
        at_r zero = refl
        at_r (suc n) = ap (λ b. w + cond b 0 (suc (ahead facts rows r n (target_in facts y) (Some y)))) e.0 ∙ add-zero w
    ahead_same (suc k) y v e zero m le lm after = absurd (omega arith)
    ahead_same (suc k) y v e (suc n) zero le lm after = absurd (omega arith)
    ahead_same (suc k) y v e (suc n) (suc m) le lm after =
        ap (λ a. 2 * weights facts rows L y after + cond (bytes_eq y r) 0 (suc a)) (ahead_same k (target_in facts y) _ e.2 n m (omega arith) (omega arith) (Some y))

    -- above r there is nothing more
    abbrev above : ℕ → List ℕ → ℕ
    above zero y = 0
    above (suc n) y = cond (bytes_eq y r) 0 (suc (ahead facts rows r n (target_in facts y) (Some y)))

    ahead_is : (n : ℕ) (y : List ℕ) (after : Option (List ℕ)) → ahead facts rows r n y after ≡ 2 * weights facts rows L y after + above n y
    ahead_is zero y after = sym (add-zero _)
    ahead_is (suc n) y after = refl

    -- one target up
    ahead_up : (k : ℕ) (y : List ℕ) (v : Bool) (after : Option (List ℕ)) → Ends facts rows when r k y v → k ≤ L → bytes_eq y r ≡ false
        → ahead facts rows r L y after ≡ 2 * weights facts rows L y after + suc (ahead facts rows r L (target_in facts y) (Some y))
    ahead_up k y v after e small f =
        ahead_same k y v e L (suc L) small (omega arith) after ∙ ap (λ b. 2 * weights facts rows L y after + cond b 0 (suc (ahead facts rows r L (target_in facts y) (Some y)))) f

    module _ (at : List ℕ) (last : Option (List ℕ)) (d : List ℕ) (date : ℤ) (step : group_after rows at last ≡ ((at, d), date) ∷ group_after rows at (Some d)) (row : get rows (at, d) ≡ Some date) where
      weights_step : weights facts rows L at last ≡ suc (weights facts rows L d None) + weights facts rows L at (Some d)
      weights_step = ap (total (λ (e : Pair × ℤ). weight facts rows L e.0.1)) step ∙ ap (λ n. n + weights facts rows L at (Some d)) (weight_is d)

      pub on_less : ahead facts rows r L at (Some d) < ahead facts rows r L at last
      on_less = omega (arith, weights_step, ahead_is L at (Some d), ahead_is L at last)

      pub down_less : (is : IsAt facts rows when r d None) → bytes_eq d r ≡ false → ahead facts rows r L d None < ahead facts rows r L at last
      down_less is f =
          let there : target_in facts d ≡ at = on_one facts rows when r ringless d at date (ringless at d date row) in
          let new : ahead facts rows r L d None ≡ 2 * weights facts rows L d None + suc (ahead facts rows r L at (Some d))
          = ahead_up is.depth d _ None is.ends is.small f ∙ ap (λ y. 2 * weights facts rows L d None + suc (ahead facts rows r L y (Some d))) there in
          omega (arith, new, weights_step, ahead_is L at (Some d), ahead_is L at last)

    pub up_less : (at : List ℕ) (last : Option (List ℕ)) → bytes_eq at r ≡ false → bytes_eq (target_in facts at) r ≡ false → IsAt facts rows when r at last
        → ahead facts rows r L (target_in facts (target_in facts at)) (Some (target_in facts at)) < ahead facts rows r L at last
    up_less at last here there is = by is.depth is.small is.ends
      where
        y : List ℕ
        y = target_in facts at

        by : (k : ℕ) → k ≤ L → (e : Ends facts rows when r k at (any_live rows when (gone facts rows when r) at last)) → ahead facts rows r L (target_in facts (target_in facts at)) (Some (target_in facts at)) < ahead facts rows r L at last
        by zero le e = absurd (false≢true (sym here ∙ e.0))
        by (suc k) le e =
            omega (arith, ahead_up (suc k) at _ last e le here, ahead_up k (target_in facts at) _ (Some at) e.2 (let h : k ≤ L = omega arith in h) there)
