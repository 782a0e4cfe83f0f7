-- What is added, and what it takes, as delete claims are entered from the last one on.
use Rattle.std.proofs.Common.{◌≡◌, ◌≤◌, ◌<◌, ◌+◌, ◌-◌, ℕ, zero, suc, true, ◌||◌, List, [], ◌∷◌, ◌++◌, take, drop, refl, sym, ap, subst, ◌∙◌, ◌⊎◌, inl, inr, arith}
use Rattle.std.proofs.lemmas.List.Sums.{sum_by-cons, sum_by-append}
use Rattle.std.specs.List.{list_any, sum_by}
use Rattle.std.specs.Str.{bytes_eq}
use Rattle.std.specs.FinMap.{contains_key}
use Rattle.claim_verify.specs.Verifier.{Accepts}
use Rattle.claim_model.specs.Facts.{Facts}
use Rattle.claim_model.specs.Genuine.{is_genuine}
use Rattle.index_rows.specs.declared.rows.Rows.{Rows}
use Rattle.claim_index.specs.Costs.{enter_steps, ends_of, may_concern, AddsEntered, AreTaken}
use Rattle.claim_index.proofs.LoopTicks.{or_cases, left, right, may_left, may_right}
use Rattle.index_rows.proofs.LooseFacts.{in_order}

pub last_within : (i n : ℕ) → 0 < i → i ≤ n → i - 1 < n
last_within i n above below = omega (arith, above, below)

pub taken_still : (rows after : Rows) → after.facts ≡ rows.facts → ((y : List ℕ) → contains_key after.state y ≡ contains_key rows.state y) → AreTaken rows → AreTaken after
taken_still rows after facts taken all y = taken y ∙ all y ∙ ap (λ (f : Facts). contains_key f y) (sym (in_order facts))

module _ (facts : Facts) (accepts : Accepts) where
  pub adds_before : (d : List ℕ) (ds cs cs1 cs2 : List (List ℕ)) → AddsEntered facts accepts ds cs cs1 → AddsEntered facts accepts (d ∷ []) cs1 cs2 → AddsEntered facts accepts (d ∷ ds) cs cs2
  adds_before d ds cs cs1 cs2 a b = λ p t. by p (or_cases _ _ (b p t))
    where
      by : (p : List ℕ) → (list_any (bytes_eq p) cs1 ≡ true) ⊎ (list_any (bytes_eq p) (may_concern facts (is_genuine facts accepts) (ends_of facts accepts (d ∷ []))) ≡ true)
          → (list_any (bytes_eq p) cs || list_any (bytes_eq p) (may_concern facts (is_genuine facts accepts) (ends_of facts accepts (d ∷ ds)))) ≡ true
      by p (inr e) = right (list_any (bytes_eq p) cs) (may_left facts (is_genuine facts accepts) (ends_of facts accepts (d ∷ [])) (ends_of facts accepts ds) p e)
      by p (inl e) = go (or_cases _ _ (a p e))
        where
          go : (list_any (bytes_eq p) cs ≡ true) ⊎ (list_any (bytes_eq p) (may_concern facts (is_genuine facts accepts) (ends_of facts accepts ds)) ≡ true)
              → (list_any (bytes_eq p) cs || list_any (bytes_eq p) (may_concern facts (is_genuine facts accepts) (ends_of facts accepts (d ∷ ds)))) ≡ true
          go (inl u) = left _ u
          go (inr u) = right (list_any (bytes_eq p) cs) (may_right facts (is_genuine facts accepts) (ends_of facts accepts (d ∷ [])) (ends_of facts accepts ds) p u)

module _ (rows at : Rows) (facts : at.facts ≡ rows.facts) (accepts : Accepts) (deletes : List (List ℕ)) (i : ℕ) (d : List ℕ)
    (cut : drop (i - 1) deletes ≡ d ∷ drop ((i - 1) + 1) deletes) (same : (i - 1) + 1 ≡ i) where
  here : drop (i - 1) deletes ≡ d ∷ drop i deletes
  here = cut ∙ ap (λ n. d ∷ drop n deletes) same

  pub adds_step : (cs cs1 cs2 : List (List ℕ)) → AddsEntered rows.facts.ordered accepts (drop i deletes) cs cs1 → AddsEntered at.facts.ordered accepts (d ∷ []) cs1 cs2
      → AddsEntered rows.facts.ordered accepts (drop (i - 1) deletes) cs cs2
  adds_step cs cs1 cs2 a b = subst (λ (ds : List (List ℕ)). AddsEntered rows.facts.ordered accepts ds cs cs2) (sym here)
      (adds_before rows.facts.ordered accepts d (drop i deletes) cs cs1 cs2 a (subst (λ (f : Facts). AddsEntered f accepts (d ∷ []) cs1 cs2) (in_order facts) b))

  pub ticks_step : (first now next : ℕ) → now ≤ first + sum_by (enter_steps rows.facts.ordered accepts) (drop i deletes) → next ≤ now + enter_steps at.facts.ordered accepts d
      → next ≤ first + sum_by (enter_steps rows.facts.ordered accepts) (drop (i - 1) deletes)
  ticks_step first now next had step =
      let l : sum_by (enter_steps rows.facts.ordered accepts) (drop (i - 1) deletes) ≡ enter_steps rows.facts.ordered accepts d + sum_by (enter_steps rows.facts.ordered accepts) (drop i deletes)
      = ap (sum_by (enter_steps rows.facts.ordered accepts)) here ∙ sum_by-cons (enter_steps rows.facts.ordered accepts) d (drop i deletes) in
      let e : enter_steps at.facts.ordered accepts d ≡ enter_steps rows.facts.ordered accepts d = ap (λ (f : Facts). enter_steps f accepts d) (in_order facts) in
      omega (arith, had, step, l, e)

-- what some took is less than what all may take
pub some_ticks : (rows : Rows) (accepts : Accepts) (deletes : List (List ℕ)) (i : ℕ) (first last : ℕ) → last ≤ first + sum_by (enter_steps rows.facts.ordered accepts) (drop i deletes)
    → last ≤ first + sum_by (enter_steps rows.facts.ordered accepts) deletes
some_ticks rows accepts deletes i first last h =
    let l : sum_by (enter_steps rows.facts.ordered accepts) deletes ≡ sum_by (enter_steps rows.facts.ordered accepts) (take i deletes) + sum_by (enter_steps rows.facts.ordered accepts) (drop i deletes)
    = ap (sum_by (enter_steps rows.facts.ordered accepts)) (sym (take_drop i deletes)) ∙ sum_by-append (enter_steps rows.facts.ordered accepts) (take i deletes) (drop i deletes) in
    omega (arith, h, l)
  where
    take_drop : (n : ℕ) (xs : List (List ℕ)) → take n xs ++ drop n xs ≡ xs
    take_drop zero xs = refl
    take_drop (suc n) [] = refl
    take_drop (suc n) (x ∷ xs) = ap (λ ys. x ∷ ys) (take_drop n xs)
