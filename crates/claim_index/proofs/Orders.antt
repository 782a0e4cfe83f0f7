-- Lists of refs in an order: each stands once, and is reached from what stands before it.
use Rattle.std.proofs.Common.{◌≡◌, ℕ, ◌++◌, ◌||◌, Bool, true, false, List, [], ◌∷◌, refl, sym, ap, ◌∙◌, ◌⊎◌, inl, inr}
use Rattle.std.proofs.lemmas.List.Folds.{list_any-append}
use Rattle.std.proofs.lemmas.Bool.{cases_Bool, or_cases, false≢true}
use Rattle.std.proofs.lemmas.Slice.Eq.{bytes_eq-Decides}
use Rattle.std.specs.List.{list_any}
use Rattle.std.specs.Str.{bytes_eq}
use Rattle.claim_model.specs.Facts.{Facts}
use Rattle.claim_model.specs.Least.{passes_or_in, AreReached}
use Rattle.claim_model.proofs.Iterated.{Implies}
use Rattle.claim_model.proofs.Least.{has_all-implies}
use Rattle.index_rows.specs.Once.{AreNew}

-- a truth that isn't
pub not_true : (b : Bool) → (b ≡ true → ⊥) → b ≡ false
not_true true h = absurd (h refl)
not_true false h = refl

-- one more at the end of both lists
one_more : (before fewer : List (List ℕ)) (r : List ℕ) → Implies (λ y. list_any (bytes_eq y) fewer) (λ y. list_any (bytes_eq y) before)
    → Implies (λ y. list_any (bytes_eq y) (fewer ++ r ∷ [])) (λ y. list_any (bytes_eq y) (before ++ r ∷ []))
one_more before fewer r h y t = list_any-append (bytes_eq y) before (r ∷ [])
    ∙ by (or_cases (list_any (bytes_eq y) fewer) (list_any (bytes_eq y) (r ∷ [])) (sym (list_any-append (bytes_eq y) fewer (r ∷ [])) ∙ t))
  where
    by : (list_any (bytes_eq y) fewer ≡ true) ⊎ (list_any (bytes_eq y) (r ∷ []) ≡ true) → (list_any (bytes_eq y) before || list_any (bytes_eq y) (r ∷ [])) ≡ true
    by (inl a) = ap (λ b. b || list_any (bytes_eq y) (r ∷ [])) (h y a)
    by (inr b) = last (list_any (bytes_eq y) before) b
      where
        last : (a : Bool) → list_any (bytes_eq y) (r ∷ []) ≡ true → (a || list_any (bytes_eq y) (r ∷ [])) ≡ true
        last true b = refl
        last false b = b

-- each of the list is new to fewer
pub new_to_fewer : (p q : List ℕ → Bool) (before fewer rs : List (List ℕ)) → Implies q p → Implies (λ y. list_any (bytes_eq y) fewer) (λ y. list_any (bytes_eq y) before)
    → AreNew p before rs → AreNew q fewer rs
new_to_fewer p q before fewer [] less h new = tt
new_to_fewer p q before fewer (r ∷ rs) less h new = (
  not_true (passes_or_in q fewer r) (λ t. false≢true (sym new.0 ∙ there (or_cases (q r) (list_any (bytes_eq r) fewer) t))),
  new_to_fewer p q (before ++ r ∷ []) (fewer ++ r ∷ []) rs less (one_more before fewer r h) new.1,
)
  where
    there : (q r ≡ true) ⊎ (list_any (bytes_eq r) fewer ≡ true) → passes_or_in p before r ≡ true
    there (inl a) = ap (λ b. b || list_any (bytes_eq r) before) (less r a)
    there (inr b) = in_before (p r) (h r b)
      where
        in_before : (a : Bool) → list_any (bytes_eq r) before ≡ true → (a || list_any (bytes_eq r) before) ≡ true
        in_before true t = refl
        in_before false t = t

-- what stands before the list doesn't stand in it
pub new_apart : (p : List ℕ → Bool) (before rs : List (List ℕ)) → AreNew p before rs → (y : List ℕ) → list_any (bytes_eq y) before ≡ true
    → list_any (bytes_eq y) rs ≡ false
new_apart p before [] new y t = refl
new_apart p before (r ∷ rs) new y t =
    by (cases_Bool (bytes_eq y r)) (new_apart p (before ++ r ∷ []) rs new.1 y (list_any-append (bytes_eq y) before (r ∷ []) ∙ ap (λ b. b || list_any (bytes_eq y) (r ∷ [])) t))
  where
    in_before : (a : Bool) → list_any (bytes_eq r) before ≡ true → (a || list_any (bytes_eq r) before) ≡ true
    in_before true h = refl
    in_before false h = h

    by : (bytes_eq y r ≡ true) ⊎ (bytes_eq y r ≡ false) → list_any (bytes_eq y) rs ≡ false → (bytes_eq y r || list_any (bytes_eq y) rs) ≡ false
    by (inl e) rest = absurd (false≢true (sym new.0 ∙ in_before (p r) (ap (λ z. list_any (bytes_eq z) before) (sym ((bytes_eq-Decides y r).0 e)) ∙ t)))
    by (inr f) rest = ap (λ b. b || list_any (bytes_eq y) rs) f ∙ rest

-- what is reached from some is reached from more
pub reached_from_more : (facts : Facts) (p q : List ℕ → Bool) (before others rs : List (List ℕ)) → Implies (passes_or_in p before) (passes_or_in q others)
    → AreReached facts p before rs → AreReached facts q others rs
reached_from_more facts p q before others [] h reached = tt
reached_from_more facts p q before others (r ∷ rs) h reached = (
  has_all-implies facts (passes_or_in p before) (passes_or_in q others) h r reached.0,
  reached_from_more facts p q (before ++ r ∷ []) (others ++ r ∷ []) rs more reached.1,
)
  where
    joined : (test : List ℕ → Bool) (list : List (List ℕ)) (y : List ℕ) → passes_or_in test (list ++ r ∷ []) y ≡ (passes_or_in test list y || list_any (bytes_eq y) (r ∷ []))
    joined test list y = ap (λ b. test y || b) (list_any-append (bytes_eq y) list (r ∷ [])) ∙ or_assoc (test y) (list_any (bytes_eq y) list) (list_any (bytes_eq y) (r ∷ []))
      where
        or_assoc : (a b c : Bool) → (a || (b || c)) ≡ ((a || b) || c)
        or_assoc true b c = refl
        or_assoc false b c = refl

    more : Implies (passes_or_in p (before ++ r ∷ [])) (passes_or_in q (others ++ r ∷ []))
    more y t = joined q others y ∙ by (or_cases (passes_or_in p before y) (list_any (bytes_eq y) (r ∷ [])) (sym (joined p before y) ∙ t))
      where
        by : (passes_or_in p before y ≡ true) ⊎ (list_any (bytes_eq y) (r ∷ []) ≡ true) → (passes_or_in q others y || list_any (bytes_eq y) (r ∷ [])) ≡ true
        by (inl a) = ap (λ b. b || list_any (bytes_eq y) (r ∷ [])) (h y a)
        by (inr b) = last (passes_or_in q others y) b
          where
            last : (a : Bool) → list_any (bytes_eq y) (r ∷ []) ≡ true → (a || list_any (bytes_eq y) (r ∷ [])) ≡ true
            last true b = refl
            last false b = b

-- what is new doesn't pass
pub new_fails : (p : List ℕ → Bool) (before rs : List (List ℕ)) → AreNew p before rs → (y : List ℕ) → list_any (bytes_eq y) rs ≡ true → p y ≡ false
new_fails p before [] new y t = absurd (false≢true t)
new_fails p before (r ∷ rs) new y t = by (λ later. new_fails p (before ++ r ∷ []) rs new.1 y later) (or_cases (bytes_eq y r) (list_any (bytes_eq y) rs) t)
  where
    first : (a b : Bool) → (a || b) ≡ false → a ≡ false
    first true b f = f
    first false b f = refl

    by : (list_any (bytes_eq y) rs ≡ true → p y ≡ false) → (bytes_eq y r ≡ true) ⊎ (list_any (bytes_eq y) rs ≡ true) → p y ≡ false
    by rest (inl e) = ap p ((bytes_eq-Decides y r).0 e) ∙ first (p r) (list_any (bytes_eq r) before) new.0
    by rest (inr later) = rest later
