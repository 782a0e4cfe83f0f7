-- What ascends strictly has each ref once.
use Rattle.std.proofs.Common.{◌≡◌, ℕ, Bool, true, false, ◌||◌, List, [], ◌∷◌, ◌++◌, refl, sym, ap, ◌∙◌, ◌⊎◌, inl, inr}
use Rattle.std.proofs.lemmas.Bool.{cases_Bool, false≢true}
use Rattle.std.proofs.lemmas.Slice.Eq.{bytes_eq-Decides}
use Rattle.std.proofs.lemmas.List.Folds.{list_any-append}
use Rattle.std.proofs.lemmas.Map.Keys.{IsDistinct-from_sorted}
use Rattle.std.specs.List.{list_any, IsDistinct, AllByRecursion}
use Rattle.std.specs.List.Sorted.{IsStrictlySortedBy}
use Rattle.std.specs.Ordering.{eq_by_cmp}
use Rattle.std.specs.Str.{bytes_eq}
use Rattle.blobref.specs.Blobref.{ref_cmp}
use Rattle.index_rows.specs.Once.{AreNew, AreOnce}
use Rattle.claim_index.proofs.Concerned.{eq_is}
use Rattle.claim_index.proofs.LoopTicks.{or_cases, left}

apart : (x y : List ℕ) (xs : List (List ℕ)) → AllByRecursion (λ z. eq_by_cmp ref_cmp x z ≡ false) xs → list_any (bytes_eq y) xs ≡ true → bytes_eq y x ≡ false
apart x y [] all h = absurd (false≢true h)
apart x y (z ∷ xs) all h = by (or_cases _ _ h) (apart x y xs all.1)
  where
    by : (bytes_eq y z ≡ true) ⊎ (list_any (bytes_eq y) xs ≡ true) → (list_any (bytes_eq y) xs ≡ true → bytes_eq y x ≡ false) → bytes_eq y x ≡ false
    by (inr t) more = more t
    by (inl t) more = go (cases_Bool (bytes_eq y x))
      where
        go : (bytes_eq y x ≡ true) ⊎ (bytes_eq y x ≡ false) → bytes_eq y x ≡ false
        go (inr f) = f
        go (inl e) = absurd (false≢true (sym all.0 ∙ eq_is x z ∙ (bytes_eq-Decides x z).1 (sym ((bytes_eq-Decides y x).0 e) ∙ (bytes_eq-Decides y z).0 t)))

any_last : (y x : List ℕ) (a : List (List ℕ)) → list_any (bytes_eq y) (a ++ x ∷ []) ≡ (list_any (bytes_eq y) a || bytes_eq y x)
any_last y x a = list_any-append (bytes_eq y) a (x ∷ []) ∙ ap (λ b. list_any (bytes_eq y) a || b) (by (bytes_eq y x))
  where
    by : (b : Bool) → (b || false) ≡ b
    by true = refl
    by false = refl

distinct_new : (before xs : List (List ℕ)) → ((y : List ℕ) → list_any (bytes_eq y) xs ≡ true → list_any (bytes_eq y) before ≡ false) → IsDistinct (eq_by_cmp ref_cmp) xs
    → AreNew (λ r. false) before xs
unfolding IsDistinct
distinct_new before [] out distinct = tt
distinct_new before (x ∷ xs) out distinct = (
  out x (left (list_any (bytes_eq x) xs) ((bytes_eq-Decides x x).1 refl)),
  distinct_new (before ++ x ∷ []) xs (λ y t. any_last y x before ∙ (λ i. out y (later y t) i || apart x y xs distinct.0 t i)) distinct.1,
)
  where
    later : (y : List ℕ) → list_any (bytes_eq y) xs ≡ true → (bytes_eq y x || list_any (bytes_eq y) xs) ≡ true
    later y t = by (bytes_eq y x)
      where
        by : (b : Bool) → (b || list_any (bytes_eq y) xs) ≡ true
        by true = refl
        by false = t

-- refs that ascend strictly stand once each
pub once_sorted : (xs : List (List ℕ)) → IsStrictlySortedBy ref_cmp xs → AreOnce xs
once_sorted xs up = distinct_new [] xs (λ y t. refl) (IsDistinct-from_sorted ref_cmp xs up)
