-- Sums over lists that are gone through, and what is added on the way.
use Rattle.std.proofs.Common.{◌≡◌, ◌≤◌, ◌<◌, ◌+◌, ℕ, Bool, true, false, ◌||◌, List, [], ◌++◌, length, take, get_or, add-one, refl, sym, ap, ◌∙◌, ◌⊎◌, inl, inr, arith}
use Rattle.std.proofs.lemmas.List.Folds.{list_any-append}
use Rattle.std.proofs.lemmas.List.Sums.{sum_by_push, sum_by-take-le}
use Rattle.std.proofs.lemmas.Grind.{flat_map-append}
use Rattle.std.specs.List.{list_any, sum_by, flat_map}
use Rattle.std.specs.Str.{bytes_eq}
use Rattle.claim_verify.specs.Verifier.{Accepts}
use Rattle.claim_model.specs.Facts.{Facts}
use Rattle.index_look.proofs.Texts.{take_one}
use Rattle.claim_index.specs.Judging.{is_signed_at}
use Rattle.claim_index.specs.Costs.{changed_where, may_concern, AddsFor}

pub sum_next : (f : List ℕ → ℕ) (xs : List (List ℕ)) (i : ℕ) (x : List ℕ) → i < length xs → x ≡ get_or xs i x
    → sum_by f (take (i + 1) xs) ≡ sum_by f (take i xs) + f x
sum_next f xs i x within is = ap (λ n. sum_by f (take n xs)) (add-one i) ∙ ap (sum_by f) (take_one xs i x within is) ∙ sum_by_push f (take i xs) x

pub sum_upto : (f : List ℕ → ℕ) (xs : List (List ℕ)) (i : ℕ) (x : List ℕ) → i < length xs → x ≡ get_or xs i x
    → sum_by f (take i xs) + f x ≤ sum_by f xs
sum_upto f xs i x within is = let n = sum_next f xs i x within is in let l = sum_by-take-le f xs (i + 1) in omega (arith, n, l)

pub or_cases : (a b : Bool) → (a || b) ≡ true → (a ≡ true) ⊎ (b ≡ true)
or_cases true b h = inl refl
or_cases false b h = inr h

pub left : {a : Bool} (b : Bool) → a ≡ true → (a || b) ≡ true
left b t = ap (λ c. c || b) t

pub right : (a : Bool) {b : Bool} → b ≡ true → (a || b) ≡ true
right true t = refl
right false t = t

-- what is in the one of two lists that are put together, or in the other
pub in_either : (p : List ℕ) (xs ys : List (List ℕ)) → list_any (bytes_eq p) (xs ++ ys) ≡ true → (list_any (bytes_eq p) xs ≡ true) ⊎ (list_any (bytes_eq p) ys ≡ true)
in_either p xs ys t = or_cases _ _ (sym (list_any-append (bytes_eq p) xs ys) ∙ t)

pub in_first : (p : List ℕ) (xs ys : List (List ℕ)) → list_any (bytes_eq p) xs ≡ true → list_any (bytes_eq p) (xs ++ ys) ≡ true
in_first p xs ys t = list_any-append (bytes_eq p) xs ys ∙ left _ t

pub in_second : (p : List ℕ) (xs ys : List (List ℕ)) → list_any (bytes_eq p) ys ≡ true → list_any (bytes_eq p) (xs ++ ys) ≡ true
in_second p xs ys t = list_any-append (bytes_eq p) xs ys ∙ right (list_any (bytes_eq p) xs) t

module _ (facts : Facts) (test : List ℕ → Bool) where
  abbrev changed_all : List (List ℕ) → List (List ℕ)
  changed_all xs = flat_map (changed_where facts test) xs

  -- what may be concerned by more refs
  pub may_left : (xs ys : List (List ℕ)) (p : List ℕ) → list_any (bytes_eq p) (may_concern facts test xs) ≡ true → list_any (bytes_eq p) (may_concern facts test (xs ++ ys)) ≡ true
  may_left xs ys p t = by (in_either p xs (changed_all xs) t)
    where
      by : (list_any (bytes_eq p) xs ≡ true) ⊎ (list_any (bytes_eq p) (changed_all xs) ≡ true) → list_any (bytes_eq p) (may_concern facts test (xs ++ ys)) ≡ true
      by (inl e) = in_first p (xs ++ ys) (changed_all (xs ++ ys)) (in_first p xs ys e)
      by (inr e) = in_second p (xs ++ ys) (changed_all (xs ++ ys)) (ap (list_any (bytes_eq p)) (flat_map-append (changed_where facts test) xs ys) ∙ in_first p (changed_all xs) (changed_all ys) e)

  pub may_right : (xs ys : List (List ℕ)) (p : List ℕ) → list_any (bytes_eq p) (may_concern facts test ys) ≡ true → list_any (bytes_eq p) (may_concern facts test (xs ++ ys)) ≡ true
  may_right xs ys p t = by (in_either p ys (changed_all ys) t)
    where
      by : (list_any (bytes_eq p) ys ≡ true) ⊎ (list_any (bytes_eq p) (changed_all ys) ≡ true) → list_any (bytes_eq p) (may_concern facts test (xs ++ ys)) ≡ true
      by (inl e) = in_first p (xs ++ ys) (changed_all (xs ++ ys)) (in_second p xs ys e)
      by (inr e) = in_second p (xs ++ ys) (changed_all (xs ++ ys)) (ap (list_any (bytes_eq p)) (flat_map-append (changed_where facts test) xs ys) ∙ in_second p (changed_all xs) (changed_all ys) e)

module _ (facts : Facts) (accepts : Accepts) where
  abbrev signed : List ℕ → Bool
  signed = is_signed_at facts accepts

  -- nothing was added for nothing
  pub adds_none : (ds cs : List (List ℕ)) → AddsFor facts accepts [] ds ds cs cs
  adds_none ds cs = record { deletes = λ d t. left _ t; concerned = λ p t. left _ t }

  -- what is added for some, and then for others
  pub adds_then : (xs ys ds ds1 ds2 cs cs1 cs2 : List (List ℕ)) → AddsFor facts accepts xs ds ds1 cs cs1 → AddsFor facts accepts ys ds1 ds2 cs1 cs2
      → AddsFor facts accepts (xs ++ ys) ds ds2 cs cs2
  adds_then xs ys ds ds1 ds2 cs cs1 cs2 a b = record {
    deletes = λ d t. first d (or_cases _ _ (b.deletes d t));
    concerned = λ p t. second p (or_cases _ _ (b.concerned p t));
  }
    where
      first : (d : List ℕ) → (list_any (bytes_eq d) ds1 ≡ true) ⊎ (list_any (bytes_eq d) ys ≡ true) → (list_any (bytes_eq d) ds || list_any (bytes_eq d) (xs ++ ys)) ≡ true
      first d (inr e) = right (list_any (bytes_eq d) ds) (in_second d xs ys e)
      first d (inl e) = go (or_cases _ _ (a.deletes d e))
        where
          go : (list_any (bytes_eq d) ds ≡ true) ⊎ (list_any (bytes_eq d) xs ≡ true) → (list_any (bytes_eq d) ds || list_any (bytes_eq d) (xs ++ ys)) ≡ true
          go (inl u) = left _ u
          go (inr u) = right (list_any (bytes_eq d) ds) (in_first d xs ys u)

      second : (p : List ℕ) → (list_any (bytes_eq p) cs1 ≡ true) ⊎ (list_any (bytes_eq p) (may_concern facts signed ys) ≡ true)
          → (list_any (bytes_eq p) cs || list_any (bytes_eq p) (may_concern facts signed (xs ++ ys))) ≡ true
      second p (inr e) = right (list_any (bytes_eq p) cs) (may_right facts signed xs ys p e)
      second p (inl e) = go (or_cases _ _ (a.concerned p e))
        where
          go : (list_any (bytes_eq p) cs ≡ true) ⊎ (list_any (bytes_eq p) (may_concern facts signed xs) ≡ true)
              → (list_any (bytes_eq p) cs || list_any (bytes_eq p) (may_concern facts signed (xs ++ ys))) ≡ true
          go (inl u) = left _ u
          go (inr u) = right (list_any (bytes_eq p) cs) (may_left facts signed xs ys p u)
