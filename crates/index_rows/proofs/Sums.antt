-- Sums over lists in which each ref stands once, and how many rows of a table can be of what a list has.
use Rattle.std.proofs.Common.{◌≡◌, ◌≤◌, ◌+◌, ℕ, Bool, true, false, not, ◌||◌, cond, List, [], ◌∷◌, ◌++◌, length, filter, Some, refl, sym, ap, ◌∙◌, ◌⊎◌, inl, inr, arith, Ordering}
use Rattle.std.proofs.lemmas.Bool.{cases_Bool, false≢true}
use Rattle.std.proofs.lemmas.Slice.Eq.{bytes_eq-Decides}
use Rattle.std.proofs.lemmas.List.Sums.{sum_by-cons}
use Rattle.std.proofs.lemmas.Map.Made.{IsDistinct-keys_filter, length-le_from_is_member}
use Rattle.std.proofs.lemmas.Map.Keys.{IsDistinct-from_sorted}
use Rattle.std.proofs.lemmas.Map.Entries.{length-keys_of}
use Rattle.std.specs.List.{list_any, sum_by, AllByRecursion}
use Rattle.std.specs.Str.{bytes_eq}
use Rattle.std.specs.Ordering.{is_eq, eq_by_cmp}
use Rattle.std.specs.Set.{is_member}
use Rattle.std.specs.declared.cmp.Ordering.TheVariants.{Less, Equal, Greater}
use Rattle.std.specs.Map.{keys_of}
use Rattle.std.specs.Cmp.{IsTotalOrder, eq_by_cmp_equiv}
use Rattle.std.specs.FinMap.{FinMap, IsAntisymmetric, get, entries}
use Rattle.claim_model.specs.Least.{passes_or_in}
use Rattle.index_look.proofs.Order.{ascending_entries}
use Rattle.index_look.proofs.Keys.{entries_held}
use Rattle.index_rows.specs.Once.{AreNew, AreOnce}
use Rattle.index_rows.specs.Pairs.{number}
use Rattle.index_rows.proofs.Counting.{bit}

-- what was never before, in any sense, is there once
pub once_of : (p : List ℕ → Bool) (before xs : List (List ℕ)) → AreNew p before xs → AreNew (λ r. false) before xs
once_of p before [] h = tt
once_of p before (x ∷ xs) h = (right (p x) (list_any (bytes_eq x) before) h.0, once_of p (before ++ x ∷ []) xs h.1)
  where
    right : (a b : Bool) → (a || b) ≡ false → b ≡ false
    right true b e = absurd (false≢true (sym e))
    right false b e = e

any_last : (y x : List ℕ) (a : List (List ℕ)) → list_any (bytes_eq y) (a ++ x ∷ []) ≡ (list_any (bytes_eq y) a || bytes_eq y x)
any_last y x [] = right (bytes_eq y x)
  where
    right : (b : Bool) → (b || false) ≡ b
    right true = refl
    right false = refl
any_last y x (w ∷ a) = ap (λ b. bytes_eq y w || b) (any_last y x a) ∙ assoc (bytes_eq y w) (list_any (bytes_eq y) a) (bytes_eq y x)
  where
    assoc : (a b c : Bool) → (a || (b || c)) ≡ ((a || b) || c)
    assoc true b c = refl
    assoc false b c = refl

-- none of them passes, or stood before
pub new_not : (p : List ℕ → Bool) (before xs : List (List ℕ)) → AreNew p before xs → (y : List ℕ)
    → list_any (bytes_eq y) xs ≡ true → passes_or_in p before y ≡ false
new_not p before [] h y t = absurd (false≢true t)
new_not p before (x ∷ xs) h y t = by (new_not p (before ++ x ∷ []) xs h.1 y) (cases_Bool (bytes_eq y x))
  where
    less : (a b c : Bool) → (a || (b || c)) ≡ false → (a || b) ≡ false
    less true b c e = e
    less false true c e = e
    less false false c e = refl

    by : (list_any (bytes_eq y) xs ≡ true → passes_or_in p (before ++ x ∷ []) y ≡ false) → (bytes_eq y x ≡ true) ⊎ (bytes_eq y x ≡ false)
        → passes_or_in p before y ≡ false
    by later (inl e) = ap (passes_or_in p before) ((bytes_eq-Decides y x).0 e) ∙ h.0
    by later (inr f) = less (p y) (list_any (bytes_eq y) before) (bytes_eq y x)
        (ap (λ b. p y || b) (sym (any_last y x before)) ∙ later (sym (ap (λ b. b || list_any (bytes_eq y) xs) f) ∙ t))

-- behind the first one
pub once_rest : (x : List ℕ) (xs : List (List ℕ)) → AreOnce (x ∷ xs) → AreOnce xs
once_rest x xs h = fewer (x ∷ []) [] xs (λ y t. refl) h.1
  where
    fewer : (before less zs : List (List ℕ)) → ((y : List ℕ) → list_any (bytes_eq y) before ≡ false → list_any (bytes_eq y) less ≡ false)
        → AreNew (λ r. false) before zs → AreNew (λ r. false) less zs
    fewer before less [] f g = tt
    fewer before less (z ∷ zs) f g = (f z g.0, fewer (before ++ z ∷ []) (less ++ z ∷ []) zs (λ y. longer y before less (f y)) g.1)
      where
        longer : (y : List ℕ) (a b : List (List ℕ)) → (list_any (bytes_eq y) a ≡ false → list_any (bytes_eq y) b ≡ false)
            → list_any (bytes_eq y) (a ++ z ∷ []) ≡ false → list_any (bytes_eq y) (b ++ z ∷ []) ≡ false
        longer y a b g e = any_last y z b ∙ by (list_any (bytes_eq y) a) (list_any (bytes_eq y) b) (bytes_eq y z) g (sym (any_last y z a) ∙ e)
          where
            by : (a b c : Bool) → (a ≡ false → b ≡ false) → (a || c) ≡ false → (b || c) ≡ false
            by true b c g e = absurd (false≢true (sym e))
            by false b c g e = ap (λ d. d || c) (g refl) ∙ e

module _ (f : List ℕ → ℕ) where
  sum_filter : (p : List ℕ → Bool) (ys : List (List ℕ)) → sum_by f (filter p ys) ≤ sum_by f ys
  sum_filter p [] = omega arith
  sum_filter p (y ∷ ys) = by (p y) (sum_filter p ys)
    where
      by : (b : Bool) → sum_by f (filter p ys) ≤ sum_by f ys → sum_by f (cond b (y ∷ filter p ys) (filter p ys)) ≤ sum_by f (y ∷ ys)
      by true h = let l = sum_by-cons f y (filter p ys) in let r = sum_by-cons f y ys in omega (arith, h, l, r)
      by false h = let r = sum_by-cons f y ys in omega (arith, h, r)

  abbrev without : List ℕ → List (List ℕ) → List (List ℕ)
  without x ys = filter (λ y. not (bytes_eq x y)) ys

  sum_without : (x : List ℕ) (ys : List (List ℕ)) → list_any (bytes_eq x) ys ≡ true → f x + sum_by f (without x ys) ≤ sum_by f ys
  sum_without x [] h = absurd (false≢true h)
  sum_without x (y ∷ ys) h = by (bytes_eq x y) refl h (sum_without x ys)
    where
      by : (b : Bool) → bytes_eq x y ≡ b → (b || list_any (bytes_eq x) ys) ≡ true → (list_any (bytes_eq x) ys ≡ true → f x + sum_by f (without x ys) ≤ sum_by f ys)
          → f x + sum_by f (cond (not b) (y ∷ without x ys) (without x ys)) ≤ sum_by f (y ∷ ys)
      by true e t more = let r = sum_by-cons f y ys in let s : f x ≡ f y = ap f ((bytes_eq-Decides x y).0 e) in
          let less = sum_filter (λ z. not (bytes_eq x z)) ys in omega (arith, r, s, less)
      by false e t more = let l = sum_by-cons f y (without x ys) in let r = sum_by-cons f y ys in let m = more t in omega (arith, l, r, m)

  still_in : (x y : List ℕ) (ys : List (List ℕ)) → bytes_eq y x ≡ false → list_any (bytes_eq y) ys ≡ true → list_any (bytes_eq y) (without x ys) ≡ true
  still_in x y [] f h = absurd (false≢true h)
  still_in x y (z ∷ ys) f h = by (bytes_eq x z) refl (cases_Bool (bytes_eq y z)) (still_in x y ys f)
    where
      by : (b : Bool) → bytes_eq x z ≡ b → (bytes_eq y z ≡ true) ⊎ (bytes_eq y z ≡ false) → (list_any (bytes_eq y) ys ≡ true → list_any (bytes_eq y) (without x ys) ≡ true)
          → list_any (bytes_eq y) (cond (not b) (z ∷ without x ys) (without x ys)) ≡ true
      by true e (inl t) more = absurd (false≢true (sym f ∙ (bytes_eq-Decides y x).1 ((bytes_eq-Decides y z).0 t ∙ sym ((bytes_eq-Decides x z).0 e))))
      by true e (inr t) more = more (sym (ap (λ b. b || list_any (bytes_eq y) ys) t) ∙ h)
      by false e (inl t) more = ap (λ b. b || list_any (bytes_eq y) (without x ys)) t
      by false e (inr t) more = ap (λ b. b || list_any (bytes_eq y) (without x ys)) t ∙ more (sym (ap (λ b. b || list_any (bytes_eq y) ys) t) ∙ h)

  -- refs that stand once, each of them in another list, add up to no more than that list does
  pub sum_within : (xs ys : List (List ℕ)) → AreOnce xs → ((y : List ℕ) → list_any (bytes_eq y) xs ≡ true → list_any (bytes_eq y) ys ≡ true) → sum_by f xs ≤ sum_by f ys
  sum_within [] ys once h = let z : sum_by f [] ≡ 0 = refl in omega (arith, z)
  sum_within (x ∷ xs) ys once h =
      let l = sum_by-cons f x xs in
      let s = sum_without x ys (h x (ap (λ b. b || list_any (bytes_eq x) xs) ((bytes_eq-Decides x x).1 refl))) in
      let m = sum_within xs (without x ys) (once_rest x xs once) (λ y t. still_in x y ys (apart y t) (h y (or_right (bytes_eq y x) t))) in
      omega (arith, l, s, m)
    where
      or_right : {c : Bool} (b : Bool) → c ≡ true → (b || c) ≡ true
      or_right true t = refl
      or_right false t = t

      or_false : (b : Bool) → (b || false) ≡ false → b ≡ false
      or_false true e = e
      or_false false e = refl

      apart : (y : List ℕ) → list_any (bytes_eq y) xs ≡ true → bytes_eq y x ≡ false
      apart y t = or_false (bytes_eq y x) (new_not (λ r. false) (x ∷ []) xs once.1 y t)

pub sum_ones : {A : Type 0} (xs : List A) → sum_by (λ x. 1) xs ≡ length xs
sum_ones [] = refl
sum_ones (x ∷ xs) = let l = sum_by-cons (λ y. 1) x xs in let m = sum_ones xs in omega (arith, l, m)

-- refs that stand once, each of them in another list, are at most as many
pub length_within : (xs ys : List (List ℕ)) → AreOnce xs → ((y : List ℕ) → list_any (bytes_eq y) xs ≡ true → list_any (bytes_eq y) ys ≡ true) → length xs ≤ length ys
length_within xs ys once h = let s = sum_within (λ x. 1) xs ys once h in let l = sum_ones xs in let r = sum_ones ys in omega (arith, s, l, r)

pub number_length : {A : Type 0} (p : A → Bool) (es : List A) → number p es ≡ length (filter p es)
number_length p [] = refl
number_length p (e ∷ es) = by (p e) (number_length p es)
  where
    by : (b : Bool) → number p es ≡ length (filter p es) → bit b + number p es ≡ length (cond b (e ∷ filter p es) (filter p es))
    by true h = omega (arith, h)
    by false h = omega (arith, h)

module _ {K X : Type 0} {R : K → K → Ordering} (o : IsTotalOrder R) (same : IsAntisymmetric R) (m : FinMap R X) (p : K × X → Bool) (ys : List K) where
  -- rows whose keys are all in a list are at most as many as the list is long
  pub rows_within : ((k : K) (v : X) → get m k ≡ Some v → p (k, v) ≡ true → list_any (eq_by_cmp R k) ys ≡ true) → number p (entries m) ≤ length ys
  rows_within h =
      let l = number_length p (entries m) in
      let k = length-keys_of (filter p (entries m)) in
      let le = length-le_from_is_member (eq_by_cmp_equiv o) (keys_of (filter p (entries m))) ys
      (IsDistinct-keys_filter (eq_by_cmp R) p (entries m) (IsDistinct-from_sorted R (keys_of (entries m)) (ascending_entries R m)))
      (λ q t. member q t) in
      omega (arith, l, k, le)
    where
      found : (q : K) (es : List (K × X)) → AllByRecursion (λ e. get m e.0 ≡ Some e.1) es → list_any (eq_by_cmp R q) (keys_of (filter p es)) ≡ true
          → (e : K × X) × (get m e.0 ≡ Some e.1) × ((p e ≡ true) × (eq_by_cmp R q e.0 ≡ true))
      found q [] all t = absurd (false≢true t)
      found q (e ∷ es) all t = by (p e) refl t (found q es all.1)
        where
          Found : Type 0
          Found = (e : K × X) × (get m e.0 ≡ Some e.1) × ((p e ≡ true) × (eq_by_cmp R q e.0 ≡ true))

          here : p e ≡ true → (eq_by_cmp R q e.0 ≡ true) ⊎ (eq_by_cmp R q e.0 ≡ false) → (eq_by_cmp R q e.0 || list_any (eq_by_cmp R q) (keys_of (filter p es))) ≡ true
              → (list_any (eq_by_cmp R q) (keys_of (filter p es)) ≡ true → Found) → Found
          here is (inl u) t more = (e, all.0, (is, u))
          here is (inr u) t more = more (sym (ap (λ b. b || list_any (eq_by_cmp R q) (keys_of (filter p es))) u) ∙ t)

          by : (b : Bool) → p e ≡ b → list_any (eq_by_cmp R q) (keys_of (cond b (e ∷ filter p es) (filter p es))) ≡ true
              → (list_any (eq_by_cmp R q) (keys_of (filter p es)) ≡ true → Found) → Found
          by true is t more = here is (cases_Bool (eq_by_cmp R q e.0)) t more
          by false is t more = more t

      is_Equal : (k q : K) → eq_by_cmp R k q ≡ true → k ≡ q
      is_Equal k q t = same k q (by (R k q) t)
        where
          by : (r : Ordering) → is_eq r ≡ true → r ≡ Equal
          by Less e = absurd (false≢true e)
          by Equal e = refl
          by Greater e = absurd (false≢true e)

      member : (q : K) → is_member (eq_by_cmp R) (keys_of (filter p (entries m))) q ≡ true → is_member (eq_by_cmp R) ys q ≡ true
      member q t =
          let e = found q (entries m) (entries_held o same m) t in
          ap (λ k. list_any (eq_by_cmp R k) ys) (is_Equal q e.0.0 e.2.1) ∙ h e.0.0 e.0.1 e.1 e.2.0
