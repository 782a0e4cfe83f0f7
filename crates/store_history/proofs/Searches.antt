-- Where some bytes of a ref and of a size exist, the search finds some.
use Rattle.std.proofs.Common.{◌≡◌, ◌≢◌, ℕ, zero, suc, ◌<◌, ◌⊎◌, inl, inr, Bool, true, false, ◌||◌, cond, List, [], ◌∷◌, length, map, Some, unwrap_or, refl, sym, ap, subst, ◌∙◌, arith}
use Rattle.std.specs.List.{All, find, flat_map, list_any}
use Rattle.std.specs.Cmp.Lexicographic.{same_text}
use Rattle.std.proofs.lemmas.Bool.{cases_eq, or_left, or_right}
use Rattle.std.proofs.lemmas.List.Elements.{All-append, All-map, All-nil, All-cons}
use Rattle.std.proofs.lemmas.List.Folds.{list_any-append}
use Rattle.blobref.specs.Blobref.{IsOwnRef, is_own_ref, ref_like}
use Rattle.pack_store.specs.declared.rows.Row.{Row}
use Rattle.pack_store.specs.Rows.{IsOfBlob}
use Rattle.store_history.specs.Beginning.{below, lists_below, some_bytes}
use Rattle.store_history.proofs.Puts.{own_true}

-- ---- tests that an element of a list passes

any_map : {A B : Type 0} (p : B → Bool) (f : A → B) (xs : List A) → list_any p (map f xs) ≡ list_any (λ x. p (f x)) xs
any_map p f [] = refl
any_map p f (x ∷ xs) = ap (λ b. p (f x) || b) (any_map p f xs)

any_flat : {A B : Type 0} (p : B → Bool) (f : A → List B) (xs : List A) → list_any p (flat_map f xs) ≡ list_any (λ x. list_any p (f x)) xs
any_flat p f [] = refl
any_flat p f (x ∷ xs) = list_any-append p (f x) (flat_map f xs) ∙ ap (λ b. list_any p (f x) || b) (any_flat p f xs)

any_below : (p : ℕ → Bool) (x n : ℕ) → x < n → p x ≡ true → list_any p (below n) ≡ true
unfolding below
any_below p x zero lt is = absurd (omega (arith, lt))
any_below p x (suc n) lt is = list_any-append p (below n) (n ∷ []) ∙ go (λ less. any_below p x n less is) (cases_eq x n)
  where
    go : (x < n → list_any p (below n) ≡ true) → (x ≡ n) ⊎ (x ≢ n) → (list_any p (below n) || (p n || false)) ≡ true
    go earlier (inl same) = or_right (list_any p (below n)) _ (or_left (p n) false (subst (λ y. p y ≡ true) same is))
    go earlier (inr other) = or_left (list_any p (below n)) _ (earlier (omega (arith, lt, other)))

-- a list of numbers below the bound is among all of its length
any_list : (p : List ℕ → Bool) (bound : ℕ) (xs : List ℕ) → All (λ (x : ℕ). x < bound) xs → p xs ≡ true → list_any p (lists_below bound (length xs)) ≡ true
unfolding lists_below
any_list p bound [] each is = or_left (p []) false is
any_list p bound (x ∷ xs) each is =
    any_flat p (λ b. map (λ bs. b ∷ bs) (lists_below bound (length xs))) (below bound)
    ∙ any_below (λ b. list_any p (map (λ bs. b ∷ bs) (lists_below bound (length xs)))) x bound (each 0 x (omega arith))
    (any_map p (λ bs. x ∷ bs) (lists_below bound (length xs)) ∙ any_list (λ bs. p (x ∷ bs)) bound xs (λ k d lt. each (suc k) d (omega (arith, lt))) is)

-- ---- the length of each

All-flat : {A B : Type 0} (P : B → Type 0) (f : A → List B) (xs : List A) → ((x : A) → All P (f x)) → All P (flat_map f xs)
All-flat P f [] each = All-nil P
All-flat P f (x ∷ xs) each = All-append P (f x) (flat_map f xs) (each x) (All-flat P f xs each)

each_long : (bound n : ℕ) → All (λ (bs : List ℕ). length bs ≡ n) (lists_below bound n)
unfolding lists_below
each_long bound zero = All-cons (λ (bs : List ℕ). length bs ≡ 0) [] [] refl (All-nil (λ (bs : List ℕ). length bs ≡ 0))
each_long bound (suc n) = All-flat (λ (bs : List ℕ). length bs ≡ suc n) (λ b. map (λ bs. b ∷ bs) (lists_below bound n)) (below bound)
    (λ b. All-map (λ (bs : List ℕ). length bs ≡ suc n) (λ bs. b ∷ bs) (lists_below bound n) (λ k d lt. ap suc (each_long bound n k d lt)))

-- ---- what the search finds

found_is : {A : Type 0} (p : A → Bool) (P : A → Type 0) (xs : List A) → All P xs → list_any p xs ≡ true → (y : A) × (find p xs ≡ Some y) × (p y ≡ true) × P y
found_is p P [] each any = absurd (cc any)
found_is {A} p P (x ∷ xs) each any = go (found_is p P xs (λ k d lt. each (suc k) d (omega (arith, lt)))) (p x) refl any
  where
    go : (list_any p xs ≡ true → (y : A) × (find p xs ≡ Some y) × (p y ≡ true) × P y) → (b : Bool) → p x ≡ b → (b || list_any p xs) ≡ true
        → (y : A) × (cond b (Some x) (find p xs) ≡ Some y) × (p y ≡ true) × P y
    go later true is any = (x, refl, is, each 0 x (omega arith))
    go later false is any = later any

-- the bytes that stand for a row's have its ref and its size
pub record Stand (row : Row) : Type 0 where
  pub own : IsOwnRef row.r (some_bytes row.r row.size)
  pub long : length (some_bytes row.r row.size) ≡ row.size

pub some_stand : (row : Row) → IsOfBlob row → Stand row
unfolding some_bytes
some_stand row blob =
    let any : list_any (is_own_ref row.r) (lists_below 256 row.size) ≡ true
    = subst (λ n. list_any (is_own_ref row.r) (lists_below 256 n) ≡ true) (sym blob.long) (any_list (is_own_ref row.r) 256 blob.bytes blob.octets (own_true row.r blob.bytes blob.own)) in
    let found = found_is (is_own_ref row.r) (λ (bs : List ℕ). length bs ≡ row.size) (lists_below 256 row.size) (each_long 256 row.size) any in
    let is : unwrap_or (find (is_own_ref row.r) (lists_below 256 row.size)) [] ≡ found.0 = ap (λ o. unwrap_or o []) found.1 in
    record {
      own = subst (IsOwnRef row.r) (sym is) (same_text (ref_like row.r found.0) row.r (sym found.2));
      long = ap (λ (bs : List ℕ). length bs) is ∙ found.3;
    }
