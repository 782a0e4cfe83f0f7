-- Blobrefs, byte by byte.
use Rattle.std.proofs.Common.{◌≡◌, ◌⊎◌, inl, inr, ℕ, zero, suc, ◌+◌, ◌==◌, Bool, true, false, ◌&&◌, ◌||◌, List, [], ◌∷◌, ◌++◌, map, replicate, length, drop, nat_eq, Option, Some, None, is_some, cond, ◌<◌, ◌≤◌, refl, sym, ap, ◌∙◌, arith, length-append, length-drop}
use Rattle.std.proofs.lemmas.Bool.{and_from, eqb-true, eq-eqb}
use Rattle.std.proofs.lemmas.Bool.Decides.{nat_tests, Decides-eqb}
use Rattle.std.proofs.lemmas.List.{append-nil, drop_all, drop_at}
use Rattle.std.proofs.lemmas.Slice.Eq.{starts_is}
use Rattle.std.specs.List.{list_all, starts_with}
use Rattle.blobref.specs.Blobref.{sha1_name, sha224_name, is_lower_digit, is_named, is_sha1_ref, is_sha224_ref, is_blobref}
use Rattle.search_words.specs.Words.{ref_bytes, sha1_bytes, sha224_bytes, passes, is_ref_front}
use Rattle.search_words.specs.Fronts.{some_sha1, some_sha224, ref_rest}
use Rattle.search_words.proofs.Tests.{and_both, and_false, or_both, or_left, or_right}

-- as many bytes as tests, and each passes its own
abbrev pub fits : List (ℕ → Bool) → List ℕ → Bool
fits [] [] = true
fits [] (x ∷ xs) = false
fits (test ∷ tests) [] = false
fits (test ∷ tests) (x ∷ xs) = test x && fits tests xs

pub fits_front : (tests : List (ℕ → Bool)) (t rest : List ℕ) → fits tests (t ++ rest) ≡ true → passes tests t ≡ true
fits_front tests [] rest h = refl
fits_front [] (x ∷ t) rest h = absurd (cc h)
fits_front (test ∷ tests) (x ∷ t) rest h =
    let h2 = and_both (test x) (fits tests (t ++ rest)) h in
    and_from (test x) (passes tests t) h2.0 (fits_front tests t rest h2.1)

pub completed : (tests : List (ℕ → Bool)) (t least : List ℕ) → passes tests t ≡ true → fits tests least ≡ true
    → fits tests (t ++ drop (length t) least) ≡ true
completed tests [] least h k = k
completed [] (x ∷ t) least h k = absurd (cc h)
completed (test ∷ tests) (x ∷ t) [] h k = absurd (cc k)
completed (test ∷ tests) (x ∷ t) (y ∷ least) h k =
    let h2 = and_both (test x) (passes tests t) h in
    let k2 = and_both (test y) (fits tests least) k in
    and_from (test x) (fits tests (t ++ drop (length t) least)) h2.0 (completed tests t least h2.1 k2.1)

fits_many : (n : ℕ) (test : ℕ → Bool) (xs : List ℕ) → length xs ≡ n → list_all test xs ≡ true
    → fits (replicate n test) xs ≡ true
fits_many zero test [] len h = refl
fits_many zero test (x ∷ xs) len h = absurd (cc len)
fits_many (suc n) test [] len h = absurd (cc len)
fits_many (suc n) test (x ∷ xs) len h =
    let h2 = and_both (test x) (list_all test xs) h in
    and_from (test x) (fits (replicate n test) xs) h2.0 (fits_many n test xs (omega (arith, len)) h2.1)

many_fit : (n : ℕ) (test : ℕ → Bool) (xs : List ℕ) → fits (replicate n test) xs ≡ true
    → (length xs ≡ n) × (list_all test xs ≡ true)
many_fit zero test [] h = (refl, refl)
many_fit zero test (x ∷ xs) h = absurd (cc h)
many_fit (suc n) test [] h = absurd (cc h)
many_fit (suc n) test (x ∷ xs) h =
    let h2 = and_both (test x) (fits (replicate n test) xs) h in
    let rest = many_fit n test xs h2.1 in
    (ap suc rest.0, and_from (test x) (list_all test xs) h2.0 rest.1)

fits_append : (ps qs : List (ℕ → Bool)) (xs ys : List ℕ) → fits ps xs ≡ true → fits qs ys ≡ true
    → fits (ps ++ qs) (xs ++ ys) ≡ true
fits_append [] qs [] ys h k = k
fits_append [] qs (x ∷ xs) ys h k = absurd (cc h)
fits_append (p ∷ ps) qs [] ys h k = absurd (cc h)
fits_append (p ∷ ps) qs (x ∷ xs) ys h k =
    let h2 = and_both (p x) (fits ps xs) h in
    and_from (p x) (fits (ps ++ qs) (xs ++ ys)) h2.0 (fits_append ps qs xs ys h2.1 k)

-- a name fits its own tests
fits_self : (p : List ℕ) → fits (map (λ c x. nat_eq x c) p) p ≡ true
fits_self [] = refl
fits_self (c ∷ p) = and_from (nat_eq c c) (fits (map (λ d x. nat_eq x d) p) p) (eq-eqb c c refl) (fits_self p)

module _ (qs : List (ℕ → Bool)) where
  fits_prefix : (p r : List ℕ) → fits (map (λ c x. nat_eq x c) p ++ qs) r ≡ true
      → (rest : List ℕ) × (r ≡ p ++ rest) × (fits qs rest ≡ true)
  fits_prefix [] r h = (r, refl, h)
  fits_prefix (c ∷ p) [] h = absurd (cc h)
  fits_prefix (c ∷ p) (x ∷ r) h =
      let h2 = and_both (nat_eq x c) (fits (map (λ d y. nat_eq y d) p ++ qs) r) h in
      let e = fits_prefix p r h2.1 in
      (e.0, (λ i. eqb-true x c h2.0 i ∷ e.1 i), e.2)

-- the texts of a name with so many digits

named_fits : (name : List ℕ) (count : ℕ) (r : List ℕ) → is_named name count r ≡ true
    → fits (ref_bytes name count) r ≡ true
named_fits name count r h =
    let outer =
    and_both ((length r == length name + count) && starts_with nat_eq r name)
    (list_all is_lower_digit (drop (length name) r)) h in
    let inner = and_both (length r == length name + count) (starts_with nat_eq r name) outer.0 in
    let len = eqb-true (length r) (length name + count) inner.0 in
    let whole = (starts_is Decides-eqb r name (starts_with nat_eq r name) refl).0 inner.1 in
    ap (fits (ref_bytes name count)) whole
    ∙ fits_append (map (λ c x. nat_eq x c) name) (replicate count is_lower_digit) name (drop (length name) r)
    (fits_self name)
    (fits_many count is_lower_digit (drop (length name) r) (omega (arith, len, length-drop (length name) r)) outer.1)

fits_named : (name : List ℕ) (count : ℕ) (r : List ℕ) → fits (ref_bytes name count) r ≡ true
    → is_named name count r ≡ true
fits_named name count r h =
    let e = fits_prefix (replicate count is_lower_digit) name r h in
    let many = many_fit count is_lower_digit e.0 e.2 in
    let same : length r ≡ length name + count = omega (arith, ap length e.1, length-append name e.0, many.0) in
    let digits : drop (length name) r ≡ e.0 = ap (drop (length name)) e.1 ∙ drop_at name e.0 (length name) refl in
    and_from _ _
    (and_from _ _ (eq-eqb (length r) (length name + count) same)
    ((starts_is Decides-eqb r name (starts_with nat_eq r name) refl).1 e.0 e.1))
    (ap (list_all is_lower_digit) digits ∙ many.1)

-- blobrefs

abbrev Fits : List ℕ → Type 0
Fits r = (fits sha224_bytes r ≡ true) ⊎ (fits sha1_bytes r ≡ true)

blobref_fits : (r : List ℕ) → is_blobref r ≡ true → Fits r
unfolding is_blobref
blobref_fits r h = by (is_sha224_ref r) (is_sha1_ref r) refl refl h
  where
    by : (a b : Bool) → is_sha224_ref r ≡ a → is_sha1_ref r ≡ b → (a || b) ≡ true → Fits r
    by true b newer older h = inl (named_fits sha224_name 56 r newer)
    by false true newer older h = inr (named_fits sha1_name 40 r older)
    by false false newer older h = absurd (cc h)

fits_blobref : (r : List ℕ) → Fits r → is_blobref r ≡ true
unfolding is_blobref
fits_blobref r (inl h) = or_left (is_sha224_ref r) (is_sha1_ref r) (fits_named sha224_name 56 r h)
fits_blobref r (inr h) = or_right (is_sha224_ref r) (is_sha1_ref r) (fits_named sha1_name 40 r h)

too_long : (tests : List (ℕ → Bool)) (t : List ℕ) (x : ℕ) → fits tests t ≡ true → passes tests (t ++ x ∷ []) ≡ false
too_long [] [] x h = refl
too_long [] (y ∷ t) x h = absurd (cc h)
too_long (test ∷ tests) [] x h = absurd (cc h)
too_long (test ∷ tests) (y ∷ t) x h =
    let h2 = and_both (test y) (fits tests t) h in
    and_false (test y) (passes tests (t ++ x ∷ [])) (too_long tests t x h2.1)

-- the names differ in their fourth byte
newer_not_older : (r : List ℕ) (x : ℕ) → fits sha224_bytes r ≡ true → passes sha1_bytes (r ++ x ∷ []) ≡ false
newer_not_older r x h =
    let e = fits_prefix (replicate 56 is_lower_digit) sha224_name r h in
    ap (λ l. passes sha1_bytes (l ++ x ∷ [])) e.1

older_not_newer : (r : List ℕ) (x : ℕ) → fits sha1_bytes r ≡ true → passes sha224_bytes (r ++ x ∷ []) ≡ false
older_not_newer r x h =
    let e = fits_prefix (replicate 40 is_lower_digit) sha1_name r h in
    ap (λ l. passes sha224_bytes (l ++ x ∷ [])) e.1

-- nothing follows a whole blobref
pub blobref_ends : (r : List ℕ) (x : ℕ) → is_blobref r ≡ true → is_ref_front (r ++ x ∷ []) ≡ false
blobref_ends r x h = by (blobref_fits r h)
  where
    by : Fits r → is_ref_front (r ++ x ∷ []) ≡ false
    by (inl f) =
        or_both (passes sha224_bytes (r ++ x ∷ [])) (passes sha1_bytes (r ++ x ∷ [])) (too_long sha224_bytes r x f)
        (newer_not_older r x f)
    by (inr f) =
        or_both (passes sha224_bytes (r ++ x ∷ [])) (passes sha1_bytes (r ++ x ∷ [])) (older_not_newer r x f)
        (too_long sha1_bytes r x f)

pub blobref_front : (t rest : List ℕ) → is_blobref (t ++ rest) ≡ true → is_ref_front t ≡ true
blobref_front t rest h = by (blobref_fits (t ++ rest) h)
  where
    by : Fits (t ++ rest) → is_ref_front t ≡ true
    by (inl f) = or_left (passes sha224_bytes t) (passes sha1_bytes t) (fits_front sha224_bytes t rest f)
    by (inr f) = or_right (passes sha224_bytes t) (passes sha1_bytes t) (fits_front sha1_bytes t rest f)

newer_completed : (t : List ℕ) → passes sha224_bytes t ≡ true → is_blobref (t ++ drop (length t) some_sha224) ≡ true
newer_completed t h =
    fits_blobref (t ++ drop (length t) some_sha224) (inl (completed sha224_bytes t some_sha224 h refl))

older_completed : (t : List ℕ) → passes sha1_bytes t ≡ true → is_blobref (t ++ drop (length t) some_sha1) ≡ true
older_completed t h = fits_blobref (t ++ drop (length t) some_sha1) (inr (completed sha1_bytes t some_sha1 h refl))

-- a front goes on as the least ref of its name does
pub front_completed : (t : List ℕ) → is_ref_front t ≡ true → is_blobref (t ++ ref_rest t) ≡ true
front_completed t h = by (passes sha224_bytes t) (passes sha1_bytes t) refl refl h
  where
    by : (a b : Bool) → passes sha224_bytes t ≡ a → passes sha1_bytes t ≡ b → (a || b) ≡ true
        → is_blobref (t ++ cond a (drop (length t) some_sha224) (drop (length t) some_sha1)) ≡ true
    by true b newer older h = newer_completed t newer
    by false true newer older h = older_completed t older
    by false false newer older h = absurd (cc h)

same_truth : (a b : Bool) → (a ≡ true → b ≡ true) → (b ≡ true → a ≡ true) → a ≡ b
same_truth true b f g = sym (f refl)
same_truth false true f g = g refl
same_truth false false f g = refl

-- so a front is tried by making a whole of it
abbrev pub is_completed : List ℕ → Bool
is_completed t = is_blobref (t ++ drop (length t) some_sha224) || is_blobref (t ++ drop (length t) some_sha1)

front_from : (t : List ℕ) (x y : Bool) → is_blobref (t ++ drop (length t) some_sha224) ≡ x
    → is_blobref (t ++ drop (length t) some_sha1) ≡ y → (x || y) ≡ true → is_ref_front t ≡ true
front_from t true y e k h = blobref_front t (drop (length t) some_sha224) e
front_from t false true e k h = blobref_front t (drop (length t) some_sha1) k
front_from t false false e k h = absurd (cc h)

front_to : (t : List ℕ) (x y : Bool) → passes sha224_bytes t ≡ x → passes sha1_bytes t ≡ y → (x || y) ≡ true
    → is_completed t ≡ true
front_to t true y e k h =
    or_left (is_blobref (t ++ drop (length t) some_sha224)) (is_blobref (t ++ drop (length t) some_sha1))
    (newer_completed t e)
front_to t false true e k h =
    or_right (is_blobref (t ++ drop (length t) some_sha224)) (is_blobref (t ++ drop (length t) some_sha1))
    (older_completed t k)
front_to t false false e k h = absurd (cc h)

pub front_test : (t : List ℕ) → is_completed t ≡ is_ref_front t
front_test t = same_truth (is_completed t) (is_ref_front t)
    (front_from t (is_blobref (t ++ drop (length t) some_sha224))
    (is_blobref (t ++ drop (length t) some_sha1)) refl refl)
    (front_to t (passes sha224_bytes t) (passes sha1_bytes t) refl refl)

or_second : (a b : Bool) → a ≡ false → (a || b) ≡ b
or_second true b h = absurd (cc h)
or_second false b h = refl

-- it is a whole of the newer name, or else one of the older
pub newer_front : (t : List ℕ) (b : Bool) → b ≡ is_blobref (t ++ drop (length t) some_sha224) → b ≡ true
    → b ≡ is_ref_front t
newer_front t b h k =
    let front =
    or_left (is_blobref (t ++ drop (length t) some_sha224)) (is_blobref (t ++ drop (length t) some_sha1))
    (sym h ∙ k) in
    k ∙ sym front ∙ front_test t

pub older_front : (t : List ℕ) (a b : Bool) → a ≡ is_blobref (t ++ drop (length t) some_sha224) → a ≡ false
    → b ≡ is_blobref (t ++ drop (length t) some_sha1) → b ≡ is_ref_front t
older_front t a b h k e =
    let second =
    or_second (is_blobref (t ++ drop (length t) some_sha224)) (is_blobref (t ++ drop (length t) some_sha1))
    (sym h ∙ k) in
    e ∙ sym second ∙ front_test t

-- what reading a text that was made whole says
pub read_is : (o : Option (List ℕ)) (b : Bool) (t : List ℕ) → o ≡ cond (is_blobref t) (Some t) None → b ≡ is_some o
    → b ≡ is_blobref t
read_is o b t h k = k ∙ ap is_some h ∙ by (is_blobref t)
  where
    by : (c : Bool) → is_some (cond c (Some t) None) ≡ c
    by true = refl
    by false = refl

-- a text that is longer than a whole one is left as it is
pub nothing_more : (t whole : List ℕ) → length whole < length t → t ++ drop (length t) whole ≡ t
nothing_more t whole h = ap (λ l. t ++ l) (drop_all (length t) whole (omega (arith, h))) ∙ append-nil t
