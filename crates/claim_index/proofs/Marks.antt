-- What sets of numbers contain, and how masks change them.
use Rattle.std.proofs.Common.{◌≡◌, ◌<◌, ℕ, zero, suc, ◌+◌, ◌*◌, ◌/◌, ◌%◌, ◌^◌, ◌==◌, Bool, true, false, ◌&&◌, ◌||◌, cond, List, [], ◌∷◌, map, filter, get_or, Option, Some, None, is_some, refl, sym, ap, ◌∙◌, ◌⊎◌, inl, inr, arith, w64, nat_lt, IsSome}
use Rattle.std.proofs.lemmas.Bool.{cases_Bool, cond-false, false≢true, and_parts}
use Rattle.std.proofs.lemmas.Bool.Decides.{nat_tests}
use Rattle.std.proofs.lemmas.List.Concat.{flat_map-cons}
use Rattle.std.proofs.lemmas.List.Folds.{list_any-append, list_any_at}
use Rattle.std.proofs.lemmas.List.FromFn.{length-range_with_len, get_or-range_with_len}
use Rattle.std.proofs.lemmas.Nat.Bits.{bit_at-zero, bit_at_set_same, bit_at_set_other}
use Rattle.std.specs.Prelude.{bit_or}
use Rattle.std.specs.List.{list_any, flat_map, range_with_len}
use Rattle.std.specs.Ordering.{nat_cmp, eq_by_cmp}
use Rattle.std.specs.Cmp.{nat_cmp_total, eq_by_cmp_equiv}
use Rattle.std.specs.Map.{lookup}
use Rattle.std.specs.BTreeMap.{is_at}
use Rattle.std.specs.FinMap.{from_entries, get, insert, empty, entries, contains_key, len, same_map, get-empty, get-insert, len-insert, contains_key-keys, nat_cmp-IsAntisymmetric}
use Rattle.claim_model.specs.Facts.{passes}
use Rattle.index_look.proofs.Order.{is_Equal}
use Rattle.index_rows.proofs.RefMaps.{get_at, one_given}
use Rattle.index_rows.proofs.Counting.{contains-insert}
use Rattle.index_rows.proofs.Deleting.{any_get, any_entry}
use Rattle.claim_index.specs.Numbers.{NumberSet, Masks, numbered, has_bit, block_numbers, numbers_in, blocks_in}

-- the numbers are equal
abbrev pub same : ℕ → ℕ → Bool
same a b = eq_by_cmp nat_cmp a b

pub same_is : (a b : ℕ) → same a b ≡ true → a ≡ b
same_is a b h = nat_cmp-IsAntisymmetric a b (is_Equal (nat_cmp a b) h)

pub same_own : (a : ℕ) → same a a ≡ true
same_own a = (eq_by_cmp_equiv nat_cmp_total).refl a

-- tests that pass alike
pub alike : (a b : Bool) → (a ≡ true → b ≡ true) → (b ≡ true → a ≡ true) → a ≡ b
alike true b f g = sym (f refl)
alike false true f g = g refl
alike false false f g = refl

same_unit : (a b : Option (Unit {0})) → is_some a ≡ is_some b → a ≡ b
same_unit None None h = refl
same_unit None (Some y) h = absurd (false≢true h)
same_unit (Some x) None h = absurd (false≢true (sym h))
same_unit (Some x) (Some y) h = refl

-- sets that contain the same are the same
pub same_set : (s t : NumberSet) → ((q : ℕ) → contains_key s q ≡ contains_key t q) → s ≡ t
same_set s t h = same_map nat_cmp_total nat_cmp-IsAntisymmetric s t (λ q. same_unit (get s q) (get t q) (h q))

has-numbered : (ns : List ℕ) (q : ℕ) → contains_key (numbered ns) q ≡ list_any (same q) ns
has-numbered [] q = ap is_some (get-empty nat_cmp q)
has-numbered (n ∷ ns) q = contains-insert nat_cmp_total nat_cmp-IsAntisymmetric (numbered ns) n tt q
    ∙ ap (λ b. same q n || b) (has-numbered ns q)

module _ {A B : Type 0} (p : B → Bool) where
  any-flat_map : (f : A → List B) (xs : List A) → list_any p (flat_map f xs) ≡ list_any (λ x. list_any p (f x)) xs
  any-flat_map f [] = refl
  any-flat_map f (x ∷ xs) = ap (list_any p) (flat_map-cons f x xs) ∙ list_any-append p (f x) (flat_map f xs)
      ∙ ap (λ b. list_any p (f x) || b) (any-flat_map f xs)

  any-map-filter : (f : A → B) (test : A → Bool) (xs : List A)
      → list_any p (map f (filter test xs)) ≡ list_any (λ x. test x && p (f x)) xs
  any-map-filter f test [] = refl
  any-map-filter f test (x ∷ xs) = by (test x) (any-map-filter f test xs)
    where
      by : (b : Bool) → list_any p (map f (filter test xs)) ≡ list_any (λ x. test x && p (f x)) xs
          → list_any p (map f (cond b (x ∷ filter test xs) (filter test xs)))
          ≡ ((b && p (f x)) || list_any (λ x. test x && p (f x)) xs)
      by true h = ap (λ b. p (f x) || b) h
      by false h = h

any_alike : {A : Type 0} (p q : A → Bool) → ((x : A) → p x ≡ q x) → (xs : List A) → list_any p xs ≡ list_any q xs
any_alike p q h [] = refl
any_alike p q h (x ∷ xs) = λ i. h x i || any_alike p q h xs i

any_range : (p : ℕ → Bool) (a n : ℕ) → list_any p (range_with_len a n) ≡ true → (i : ℕ) × (i < a + n) × (p i ≡ true)
any_range p a zero h = absurd (false≢true h)
any_range p a (suc n) h = by (cases_Bool (p a)) (any_range p (a + 1) n)
  where
    by : (p a ≡ true) ⊎ (p a ≡ false)
        → (list_any p (range_with_len (a + 1) n) ≡ true → (i : ℕ) × (i < a + 1 + n) × (p i ≡ true))
        → (i : ℕ) × (i < a + suc n) × (p i ≡ true)
    by (inl t) more = (a, omega arith, t)
    by (inr f) more =
        let found = more (sym (ap (λ b. b || list_any p (range_with_len (a + 1) n)) f) ∙ h) in
        let lt : found.0 < a + 1 + n = found.1 in
        (found.0, omega (arith, lt), found.2)

-- which numbers a block has
in_block : (q : ℕ) (e : ℕ × ℕ) → list_any (same q) (block_numbers e) ≡ (same (q / 64) e.0 && has_bit e.1 (q % 64))
in_block q e = any-map-filter (same q) (λ place. 64 * e.0 + place) (has_bit e.1) (range_with_len 0 64)
    ∙ alike _ _ there back
  where
    test : ℕ → Bool
    test place = has_bit e.1 place && same q (64 * e.0 + place)

    here : (place : ℕ) → place < 64 → test place ≡ true → (same (q / 64) e.0 && has_bit e.1 (q % 64)) ≡ true
    here place lt h =
        let parts = and_parts (has_bit e.1 place) (same q (64 * e.0 + place)) h in
        let is : q ≡ 64 * e.0 + place = same_is q _ parts.1 in
        let block : q / 64 ≡ e.0 = omega arith in
        let within : q % 64 ≡ place = omega arith in
        (λ i. (ap (λ b. same b e.0) block ∙ same_own e.0) i && (ap (has_bit e.1) within ∙ parts.0) i)

    there : list_any test (range_with_len 0 64) ≡ true → (same (q / 64) e.0 && has_bit e.1 (q % 64)) ≡ true
    there h = let found = any_range test 0 64 h in here found.0 found.1 found.2

    back : (same (q / 64) e.0 && has_bit e.1 (q % 64)) ≡ true → list_any test (range_with_len 0 64) ≡ true
    back h =
        let parts = and_parts (same (q / 64) e.0) (has_bit e.1 (q % 64)) h in
        let block : q / 64 ≡ e.0 = same_is _ _ parts.0 in
        let is : q ≡ 64 * e.0 + q % 64 = omega arith in
        let at : get_or (range_with_len 0 64) (q % 64) 0 ≡ q % 64 = get_or-range_with_len 0 64 (q % 64) 0 (omega arith)
        ∙ omega arith in
        list_any_at test (range_with_len 0 64) (q % 64) 0 (let n = length-range_with_len 0 64 in omega arith)
        (ap test at ∙ (λ i. parts.1 i && (ap (λ n. same n (64 * e.0 + q % 64)) is ∙ same_own (64 * e.0 + q % 64)) i))

-- a test of the value at a key
any_at : (k : ℕ) (test : ℕ → Bool) (m : Masks)
    → list_any (λ e. same k e.0 && test e.1) (entries m) ≡ passes test (get m k)
any_at k test m = alike _ _ there (back (get m k) refl)
  where
    at_key : ℕ × ℕ → Bool
    at_key e = same k e.0 && test e.1

    there : list_any at_key (entries m) ≡ true → passes test (get m k) ≡ true
    there h =
        let found = any_entry nat_cmp_total nat_cmp-IsAntisymmetric at_key m h in
        let parts = and_parts (same k found.0.0) (test found.0.1) found.2 in
        ap (λ q. passes test (get m q)) (same_is k found.0.0 parts.0) ∙ ap (passes test) found.1 ∙ parts.1

    back : (o : Option ℕ) → get m k ≡ o → passes test (get m k) ≡ true → list_any at_key (entries m) ≡ true
    back None is h = absurd (false≢true (sym (ap (passes test) is) ∙ h))
    back (Some mask) is h = any_get nat_cmp_total nat_cmp-IsAntisymmetric at_key m k mask is (λ i. same_own k i
        && (sym (ap (passes test) is) ∙ h) i)

-- the mask of a block, as a tree tells it
pub mask_at : (es : List (ℕ × ℕ)) (b : ℕ) → get (from_entries {R = nat_cmp} es) b ≡ lookup (is_at (nat_cmp b)) es
mask_at = get_at nat_cmp_total nat_cmp-IsAntisymmetric

pub one_mask : (es fs : List (ℕ × ℕ)) (k v : ℕ)
    → ((q : ℕ) → lookup (is_at (nat_cmp q)) fs ≡ cond (is_at (nat_cmp k) q) (Some v) (lookup (is_at (nat_cmp q)) es))
    → from_entries {R = nat_cmp} fs ≡ insert (from_entries es) k v
one_mask = one_given nat_cmp_total nat_cmp-IsAntisymmetric

-- a number is there where its bit is set
pub has-numbers_in : (m : Masks) (q : ℕ)
    → contains_key (numbers_in m) q ≡ passes (λ mask. has_bit mask (q % 64)) (get m (q / 64))
unfolding numbers_in
has-numbers_in m q =
    has-numbered (flat_map block_numbers (entries m)) q
    ∙ any-flat_map (same q) block_numbers (entries m)
    ∙ any_alike _ _ (in_block q) (entries m)
    ∙ any_at (q / 64) (λ mask. has_bit mask (q % 64)) m

pub has-blocks_in : (m : Masks) (b : ℕ) → contains_key (blocks_in m) b ≡ contains_key m b
unfolding blocks_in
has-blocks_in m b = has-numbered (map (λ e. e.0) (entries m)) b ∙ sym (contains_key-keys m b)

pub numbers_in-empty : numbers_in empty ≡ empty
numbers_in-empty = same_set _ _ (λ q. has-numbers_in empty q
    ∙ ap (passes (λ mask. has_bit mask (q % 64))) (get-empty nat_cmp (q / 64)) ∙ sym (ap is_some (get-empty nat_cmp q)))

-- an empty mask tells of no number
pub numbers_in-room : (m : Masks) (b : ℕ) → get m b ≡ None → numbers_in (insert m b 0) ≡ numbers_in m
numbers_in-room m b none = same_set _ _ (λ q.
    has-numbers_in (insert m b 0) q
    ∙ ap (passes (λ mask. has_bit mask (q % 64))) (get-insert nat_cmp_total m b 0 (q / 64))
    ∙ by q (cases_Bool (same (q / 64) b)) ∙ sym (has-numbers_in m q))
  where
    by : (q : ℕ) → (same (q / 64) b ≡ true) ⊎ (same (q / 64) b ≡ false)
        → passes (λ mask. has_bit mask (q % 64)) (cond (same (q / 64) b) (Some 0) (get m (q / 64)))
        ≡ passes (λ mask. has_bit mask (q % 64)) (get m (q / 64))
    by q (inl t) =
        ap (λ c. passes (λ mask. has_bit mask (q % 64)) (cond c (Some 0) (get m (q / 64)))) t
        ∙ ap (λ n. n == 1) (bit_at-zero (q % 64))
        ∙ sym (ap (passes (λ mask. has_bit mask (q % 64))) (ap (get m) (same_is _ _ t) ∙ none))
    by q (inr f) = ap (λ c. passes (λ mask. has_bit mask (q % 64)) (cond c (Some 0) (get m (q / 64)))) f

-- one bit more
module _ (m : Masks) (n mask : ℕ) (found : get m (n / 64) ≡ Some mask) where
  abbrev more : ℕ
  more = bit_or mask (1 * 2 ^ (n % 64) % 2 ^ 64)

  pub numbers_in-set : numbers_in (insert m (n / 64) more) ≡ insert (numbers_in m) n tt
  numbers_in-set = same_set _ _ (λ q.
      has-numbers_in (insert m (n / 64) more) q
      ∙ ap (passes (λ mask. has_bit mask (q % 64))) (get-insert nat_cmp_total m (n / 64) more (q / 64))
      ∙ by q (cases_Bool (same (q / 64) (n / 64))) ∙ ap (λ b. same q n || b) (sym (has-numbers_in m q))
      ∙ sym (contains-insert nat_cmp_total nat_cmp-IsAntisymmetric (numbers_in m) n tt q))
    where
      apart : (q : ℕ) → (q ≡ n → ⊥) → same q n ≡ false
      apart q h = elim (cases_Bool (same q n)) [
        | inl t ↦ absurd (h (same_is q n t))
        | inr f ↦ f
      ]

      within : (q : ℕ) → q / 64 ≡ n / 64 → (same (q % 64) (n % 64) ≡ true) ⊎ (same (q % 64) (n % 64) ≡ false)
          → has_bit more (q % 64) ≡ (same q n || has_bit mask (q % 64))
      within q h (inl t) =
          let rest : q % 64 ≡ n % 64 = same_is _ _ t in
          let is : q ≡ n = omega arith in
          ap (has_bit more) rest ∙ ap (λ b. b == 1) (bit_at_set_same w64 mask (n % 64) (omega arith))
          ∙ sym (ap (λ b. b || has_bit mask (q % 64)) (ap (same q) (sym is) ∙ same_own q))
      within q h (inr f) =
          ap (λ b. b == 1) (bit_at_set_other w64 mask (n % 64) (omega arith) (q % 64) (λ e. false≢true (sym f
          ∙ ap (same (q % 64)) (sym e) ∙ same_own (q % 64))))
          ∙ sym (ap (λ b. b
          || has_bit mask (q % 64)) (apart q (λ e. false≢true (sym f ∙ ap (λ k. same (q % 64) (k % 64)) (sym e)
          ∙ same_own (q % 64)))))

      by : (q : ℕ) → (same (q / 64) (n / 64) ≡ true) ⊎ (same (q / 64) (n / 64) ≡ false)
          → passes (λ mask. has_bit mask (q % 64)) (cond (same (q / 64) (n / 64)) (Some more) (get m (q / 64)))
          ≡ (same q n || passes (λ mask. has_bit mask (q % 64)) (get m (q / 64)))
      by q (inl t) =
          let block : q / 64 ≡ n / 64 = same_is _ _ t in
          ap (λ c. passes (λ mask. has_bit mask (q % 64)) (cond c (Some more) (get m (q / 64)))) t
          ∙ within q block (cases_Bool (same (q % 64) (n % 64)))
          ∙ ap (λ b. same q n || b) (sym (ap (passes (λ mask. has_bit mask (q % 64))) (ap (get m) block ∙ found)))
      by q (inr f) =
          ap (λ c. passes (λ mask. has_bit mask (q % 64)) (cond c (Some more) (get m (q / 64)))) f
          ∙ sym (ap (λ b. b
          || passes (λ mask. has_bit mask (q % 64)) (get m (q / 64))) (apart q (λ e. false≢true (sym f
          ∙ ap (λ k. same (q / 64) (k / 64)) (sym e) ∙ same_own (q / 64)))))

-- a number that is there already
pub set-again : (s : NumberSet) (n : ℕ) → contains_key s n ≡ true → insert s n tt ≡ s
set-again s n h = same_set _ _ (λ q. contains-insert nat_cmp_total nat_cmp-IsAntisymmetric s n tt q
    ∙ by q (cases_Bool (same q n)))
  where
    by : (q : ℕ) → (same q n ≡ true) ⊎ (same q n ≡ false) → (same q n || contains_key s q) ≡ contains_key s q
    by q (inl t) = ap (λ b. b || contains_key s q) t ∙ sym (ap (contains_key s) (same_is q n t) ∙ h)
    by q (inr f) = ap (λ b. b || contains_key s q) f

-- how many there are with one more
pub len-more : (s : NumberSet) (n : ℕ) → contains_key s n ≡ false → len (insert s n tt) ≡ len s + 1
len-more s n h = len-insert nat_cmp_total s n tt ∙ cond-false (contains_key s n) (len s) (len s + 1) h

-- a look-up that found something
pub there : (o : Option ℕ) (x : ℕ) → Some x ≡ o → IsSome o
there o x h = ap is_some (sym h)

pub no_mask : (o : Option ℕ) → is_some o ≡ false → o ≡ None
no_mask None h = refl
no_mask (Some x) h = absurd (false≢true (sym h))

below_max : (n : ℕ) → n < 18446744073709551616 → (n ≡ 18446744073709551615 → ⊥) → nat_lt n 18446744073709551615 ≡ true
below_max n fits other = grind (arith, nat_tests)

-- there is room for the numbers of a block that has a mask, if the count leaves some
pub room-there : (m : Masks) (b count : ℕ) → contains_key m b ≡ true → count ≡ len (numbers_in m)
    → count < 18446744073709551616 → (count ≡ 18446744073709551615 → ⊥)
    → (contains_key (blocks_in m) b && nat_lt (len (numbers_in m)) 18446744073709551615) ≡ true
room-there m b count held is fits other = λ i. (has-blocks_in m b ∙ held) i
    && (ap (λ n. nat_lt n 18446744073709551615) (sym is) ∙ below_max count fits other) i

pub room-made : (m more : Masks) (b : ℕ) → more ≡ insert m b 0 → (count : ℕ) → count ≡ len (numbers_in more)
    → count < 18446744073709551616 → (count ≡ 18446744073709551615 → ⊥)
    → (contains_key (blocks_in more) b && nat_lt (len (numbers_in more)) 18446744073709551615) ≡ true
room-made m more b given count is fits other =
    room-there more b count (ap (λ n. contains_key n b) given
    ∙ contains-insert nat_cmp_total nat_cmp-IsAntisymmetric m b 0 b
    ∙ ap (λ c. c || contains_key m b) (same_own b)) is fits other
