-- How many texts there may be above a ref, as a number: it falls where refs rise.
use Rattle.std.proofs.Common.{◌≡◌, ◌⊎◌, inl, inr, IfSome, ℕ, zero, suc, ◌+◌, ◌-◌, ◌*◌, ◌^◌, ◌≤◌, ◌<◌, Bool, true, false}
use Rattle.std.proofs.Common.{◌&&◌, ◌||◌, ◌==◌, T, Option, None, Some, List, [], ◌∷◌, length, drop, nat_eq, nat_le}
use Rattle.std.proofs.Common.{refl, sym, ap, subst, arith, Ordering, Less, Equal, Greater}
use Rattle.std.specs.List.{All, list_all, starts_with}
use Rattle.std.specs.Cmp.{ranked}
use Rattle.std.specs.Ordering.{nat_cmp, ordering_then}
use Rattle.std.specs.Cmp.Lexicographic.{slice_cmp}
use Rattle.std.proofs.Math.Nat.{mul-le-mul_right, pow-succ'}
use Rattle.std.proofs.lemmas.Bool.{eqb-true, leb-true, le-leb}
use Rattle.blobref.specs.Blobref.{ref_cmp, is_blobref, is_sha224_ref, is_sha1_ref, is_named, is_lower_digit}
use Rattle.blobref.specs.Blobref.{sha224_name, sha1_name, is_after}
use Rattle.peer_base.specs.Order.{last_ref}
use Rattle.peer_base.specs.Blobs.{IsPage}
use Rattle.peer_base.proofs.Pages.{less, both, first, second, yes}

-- The room above a text, among those of at most so many numbers below 128. A text that has ended is below all that go
-- on.
abbrev pub room : ℕ → List ℕ → ℕ
room zero cs = 0
room (suc n) [] = 128 * 129 ^ n + room n []
room (suc n) (c ∷ cs) = (127 - c) * 129 ^ n + room n cs

room_bound : (n : ℕ) (cs : List ℕ) → suc (room n cs) ≤ 129 ^ n
room_bound zero cs = omega arith
room_bound (suc n) [] =
    let more : 129 ^ suc n ≡ 129 * 129 ^ n = pow-succ' 129 n in
    omega (arith, more, room_bound n [])
room_bound (suc n) (c ∷ cs) =
    let most : (127 - c) * 129 ^ n ≤ 127 * 129 ^ n = mul-le-mul_right (129 ^ n) (omega arith) in
    let more : 129 ^ suc n ≡ 129 * 129 ^ n = pow-succ' 129 n in
    omega (arith, most, more, room_bound n cs)

one_more : (a p : ℕ) → suc a * p ≡ a * p + p
one_more a p = omega arith

abbrev is_low : ℕ → Bool
is_low c = nat_le c 127

-- it falls along the order of texts
room_falls : (n : ℕ) (xs ys : List ℕ) → length ys ≤ n → T (list_all is_low ys) → slice_cmp nat_cmp xs ys ≡ Less
    → room n ys < room n xs
room_falls n [] [] long low e = absurd (cc e)
room_falls n (x ∷ xs) [] long low e = absurd (cc e)
room_falls zero xs (y ∷ ys) long low e = absurd (omega (arith, long))
room_falls (suc n) [] (y ∷ ys) long low e =
    let most : (127 - y) * 129 ^ n ≤ 127 * 129 ^ n = mul-le-mul_right (129 ^ n) (omega arith) in
    omega (arith, most, room_bound n ys)
room_falls (suc n) (x ∷ xs) (y ∷ ys) long low e = go (nat_cmp x y) refl e (room_falls n xs ys (omega (arith, long))
    (second (is_low y) _ low))
  where
    within : y ≤ 127
    within = leb-true y 127 (yes (is_low y) (first (is_low y) _ low))

    go : (o : Ordering) → nat_cmp x y ≡ o → ordering_then o (slice_cmp nat_cmp xs ys) ≡ Less
        → (slice_cmp nat_cmp xs ys ≡ Less → room n ys < room n xs) → room (suc n) (y ∷ ys) < room (suc n) (x ∷ xs)
    go Less o e more =
        let below : x < y = ranked x y Less (sym o) in
        let steps : suc (127 - y) * 129 ^ n ≤ (127 - x) * 129 ^ n = mul-le-mul_right (129 ^ n)
        (omega (arith, below, within)) in
        omega (arith, steps, one_more (127 - y) (129 ^ n), room_bound n ys)
    go Equal o e more =
        let same_first : x ≡ y = ranked x y Equal (sym o) in
        let here : (127 - x) * 129 ^ n ≡ (127 - y) * 129 ^ n = ap (λ c. (127 - c) * 129 ^ n) same_first in
        omega (arith, here, more e)
    go Greater o e more = absurd (cc e)

-- ---- refs

low_digit : (c : ℕ) → T (is_lower_digit c) → T (is_low c)
low_digit c t = go (either (nat_le 48 c && nat_le c 57) (nat_le 97 c && nat_le c 102) t)
  where
    either : (a b : Bool) → T (a || b) → T a ⊎ T b
    either true b t = inl tt
    either false b t = inr t

    low : c ≤ 127 → T (is_low c)
    low le = subst T (sym (le-leb c 127 le)) tt

    go : T (nat_le 48 c && nat_le c 57) ⊎ T (nat_le 97 c && nat_le c 102) → T (is_low c)
    go (inl t) = low (let le : c ≤ 57 = leb-true c 57 (yes (nat_le c 57) (second (nat_le 48 c) _ t)) in
        omega (arith, le))
    go (inr t) = low (let le : c ≤ 102 = leb-true c 102 (yes (nat_le c 102) (second (nat_le 97 c) _ t)) in
        omega (arith, le))

low_digits : (cs : List ℕ) → T (list_all is_lower_digit cs) → T (list_all is_low cs)
low_digits [] t = tt
low_digits (c ∷ cs) t = both (is_low c) _ (low_digit c (first (is_lower_digit c) _ t))
    (low_digits cs (second (is_lower_digit c) _ t))

-- a text that begins with low numbers and goes on with such
low_behind : (p text : List ℕ) → T (starts_with nat_eq text p) → T (list_all is_low p)
    → T (list_all is_low (drop (length p) text)) → T (list_all is_low text)
low_behind [] text begins front back = back
low_behind (c ∷ p) [] begins front back = absurd begins
low_behind (c ∷ p) (x ∷ xs) begins front back =
    both (is_low x) _ (subst (λ n. T (is_low n)) (eqb-true c x (yes (nat_eq c x) (first (nat_eq c x) _ begins)))
    (first (is_low c) _ front))
    (low_behind p xs (second (nat_eq c x) _ begins) (second (is_low c) _ front) back)

record IsLow (text : List ℕ) : Type 0 where
  long : length text ≤ 63
  low : T (list_all is_low text)

low_named : (name : List ℕ) (count : ℕ) (text : List ℕ) → T (list_all is_low name) → length name + count ≤ 63
    → T (is_named name count text) → IsLow text
low_named name count text low within t =
    let front = first ((length text == length name + count) && starts_with nat_eq text name)
    (list_all is_lower_digit (drop (length name) text)) t in
    let long : length text ≡ length name + count = eqb-true (length text) (length name + count)
    (yes (length text == length name + count) (first (length text == length name + count)
    (starts_with nat_eq text name) front)) in
    record {
      long = omega (arith, long, within);
      low = low_behind name text (second (length text == length name + count) (starts_with nat_eq text name) front) low
          (low_digits (drop (length name) text)
          (second ((length text == length name + count) && starts_with nat_eq text name)
          (list_all is_lower_digit (drop (length name) text)) t));
    }

low_ref : (text : List ℕ) → is_blobref text ≡ true → IsLow text
unfolding is_blobref
low_ref text is = go (is_sha224_ref text) refl is
  where
    go : (b : Bool) → is_sha224_ref text ≡ b → (b || is_sha1_ref text) ≡ true → IsLow text
    go true e is = low_named sha224_name 56 text tt (omega arith) (subst T (sym e) tt)
    go false e is = low_named sha1_name 40 text tt (omega arith) (subst T (sym is) tt)

refs_fall : (a b : List ℕ) → is_blobref b ≡ true → is_after (Some a) b ≡ true → room 63 b < room 63 a
refs_fall a b is above = let q = low_ref b is in room_falls 63 a b q.long q.low
    (less (ref_cmp a b) (subst T (sym above) tt))

-- ---- pages

abbrev pub room_above : Option (List ℕ) → ℕ
room_above None = 0
room_above (Some r) = suc (room 63 r)

last_later : (after : Option (List ℕ)) (page : List (List ℕ × ℕ)) (r : List ℕ)
    → All (λ (e : List ℕ × ℕ). is_after after e.0 ≡ true) page → last_ref page ≡ Some r → is_after after r ≡ true
last_later after [] r all e = absurd (cc e)
last_later after (x ∷ []) r all e = subst (λ q. is_after after q ≡ true) (some_same x.0 r e) (all 0 x (omega arith))
  where
    some_same : (a b : List ℕ) → Some a ≡ Some b → a ≡ b
    some_same a b e = cc e
last_later after (x ∷ y ∷ ys) r all e = last_later after (y ∷ ys) r (λ k d lt. all (suc k) d (omega (arith, lt))) e

-- the next page leaves less room
pub page_falls : (r : List ℕ) (limit : ℕ) (page : List (List ℕ × ℕ)) (end : Option (List ℕ))
    → IsPage (Some r) limit page → end ≡ last_ref page → IfSome end (λ q. is_blobref q ≡ true)
    → room_above end < room_above (Some r)
page_falls r limit page None p e form = omega arith
page_falls r limit page (Some q) p e form = omega
    (arith, refs_fall r q form (last_later (Some r) page q p.later (sym e)))
