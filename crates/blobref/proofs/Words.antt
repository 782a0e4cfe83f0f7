-- The first eight bytes of two lists, as numbers, are ordered as the lists are, unless they are equal.
use Rattle.std.proofs.Common.{◌≡◌, ℕ, zero, suc, ◌+◌, ◌*◌, ◌^◌, ◌<◌, ◌≤◌, List, [], ◌∷◌, ◌++◌, length, drop, replicate, inl, inr, refl, sym, ap, ◌∙◌, arith, Ordering}
use Rattle.std.proofs.lemmas.Bool.{cases_order}
use Rattle.std.proofs.Math.Nat.{mul-le-mul_left}
use Rattle.std.specs.Ordering.{nat_cmp, ordering_then}
use Rattle.std.specs.Cmp.Lexicographic.{slice_cmp}
use Rattle.std.specs.Int.{from_be_bytes, w64}
use Rattle.std.proofs.lemmas.List.{length-append}
use Rattle.hex.specs.Hex.{IsBytes}
use Rattle.blobref.specs.Digits.{IsKept}
use Rattle.blobref.proofs.Order.{below, same, above, then_assoc}

-- a digit more in front: of two numbers below w, and with the same digits before them the lower ones decide
digit_more : (w x y p q : ℕ) → p < w → q < w → nat_cmp (w * x + p) (w * y + q) ≡ ordering_then (nat_cmp x y) (nat_cmp p q)
digit_more w x y p q fp fq = elim (cases_order x y) [
  | inl e ↦ rw (e, same y y refl) (elim (cases_order p q) [
    | inl f ↦ rw (f) (same (w * y + q) (w * y + q) refl ∙ sym (same q q refl))
    | inr o ↦ elim o [
      | inl h ↦ rw (below p q h) (below (w * y + p) (w * y + q) (omega arith))
      | inr h ↦ rw (above p q h) (above (w * y + p) (w * y + q) (omega arith))
    ]
  ])
  | inr o ↦ elim o [
    | inl h ↦
        let wide : w * (x + 1) ≤ w * y = mul-le-mul_left w (omega (arith, h)) in
        rw (below x y h) (below (w * x + p) (w * y + q) (omega arith))
    | inr h ↦
        let wide : w * (y + 1) ≤ w * x = mul-le-mul_left w (omega (arith, h)) in
        rw (above x y h) (above (w * x + p) (w * y + q) (omega arith))
  ]
]

-- the number that the first n bytes are, the first one counting most
abbrev worth : ℕ → List ℕ → ℕ
worth zero xs = 0
worth (suc n) [] = 0
worth (suc n) (x ∷ xs) = 256 ^ n * x + worth n xs

pow_positive : (n : ℕ) → 0 < 256 ^ n
pow_positive zero = omega arith
pow_positive (suc n) = let before = pow_positive n in omega (arith, before)

worth_below : (n : ℕ) (xs : List ℕ) → IsBytes xs → worth n xs < 256 ^ n
worth_below zero xs h = omega arith
worth_below (suc n) [] h = pow_positive (suc n)
worth_below (suc n) (x ∷ xs) h =
    let fits : x < 256 = h 0 in
    let lower = worth_below n xs (λ k. h (suc k)) in
    let wide : 256 ^ n * (x + 1) ≤ 256 ^ n * 256 = mul-le-mul_left (256 ^ n) (omega (arith, fits)) in
    omega (arith, lower, wide)

-- behind the first bytes the others decide
worth_cmp : (n : ℕ) (xs ys : List ℕ) → n ≤ length xs → n ≤ length ys → IsBytes xs → IsBytes ys
    → ordering_then (nat_cmp (worth n xs) (worth n ys)) (slice_cmp nat_cmp (drop n xs) (drop n ys)) ≡ slice_cmp nat_cmp xs ys
worth_cmp zero xs ys lx ly hx hy = refl
worth_cmp (suc n) [] ys lx ly hx hy = absurd (omega arith)
worth_cmp (suc n) (x ∷ xs) [] lx ly hx hy = absurd (omega arith)
worth_cmp (suc n) (x ∷ xs) (y ∷ ys) lx ly hx hy =
    let bx : IsBytes xs = λ k. hx (suc k) in
    let by : IsBytes ys = λ k. hy (suc k) in
    let tail = slice_cmp nat_cmp (drop n xs) (drop n ys) in
    ap (λ o. ordering_then o tail) (digit_more (256 ^ n) x y (worth n xs) (worth n ys) (worth_below n xs bx) (worth_below n ys by))
    ∙ sym (then_assoc (nat_cmp x y) (nat_cmp (worth n xs) (worth n ys)) tail)
    ∙ ap (ordering_then (nat_cmp x y)) (worth_cmp n xs ys (omega arith) (omega arith) bx by)

worth_is : (xs : List ℕ) → 8 ≤ length xs → worth 8 xs ≡ from_be_bytes w64 xs
worth_is [] h = absurd (omega arith)
worth_is (a ∷ []) h = absurd (omega arith)
worth_is (a ∷ b ∷ []) h = absurd (omega arith)
worth_is (a ∷ b ∷ c ∷ []) h = absurd (omega arith)
worth_is (a ∷ b ∷ c ∷ d ∷ []) h = absurd (omega arith)
worth_is (a ∷ b ∷ c ∷ d ∷ e ∷ []) h = absurd (omega arith)
worth_is (a ∷ b ∷ c ∷ d ∷ e ∷ f ∷ []) h = absurd (omega arith)
worth_is (a ∷ b ∷ c ∷ d ∷ e ∷ f ∷ g ∷ []) h = absurd (omega arith)
worth_is (a ∷ b ∷ c ∷ d ∷ e ∷ f ∷ g ∷ i ∷ xs) h = omega arith

apart_cmp : (x y : ℕ) → (x ≡ y → ⊥) → (r : Ordering) → ordering_then (nat_cmp x y) r ≡ nat_cmp x y
apart_cmp x y h r = elim (cases_order x y) [
  | inl e ↦ absurd (h e)
  | inr o ↦ elim o [
    | inl l ↦ rw (below x y l) refl
    | inr g ↦ rw (above x y g) refl
  ]
]

pub words_cmp : (xs ys : List ℕ) → 8 ≤ length xs → 8 ≤ length ys → IsBytes xs → IsBytes ys
    → (from_be_bytes w64 xs ≡ from_be_bytes w64 ys → ⊥)
    → nat_cmp (from_be_bytes w64 xs) (from_be_bytes w64 ys) ≡ slice_cmp nat_cmp xs ys
words_cmp xs ys lx ly hx hy apart =
    sym (apart_cmp (from_be_bytes w64 xs) (from_be_bytes w64 ys) apart (slice_cmp nat_cmp (drop 8 xs) (drop 8 ys)))
    ∙ sym (ap (λ n. ordering_then (nat_cmp n (from_be_bytes w64 ys)) (slice_cmp nat_cmp (drop 8 xs) (drop 8 ys))) (worth_is xs lx))
    ∙ sym (ap (λ n. ordering_then (nat_cmp (worth 8 xs) n) (slice_cmp nat_cmp (drop 8 xs) (drop 8 ys))) (worth_is ys ly))
    ∙ worth_cmp 8 xs ys lx ly hx hy

in_front : (x : ℕ) (xs : List ℕ) → x < 256 → IsBytes xs → IsBytes (x ∷ xs)
in_front x xs fits h zero = fits
in_front x xs fits h (suc k) = h k

behind : (xs ys : List ℕ) → IsBytes xs → IsBytes ys → IsBytes (xs ++ ys)
behind [] ys hx hy k = hy k
behind (x ∷ xs) ys hx hy zero = hx 0
behind (x ∷ xs) ys hx hy (suc k) = behind xs ys (λ j. hx (suc j)) hy k

zeros : (n : ℕ) → IsBytes (replicate n 0)
zeros zero k = omega arith
zeros (suc n) zero = omega arith
zeros (suc n) (suc k) = zeros n k

-- a ref as it is kept has at least eight bytes
pub kept_fits : (a : List ℕ) → IsKept a → 8 ≤ length a
kept_fits a (inl h) = rw (h.whole, length-append h.digest (replicate 8 0), h.long) (omega arith)
kept_fits a (inr h) = rw (h.whole, h.long) (omega arith)

pub kept_digits : (a : List ℕ) → IsKept a → IsBytes a
kept_digits a (inl h) k = rw (h.whole) (in_front 0 (h.digest ++ replicate 8 0) (omega arith) (behind h.digest (replicate 8 0) h.bytes (zeros 8)) k)
kept_digits a (inr h) k = rw (h.whole) (in_front 1 h.digest (omega arith) h.bytes k)
