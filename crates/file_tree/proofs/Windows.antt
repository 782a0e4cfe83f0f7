-- Windows on lists that stand one behind the other.
use Rattle.std.proofs.Common.{◌≡◌, ◌≤◌, ◌+◌, ◌-◌, ℕ, zero, suc, min, List, [], ◌∷◌, ◌++◌, take, drop, length, replicate, sym, ap, ◌∙◌, arith, length-drop}
use Rattle.std.proofs.lemmas.List.{take_all, drop_all, take_min, drop-drop, take-take, drop-take, length-take, take-replicate, drop-replicate}

pub drop-append : (n : ℕ) (xs ys : List ℕ) → drop n (xs ++ ys) ≡ drop n xs ++ drop (n - length xs) ys
drop-append n [] ys = let e : n - 0 ≡ n = omega arith in (ap (λ (k : ℕ). drop k ys) (sym e) ∙ ap (λ (l : List ℕ). l ++ drop (n - 0) ys) (sym (drop_all n [] (omega arith))))
drop-append zero (x ∷ xs) ys = let e : 0 - length (x ∷ xs) ≡ 0 = omega arith in ap (λ (k : ℕ). (x ∷ xs) ++ drop k ys) (sym e)
drop-append (suc n) (x ∷ xs) ys =
    let e : n - length xs ≡ suc n - length (x ∷ xs) = omega arith in
    drop-append n xs ys ∙ ap (λ (k : ℕ). drop n xs ++ drop k ys) e

pub take-append : (n : ℕ) (xs ys : List ℕ) → take n (xs ++ ys) ≡ take n xs ++ take (n - length xs) ys
take-append n [] ys = let e : n - 0 ≡ n = omega arith in (ap (λ (k : ℕ). take k ys) (sym e) ∙ ap (λ (l : List ℕ). l ++ take (n - 0) ys) (sym (take_all n [] (omega arith))))
take-append zero (x ∷ xs) ys = let e : 0 - length (x ∷ xs) ≡ 0 = omega arith in ap (λ (k : ℕ). take k ys) (sym e)
take-append (suc n) (x ∷ xs) ys =
    let e : n - length xs ≡ suc n - length (x ∷ xs) = omega arith in
    ap (λ (l : List ℕ). x ∷ l) (take-append n xs ys ∙ ap (λ (k : ℕ). take n xs ++ take k ys) e)

-- a window on two lists is one on each
pub window-append : (xs ys : List ℕ) (from count size : ℕ) → length xs ≡ size
    → take count (drop from (xs ++ ys)) ≡ take (min count (size - from)) (drop from xs) ++ take (count - min count (size - from)) (drop (from - size) ys)
window-append xs ys from count size is =
    let len : length (drop from xs) ≡ size - from = length-drop from xs ∙ ap (λ (k : ℕ). k - from) is in
    let left : take count (drop from xs) ≡ take (min count (size - from)) (drop from xs) =
    sym (ap (λ (k : ℕ). take (min count k) (drop from xs)) (sym len) ∙ take_min count (drop from xs)) in
    let rest : count - length (drop from xs) ≡ count - min count (size - from) = omega (arith, len) in
    ap (take count) (drop-append from xs ys)
    ∙ take-append count (drop from xs) (drop (from - length xs) ys)
    ∙ ap (λ (l : List ℕ). l ++ take (count - length (drop from xs)) (drop (from - length xs) ys)) left
    ∙ ap (λ (k : ℕ). take (min count (size - from)) (drop from xs) ++ take k (drop (from - length xs) ys)) rest
    ∙ ap (λ (k : ℕ). take (min count (size - from)) (drop from xs) ++ take (count - min count (size - from)) (drop (from - k) ys)) is

-- a window within a window
pub window-window : (xs : List ℕ) (offset size from count : ℕ) → from + count ≤ size → take count (drop from (take size (drop offset xs))) ≡ take count (drop (offset + from) xs)
window-window xs offset size from count within =
    let e : size ≡ from + (size - from) = omega (arith, within) in
    ap (λ (k : ℕ). take count (drop from (take k (drop offset xs)))) e
    ∙ ap (take count) (drop-take from (size - from) (drop offset xs))
    ∙ take-take count (size - from) (drop from (drop offset xs)) (omega (arith, within))
    ∙ ap (take count) (drop-drop from offset xs)

pub length-window : (xs : List ℕ) (offset size : ℕ) → offset + size ≤ length xs → length (take size (drop offset xs)) ≡ size
length-window xs offset size within = length-take size (drop offset xs) ∙ ap (min size) (length-drop offset xs) ∙ (omega (arith, within))

-- a byte of zeros
abbrev pub zero_byte : ℕ
zero_byte = 0

pub window-replicate : (size from count : ℕ) → from + count ≤ size → take count (drop from (replicate size zero_byte)) ≡ replicate count zero_byte
window-replicate size from count within = ap (λ (l : List ℕ). take count l) (drop-replicate from size zero_byte) ∙ take-replicate count (size - from) zero_byte (omega (arith, within))
