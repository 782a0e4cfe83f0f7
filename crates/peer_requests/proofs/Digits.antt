-- Numbers in eight digits.
use Rattle.std.proofs.Common.{◌≡◌, ℕ, zero, suc, ◌+◌, ◌-◌, ◌*◌, ◌^◌, ◌<◌, ◌≤◌, Bool, true, false, ◌&&◌, cond, List, [], ◌∷◌, ◌++◌, length, get_or, Option, Some, Result}
use Rattle.std.proofs.Common.{arith, rules, refl, sym, ap, ◌∙◌, replicate, length-append}
use Rattle.std.specs.Prelude.{decimal}
use Rattle.std.specs.List.{list_all}
use Rattle.std.specs.Char.{is_ascii_digit, digit_value}
use Rattle.std.specs.Result.{result_ok}
use Rattle.std.specs.Str.Parse.{digits_value, digits_value_after, ParsesUnsigned}
use Rattle.std.proofs.lemmas.Bool.{cond-true, and_from}
use Rattle.std.proofs.lemmas.Bool.Decides.{nat_tests}
use Rattle.std.proofs.lemmas.List.{drop-replicate, length-replicate}
use Rattle.std.proofs.lemmas.List.Folds.{list_all-append}
use Rattle.std.proofs.lemmas.Fmt.{digits_decimal, digits_value-decimal, length-decimal-le}
use Rattle.std.proofs.lemmas.Str.Parse.{IsNumeralModel, numerals_by_value, parse_gives, digits_value_short}
use Rattle.peer_requests.specs.Boundaries.{padded, number_of}

own : IsNumeralModel (λ ds. list_all is_ascii_digit ds ≡ true) (digits_value 10)
own = numerals_by_value _ (search rules)

-- eight digits are parsed as the number that they are
pub parsed : {E : Type 0} (digits : List ℕ) (r : Result ℕ E) → ParsesUnsigned 32 10 digits r
    → list_all is_ascii_digit digits ≡ true → length digits ≡ 8 → result_ok r ≡ Some (digits_value 10 digits)
parsed digits r h all eight =
    let small : digits_value 10 digits < 10 ^ 8 = digits_value_short own digits 8 all (omega (arith, eight)) in
    ap result_ok (parse_gives own 32 digits r h all (omega (arith, eight)) (omega (arith, small)))

pub digit_is : (b : ℕ) → is_ascii_digit b ≡ true → (48 ≤ b) × (b ≤ 57) × (digit_value b ≡ b - 48)
digit_is b e = (grind (arith, nat_tests), grind (arith, nat_tests), grind (arith, nat_tests))

first_of : (a b : Bool) → (a && b) ≡ true → a ≡ true
first_of true b e = refl
first_of false b e = e

second_of : (a b : Bool) → (a && b) ≡ true → b ≡ true
second_of true b e = e
second_of false b e = absurd (cc e)

-- digits of one count that are one number are the same
same_digits : (xs ys : List ℕ) (m n : ℕ) → length xs ≡ length ys → list_all is_ascii_digit xs ≡ true → list_all is_ascii_digit ys ≡ true
    → digits_value_after 10 m xs ≡ digits_value_after 10 n ys → (m ≡ n) × (xs ≡ ys)
same_digits [] [] m n len ds es e = (e, refl)
same_digits [] (y ∷ ys) m n len ds es e = absurd (omega (arith, len))
same_digits (x ∷ xs) [] m n len ds es e = absurd (omega (arith, len))
same_digits (x ∷ xs) (y ∷ ys) m n len ds es e =
    let rest = same_digits xs ys (m * 10 + digit_value x) (n * 10 + digit_value y) (omega (arith, len)) (second_of _ _ ds) (second_of _ _ es) e in
    let d = digit_is x (first_of _ _ ds) in
    let f = digit_is y (first_of _ _ es) in
    let head : x ≡ y = omega (arith, rest.0, d.0, d.1, d.2, f.0, f.1, f.2) in
    (omega (arith, rest.0, d.0, d.1, d.2, f.0, f.1, f.2), (λ i. head i ∷ rest.1 i))

zeros_digits : (k : ℕ) → list_all is_ascii_digit (replicate k 48) ≡ true
zeros_digits zero = refl
zeros_digits (suc k) = zeros_digits k

zeros_value : (k : ℕ) (ds : List ℕ) → digits_value_after 10 0 (replicate k 48 ++ ds) ≡ digits_value_after 10 0 ds
zeros_value zero ds = refl
zeros_value (suc k) ds = zeros_value k ds

padded_is : (n : ℕ) → padded n ≡ replicate (8 - length (decimal n)) 48 ++ decimal n
padded_is n = ap (λ (zeros : List ℕ). zeros ++ decimal n) (drop-replicate (length (decimal n)) 8 48)

pub few_digits : (n : ℕ) → n < 100000000 → length (decimal n) ≤ 8
few_digits n small = length-decimal-le 8 n (omega arith) (omega (arith, small)) (omega (arith, small))

pub length-padded : (n : ℕ) → n < 100000000 → length (padded n) ≡ 8
length-padded n small =
    let few = few_digits n small in
    ap length (padded_is n) ∙ length-append (replicate (8 - length (decimal n)) 48) (decimal n)
    ∙ omega (arith, few, length-replicate {A = ℕ} (8 - length (decimal n)) 48)

padded_digits : (n : ℕ) → n < 100000000 → list_all is_ascii_digit (padded n) ≡ true
padded_digits n small =
    ap (list_all is_ascii_digit) (padded_is n)
    ∙ list_all-append is_ascii_digit (replicate (8 - length (decimal n)) 48) (decimal n)
    ∙ and_from _ _ (zeros_digits (8 - length (decimal n))) (digits_decimal own n (omega (arith, small)))

padded_value : (n : ℕ) → n < 100000000 → digits_value 10 (padded n) ≡ n
padded_value n small =
    ap (digits_value 10) (padded_is n) ∙ zeros_value (8 - length (decimal n)) (decimal n) ∙ digits_value-decimal own n (omega (arith, small))

-- a number in eight digits is read again
pub number_of-padded : (n : ℕ) → n < 100000000 → number_of (padded n) ≡ Some n
number_of-padded n small = cond-true _ _ _ (padded_digits n small) ∙ ap Some (padded_value n small)

some_same : (a b : ℕ) → Some a ≡ Some b → a ≡ b
some_same a b e = cc e

-- eight digits that are read are the number's
pub read_again : (ds : List ℕ) (n : ℕ) → length ds ≡ 8 → number_of ds ≡ Some n → ds ≡ padded n
read_again ds n eight e = go (list_all is_ascii_digit ds) refl e
  where
    go : (b : Bool) → list_all is_ascii_digit ds ≡ b → cond b (Some (digits_value 10 ds)) Option.None ≡ Some n → ds ≡ padded n
    go false all e = absurd (cc e)
    go true all e =
        let value : digits_value 10 ds ≡ n = some_same (digits_value 10 ds) n e in
        let small : digits_value 10 ds < 10 ^ 8 = digits_value_short own ds 8 all (omega (arith, eight)) in
        let fits : n < 100000000 = omega (arith, small, value) in
        (same_digits ds (padded n) 0 0 (eight ∙ sym (length-padded n fits)) all (padded_digits n fits) (value ∙ sym (padded_value n fits))).1

-- digits are ASCII
pub digits_ascii : (ds : List ℕ) → list_all is_ascii_digit ds ≡ true → (i : ℕ) → get_or ds i 0 < 128
digits_ascii [] all i = omega arith
digits_ascii (d ∷ ds) all zero = omega (arith, (digit_is d (first_of _ _ all)).1)
digits_ascii (d ∷ ds) all (suc i) = digits_ascii ds (second_of _ _ all) i
