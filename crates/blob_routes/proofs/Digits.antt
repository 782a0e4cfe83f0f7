-- Numbers in decimal.
use Rattle.std.proofs.Common.{◌≡◌, ◌<◌, ◌≤◌, ◌^◌, ℕ, true, List, length, Some, Result}
use Rattle.std.proofs.Common.{arith, rules, ap, ◌∙◌}
use Rattle.std.specs.Prelude.{decimal}
use Rattle.std.specs.List.{list_all}
use Rattle.std.specs.Char.{is_ascii_digit}
use Rattle.std.specs.Result.{result_ok}
use Rattle.std.specs.Str.Parse.{digits_value, ParsesUnsigned}
use Rattle.std.proofs.lemmas.Bool.{cond-true, and_from, le-leb}
use Rattle.std.proofs.lemmas.Fmt.{digits_decimal, digits_value-decimal, length-decimal-le, decimal_is_IsNumeral}
use Rattle.std.proofs.lemmas.Str.Parse.{IsNumeralModel, numerals_by_value, parse_gives, digits_value_short}
use Rattle.blob_routes.specs.Numbers.{number_in}

own : IsNumeralModel (λ ds. list_all is_ascii_digit ds ≡ true) (digits_value 10)
own = numerals_by_value _ (search rules)

-- few digits are parsed as the number that they are
pub parsed : {E : Type 0} (digits : List ℕ) (r : Result ℕ E) → ParsesUnsigned 32 10 digits r
    → list_all is_ascii_digit digits ≡ true → 0 < length digits → length digits ≤ 9
    → result_ok r ≡ Some (digits_value 10 digits)
parsed digits r h all some few =
    let small : digits_value 10 digits < 10 ^ 9 = digits_value_short own digits 9 all few in
    ap result_ok (parse_gives own 32 digits r h all some (omega (arith, small)))

-- a number that is written is read again
pub number_in-decimal : (n : ℕ) → n < 10 ^ 9 → number_in (decimal n) ≡ Some n
number_in-decimal n small =
    let fits : n < 2 ^ 64 = omega (arith, small) in
    let few : length (decimal n) ≤ 9 = length-decimal-le 9 n (omega arith) small fits in
    let some : 1 ≤ length (decimal n) = (decimal_is_IsNumeral n fits).0.0 in
    let within = and_from _ _ (le-leb 1 (length (decimal n)) some) (le-leb (length (decimal n)) 9 few) in
    cond-true _ _ _ (and_from _ _ within (digits_decimal own n fits))
    ∙ ap Some (digits_value-decimal own n fits)
