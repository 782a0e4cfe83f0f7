-- Decimal digits are read as the number that they are.
use Rattle.std.proofs.Common.{◌≡◌, ◌<◌, ◌+◌, ◌*◌, ◌-◌, ◌^◌, ℕ, true, List, length, Result, Ok, Err, SomeIff, fold, arith, refl, rules}
use Rattle.std.specs.Result.{result_ok, OkIff}
use Rattle.std.specs.Str.Parse.{ParsesUnsigned}
use Rattle.std.proofs.lemmas.Str.Parse.{IsNumeralModel, FoldsDigits, numerals_by_fold, parse_digits}
use Rattle.schema_date.specs.Dates.{are_digits, number}

abbrev number_after : ℕ → List ℕ → ℕ
number_after n digits = fold (λ n c. 10 * n + (c - 48)) n digits

folds : FoldsDigits number_after
folds = record { empty = λ n. refl; more = λ n c cs digit. (let e : 10 * n + (c - 48) ≡ n * 10 + (c - 48) = omega arith in rw e refl) }

own : IsNumeralModel (λ digits. are_digits digits ≡ true) number
own = numerals_by_fold _ (search rules) number_after folds

by_result : {E : Type 0} (digits : List ℕ) (r : Result ℕ E) → 0 < length digits → OkIff r ((0 < length digits) × (number digits < 2 ^ 64)) (number digits) → SomeIff (result_ok r) (number digits < 2 ^ 64) (number digits)
by_result digits (Ok n) some h = (h.0.1, h.1)
by_result digits (Err e) some h = λ small. h (some, small)

pub parsed : {E : Type 0} (digits : List ℕ) (r : Result ℕ E) → ParsesUnsigned 64 10 digits r → are_digits digits ≡ true → 0 < length digits → SomeIff (result_ok r) (number digits < 2 ^ 64) (number digits)
parsed digits r h all some = by_result digits r some (parse_digits own 64 digits r h all)
