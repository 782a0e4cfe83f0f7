-- The boundaries of uploads (docs/http.md).
use Rattle.std.specs.Prelude.{◌≡◌, ℕ, ◌<◌, ◌≤◌, ◌&&◌, ◌==◌, Bool, true, false, if◌then◌else◌, nat_le, nat_eq, List, [], ◌∷◌, ◌++◌, codes, length, take, drop, Option, Some, None}
use Rattle.std.specs.List.{list_all, list_any, starts_with}
use Rattle.std.specs.Char.{is_ascii_digit}
use Rattle.std.specs.Fmt.{decimal}
use Rattle.std.specs.Str.Parse.{digits_value}

-- a number in eight decimal digits
abbrev pub padded : ℕ → List ℕ
padded n = drop (length (decimal n)) (codes "00000000") ++ decimal n

-- the boundary of a number
abbrev pub boundary_of : ℕ → List ℕ
boundary_of n = codes "pk" ++ padded n

-- what a delimiter and a close begin with
abbrev pub mark_of : ℕ → List ℕ
mark_of n = codes "\r\n--" ++ boundary_of n

-- what is searched for marks: a blob behind the end of the line before it
abbrev pub searched : List ℕ → List ℕ
searched bytes = 13 ∷ 10 ∷ bytes

-- the text stands somewhere in the bytes
abbrev pub StandsIn : List ℕ → List ℕ → Type 0
StandsIn text bytes = (front : List ℕ) × (rest : List ℕ) × (bytes ≡ front ++ (text ++ rest))

-- the least number whose mark doesn't stand in what is searched
pub record IsFree (bytes : List ℕ) (n : ℕ) : Type 0 where
  pub small : n < 100000000
  pub free : StandsIn (mark_of n) (searched bytes) → ⊥
  pub least : (m : ℕ) → m < n → StandsIn (mark_of m) (searched bytes)

-- ---- as it is found

-- the number that eight digits are
abbrev pub number_of : List ℕ → Option ℕ
number_of digits = if list_all is_ascii_digit digits then Some (digits_value 10 digits) else None

-- the number of the boundary that stands in front, behind two hyphens
abbrev pub number_in : List ℕ → Option ℕ
number_in text = if starts_with nat_eq text (codes "--pk") && nat_le 12 (length text) then number_of (take 8 (drop 4 text)) else None

-- the same behind a line feed
abbrev pub number_behind : List ℕ → Option ℕ
number_behind [] = None
number_behind (b ∷ bytes) = if b == 10 then number_in bytes else None

abbrev pub listed : Option ℕ → List ℕ → List ℕ
listed None numbers = numbers
listed (Some n) numbers = n ∷ numbers

-- the numbers of the marks in some bytes
abbrev pub numbers_in : List ℕ → List ℕ
numbers_in [] = []
numbers_in (b ∷ bytes) = if b == 13 then listed (number_behind bytes) (numbers_in bytes) else numbers_in bytes

-- those behind so many bytes, which end with the first carriage return, if there is one
abbrev pub numbers_from : List ℕ → Option ℕ → List ℕ
numbers_from bytes None = []
numbers_from bytes (Some n) = listed (number_behind (drop n bytes)) (numbers_in (drop n bytes))

abbrev pub is_listed : List ℕ → ℕ → Bool
is_listed numbers n = list_any (nat_eq n) numbers

-- no number is less that isn't listed
pub record IsLeastAbsent (numbers : List ℕ) (n : ℕ) : Type 0 where
  pub within : n ≤ length numbers
  pub absent : is_listed numbers n ≡ false
  pub below : (m : ℕ) → m < n → is_listed numbers m ≡ true
