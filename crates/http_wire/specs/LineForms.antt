-- Where heads, trailers and chunk lines end, in words of lines.
use Rattle.std.specs.Prelude.{◌≡◌, ℕ, Bool, true, false, not, List, [], ◌∷◌, ◌++◌, All, ◌==◌}
use Rattle.std.specs.List.{flat_map, list_all}

-- a line, without its line feed
abbrev pub is_no_feed : ℕ → Bool
is_no_feed byte = not (byte == 10)

abbrev pub is_line : List ℕ → Bool
is_line bytes = list_all is_no_feed bytes

-- it has nothing, or one carriage return
abbrev pub is_empty_line : List ℕ → Bool
is_empty_line [] = true
is_empty_line (byte ∷ []) = byte == 13
is_empty_line (first ∷ second ∷ bytes) = false

abbrev pub IsEmptyLine : List ℕ → Type 0
IsEmptyLine line = (is_line line ≡ true) × (is_empty_line line ≡ true)

abbrev pub IsFullLine : List ℕ → Type 0
IsFullLine line = (is_line line ≡ true) × (is_empty_line line ≡ false)

-- the line with its line feed
abbrev pub print_line : List ℕ → List ℕ
print_line line = line ++ 10 ∷ []

-- lines that aren't empty, and then an empty one
pub record AreLines (text : List ℕ) : Type 0 where
  pub lines : List (List ℕ)
  pub last : List ℕ
  pub each : All IsFullLine lines
  pub end : IsEmptyLine last
  pub text_is : text ≡ flat_map print_line lines ++ print_line last

-- empty lines, then at least one that isn't empty, and then an empty one
pub record AreHeadLines (text : List ℕ) : Type 0 where
  pub blank : List (List ℕ)
  pub first : List ℕ
  pub rest : List ℕ
  pub before : All IsEmptyLine blank
  pub full : IsFullLine first
  pub lines : AreLines rest
  pub text_is : text ≡ flat_map print_line blank ++ (print_line first ++ rest)
