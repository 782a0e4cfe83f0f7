-- Parameters of a header's value: *( OWS ";" OWS token "=" ( token / quoted text ) ) OWS.
use Rattle.std.specs.Prelude.{◌==◌, ◌||◌, ◌&&◌, ◌+◌, ◌-◌, ℕ, zero, suc, Bool, false, not, if◌then◌else◌, List, [], ◌∷◌}
use Rattle.std.specs.Prelude.{length, take, drop, map, Option, Some, None, bytes_eq, codes, nat_lt, nat_le, slice_index}
use Rattle.std.specs.List.{prefix_len, list_any, list_all}
use Rattle.std.specs.Char.{to_ascii_lowercase, is_ascii_alphanumeric}
use Rattle.httparse.specs.Grammar.{is_token_byte, is_value_byte, skip_ows}

-- the same but for the case of ASCII letters
abbrev pub is_like : List ℕ → List ℕ → Bool
is_like a b = bytes_eq (map to_ascii_lowercase a) (map to_ascii_lowercase b)

-- a byte inside quotes: any of a value but `"` and `\`
abbrev pub is_quoted_byte : ℕ → Bool
is_quoted_byte x = is_value_byte x && not (x == 34 || x == 92)

abbrev pub begins_with : ℕ → List ℕ → Bool
begins_with c [] = false
begins_with c (x ∷ xs) = x == c

-- what was read, and what follows it
abbrev pub token_at : List ℕ → Option (List ℕ × List ℕ)
token_at text =
    let n = prefix_len is_token_byte text in
    if n == 0 then None else Some (take n text, drop n text)

-- behind the first quote
abbrev pub quoted_at : List ℕ → Option (List ℕ × List ℕ)
quoted_at text =
    let n = prefix_len is_quoted_byte text in
    if begins_with 34 (drop n text) then Some (take n text, drop (n + 1) text) else None

unfoldable pub value_at : List ℕ → Option (List ℕ × List ℕ)
value_at text = if begins_with 34 text then quoted_at (drop 1 text) else token_at text

-- a parameter's name, its value, and what follows it
abbrev pub Parameter : Type 0
Parameter = List ℕ × List ℕ × List ℕ

abbrev pub with_value : List ℕ → Option (List ℕ × List ℕ) → Option Parameter
with_value name None = None
with_value name (Some v) = Some (name, v.0, v.1)

abbrev pub with_name : Option (List ℕ × List ℕ) → Option Parameter
with_name None = None
with_name (Some n) = if begins_with 61 n.1 then with_value n.0 (value_at (drop 1 n.1)) else None

unfoldable pub parameter_at : List ℕ → Option Parameter
parameter_at text =
    if begins_with 59 (skip_ows text) then with_name (token_at (skip_ows (drop 1 (skip_ows text)))) else None

abbrev pub is_blank : List ℕ → Bool
is_blank text = length (skip_ows text) == 0

abbrev pub first_of : Option (List ℕ) → Bool → List ℕ → Option (List ℕ)
first_of (Some value) fits next = Some value
first_of None fits next = if fits then Some next else None

abbrev pub value_behind : (Option (List ℕ) → List ℕ → Option (List ℕ)) → List ℕ → Option (List ℕ) → List ℕ
    → Option Parameter → Option (List ℕ)
value_behind next wanted found text None = if is_blank text then found else None
value_behind next wanted found text (Some p) = next (first_of found (is_like p.0 wanted) p.1) p.2

-- the first value of a name in at most so many parameters up to the text's end; None also where the text is no list of
-- parameters
unfoldable pub value_in : ℕ → List ℕ → Option (List ℕ) → List ℕ → Option (List ℕ)
value_in zero wanted found text = None
value_in (suc n) wanted found text =
    value_behind (λ next rest. value_in n wanted next rest) wanted found text (parameter_at text)

-- the value of a name in the parameters behind a word, as `form-data; name=x`
unfoldable pub value_of : List ℕ → List ℕ → List ℕ → Option (List ℕ)
value_of word wanted text =
    if nat_lt (length text) (length word) then None
    else if is_like (take (length word) text) word
    then value_in (length (drop (length word) text) + 1) wanted None (drop (length word) text)
    else None

-- a boundary: 1 to 70 of these bytes, the last of them no space
abbrev pub is_boundary_byte : ℕ → Bool
is_boundary_byte x = is_ascii_alphanumeric x || list_any (λ c. c == x) (codes "'()+_,-./:=? ")

abbrev pub is_boundary : List ℕ → Bool
is_boundary text =
    nat_lt 0 (length text) && nat_le (length text) 70 && list_all is_boundary_byte text
    && not (slice_index text (length text - 1) == 32)

abbrev pub if_boundary : Option (List ℕ) → Option (List ℕ)
if_boundary None = None
if_boundary (Some text) = if is_boundary text then Some text else None

-- the boundary that a content type gives
abbrev pub boundary_of : List ℕ → Option (List ℕ)
boundary_of text = if_boundary (value_of (codes "multipart/form-data") (codes "boundary") text)
