-- Heads of requests.
use Rattle.std.specs.Prelude.{◌≡◌, ℕ, ◌<◌, ◌≤◌, Bool, ◌&&◌, ◌||◌, List, [], ◌∷◌, length, map, codes, slice_range, Option, Some, None, option_map, Result, Ok, Err, if◌then◌else◌, ◌==◌, nat_le}
use Rattle.std.specs.List.{flat_map, list_all, list_any, slice_split, before_first, after_first}
use Rattle.std.specs.Str.{bytes_eq}
use Rattle.std.specs.Str.Parse.{digits_value}
use Rattle.std.specs.Char.{to_ascii_lowercase, is_ascii_digit}
use Rattle.httparse.specs.Grammar.{RequestHead, ReadsRequest, trim_ows}
use Rattle.httparse.specs.Spans.{name_and_value, span_bytes, IsWithin}
use Rattle.http_wire.specs.declared.fields.Values.{Values}
use Rattle.http_wire.specs.declared.fields.Values.TheVariants as seen
use Rattle.http_wire.specs.declared.head.Piece.{Piece}
use Rattle.http_wire.specs.declared.head.Head.{Head}
use Rattle.http_wire.specs.declared.head.Framing.{Framing}
use Rattle.http_wire.specs.declared.head.Framing.TheVariants.{Empty, Length, Chunked}
use Rattle.http_wire.specs.declared.head.HeadFault.{HeadFault}
use Rattle.http_wire.specs.declared.head.HeadFault.TheVariants.{BadHead, BadLength, TooMany}
use Rattle.http_wire.specs.declared.line_state.LineState.TheVariants.{Start}
use Rattle.http_wire.specs.Lines.{Reaches}

-- the lines up to the end line of a head, with it
abbrev pub IsHeadText : List ℕ → Type 0
IsHeadText text = Reaches Start 16384 text (length text)

-- one text, in any case
abbrev pub same_text : List ℕ → List ℕ → Bool
same_text a b = bytes_eq (map to_ascii_lowercase a) (map to_ascii_lowercase b)

-- the value of a header, if it has the name
abbrev pub value_at : List ℕ → List ℕ × List ℕ → List (List ℕ)
value_at name header = if same_text header.0 name then header.1 ∷ [] else []

-- the values of the headers of that name
abbrev pub values : List ℕ → List (List ℕ × List ℕ) → List (List ℕ)
values name headers = flat_map (value_at name) headers

-- what was found of the values
abbrev pub AreValues : List ℕ → List (List ℕ) → Values → Type 0
AreValues buf found seen.Nothing = found ≡ []
AreValues buf found (seen.One s) = (found ≡ span_bytes buf s ∷ []) × IsWithin (length buf) s
AreValues buf found (seen.More s) = (second : List ℕ) × (rest : List (List ℕ)) × (found ≡ span_bytes buf s ∷ second ∷ rest) × IsWithin (length buf) s

-- 1 to 19 decimal digits
abbrev pub length_in : List ℕ → Option ℕ
length_in text = if nat_le 1 (length text) && nat_le (length text) 19 && list_all is_ascii_digit text then Some (digits_value 10 text) else None

-- how long the body is, by the values of Content-Length and of Transfer-Encoding
abbrev pub framing_by : List (List ℕ) → List (List ℕ) → Option Framing
framing_by [] [] = Some Empty
framing_by (n ∷ []) [] = option_map Length (length_in n)
framing_by [] (coding ∷ []) = if same_text coding (codes "chunked") then Some Chunked else None
framing_by lengths codings = None

abbrev pub framing_of : List (List ℕ × List ℕ) → Option Framing
framing_of headers = framing_by (values (codes "content-length") headers) (values (codes "transfer-encoding") headers)

abbrev pub headers_of : RequestHead → List (List ℕ × List ℕ)
headers_of h = map name_and_value h.fields

abbrev pub is_question : ℕ → Bool
is_question byte = byte == 63

-- the target up to its first question mark
abbrev pub path_of : List ℕ → List ℕ
path_of target = before_first is_question target

-- all that stands after it, or nothing where there is none
abbrev pub query_of : List ℕ → List ℕ
query_of target = after_first is_question target

abbrev pub is_comma : ℕ → Bool
is_comma byte = byte == 44

-- a part of a value, without the spaces and tabs around it, asks that the connection closes
abbrev pub is_close : List ℕ → Bool
is_close part = same_text (trim_ows part) (codes "close")

-- one of the parts of the value between its commas does
abbrev pub asks_close : List ℕ → Bool
asks_close value = list_any is_close (slice_split is_comma value)

abbrev pub is_closing : List ℕ × List ℕ → Bool
is_closing header = same_text header.0 (codes "connection") && asks_close header.1

-- the connection closes behind the reply: by the minor version, or by a header
abbrev pub closes_by : ℕ → List (List ℕ × List ℕ) → Bool
closes_by minor headers = minor == 0 || list_any is_closing headers

-- the place lies in the text
abbrev pub IsPlaceIn : List ℕ → Piece → Type 0
IsPlaceIn text p = (p.start ≤ p.end) × (p.end ≤ length text)

-- a place of these bytes in the text
abbrev pub IsPieceOf : List ℕ → Piece → List ℕ → Type 0
IsPieceOf text p bytes = (p.start ≤ p.end) × (p.end ≤ length text) × (slice_range text p.start p.end ≡ bytes)

-- a place of the first of some values, where there are any
abbrev pub IsFirstOf : List ℕ → List (List ℕ) → Option Piece → Type 0
IsFirstOf text found None = found ≡ []
IsFirstOf text found (Some p) = (first : List ℕ) × (rest : List (List ℕ)) × (found ≡ first ∷ rest) × IsPieceOf text p first

-- the head says what the tree of the grammar says
pub record IsHeadOf (text : List ℕ) (h : RequestHead) (head : Head) : Type 0 where
  pub method : IsPieceOf text head.method h.method
  pub path : IsPieceOf text head.path (path_of h.target)
  pub query : IsPieceOf text head.query (query_of h.target)
  pub content_type : IsFirstOf text (values (codes "content-type") (headers_of h)) head.content_type
  pub framing : framing_of (headers_of h) ≡ Some head.framing
  pub closes : head.closes ≡ closes_by h.minor (headers_of h)

-- what a text is as a head
abbrev pub HeadSpec : List ℕ → Result Head HeadFault → Type 0
HeadSpec text (Ok head) = (h : RequestHead) × ReadsRequest text h [] × (length h.fields ≤ 64) × IsHeadOf text h head
HeadSpec text (Err BadHead) = (h : RequestHead) → ReadsRequest text h [] → 5462 < length h.fields
HeadSpec text (Err TooMany) = (h : RequestHead) × ReadsRequest text h [] × (64 < length h.fields)
HeadSpec text (Err BadLength) = (h : RequestHead) × ReadsRequest text h [] × (length h.fields ≤ 64) × (framing_of (headers_of h) ≡ None)
