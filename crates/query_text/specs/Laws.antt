-- A written query is read as that query.
use Rattle.std.specs.Prelude.{◌≡◌, ◌<◌, ◌^◌, ℕ, ℤ, List, Some, None, IfSome}
use Rattle.std.specs.Str.{IsUtf8}
use Rattle.schema_date.specs.Dates.{date_in}
use Rattle.schema_date.specs.DateTexts.{IsDateText}
use Rattle.search_query.specs.declared.query.IntTest.{IntTest}
use Rattle.search_query.specs.declared.query.TextTest.{TextTest}
use Rattle.search_query.specs.declared.query.FileTest.{FileTest}
use Rattle.search_query.specs.Mirror.{Leaves, TestLeaves, Asked, not_asked, asked, Joined, no_logical, logical, Tested, no_permanode, permanode, Related, no_relation, relation}
use Rattle.search_query.specs.View.{Question}
use Rattle.search_query.specs.Valid.{IsValidQuestion}
use Rattle.query_read.specs.Reading.{first_fault, asks_for}
use Rattle.query_text.specs.Text.{Spelling, SpellsDates, date_of, query_text}

-- What the types of a query hold: whole numbers of 64 bits, texts in UTF-8, and dates, each of which has a written text
-- that is read as that date

abbrev pub IsWhole : ℕ → Type 0
IsWhole n = n < 2 ^ 64

abbrev pub HasText : ℤ → Type 0
HasText z = (text : List ℕ) × IsDateText z text × (date_in text ≡ Some z)

abbrev pub HoldsInt : IntTest → Type 0
HoldsInt test = IfSome test.min IsWhole × IfSome test.max IsWhole

abbrev pub HoldsText : TextTest → Type 0
HoldsText test =
    IfSome test.equals IsUtf8 × IfSome test.contains IsUtf8 × IfSome test.has_prefix IsUtf8
    × IfSome test.has_suffix IsUtf8 × IfSome test.byte_length HoldsInt

abbrev pub HoldsFile : FileTest → Type 0
HoldsFile test = IfSome test.file_name HoldsText × IfSome test.file_size HoldsInt

abbrev pub HoldsLeaves : Leaves → Type 0
HoldsLeaves leaves =
    IfSome leaves.camli_type IsUtf8 × IfSome leaves.blob_ref_prefix IsUtf8
    × IfSome leaves.blob_size HoldsInt × IfSome leaves.file HoldsFile

abbrev pub HoldsTest : TestLeaves → Type 0
HoldsTest leaves =
    IfSome leaves.at HasText × IfSome leaves.attr IsUtf8 × IfSome leaves.value IsUtf8
    × IfSome leaves.value_matches HoldsText × IfSome leaves.num_value HoldsInt

abbrev mutual
  pub Holds : Asked → Type 0
  Holds not_asked = Unit {0}
  Holds (asked joined leaves tested) = HoldsJoined joined × HoldsLeaves leaves × HoldsTested tested

  pub HoldsJoined : Joined → Type 0
  HoldsJoined no_logical = Unit {0}
  HoldsJoined (logical op a b) = Holds a × Holds b

  pub HoldsTested : Tested → Type 0
  HoldsTested no_permanode = Unit {0}
  HoldsTested (permanode leaves in_set related) = HoldsTest leaves × Holds in_set × HoldsRelated related

  pub HoldsRelated : Related → Type 0
  HoldsRelated no_relation = Unit {0}
  HoldsRelated (relation kin any all) = Holds any × Holds all

abbrev pub HoldsQuestion : Question → Type 0
HoldsQuestion q = Holds q.constraint × IfSome (date_of q.at) HasText

-- the text of a valid query has no fault, and asks for what the query does
abbrev pub QueriesAreRead : Type 0
QueriesAreRead = (spell : Spelling) → SpellsDates spell → (q : Question) → HoldsQuestion q → IsValidQuestion q
    → (first_fault (query_text spell q) ≡ None) × (asks_for (query_text spell q) ≡ Some q)

-- there is a function that gives each date its one written text
abbrev pub DatesAreSpelled : Type 0
DatesAreSpelled = (spell : Spelling) × SpellsDates spell
