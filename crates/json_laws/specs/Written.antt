-- JSON texts (RFC 8259) that are written piece by piece without white space, and what `serde_json` reads them as.
use Rattle.std.specs.Prelude.{◌≡◌, ◌<◌, ◌^◌, decimal, Bool, true, false, not, ℕ, suc, List, [], ◌∷◌, ◌++◌, codes, fold, Option, Some, None, option_and_then, bytes_eq, if◌then◌else◌}
use Rattle.std.specs.List.{list_all, join_by}
use Rattle.std.specs.Option.{option_or}
use Rattle.std.specs.Str.{IsUtf8}
use Rattle.json.specs.Lex.{tokens}
use Rattle.json.specs.Json as json
use Rattle.json.specs.Print.{quoted}
use Rattle.json.specs.Word.{is_space}
use Rattle.serde_json.specs.Data.{Data, string, number, unsigned, boolean, array, object, Items, no_items, item, Members, no_members, put}
use Rattle.serde_json.specs.Find.{get}
use Rattle.serde_json.specs.Read.{of_json, read}

-- what a text reads as where its arrays and objects may nest this deep; `serde_json` reads within 127
abbrev pub read_within : ℕ → List ℕ → Option Data
read_within n text = option_and_then of_json (option_and_then (λ p. json.if_last p.0 p.1) (json.value n (tokens text)))

-- ---- objects

-- a key, the text that is written as its value, and the value that this text stands for
pub record Pair : Type 0 where
  pub key : List ℕ
  pub text : List ℕ
  pub value : Data

-- the key as a JSON string, a colon, and the text
abbrev pub pair_text : Pair → List ℕ
pair_text p = quoted p.key ++ codes ":" ++ p.text

-- an object's text without its last brace: the pairs in a row, with a comma before each but the first
abbrev pub payload_text : List Pair → List ℕ
payload_text ps = codes "{" ++ join_by pair_text (codes ",") ps

abbrev pub object_text : List Pair → List ℕ
object_text ps = payload_text ps ++ codes "}"

-- each text reads as its value, and nests at most this deep
abbrev pub ValuesReadWithin : ℕ → List Pair → Type 0
ValuesReadWithin n [] = Unit {0}
ValuesReadWithin n (p ∷ ps) = (read_within n p.text ≡ Some p.value) × ValuesReadWithin n ps

-- so deep that an object of them is read
abbrev pub ValuesAreRead : List Pair → Type 0
ValuesAreRead ps = ValuesReadWithin 126 ps

-- the members of the object: the pairs, put in one after the other
abbrev pub members_of : List Pair → Members
members_of ps = fold (λ found p. put p.key p.value found) no_members ps

-- the value of the last pair with this key
abbrev pub last_value : List ℕ → List Pair → Option Data
last_value k [] = None
last_value k (p ∷ ps) = option_or (last_value k ps) (if bytes_eq k p.key then Some p.value else None)

-- an object that is written pair by pair, in any order of keys, reads as the object of its pairs
abbrev pub ObjectsAreRead : Type 0
ObjectsAreRead = (ps : List Pair) → ValuesAreRead ps → read (object_text ps) ≡ Some (object (members_of ps))

-- an object nests one deeper than its values
abbrev pub ObjectsNest : Type 0
ObjectsNest = (n : ℕ) (ps : List Pair) → ValuesReadWithin n ps → read_within (suc n) (object_text ps) ≡ Some (object (members_of ps))

-- and under each key stands the value of the last pair with that key
abbrev pub MembersAreFound : Type 0
MembersAreFound = (ps : List Pair) (k : List ℕ) → get k (object (members_of ps)) ≡ last_value k ps

-- so a pair is found whose key does not come again; where keys are distinct, each is
abbrev pub PairsAreFound : Type 0
PairsAreFound = (before after : List Pair) (p : Pair) → list_all (λ q. not (bytes_eq p.key q.key)) after ≡ true → get p.key (object (members_of (before ++ p ∷ after))) ≡ Some p.value

-- ---- lists

-- the text that is written as an item of a list, and the value that this text stands for
pub record Item : Type 0 where
  pub text : List ℕ
  pub value : Data

abbrev pub list_text : List Item → List ℕ
list_text is = codes "[" ++ join_by (λ i. i.text) (codes ",") is ++ codes "]"

-- each text reads as its value, and nests at most this deep
abbrev pub ItemsReadWithin : ℕ → List Item → Type 0
ItemsReadWithin n [] = Unit {0}
ItemsReadWithin n (i ∷ is) = (read_within n i.text ≡ Some i.value) × ItemsReadWithin n is

-- so deep that a list of them is read
abbrev pub ItemsAreRead : List Item → Type 0
ItemsAreRead is = ItemsReadWithin 126 is

abbrev pub items_of : List Item → Items
items_of [] = no_items
items_of (i ∷ is) = item i.value (items_of is)

-- a list that is written item by item reads as the list of the values
abbrev pub ListsAreRead : Type 0
ListsAreRead = (is : List Item) → ItemsAreRead is → read (list_text is) ≡ Some (array (items_of is))

-- a list nests one deeper than its items
abbrev pub ListsNest : Type 0
ListsNest = (n : ℕ) (is : List Item) → ItemsReadWithin n is → read_within (suc n) (list_text is) ≡ Some (array (items_of is))

-- ---- texts, whole numbers and truth values, and white space

-- a JSON string, as it is written for a text, reads as that text
abbrev pub TextsAreRead : Type 0
TextsAreRead = (n : ℕ) (s : List ℕ) → read_within n (quoted s) ≡ Some (string s)

-- the decimal digits of a number below 2^64 read as that number
abbrev pub NumbersAreRead : Type 0
NumbersAreRead = (n k : ℕ) → k < 2 ^ 64 → read_within n (decimal k) ≡ Some (number (unsigned k))

-- as a truth value is written
abbrev pub truth_text : Bool → List ℕ
truth_text true = codes "true"
truth_text false = codes "false"

-- a truth value, as it is written, reads as itself
abbrev pub TruthsAreRead : Type 0
TruthsAreRead = (n : ℕ) (b : Bool) → read_within n (truth_text b) ≡ Some (boolean b)

-- white space may follow a text that reads: spaces, tabs, line feeds and carriage returns
abbrev pub SpaceMayFollow : Type 0
SpaceMayFollow = (n : ℕ) (text space : List ℕ) (d : Data) → read_within n text ≡ Some d → list_all is_space space ≡ true → read_within n (text ++ space) ≡ Some d

-- ---- UTF-8

abbrev pub PairsAreUtf8 : List Pair → Type 0
PairsAreUtf8 [] = Unit {0}
PairsAreUtf8 (p ∷ ps) = IsUtf8 p.key × IsUtf8 p.text × PairsAreUtf8 ps

abbrev pub ItemsAreUtf8 : List Item → Type 0
ItemsAreUtf8 [] = Unit {0}
ItemsAreUtf8 (i ∷ is) = IsUtf8 i.text × ItemsAreUtf8 is

-- a JSON string of a UTF-8 text is UTF-8
abbrev pub TextsAreUtf8 : Type 0
TextsAreUtf8 = (s : List ℕ) → IsUtf8 s → IsUtf8 (quoted s)

-- a truth value's text is UTF-8
abbrev pub TruthsAreUtf8 : Type 0
TruthsAreUtf8 = (b : Bool) → IsUtf8 (truth_text b)

-- an object of UTF-8 keys and texts is UTF-8
abbrev pub ObjectsAreUtf8 : Type 0
ObjectsAreUtf8 = (ps : List Pair) → PairsAreUtf8 ps → IsUtf8 (object_text ps)

-- a list of UTF-8 texts is UTF-8
abbrev pub ListsAreUtf8 : Type 0
ListsAreUtf8 = (is : List Item) → ItemsAreUtf8 is → IsUtf8 (list_text is)
