-- The bytes of written schema blobs: objects without white space, whose pairs stand in one order, and a line feed.
use Rattle.std.specs.Prelude.{ℕ, ◌==◌, List, [], ◌∷◌, ◌++◌, codes, decimal, map, if◌then◌else◌}
use Rattle.hex.specs.Hex.{encode_lower}
use Rattle.json.specs.Print.{quoted}
use Rattle.serde_json.specs.Data.{string, number, unsigned, array, object}
use Rattle.json_laws.specs.Written.{Pair, Item, object_text, payload_text, list_text, members_of, items_of}
use Rattle.json_laws.specs.Signing.{signed_text}
use Rattle.schema_fact.specs.declared.changes.Act.{Act}
use Rattle.schema_fact.specs.declared.changes.Act.TheVariants as act
use Rattle.schema_fact.specs.declared.changes.Change.{Change}
use Rattle.schema_fact.specs.declared.kinds.What.{What}
use Rattle.schema_fact.specs.declared.kinds.What.TheVariants.{Set, Add, Del, Delete, Multi}
use Rattle.schema_fact.specs.declared.parts.Part.{Part}
use Rattle.schema_fact.specs.declared.parts.Origin.{Origin}
use Rattle.schema_fact.specs.declared.parts.Origin.TheVariants.{Zeros, Blob, Tree}

-- a key with a text, and with a whole number
abbrev pub text_pair : List ℕ → List ℕ → Pair
text_pair key text = record { key = key; text = quoted text; value = string text }

abbrev pub number_pair : List ℕ → ℕ → Pair
number_pair key n = record { key = key; text = decimal n; value = number (unsigned n) }

-- the pairs of a schema object of this type, with these behind
abbrev pub schema_pairs : List ℕ → List Pair → List Pair
schema_pairs type pairs = number_pair (codes "camliVersion") 1 ∷ text_pair (codes "camliType") type ∷ pairs

-- an object's text and a line feed
abbrev pub object_line : List Pair → List ℕ
object_line pairs = object_text pairs ++ codes "\n"

-- ---- parts

-- the ref of a part's origin, if it has one
abbrev pub origin_pairs : Origin → List Pair
origin_pairs Zeros = []
origin_pairs (Blob r) = text_pair (codes "blobRef") r ∷ []
origin_pairs (Tree r) = text_pair (codes "bytesRef") r ∷ []

-- an offset of 0 is left out
abbrev pub offset_pairs : ℕ → List Pair
offset_pairs offset = if offset == 0 then [] else number_pair (codes "offset") offset ∷ []

abbrev pub part_pairs : Part → List Pair
part_pairs part = origin_pairs part.origin ++ number_pair (codes "size") part.size ∷ offset_pairs part.offset

abbrev pub part_item : Part → Item
part_item part = record { text = object_text (part_pairs part); value = object (members_of (part_pairs part)) }

abbrev pub parts_pair : List Part → Pair
parts_pair parts =
    record { key = codes "parts"; text = list_text (map part_item parts); value = array (items_of (map part_item parts)) }

-- ---- files

abbrev pub bytes_pairs : List Part → List Pair
bytes_pairs parts = schema_pairs (codes "bytes") (parts_pair parts ∷ [])

abbrev pub file_pairs : List ℕ → List Part → List Pair
file_pairs name parts = schema_pairs (codes "file") (text_pair (codes "fileName") name ∷ parts_pair parts ∷ [])

-- the blob of these parts
unfoldable pub bytes_blob : List Part → List ℕ
bytes_blob parts = object_line (bytes_pairs parts)

-- the blob of the file of this name and these parts
unfoldable pub file_blob : List ℕ → List Part → List ℕ
file_blob name parts = object_line (file_pairs name parts)

-- ---- what is signed

abbrev pub permanode_pairs : List ℕ → List ℕ → List Pair
permanode_pairs signer random =
    schema_pairs (codes "permanode") (text_pair (codes "camliSigner") signer ∷ text_pair (codes "random") (encode_lower random) ∷ [])

-- the payload of a permanode, by its signer and its random bytes
unfoldable pub permanode_payload : List ℕ → List ℕ → List ℕ
permanode_payload signer random = payload_text (permanode_pairs signer random)

abbrev pub claim_type : What → List ℕ
claim_type (Set on attr value) = codes "set-attribute"
claim_type (Add on attr value) = codes "add-attribute"
claim_type (Del on attr value) = codes "del-attribute"
claim_type (Delete target) = codes "delete"
claim_type (Multi changes) = codes "multi"

-- an empty value of a del-attribute claim is left out
abbrev pub value_pairs : List ℕ → List Pair
value_pairs [] = []
value_pairs (c ∷ cs) = text_pair (codes "value") (c ∷ cs) ∷ []

abbrev pub change_pairs : List ℕ → List ℕ → List Pair → List Pair
change_pairs on attr value = text_pair (codes "permaNode") on ∷ text_pair (codes "attribute") attr ∷ value

abbrev pub act_type : Act → List ℕ
act_type act.Set = codes "set-attribute"
act_type act.Add = codes "add-attribute"
act_type act.Del = codes "del-attribute"

abbrev pub act_values : Act → List ℕ → List Pair
act_values act.Set value = text_pair (codes "value") value ∷ []
act_values act.Add value = text_pair (codes "value") value ∷ []
act_values act.Del value = value_pairs value

-- the object of a change
abbrev pub change_object : Change → List Pair
change_object change =
    text_pair (codes "changeType") (act_type change.act)
    ∷ change_pairs change.on change.attr (act_values change.act change.value)

abbrev pub change_item : Change → Item
change_item change =
    record { text = object_text (change_object change); value = object (members_of (change_object change)) }

abbrev pub changes_pair : List Change → Pair
changes_pair changes = record {
  key = codes "changes";
  text = list_text (map change_item changes);
  value = array (items_of (map change_item changes));
}

abbrev pub what_pairs : What → List Pair
what_pairs (Set on attr value) = change_pairs on attr (text_pair (codes "value") value ∷ [])
what_pairs (Add on attr value) = change_pairs on attr (text_pair (codes "value") value ∷ [])
what_pairs (Del on attr value) = change_pairs on attr (value_pairs value)
what_pairs (Delete target) = text_pair (codes "target") target ∷ []
what_pairs (Multi changes) = changes_pair changes ∷ []

-- the pairs that each claim begins with
abbrev pub start_pairs : List ℕ → List ℕ → List ℕ → List Pair
start_pairs signer date type =
    schema_pairs (codes "claim")
    (text_pair (codes "camliSigner") signer ∷ text_pair (codes "claimDate") date ∷ text_pair (codes "claimType") type ∷ [])

abbrev pub claim_pairs : List ℕ → List ℕ → What → List Pair
claim_pairs signer date what = start_pairs signer date (claim_type what) ++ what_pairs what

-- the payload of a claim, by its signer, the text of its date and what it says
unfoldable pub claim_payload : List ℕ → List ℕ → What → List ℕ
claim_payload signer date what = payload_text (claim_pairs signer date what)

-- a payload and its signature, in 64 digits
unfoldable pub signed : List ℕ → List ℕ → List ℕ
signed payload sig = signed_text payload (encode_lower sig) (codes "\n")
