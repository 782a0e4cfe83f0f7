-- The text of a query (docs/formats/queries.md): compact JSON whose keys stand in one order.
use Rattle.std.specs.Prelude.{◌≡◌, ℕ, ℤ, List, [], ◌∷◌, ◌++◌, codes, decimal, Bool, Option, Some, None, option_map}
use Rattle.json.specs.Print.{quoted}
use Rattle.serde_json.specs.Data.{string, number, unsigned, boolean, object}
use Rattle.json_laws.specs.Written.{Pair, Item, object_text, members_of, truth_text}
use Rattle.schema_date.specs.DateTexts.{IsDateText}
use Rattle.schema_date.specs.declared.date.When.{When}
use Rattle.schema_date.specs.declared.date.When.TheVariants.{Always, At}
use Rattle.search_query.specs.declared.query.IntTest.{IntTest}
use Rattle.search_query.specs.declared.query.TextTest.{TextTest}
use Rattle.search_query.specs.declared.query.FileTest.{FileTest}
use Rattle.search_query.specs.declared.query.Op.{Op}
use Rattle.search_query.specs.declared.query.Op.TheVariants.{And, Or, Xor, Not}
use Rattle.search_query.specs.declared.query.Kin.{Kin}
use Rattle.search_query.specs.declared.query.Kin.TheVariants.{Parent, Child}
use Rattle.search_query.specs.declared.query.Sort.{Sort}
use Rattle.search_query.specs.declared.query.Sort.TheVariants.{Ref, Mod, ModDown}
use Rattle.search_query.specs.Mirror.{Leaves, TestLeaves, Asked, not_asked, asked, Joined, no_logical, logical, Tested, no_permanode, permanode, Related, no_relation, relation}
use Rattle.search_query.specs.View.{Question}

-- Objects: an item is a text, and the JSON value that it stands for

-- a key, and what is written as its value, if the key is present
abbrev pub Field : Type 0
Field = List ℕ × Option Item

abbrev pub pairs_of : List ℕ → Option Item → List Pair
pairs_of key None = []
pairs_of key (Some item) = record { key = key; text = item.text; value = item.value } ∷ []

-- the pairs of the keys that are present
abbrev pub present : List Field → List Pair
present [] = []
present (f ∷ fs) = pairs_of f.0 f.1 ++ present fs

abbrev pub object_item : List Field → Item
object_item fs = record { text = object_text (present fs); value = object (members_of (present fs)) }

-- Single values

abbrev pub text_item : List ℕ → Item
text_item s = record { text = quoted s; value = string s }

abbrev pub number_item : ℕ → Item
number_item n = record { text = decimal n; value = number (unsigned n) }

abbrev pub truth_item : Bool → Item
truth_item b = record { text = truth_text b; value = boolean b }

abbrev pub op_name : Op → List ℕ
op_name And = codes "and"
op_name Or = codes "or"
op_name Xor = codes "xor"
op_name Not = codes "not"

abbrev pub kin_name : Kin → List ℕ
kin_name Parent = codes "parent"
kin_name Child = codes "child"

abbrev pub sort_name : Sort → List ℕ
sort_name Ref = codes "blobref"
sort_name Mod = codes "mod"
sort_name ModDown = codes "-mod"

abbrev pub Spelling : Type 0
Spelling = ℤ → List ℕ

-- it gives a date its one written text
abbrev pub SpellsDates : Spelling → Type 0
SpellsDates spell = (z : ℤ) (text : List ℕ) → IsDateText z text → spell z ≡ text

abbrev pub date_item : Spelling → ℤ → Item
date_item spell z = text_item (spell z)

-- Objects outside the cycle

abbrev pub int_test_fields : IntTest → List Field
int_test_fields test =
    (codes "min", option_map number_item test.min)
    ∷ (codes "max", option_map number_item test.max)
    ∷ []

abbrev pub int_test_item : IntTest → Item
int_test_item test = object_item (int_test_fields test)

abbrev pub text_test_fields : TextTest → List Field
text_test_fields test =
    (codes "equals", option_map text_item test.equals)
    ∷ (codes "contains", option_map text_item test.contains)
    ∷ (codes "hasPrefix", option_map text_item test.has_prefix)
    ∷ (codes "hasSuffix", option_map text_item test.has_suffix)
    ∷ (codes "empty", option_map truth_item test.empty)
    ∷ (codes "byteLength", option_map int_test_item test.byte_length)
    ∷ []

abbrev pub text_test_item : TextTest → Item
text_test_item test = object_item (text_test_fields test)

abbrev pub file_test_fields : FileTest → List Field
file_test_fields test =
    (codes "fileName", option_map text_test_item test.file_name)
    ∷ (codes "fileSize", option_map int_test_item test.file_size)
    ∷ []

abbrev pub file_test_item : FileTest → Item
file_test_item test = object_item (file_test_fields test)

-- Constraints

abbrev pub constraint_fields : Option Item → Leaves → Option Item → List Field
constraint_fields joined leaves tested =
    (codes "logical", joined)
    ∷ (codes "anything", option_map truth_item leaves.anything)
    ∷ (codes "camliType", option_map text_item leaves.camli_type)
    ∷ (codes "blobRefPrefix", option_map text_item leaves.blob_ref_prefix)
    ∷ (codes "blobSize", option_map int_test_item leaves.blob_size)
    ∷ (codes "file", option_map file_test_item leaves.file)
    ∷ (codes "permanode", tested)
    ∷ []

abbrev pub logical_fields : Option Op → Option Item → Option Item → List Field
logical_fields op a b =
    (codes "op", option_map (λ o. text_item (op_name o)) op) ∷ (codes "a", a) ∷ (codes "b", b) ∷ []

abbrev pub permanode_fields : Spelling → TestLeaves → Option Item → Option Item → List Field
permanode_fields spell leaves in_set related =
    (codes "at", option_map (date_item spell) leaves.at)
    ∷ (codes "attr", option_map text_item leaves.attr)
    ∷ (codes "value", option_map text_item leaves.value)
    ∷ (codes "valueMatches", option_map text_test_item leaves.value_matches)
    ∷ (codes "valueInSet", in_set)
    ∷ (codes "numValue", option_map int_test_item leaves.num_value)
    ∷ (codes "relation", related)
    ∷ []

abbrev pub relation_fields : Option Kin → Option Item → Option Item → List Field
relation_fields kin any all =
    (codes "relation", option_map (λ k. text_item (kin_name k)) kin) ∷ (codes "any", any) ∷ (codes "all", all) ∷ []

-- what is written for a part of a constraint, if it is there
abbrev mutual
  pub asked_item : Spelling → Asked → Option Item
  asked_item spell not_asked = None
  asked_item spell (asked joined leaves tested) =
      Some (object_item (constraint_fields (joined_item spell joined) leaves (tested_item spell tested)))

  pub joined_item : Spelling → Joined → Option Item
  joined_item spell no_logical = None
  joined_item spell (logical op a b) = Some (object_item (logical_fields op (asked_item spell a) (asked_item spell b)))

  pub tested_item : Spelling → Tested → Option Item
  tested_item spell no_permanode = None
  tested_item spell (permanode leaves in_set related) =
      Some (object_item (permanode_fields spell leaves (asked_item spell in_set) (related_item spell related)))

  pub related_item : Spelling → Related → Option Item
  related_item spell no_relation = None
  related_item spell (relation kin any all) =
      Some (object_item (relation_fields kin (asked_item spell any) (asked_item spell all)))

-- Queries

abbrev pub date_of : When → Option ℤ
date_of Always = None
date_of (At date) = Some date

-- the limit and the order always stand, the date only where there is one
abbrev pub question_fields : Spelling → Question → List Field
question_fields spell q =
    (codes "constraint", asked_item spell q.constraint)
    ∷ (codes "limit", Some (number_item q.limit))
    ∷ (codes "sort", Some (text_item (sort_name q.sort)))
    ∷ (codes "at", option_map (date_item spell) (date_of q.at))
    ∷ []

abbrev pub question_item : Spelling → Question → Item
question_item spell q = object_item (question_fields spell q)

-- the text of a query
abbrev pub query_text : Spelling → Question → List ℕ
query_text spell q = (question_item spell q).text
