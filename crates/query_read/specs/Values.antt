-- What the objects of the query language ask for (docs/formats/queries.md), key by key.
use Rattle.std.specs.Prelude.{ℕ, zero, suc, ℤ, List, length, codes, Bool, true, Option, Some, None, option_and_then, unwrap_or, nat_le, nat_lt, ◌&&◌, if◌then◌else◌}
use Rattle.std.specs.Str.{bytes_eq}
use Rattle.serde_json.specs.Data.{Data}
use Rattle.serde_json.specs.Find.{get, as_bool, as_str}
use Rattle.schema_date.specs.Dates.{date_in}
use Rattle.schema_date.specs.declared.date.When.{When}
use Rattle.schema_date.specs.declared.date.When.TheVariants.{Always, At}
use Rattle.json_laws.specs.Json.{whole_in}
use Rattle.search_query.specs.declared.query.IntTest.{IntTest}
use Rattle.search_query.specs.declared.query.TextTest.{TextTest}
use Rattle.search_query.specs.declared.query.FileTest.{FileTest}
use Rattle.search_query.specs.declared.query.Op.{Op}
use Rattle.search_query.specs.declared.query.Op.TheVariants.{And, Or, Xor, Not}
use Rattle.search_query.specs.declared.query.Kin.{Kin}
use Rattle.search_query.specs.declared.query.Kin.TheVariants.{Parent, Child}
use Rattle.search_query.specs.declared.query.Sort.{Sort}
use Rattle.search_query.specs.declared.query.Sort.TheVariants.{Ref, Mod, ModDown}
use Rattle.search_query.specs.Mirror.{Leaves, TestLeaves, Asked, not_asked, asked, Joined, no_logical, logical, Tested, no_permanode, permanode, Related, no_relation, relation}
use Rattle.search_query.specs.View.{Question}

-- what is read under a key
abbrev pub under : {A : Type 0} → (Data → Option A) → List ℕ → Data → Option A
under reads key d = option_and_then reads (get key d)

-- Single values

-- the value true
abbrev pub true_in : Data → Option Bool
true_in d = option_and_then (λ b. if b then Some true else None) (as_bool d)

-- a text that isn't empty
abbrev pub name_in : Data → Option (List ℕ)
name_in d = option_and_then (λ name. if nat_lt 0 (length name) then Some name else None) (as_str d)

abbrev pub date_of : Data → Option ℤ
date_of d = option_and_then date_in (as_str d)

abbrev pub op_named : List ℕ → Option Op
op_named text =
    if bytes_eq text (codes "and") then Some And
    else if bytes_eq text (codes "or") then Some Or
    else if bytes_eq text (codes "xor") then Some Xor
    else if bytes_eq text (codes "not") then Some Not
    else None

abbrev pub op_in : Data → Option Op
op_in d = option_and_then op_named (as_str d)

abbrev pub kin_named : List ℕ → Option Kin
kin_named text =
    if bytes_eq text (codes "parent") then Some Parent
    else if bytes_eq text (codes "child") then Some Child
    else None

abbrev pub kin_in : Data → Option Kin
kin_in d = option_and_then kin_named (as_str d)

abbrev pub sort_named : List ℕ → Option Sort
sort_named text =
    if bytes_eq text (codes "blobref") then Some Ref
    else if bytes_eq text (codes "mod") then Some Mod
    else if bytes_eq text (codes "-mod") then Some ModDown
    else None

abbrev pub sort_in : Data → Option Sort
sort_in d = option_and_then sort_named (as_str d)

-- a whole number of 1 to 1,000,000
abbrev pub limit_in : Data → Option ℕ
limit_in d = option_and_then (λ n. if nat_le 1 n && nat_le n 1000000 then Some n else None) (whole_in d)

-- Objects outside the cycle

abbrev pub int_test_of : Data → IntTest
int_test_of d = record { min = under whole_in (codes "min") d; max = under whole_in (codes "max") d }

abbrev pub int_test_in : Data → Option IntTest
int_test_in d = Some (int_test_of d)

abbrev pub text_test_of : Data → TextTest
text_test_of d = record {
  equals = under as_str (codes "equals") d;
  contains = under as_str (codes "contains") d;
  has_prefix = under as_str (codes "hasPrefix") d;
  has_suffix = under as_str (codes "hasSuffix") d;
  empty = under as_bool (codes "empty") d;
  byte_length = under int_test_in (codes "byteLength") d;
}

abbrev pub text_test_in : Data → Option TextTest
text_test_in d = Some (text_test_of d)

abbrev pub file_test_of : Data → FileTest
file_test_of d = record {
  file_name = under text_test_in (codes "fileName") d;
  file_size = under int_test_in (codes "fileSize") d;
}

abbrev pub file_test_in : Data → Option FileTest
file_test_in d = Some (file_test_of d)

-- Constraints: `inner` is what the constraints within ask

abbrev pub asked_in : (Data → Asked) → Option Data → Asked
asked_in inner None = not_asked
asked_in inner (Some d) = inner d

abbrev pub joined_of : (Data → Asked) → Data → Joined
joined_of inner d =
    logical (under op_in (codes "op") d) (asked_in inner (get (codes "a") d)) (asked_in inner (get (codes "b") d))

abbrev pub joined_in : (Data → Asked) → Option Data → Joined
joined_in inner None = no_logical
joined_in inner (Some d) = joined_of inner d

abbrev pub related_of : (Data → Asked) → Data → Related
related_of inner d =
    relation (under kin_in (codes "relation") d)
    (asked_in inner (get (codes "any") d)) (asked_in inner (get (codes "all") d))

abbrev pub related_in : (Data → Asked) → Option Data → Related
related_in inner None = no_relation
related_in inner (Some d) = related_of inner d

abbrev pub test_leaves_in : Data → TestLeaves
test_leaves_in d = record {
  at = under date_of (codes "at") d;
  attr = under name_in (codes "attr") d;
  value = under as_str (codes "value") d;
  value_matches = under text_test_in (codes "valueMatches") d;
  num_value = under int_test_in (codes "numValue") d;
}

abbrev pub tested_of : (Data → Asked) → Data → Tested
tested_of inner d =
    permanode (test_leaves_in d)
    (asked_in inner (get (codes "valueInSet") d)) (related_in inner (get (codes "relation") d))

abbrev pub tested_in : (Data → Asked) → Option Data → Tested
tested_in inner None = no_permanode
tested_in inner (Some d) = tested_of inner d

abbrev pub leaves_in : Data → Leaves
leaves_in d = record {
  anything = under true_in (codes "anything") d;
  camli_type = under as_str (codes "camliType") d;
  blob_ref_prefix = under as_str (codes "blobRefPrefix") d;
  blob_size = under int_test_in (codes "blobSize") d;
  file = under file_test_in (codes "file") d;
}

abbrev pub parts_of : (Data → Asked) → Data → Asked
parts_of inner d =
    asked (joined_in inner (get (codes "logical") d)) (leaves_in d) (tested_in inner (get (codes "permanode") d))

-- what a constraint asks that may nest so many deep
abbrev pub constraint_of : ℕ → Data → Asked
constraint_of zero d = not_asked
constraint_of (suc n) d = parts_of (constraint_of n) d

-- Queries

abbrev pub when_of : Option ℤ → When
when_of None = Always
when_of (Some date) = At date

-- a missing limit is 200, a missing order `blobref`, a missing date Always
abbrev pub question_of : ℕ → Data → Question
question_of n d = record {
  constraint = asked_in (constraint_of n) (get (codes "constraint") d);
  limit = unwrap_or (under limit_in (codes "limit") d) 200;
  sort = unwrap_or (under sort_in (codes "sort") d) Ref;
  at = when_of (under date_of (codes "at") d);
}
