-- What a blob says: the first kind whose conditions it meets.
use Rattle.std.specs.Prelude.{ℕ, ℤ, ◌-◌, List, [], ◌∷◌, ◌++◌, codes, length, take, drop, Option, Some, None, is_none, nat_lt, option_and_then, option_map, unwrap_or, if◌then◌else◌}
use Rattle.std.specs.Str.{bytes_eq}
use Rattle.serde_json.specs.Data.{Data, Items, no_items, item}
use Rattle.serde_json.specs.Find.{get, as_array}
use Rattle.claim_verify.specs.KeyName.{key_name_in}
use Rattle.schema_date.specs.Dates.{date_in}
use Rattle.json_laws.specs.Json.{json_in}
use Rattle.schema_json.specs.Fields.{text_at, text_or_empty, ref_at, refs_at, type_of, has_type}
use Rattle.schema_json.specs.Parts.{part_list_of}
use Rattle.schema_json.specs.Signing.{signed_in}
use Rattle.schema_fact.specs.Limits.{is_change_count}
use Rattle.schema_fact.specs.declared.changes.Act.{Act}
use Rattle.schema_fact.specs.declared.changes.Act.TheVariants as act
use Rattle.schema_fact.specs.declared.changes.Change.{Change}
use Rattle.schema_fact.specs.declared.kinds.Signed.{Signed}
use Rattle.schema_fact.specs.declared.kinds.What.{What}
use Rattle.schema_fact.specs.declared.kinds.What.TheVariants.{Set, Add, Del, Delete, Multi}
use Rattle.schema_fact.specs.declared.kinds.Kind.{Kind}
use Rattle.schema_fact.specs.declared.kinds.Kind.TheVariants.{Plain, Key, File, Bytes, Directory, StaticSet, Permanode, Claim, Unread}
use Rattle.schema_fact.specs.declared.kinds.Fact.{Fact}

-- Keys

-- the blob of the key with this name
abbrev pub key_blob : List ℕ → List ℕ
key_blob name = codes "perkeep-hmac-sha256 " ++ name ++ codes "\n"

-- a blob's bytes between the first 20 and the last one
abbrev pub within_key : List ℕ → List ℕ
within_key bytes = drop 20 (take (length bytes - 1) bytes)

-- the name of the key whose blob it is
abbrev pub key_in : List ℕ → Option (List ℕ)
key_in bytes = if bytes_eq bytes (key_blob (within_key bytes)) then key_name_in (within_key bytes) else None

-- Files, directories and sets

-- a missing `fileName` is the empty one
abbrev pub file_name_of : Data → Option (List ℕ)
file_name_of d = text_or_empty (get (codes "fileName") d)

abbrev pub file_kind : Data → Option Kind
file_kind d = option_and_then (λ name. option_map (File name) (part_list_of d)) (file_name_of d)

abbrev pub bytes_kind : Data → Option Kind
bytes_kind d = option_map Bytes (part_list_of d)

abbrev pub directory_kind : Data → Option Kind
directory_kind d = option_and_then (λ name. option_map (Directory name) (ref_at (codes "entries") d)) (file_name_of d)

-- a set that merges others is not read
abbrev pub set_kind : Data → Option Kind
set_kind d = if is_none (get (codes "mergeSets") d) then option_map StaticSet (refs_at (codes "members") d) else None

-- Permanodes and claims

abbrev pub permanode_of : Data → Signed → Option Kind
permanode_of d signed = if has_type (codes "permanode") d then Some (Permanode signed) else None

abbrev pub permanode_kind : List ℕ → Option Kind
permanode_kind bytes = option_and_then (λ found. permanode_of found.0 found.1) (signed_in bytes)

-- the attribute of a claim, a text that is not empty
abbrev pub attribute_of : Data → Option (List ℕ)
attribute_of d = option_and_then (λ name. if nat_lt 0 (length name) then Some name else None) (text_at (codes "attribute") d)

-- a change that does this with this value: `permaNode` a ref, `attribute`, and the value
abbrev pub change_by : Act → Option (List ℕ) → Data → Option Change
change_by act value d =
    option_and_then (λ on.
    option_and_then (λ attr.
    option_map (λ text. record { on = on; act = act; attr = attr; value = text }) value)
    (attribute_of d))
    (ref_at (codes "permaNode") d)

abbrev pub set_change : Data → Option Change
set_change d = change_by act.Set (text_at (codes "value") d) d

abbrev pub add_change : Data → Option Change
add_change d = change_by act.Add (text_at (codes "value") d) d

-- a missing `value` is the empty one
abbrev pub del_change : Data → Option Change
del_change d = change_by act.Del (text_or_empty (get (codes "value") d)) d

abbrev pub set_of : Data → Option What
set_of d = option_map (λ change. Set change.on change.attr change.value) (set_change d)

abbrev pub add_of : Data → Option What
add_of d = option_map (λ change. Add change.on change.attr change.value) (add_change d)

abbrev pub del_of : Data → Option What
del_of d = option_map (λ change. Del change.on change.attr change.value) (del_change d)

-- a change of this `changeType`
abbrev pub change_typed : List ℕ → Data → Option Change
change_typed type d =
    if bytes_eq type (codes "set-attribute") then set_change d
    else if bytes_eq type (codes "add-attribute") then add_change d
    else if bytes_eq type (codes "del-attribute") then del_change d
    else None

abbrev pub change_in : Data → Option Change
change_in d = option_and_then (λ type. change_typed type d) (text_at (codes "changeType") d)

-- each item a change
abbrev pub changes_in : Items → Option (List Change)
changes_in no_items = Some []
changes_in (item d ds) =
    option_and_then (λ change. option_map (λ changes. change ∷ changes) (changes_in ds)) (change_in d)

-- a list of changes, within the limits
abbrev pub change_list_of : Items → Option (List Change)
change_list_of items =
    option_and_then (λ changes. if is_change_count (length changes) then Some changes else None) (changes_in items)

-- a claim of the changes under `changes`
abbrev pub multi_of : Data → Option What
multi_of d = option_map Multi (option_and_then change_list_of (option_and_then as_array (get (codes "changes") d)))

abbrev pub delete_of : Data → Option What
delete_of d = option_map Delete (ref_at (codes "target") d)

-- what a claim of this `claimType` says
abbrev pub what_by : List ℕ → Data → Option What
what_by type d =
    if bytes_eq type (codes "set-attribute") then set_of d
    else if bytes_eq type (codes "add-attribute") then add_of d
    else if bytes_eq type (codes "del-attribute") then del_of d
    else if bytes_eq type (codes "delete") then delete_of d
    else if bytes_eq type (codes "multi") then multi_of d
    else None

abbrev pub what_of : Data → Option What
what_of d = option_and_then (λ type. what_by type d) (text_at (codes "claimType") d)

abbrev pub date_of : Data → Option ℤ
date_of d = option_and_then date_in (text_at (codes "claimDate") d)

-- a claim: its payload's object has the type, a date and what it says
abbrev pub claim_of : Data → Signed → Option Kind
claim_of d signed =
    if has_type (codes "claim") d
    then option_and_then (λ date. option_map (Claim signed date) (what_of d)) (date_of d)
    else None

abbrev pub claim_kind : List ℕ → Option Kind
claim_kind bytes = option_and_then (λ found. claim_of found.0 found.1) (signed_in bytes)

-- the list of changes that a text is
abbrev pub change_list_in : List ℕ → Option (List Change)
change_list_in bytes = option_and_then change_list_of (option_and_then as_array (json_in bytes))

-- All kinds

-- what a blob says that must be signed
abbrev pub signed_kind : List ℕ → List ℕ → Option Kind
signed_kind type bytes =
    if bytes_eq type (codes "permanode") then permanode_kind bytes
    else if bytes_eq type (codes "claim") then claim_kind bytes
    else None

-- what the blob of an object of this type says, where it meets the conditions of the type
abbrev pub known_kind : List ℕ → List ℕ → Data → Option Kind
known_kind type bytes d =
    if bytes_eq type (codes "file") then file_kind d
    else if bytes_eq type (codes "bytes") then bytes_kind d
    else if bytes_eq type (codes "directory") then directory_kind d
    else if bytes_eq type (codes "static-set") then set_kind d
    else signed_kind type bytes

-- a schema object that meets no conditions is unread, and what is no schema object is plain
abbrev pub object_kind : List ℕ → Data → Kind
object_kind bytes d = unwrap_or (option_map (λ type. unwrap_or (known_kind type bytes d) (Unread type)) (type_of d)) Plain

-- a blob of more than 1,048,576 bytes is plain
abbrev pub schema_kind : List ℕ → Kind
schema_kind bytes = if nat_lt 1048576 (length bytes) then Plain else unwrap_or (option_map (object_kind bytes) (json_in bytes)) Plain

abbrev pub kind_of : List ℕ → Kind
kind_of bytes = unwrap_or (option_map Key (key_in bytes)) (schema_kind bytes)

unfoldable pub fact_of : List ℕ → Fact
fact_of bytes = record { size = length bytes; kind = kind_of bytes }
