-- The fields of JSON objects that facts are made of, over what serde_json reads.
use Rattle.std.specs.Prelude.{ℕ, ◌==◌, List, [], ◌∷◌, Bool, false, not, Option, Some, None, codes, option_and_then, option_map, unwrap_or, if◌then◌else◌}
use Rattle.std.specs.List.{find}
use Rattle.std.specs.Str.{bytes_eq}
use Rattle.json.specs.Word.{is_space}
use Rattle.serde_json.specs.Data.{Data, Items, no_items, item}
use Rattle.serde_json.specs.Find.{get, as_str, as_array}
use Rattle.json_laws.specs.Json.{whole_in}
use Rattle.blobref.specs.Blobref.{blobref_in}

-- the first byte that is no white space is a brace, as in the text of an object
abbrev pub begins_object : List ℕ → Bool
begins_object bytes = unwrap_or (option_map (λ c. c == 123) (find (λ c. not (is_space c)) bytes)) false

-- the text under a key
abbrev pub text_at : List ℕ → Data → Option (List ℕ)
text_at key d = option_and_then as_str (get key d)

-- the text under a key, or the empty one where there is no such key
abbrev pub text_or_empty : Option Data → Option (List ℕ)
text_or_empty None = Some []
text_or_empty (Some d) = as_str d

-- the whole number under a key
abbrev pub whole_at : List ℕ → Data → Option ℕ
whole_at key d = option_and_then whole_in (get key d)

-- the whole number under a key, or zero where there is no such key
abbrev pub whole_or_zero : Option Data → Option ℕ
whole_or_zero None = Some 0
whole_or_zero (Some d) = whole_in d

-- a ref: a text that is a blobref
abbrev pub ref_in : Data → Option (List ℕ)
ref_in d = option_and_then blobref_in (as_str d)

-- the ref under a key
abbrev pub ref_at : List ℕ → Data → Option (List ℕ)
ref_at key d = option_and_then ref_in (get key d)

-- a list of refs
abbrev pub refs_of : Items → Option (List (List ℕ))
refs_of no_items = Some []
refs_of (item d ds) = option_and_then (λ r. option_map (λ rs. r ∷ rs) (refs_of ds)) (ref_in d)

-- the list of refs under a key
abbrev pub refs_at : List ℕ → Data → Option (List (List ℕ))
refs_at key d = option_and_then refs_of (option_and_then as_array (get key d))

-- the `camliType` of a schema object, one whose `camliVersion` is the whole number 1
abbrev pub type_of : Data → Option (List ℕ)
type_of d = option_and_then (λ version. if version == 1 then text_at (codes "camliType") d else None) (whole_at (codes "camliVersion") d)

-- whether it is a schema object of this type
abbrev pub has_type : List ℕ → Data → Bool
has_type name d = unwrap_or (option_map (λ type. bytes_eq type name) (type_of d)) false
