-- Part lists: the parts of which a file is made.
use Rattle.std.specs.Prelude.{ℕ, List, [], ◌∷◌, Option, Some, None, codes, option_and_then, option_map, if◌then◌else◌}
use Rattle.serde_json.specs.Data.{Data, Items, no_items, item}
use Rattle.serde_json.specs.Find.{get, as_array}
use Rattle.schema_json.specs.Fields.{ref_in, whole_at, whole_or_zero}
use Rattle.schema_fact.specs.Limits.{is_length, total_size}
use Rattle.schema_fact.specs.declared.parts.Origin.{Origin}
use Rattle.schema_fact.specs.declared.parts.Origin.TheVariants.{Zeros, Blob, Tree}
use Rattle.schema_fact.specs.declared.parts.Part.{Part}

-- a whole number within the limit
abbrev pub length_in : Option ℕ → Option ℕ
length_in found = option_and_then (λ n. if is_length n then Some n else None) found

-- an origin by the values under `blobRef` and `bytesRef`: at most one may stand, and it is a ref. Where none stands the part is zeros.
abbrev pub origin_of : Option Data → Option Data → Option Origin
origin_of None None = Some Zeros
origin_of (Some blob) None = option_map Blob (ref_in blob)
origin_of None (Some tree) = option_map Tree (ref_in tree)
origin_of (Some blob) (Some tree) = None

abbrev pub origin_in : Data → Option Origin
origin_in d = origin_of (get (codes "blobRef") d) (get (codes "bytesRef") d)

-- a part: an object with `size`, optionally `offset`, and an origin
abbrev pub part_in : Data → Option Part
part_in d =
    option_and_then (λ size.
    option_and_then (λ offset.
    option_map (λ origin. record { size = size; offset = offset; origin = origin })
    (origin_in d))
    (length_in (whole_or_zero (get (codes "offset") d))))
    (length_in (whole_at (codes "size") d))

-- each item a part
abbrev pub parts_of : Items → Option (List Part)
parts_of no_items = Some []
parts_of (item d ds) = option_and_then (λ part. option_map (λ parts. part ∷ parts) (parts_of ds)) (part_in d)

-- the part list under `parts`
abbrev pub part_list_of : Data → Option (List Part)
part_list_of d =
    option_and_then (λ parts. if is_length (total_size parts) then Some parts else None)
    (option_and_then parts_of (option_and_then as_array (get (codes "parts") d)))
