-- The refs that a text asks for by number: `blob1`, `blob2` and so on.
use Rattle.std.specs.Prelude.{ℕ, List, ◌++◌, map, codes, decimal, Option, Some, None}
use Rattle.std.specs.List.{range_with_len}
use Rattle.blobref.specs.Blobref.{blobref_in}
use Rattle.blob_routes.specs.declared.places.AskedRef.{AskedRef}
use Rattle.blob_routes.specs.declared.places.AskedRef.TheVariants.{Missing, Wrong, Right}
use Rattle.http_exchange.specs.Parameters.{first_value}

-- the name under which the ref of this number is asked
abbrev pub name_of : ℕ → List ℕ
name_of n = codes "blob" ++ decimal n

abbrev pub ref_or_wrong : Option (List ℕ) → AskedRef
ref_or_wrong None = Wrong
ref_or_wrong (Some r) = Right r

abbrev pub place_of : Option (List ℕ) → AskedRef
place_of None = Missing
place_of (Some text) = ref_or_wrong (blobref_in text)

-- what is asked under a number
abbrev pub asked_at : List (List ℕ × List ℕ) → ℕ → AskedRef
asked_at pairs n = place_of (first_value (name_of n) pairs)

-- what is asked under the numbers from 1 to this one
unfoldable pub places_of : ℕ → List (List ℕ × List ℕ) → List AskedRef
places_of most pairs = map (asked_at pairs) (range_with_len 1 most)
