-- Blobs that a store is given: all of them, or none where memory is short.
use Rattle.std.specs.Prelude.{◌≡◌, ℕ, List, [], ◌∷◌, ◌++◌, take, if◌then◌else◌}
use Rattle.std.specs.FinMap.{contains_key}
use Rattle.edge_base.specs.Shelf.{Blob, Blobs, with_blobs}
use Rattle.replica_ring.specs.Rings.{is_valid}

-- a blob, unless its ref is there
abbrev pub unless_there : Blobs → Blob → List Blob
unless_there held blob = if contains_key held blob.0 then [] else blob ∷ []

-- a ref that isn't there
abbrev pub absent_ref : Blobs → List ℕ → List (List ℕ)
absent_ref held r = if contains_key held r then [] else r ∷ []

-- the refs of blobs that aren't there
abbrev pub absent_refs : Blobs → List Blob → List (List ℕ)
absent_refs held [] = []
absent_refs held (blob ∷ blobs) = absent_ref held blob.0 ++ absent_refs held blobs

-- a blob, if a store takes it
abbrev pub if_valid : Blob → List Blob
if_valid blob = if is_valid blob then blob ∷ [] else []

abbrev pub valid_blobs : List Blob → List Blob
valid_blobs [] = []
valid_blobs (blob ∷ blobs) = if_valid blob ++ valid_blobs blobs

-- a front of them was kept
abbrev pub TookFront : Blobs → Blobs → List Blob → Type 0
TookFront old now blobs = (n : ℕ) × (now ≡ with_blobs old (take n blobs))
