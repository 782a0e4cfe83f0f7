-- Blobs that are checked together.
use Rattle.std.specs.Prelude.{◌≡◌, ℕ, Bool, List, [], map, nat_eq, slice_index_or}
use Rattle.std.specs.Cmp.Lexicographic.{pointwise}
use Rattle.blobref.specs.Blobref.{ref_of}
use Rattle.edge_base.specs.Shelf.{Blob}

-- the bytes of the blob at a place, and none past the last
abbrev pub bytes_at : List Blob → ℕ → List ℕ
bytes_at blobs i = slice_index_or (map (λ (b : Blob). b.1) blobs) i []

-- the ref is the one that a new blob of these bytes has
abbrev pub IsNamed : Blob → Type 0
IsNamed blob = blob.0 ≡ ref_of blob.1

-- whether it is
abbrev pub is_named : Blob → Bool
is_named blob = pointwise nat_eq blob.0 (ref_of blob.1)
