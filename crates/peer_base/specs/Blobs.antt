-- What a peer holds, and its refs in their order.
use Rattle.std.specs.Prelude.{◌≡◌, ℕ, ◌≤◌, ◌<◌, ◌^◌, List, length, map, take, filter, true, T, Option, Some}
use Rattle.std.specs.List.{All}
use Rattle.std.specs.FinMap.{entries, get, is_sorted}
use Rattle.blobref.specs.Blobref.{ref_cmp, is_after}
use Rattle.edge_base.specs.Shelf.{Blob, Blobs, AreOwn, max_blob}

-- each stands under a ref of its own and is no longer than a blob may be
pub record AreBlobs (held : Blobs) : Type 0 where
  pub own : AreOwn held
  pub small : (r bytes : List ℕ) → get held r ≡ Some bytes → length bytes ≤ max_blob

-- and their count is a u64
pub record AreHeld (held : Blobs) : Type 0 where
  pub blobs : AreBlobs held
  pub few : length (entries held) < 2 ^ 64

-- a ref with the size of its blob
abbrev pub sized : Blob → List ℕ × ℕ
sized blob = (blob.0, length blob.1)

-- the refs with the sizes of their blobs
abbrev pub sizes_of : Blobs → List (List ℕ × ℕ)
sizes_of held = map sized (entries held)

-- so many of those whose refs are greater
abbrev pub listed : Option (List ℕ) → ℕ → Blobs → List (List ℕ × ℕ)
listed after limit held = take limit (filter (λ (e : List ℕ × ℕ). is_after after e.0) (sizes_of held))

-- at most so many refs, which rise, all greater
pub record IsPage (after : Option (List ℕ)) (limit : ℕ) (page : List (List ℕ × ℕ)) : Type 0 where
  pub few : length page ≤ limit
  pub rising : T (is_sorted ref_cmp page)
  pub later : All (λ (e : List ℕ × ℕ). is_after after e.0 ≡ true) page
