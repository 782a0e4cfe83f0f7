-- The blobs that a seat has read ahead.
use Rattle.std.specs.Prelude.{ℕ, List, Bool}
use Rattle.blobref.specs.Blobref.{IsOwnRef}
use Rattle.histories.specs.Stores.{Blob}
use Rattle.store_history.specs.Together.{IsReadAt}

-- A blob may be returned for a number: it was read there, and its ref is its own.
abbrev pub IsArrival : Bool → List Blob → ℕ → Blob → Type 0
IsArrival tells before n b = IsReadAt tells before n b × IsOwnRef b.0 b.1
