-- Blobs of several numbers are read in one turn, and their digests are checked after it (docs/server.md).
use Rattle.std.specs.Prelude.{◌≡◌, ℕ, ◌+◌, ◌<◌, List, [], ◌∷◌, length, slice_get, slice_index_or, Bool, true, All}
use Rattle.std.specs.Prelude.{Option, Some, None, Result, Ok, Err}
use Rattle.std.specs.Option.{ForSome, option_map}
use Rattle.blobref.specs.Blobref.{IsOwnRef}
use Rattle.edge_base.specs.declared.answers.GetFault.{GetFault}
use Rattle.pack_disk.specs.declared.disk.Disk.{Ghosts}
use Rattle.pack_store.specs.declared.reading.UncheckedBlob.{UncheckedBlob}
use Rattle.pack_store.specs.Archive.{Archive}
use Rattle.pack_store.specs.Reading.{entry_at}
use Rattle.pack_store.specs.Rows.{arrivals_in}
use Rattle.histories.specs.Stores.{Blob}

-- P holds for each of the blobs with its number; the first one has the number n
abbrev pub AllFrom : (ℕ → Blob → Type 0) → ℕ → List Blob → Type 0
AllFrom P n blobs = (i : ℕ) (d : Blob) → i < length blobs → P (n + i) (slice_index_or blobs i d)

-- the first of the blobs that were read, as it was found
abbrev pub first_in : Result (List Blob) GetFault → Result (Option UncheckedBlob) GetFault
first_in (Ok []) = Ok None
first_in (Ok (b ∷ bs)) = Ok (Some (record { r = b.0; bytes = b.1 }))
first_in (Err f) = Err f

-- The store has the blob under a number: the number is that of its ref, and if the disk tells its packs, it is the
-- arrival itself.
abbrev pub StandsAt : {D : Type 0} → Ghosts D → Archive D → ℕ → Blob → Type 0
StandsAt g s n b =
    (option_map (λ (e : List ℕ × ℕ). e.0) (entry_at n s.rows) ≡ Some b.0)
    × ForSome (g.packs s.disk) (λ held. slice_get (arrivals_in held s.rows) n ≡ Some b)

-- The same for the blobs that arrived: the number is that of the blob's ref, and if the place tells its bytes, it is
-- the blob itself.
abbrev pub IsReadAt : Bool → List Blob → ℕ → Blob → Type 0
IsReadAt tells before n b =
    (option_map (λ (a : Blob). a.0) (slice_get before n) ≡ Some b.0) × (tells ≡ true → slice_get before n ≡ Some b)

-- each has its own ref
abbrev pub AreOwn : List Blob → Type 0
AreOwn = All (λ (b : Blob). IsOwnRef b.0 b.1)
