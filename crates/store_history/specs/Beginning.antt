-- The history with which a store of packs begins.
use Rattle.std.specs.Prelude.{ℕ, zero, suc, ◌+◌, List, [], ◌∷◌, ◌++◌, map, Option, None, Some, unwrap_or}
use Rattle.std.specs.List.{find, flat_map}
use Rattle.blobref.specs.Blobref.{is_own_ref}
use Rattle.pack_disk.specs.Packs.{Packs}
use Rattle.pack_disk.specs.declared.disk.Disk.{Ghosts}
use Rattle.pack_store.specs.declared.rows.Row.{Row}
use Rattle.pack_store.specs.Archive.{Archive}
use Rattle.pack_store.specs.Rows.{arrivals_in}
use Rattle.histories.specs.declared.events.StoreEvent.{StoreEvent}
use Rattle.histories.specs.declared.events.StoreEvent.TheVariants.{Put}
use Rattle.histories.specs.Stores.{Blob}

-- the numbers below a bound
unfoldable pub below : ℕ → List ℕ
below zero = []
below (suc n) = below n ++ n ∷ []

-- all lists of so many numbers below a bound
unfoldable pub lists_below : (bound count : ℕ) → List (List ℕ)
lists_below bound zero = [] ∷ []
lists_below bound (suc n) = flat_map (λ b. map (λ bs. b ∷ bs) (lists_below bound n)) (below bound)

-- The first list of that many bytes that has the ref. Nothing runs this search: if a disk doesn't tell its bytes, the
-- history has some bytes for each ref, and this says which ones.
unfoldable pub some_bytes : (r : List ℕ) (size : ℕ) → List ℕ
some_bytes r size = unwrap_or (find (is_own_ref r) (lists_below 256 size)) []

-- the blobs of the rows, with the bytes that the disk tells, or with some bytes
abbrev pub blobs_told : List Row → Option Packs → List Blob
blobs_told rows None = map (λ (row : Row). (row.r, some_bytes row.r row.size)) rows
blobs_told rows (Some held) = arrivals_in held rows

-- these blobs arrive, numbered from n on
abbrev pub puts_from : ℕ → List Blob → List StoreEvent
puts_from n [] = []
puts_from n (b ∷ bs) = Put n b.0 b.1 ∷ puts_from (n + 1) bs

-- the entries with which a store begins: its blobs arrived, in their order
abbrev pub begins : {D : Type 0} → Ghosts D → Archive D → List StoreEvent
begins g s = puts_from 0 (blobs_told s.rows (g.packs s.disk))
