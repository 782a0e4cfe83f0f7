-- What the calls on a disk that add a blob need, and what they leave of the blobs that stand there (docs/store.md).
use Rattle.std.specs.Prelude.{◌≡◌, ℕ, ◌+◌, ◌≤◌, List, [], ◌++◌, length, Bool, true, false, None, Some, unwrap_or}
use Rattle.std.specs.Option.{ForSome, option_map}
use Rattle.std.specs.FinMap.{get, insert}
use Rattle.pack_format.specs.Header.{header, record_under}
use Rattle.pack_disk.specs.Packs.{Packs}
use Rattle.pack_disk.specs.Disk.{last_number}
use Rattle.pack_disk.specs.declared.disk.Disk.{Ghosts}
use Rattle.pack_store.specs.declared.rows.Row.{Row}
use Rattle.pack_store.specs.Packs.{CleanIn}
use Rattle.pack_store.specs.Rows.{arrival_of, IsKept}

-- the record of a blob under a ref was added behind the bytes of a pack, which was made where it wasn't there
abbrev pub AddsRecord : ℕ → (r bytes : List ℕ) → Packs → Packs → Type 0
AddsRecord n r bytes before now = now ≡ insert before n (unwrap_or (get before n) [] ++ record_under r bytes)

-- the pack has the same bytes, none where it wasn't there
abbrev pub SameBytes : ℕ → Packs → Packs → Type 0
SameBytes n before now = unwrap_or (get now n) [] ≡ unwrap_or (get before n) []

-- where a blob stands whose record under a ref begins at a place in a pack
abbrev pub row_at : (pack start : ℕ) (r bytes : List ℕ) → Row
row_at pack start r bytes = record { r = r; pack = pack; at = start + length (header r (length bytes)); size = length bytes }

-- where the disk tells, the pack has this length
abbrev pub IsLong : {D : Type 0} → Ghosts D → D → ℕ → ℕ → Type 0
IsLong g disk pack size = ForSome (g.packs disk) (λ held. option_map (λ (bytes : List ℕ). length bytes) (get held pack) ≡ Some size)

-- where the disk tells, the pack isn't there
abbrev pub IsAbsent : {D : Type 0} → Ghosts D → D → ℕ → Type 0
IsAbsent g disk pack = ForSome (g.packs disk) (λ held. get held pack ≡ None)

-- a record may be added to a pack: it is clean and has this length, or it has still to be made
abbrev pub IsReady : {D : Type 0} → Ghosts D → D → ℕ → ℕ → Bool → Type 0
IsReady g disk pack size true = (pack ≤ last_number) × (size ≡ 0) × IsAbsent g disk pack
IsReady g disk pack size false = IsLong g disk pack size × CleanIn (g.images disk) pack

-- each blob that every image had at its place stands there still, with its bytes
abbrev pub KeepsRows : {D : Type 0} → Ghosts D → D → D → Type 0
KeepsRows g old new = (row : Row) (before now : Packs) → g.packs old ≡ Some before → g.packs new ≡ Some now
    → IsKept before (g.images old) row → IsKept now (g.images new) row × (arrival_of now row ≡ arrival_of before row)

-- where the disk tells, every image has the blob at its place
abbrev pub HasRow : {D : Type 0} → Ghosts D → D → Row → List ℕ → Type 0
HasRow g disk row bytes = ForSome (g.packs disk) (λ held. IsKept held (g.images disk) row × (arrival_of held row ≡ (row.r, bytes)))
