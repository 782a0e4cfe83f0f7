-- What a store is once it was opened (docs/store.md).
use Rattle.std.specs.Prelude.{◌≡◌, ℕ, suc, max, List, [], ◌∷◌, ◌++◌, length, map, All, if◌then◌else◌, Option, None, Some}
use Rattle.std.specs.Option.{ForSome, is_some}
use Rattle.std.specs.FinMap.{FinMap, entries, get}
use Rattle.blobref.specs.Blobref.{ref_cmp}
use Rattle.salvage_scan.specs.Salvage.{Finding, salvage, broken}
use Rattle.salvage_scan.specs.Arrivals.{arrivals}
use Rattle.pack_disk.specs.declared.disk.Disk.{Ghosts}
use Rattle.salvage_scan.specs.declared.found.Found.{Found}
use Rattle.salvage_scan.specs.declared.found.Clean.{Clean}
use Rattle.salvage_scan.specs.declared.found.Clean.TheVariants as scanned
use Rattle.pack_store.specs.declared.limits.Limits.{Limits}
use Rattle.pack_store.specs.declared.rows.Row.{Row}
use Rattle.pack_store.specs.declared.rows.Current.{Current}
use Rattle.pack_store.specs.Packs.{CleanIn}
use Rattle.pack_store.specs.Rows.{number_of, arrivals_in, IsKept, AreBlobs}
use Rattle.pack_store.specs.Adding.{IsLong}
use Rattle.pack_store.specs.Archive.{Archive}
use Rattle.pack_store.specs.Walk.{below}

-- one more than the greatest number, 0 where there is no pack
abbrev pub next_of : List (ℕ × List ℕ) → ℕ
next_of [] = 0
next_of (pack ∷ packs) = max (suc pack.0) (next_of packs)

-- the pack, where it is clean
abbrev pub current_if_clean : ℕ × List ℕ → Option Current
current_if_clean pack = if is_some (broken pack.1) then None else Some (record { pack = pack.0; size = length pack.1 })

-- the last pack, where it is clean
abbrev pub current_of : List (ℕ × List ℕ) → Option Current
current_of [] = None
current_of (pack ∷ []) = current_if_clean pack
current_of (pack ∷ next ∷ packs) = current_of (next ∷ packs)

-- the store on a disk has its arrivals, and goes on behind its last pack where that is clean
pub record IsOpened {D : Type 0} (g : Ghosts D) (disk : D) (limits : Limits) (s : Archive D) : Type 0 where
  pub limited : s.limits ≡ limits
  pub arrived : ForSome (g.packs disk) (λ held. arrivals_in held s.rows ≡ arrivals (entries held))
  pub next : ForSome (g.packs disk) (λ held. s.next ≡ next_of (entries held))
  pub current : ForSome (g.packs disk) (λ held. s.current ≡ current_of (entries held))

-- ---- the packs are taken in one after another

-- what a scan says of a pack of this length: it may be added to where it is clean
abbrev pub current_by : Clean → ℕ → ℕ → Option Current
current_by scanned.Yes pack size = Some (record { pack = pack; size = size })
current_by (scanned.No at) pack size = None

-- where a finding of a pack stands, and what a scan shows of it
abbrev pub row_of : ℕ → Finding → Row
row_of pack f = record { r = f.r; pack = pack; at = f.at; size = length f.bytes }

abbrev pub row_of_found : ℕ → Found → Row
row_of_found pack f = record { r = f.r; pack = pack; at = f.at; size = f.size }

-- the rows, once this one was found too: each ref stands at its first
abbrev pub take_row : List Row → Row → List Row
take_row rows row = if is_some (number_of row.r rows) then rows else rows ++ row ∷ []

abbrev pub take_rows : List Row → List Row → List Row
take_rows rows [] = rows
take_rows rows (row ∷ more) = take_rows (take_row rows row) more

-- the rows once a pack was taken in
abbrev pub take_pack : List Row → ℕ → List ℕ → List Row
take_pack rows pack bytes = take_rows rows (map (row_of pack) (salvage bytes))

-- each ref has the number of its row
abbrev pub IsPlaced : FinMap ref_cmp ℕ → List Row → Type 0
IsPlaced places rows = (r : List ℕ) → get places r ≡ number_of r rows

-- The packs below a number were taken in: their findings have arrived, each is of a blob and is found in every image, and the last of
-- them is the current pack where it is clean.
pub record IsTaken {D : Type 0} (g : Ghosts D) (disk : D) (rows : List Row) (next : ℕ) (current : Option Current) : Type 0 where
  pub arrived : ForSome (g.packs disk) (λ held. arrivals_in held rows ≡ arrivals (below next held))
  pub counted : ForSome (g.packs disk) (λ held. next ≡ next_of (below next held))
  pub current_is : ForSome (g.packs disk) (λ held. current ≡ current_of (below next held))
  pub blobs : AreBlobs rows
  pub kept : ForSome (g.packs disk) (λ held. All (IsKept held (g.images disk)) rows)
  pub last : (c : Current) → current ≡ Some c → suc c.pack ≡ next
  pub long : (c : Current) → current ≡ Some c → IsLong g disk c.pack c.size
  pub clean : (c : Current) → current ≡ Some c → CleanIn (g.images disk) c.pack
