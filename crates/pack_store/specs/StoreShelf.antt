-- A store as a shelf (docs/store.md).
use Rattle.std.specs.Prelude.{◌≡◌, ◌↔◌, ℕ, List, Option, None, Result, Ok, Err, IfOk, IfSome}
use Rattle.std.specs.FinMap.{from_entries, get}
use Rattle.std.specs.Option.{option_map, ForSome}
use Rattle.blobref.specs.Blobref.{IsOwnRef, ref_cmp}
use Rattle.edge_base.specs.Edge.{FaultsRose}
use Rattle.edge_base.specs.Shelf.{Blob, Blobs}
use Rattle.edge_base.specs.declared.answers.GetFault.{GetFault}
use Rattle.edge_base.specs.declared.answers.GetFault.TheVariants.{Disk}
use Rattle.pack_disk.specs.Packs.{Packs}
use Rattle.pack_disk.specs.declared.disk.Disk.{Ghosts}
use Rattle.pack_store.specs.declared.rows.Row.{Row}
use Rattle.pack_store.specs.Archive.{Archive}
use Rattle.pack_store.specs.Rows.{arrivals_in, number_of}
use Rattle.pack_store.specs.Reading.{StaysStill, IsDamage, entry_of}
use Rattle.pack_store.specs.Puts.{PutsBlobs, Stands, blobs_of}

-- the arrivals that rows stand for, under their refs
abbrev pub map_of : List Row → Packs → Blobs
map_of rows held = from_entries {R = ref_cmp} (arrivals_in held rows)

-- the arrivals, where the disk tells
abbrev pub content_of : {D : Type 0} → Ghosts D → Archive D → Option Blobs
content_of g s = option_map (map_of s.rows) (g.packs s.disk)

-- these blobs were put in turn, within the limits that the store has, and nothing else was done
abbrev pub PutsStore : {D : Type 0} → Ghosts D → Archive D → List Blob → Archive D → Type 0
PutsStore g old blobs new = PutsBlobs g old.limits old blobs new

-- A blob was fetched. There is none exactly where its ref isn't among the arrivals. Else the bytes have this ref, or others were read in the
-- place of the blob, or the disk failed, or no memory was left. Nothing is changed.
pub record FetchesStore {D : Type 0} (g : Ghosts D) (old : Archive D) (r : List ℕ) (answer : Result (Option (List ℕ)) GetFault) (new : Archive D) : Type 0 where
  pub none : (answer ≡ Ok None) ↔ (number_of r old.rows ≡ None)
  pub named : IfOk answer (λ found. IfSome found (λ bytes. IsOwnRef r bytes))
  pub found : IfOk answer (λ found. ForSome (content_of g old) (λ held. found ≡ get held r))
  pub damaged : IsDamage (entry_of r old.rows) (g.packs old.disk) answer
  pub failed : answer ≡ Err Disk → FaultsRose (g.faults old.disk) (g.faults new.disk)
  pub stays : StaysStill g old new

-- the shelf's map is the content of the disk's packs, where the store is as its disk says
abbrev pub ContentStands : {D : Type 0} → Ghosts D → Type 0
ContentStands {D} g = (s : Archive D) → Stands g s.limits s → content_of g s ≡ option_map blobs_of (g.packs s.disk)
