-- What `get-file` means (docs/commands.md).
use Rattle.std.specs.Prelude.{◌≡◌, ◌≢◌, ℕ, true, false, List, [], ◌++◌, All, Option, None, Some}
use Rattle.std.specs.Option.{ForSome}
use Rattle.edge_base.specs.declared.answers.GetFault.TheVariants as getting
use Rattle.edge_base.specs.declared.shelf.Shelf.{Ghosts as ShelfGhosts}
use Rattle.file_tree.specs.Fetching.{Fetch, FileRead}
use Rattle.file_tree.specs.Reading.{Fetched}
use Rattle.file_tree.specs.declared.fault.FileFault.{FileFault}
use Rattle.file_tree.specs.declared.fault.FileFault.TheVariants as file
use Rattle.file_tree.specs.Walk.{Read, walk}
use Rattle.pack_disk.specs.Packs.{Packs}
use Rattle.pack_disk.specs.Runs.{Stays}
use Rattle.pack_disk.specs.declared.disk.Disk.{Ghosts as DiskGhosts}
use Rattle.pack_store.specs.Archive.{Archive}
use Rattle.pack_store.specs.Calls.{IsReadFrom}
use Rattle.pack_store.specs.Packs.{KeepsAll}
use Rattle.pack_store.specs.Puts.{Stands, HasNoRoom, blobs_of}
use Rattle.pack_store.specs.StoreShelf.{content_of, PutsStore, FetchesStore}
use Rattle.top_frame.specs.declared.status.InputFault.TheVariants.{TooBig, NotAFile, Short, Deep}
use Rattle.top_frame.specs.declared.status.Status.{Status}
use Rattle.top_frame.specs.declared.status.Status.TheVariants as status
use Rattle.top_frame.specs.Limits.{limits}
use Rattle.top_frame.specs.Frame.{Meaning, opens_store, reads_nothing, no_peer}

-- what is read of the file, over the blobs of these packs
abbrev pub walk_of : List ℕ → Packs → Read
walk_of r held = walk (blobs_of held) r

-- these are all bytes of the file
abbrev pub IsFile : List ℕ → Option Packs → List ℕ → Type 0
IsFile r told bytes = ForSome told (λ held. walk_of r held ≡ record { bytes = bytes; stop = None })

-- it begins with these bytes
abbrev pub BeginsFile : List ℕ → Option Packs → List ℕ → Type 0
BeginsFile r told bytes = ForSome told (λ held. (rest : List ℕ) × ((walk_of r held).bytes ≡ bytes ++ rest))

-- exactly these bytes can be read, and this is why there are no more
abbrev pub StopsFile : List ℕ → Option Packs → List ℕ → FileFault → Type 0
StopsFile r told bytes fault = ForSome told (λ held. walk_of r held ≡ record { bytes = bytes; stop = Some fault })

-- ---- what was fetched, whether the disk tells or not

-- a store as a shelf
abbrev pub store_shelf : {D : Type 0} → DiskGhosts D → ShelfGhosts (Archive D)
store_shelf g = record {
  content = λ s. content_of g s;
  faults = λ s. g.faults s.disk;
  fills = λ s blob blobs pack. HasNoRoom g s.limits s blob blobs pack;
  follows = λ a b. KeepsAll g a.disk b.disk;
  puts = λ a blobs b. PutsStore g a blobs b;
  fetches = λ a r answer b. FetchesStore g a r answer b;
}

-- These bytes were read of the file, and this is why no more were: the store that was opened on this disk, from what the disk's calls
-- answered, was asked for blobs, and they are the walk by what it answered.
pub record IsRead {D : Type 0} (g : DiskGhosts D) (disk : D) (r bytes : List ℕ) (stop : Option FileFault) : Type 0 where
  pub store : Archive D
  pub left : Archive D
  pub stays : Stays g disk store.disk
  pub read : IsReadFrom g disk store
  pub stands : Stands g limits store
  pub fetches : List Fetch
  pub fetched : All (Fetched (store_shelf g) store left) fetches
  pub is : FileRead r fetches (record { bytes = bytes; stop = stop })

module _ {D : Type 0} (g : DiskGhosts D) (disk : D) (r : List ℕ) where
  -- a blob of the file was answered so that it can't be used, exactly the bytes before it were written, and it is so where the disk tells
  abbrev pub RefusesAs : Option Packs → List ℕ → FileFault → Type 0
  RefusesAs told bytes fault = StopsFile r told bytes fault × IsRead g disk r bytes (Some fault)

  -- a blob of the file can't be used, or other bytes stand under a ref, on a disk that doesn't tell
  abbrev pub RefusesFile : Option Packs → List ℕ → Status → Type 0
  RefusesFile told bytes (status.Absent q) = RefusesAs told bytes (file.Absent q)
  RefusesFile told bytes (status.BadInput (NotAFile q)) = RefusesAs told bytes (file.NotAFile q)
  RefusesFile told bytes (status.BadInput (Short q has wants)) = RefusesAs told bytes (file.Short q has wants)
  RefusesFile told bytes (status.BadInput (Deep q)) = RefusesAs told bytes (file.Deep q)
  RefusesFile told bytes (status.Damaged want is) = ((is ≢ want) × (told ≡ None)) × IsRead g disk r bytes (Some (file.Get (getting.Damaged want is)))
  RefusesFile told bytes _ = ⊥

-- it writes as it goes
abbrev pub get_file_meaning : {D : Type 0} → DiskGhosts D → D → List ℕ → Meaning
get_file_meaning g disk r = record {
  disk = opens_store;
  input = reads_nothing;
  draws_time = false;
  draws_random = false;
  exchange = no_peer;
  bad = None;
  too_long = TooBig;
  wrong = λ input. None;
  blobs = λ given. [];
  IsOutput = λ given told bytes. IsFile r told bytes × IsRead g disk r bytes None;
  streams = true;
  IsPart = λ given told bytes. BeginsFile r told bytes;
  Refuses = λ given told bytes gone answer. RefusesFile g disk r told bytes answer;
}
