-- What writing a file leaves.
use Rattle.std.specs.Prelude.{◌≡◌, ◌≤◌, ◌<◌, ◌*◌, ℕ, List, ◌++◌, length, Option}
use Rattle.std.specs.Option.{ForSome}
use Rattle.blobref.specs.Blobref.{ref_of}
use Rattle.edge_base.specs.Edge.{SourceGave, SourceGaveAll, FaultsRose}
use Rattle.edge_base.specs.Shelf.{max_blob}
use Rattle.edge_base.specs.declared.answers.PutFault.{PutFault}
use Rattle.edge_base.specs.declared.answers.PutFault.TheVariants as put_fault
use Rattle.edge_base.specs.declared.edge.Source.{Ghosts as SourceGhosts}
use Rattle.edge_base.specs.declared.shelf.Shelf.{Ghosts as ShelfGhosts}
use Rattle.schema_fact.specs.Limits.{greatest_length}
use Rattle.file_cut.specs.declared.fault.CutFault.{CutFault}
use Rattle.file_cut.specs.declared.fault.CutFault.TheVariants.{TooLong, NameTooLong, ReadFault, Put, NoMemory}
use Rattle.file_cut.specs.Cutting.{own_blob, file_blobs}
use Rattle.file_cut.specs.Drafts.{Puts, IsCut}

-- some bytes were read; the input is all that the source had left, where it tells
abbrev pub GaveSome : Option (List ℕ) → Option (List ℕ) → List ℕ → Type 0
GaveSome left left_now input = (given : List ℕ) × SourceGave left left_now given × ForSome left (λ all. input ≡ all)

-- a front of these blobs was put, and nothing else was done
abbrev pub PutsFront : {B : Type 0} → ShelfGhosts B → (start : B) → List (List ℕ) → (now : B) → Type 0
PutsFront h start blobs now = (put rest : List (List ℕ)) × (blobs ≡ put ++ rest) × Puts h start put now

-- why the blobs of an input weren't all put
abbrev pub WhyUnwritten : {B : Type 0} → ShelfGhosts B → ℕ → (faults faults_now : ℕ) → (start now : B) → List ℕ → List (List ℕ) → CutFault → Type 0
WhyUnwritten h most faults faults_now start now input blobs ReadFault = PutsFront h start blobs now × FaultsRose faults faults_now
WhyUnwritten h most faults faults_now start now input blobs TooLong = PutsFront h start blobs now × (most < length input)
WhyUnwritten h most faults faults_now start now input blobs (Put fault) = IsCut h start blobs now fault
WhyUnwritten h most faults faults_now start now input blobs NoMemory = IsCut h start blobs now put_fault.NoMemory
WhyUnwritten h most faults faults_now start now input blobs (NameTooLong len) = ⊥

-- a front of the blobs of the input was put, and for this cause no more
pub record Unwritten {S B : Type 0} (g : SourceGhosts S) (h : ShelfGhosts B) (most : ℕ) (blobs : List ℕ → List (List ℕ))
    (source source_now : S) (start now : B) (fault : CutFault) : Type 0 where
  pub input : List ℕ
  pub read : GaveSome (g.left source) (g.left source_now) input
  pub why : WhyUnwritten h most (g.faults source) (g.faults source_now) start now input (blobs input) fault

-- a shelf's refusal as a file's
abbrev pub unput : PutFault → CutFault
unput (put_fault.TooBig size) = Put (put_fault.TooBig size)
unput (put_fault.BadDigest said is) = Put (put_fault.BadDigest said is)
unput (put_fault.Full blobs pack) = Put (put_fault.Full blobs pack)
unput put_fault.Disk = Put put_fault.Disk
unput put_fault.NoMemory = NoMemory

-- ---- a file

-- chunks of such a size, runs of so many chunks, and at most so many bytes: each blob can be written and put
pub record AreSizes (size full most : ℕ) : Type 0 where
  pub some : 0 < size
  pub room : 0 < full
  pub fits : size ≤ max_blob
  pub few : full ≤ 4096
  pub limit : most ≤ greatest_length
  pub many : most ≤ 4096 * full * size

-- the most bytes of a file's name, and of a file
abbrev pub longest_name : ℕ
longest_name = 4096

abbrev pub longest_file : ℕ
longest_file = 17592186044416

-- a file was written: its source is at its end, its blobs were put in their order, and this is the ref of the last of them
abbrev pub Written : {S B : Type 0} → SourceGhosts S → ShelfGhosts B → List ℕ → (source source_now : S) (start now : B) → List ℕ → Type 0
Written g h name source source_now start now r = (bytes : List ℕ) × SourceGaveAll (g.left source) (g.left source_now) bytes
    × (length bytes ≤ longest_file) × Puts h start (file_blobs name bytes) now × (r ≡ ref_of (own_blob name bytes))

-- it wasn't: its name is too long, and nothing was done; or only a front of its blobs was put
abbrev pub NotWritten : {S B : Type 0} → SourceGhosts S → ShelfGhosts B → List ℕ → (source source_now : S) (start now : B) → CutFault → Type 0
NotWritten g h name source source_now start now (NameTooLong len) =
    (len ≡ length name) × (longest_name < length name) × (source_now ≡ source) × (now ≡ start)
NotWritten g h name source source_now start now fault =
    (length name ≤ longest_name) × Unwritten g h longest_file (file_blobs name) source source_now start now fault
