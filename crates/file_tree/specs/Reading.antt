-- What reading a file leaves: what the sink took, why there is no more, and what is left of the shelf.
use Rattle.std.specs.Prelude.{◌≡◌, ◌≢◌, ℕ, ◌≤◌, Bool, true, false, List, [], length, take, replicate, All, Option, None, Some, IfSome, Result, Ok, Err, IfOk}
use Rattle.std.specs.FinMap.{get}
use Rattle.std.specs.Option.{ForSome}
use Rattle.blobref.specs.Blobref.{IsOwnRef}
use Rattle.edge_base.specs.Edge.{SinkTook, SinkTookFront, FaultsRose}
use Rattle.edge_base.specs.declared.answers.GetFault.{GetFault}
use Rattle.edge_base.specs.declared.answers.GetFault.TheVariants as get_fault
use Rattle.edge_base.specs.Shelf.{Blobs, GetCause}
use Rattle.edge_base.specs.declared.edge.Sink.{Ghosts as SinkGhosts}
use Rattle.edge_base.specs.declared.shelf.Shelf.{Ghosts as ShelfGhosts}
use Rattle.file_tree.specs.declared.fault.FileFault.{FileFault}
use Rattle.file_tree.specs.declared.fault.FileFault.TheVariants.{Absent, NotAFile, Short, Deep, WriteFault, Get, NoMemory}
use Rattle.file_tree.specs.Walk.{Read}
use Rattle.file_tree.specs.Fetching.{Answer, Fetch, opened_by, FileRead}

-- the refusals that are told by the blobs alone
abbrev pub is_of_blobs : FileFault → Bool
is_of_blobs (Absent r) = true
is_of_blobs (NotAFile r) = true
is_of_blobs (Short r has wants) = true
is_of_blobs (Deep r) = true
is_of_blobs WriteFault = false
is_of_blobs (Get fault) = false
is_of_blobs NoMemory = false

abbrev pub is_defined : {T : Type 0} → Result T FileFault → Bool
is_defined (Ok x) = true
is_defined (Err fault) = is_of_blobs fault

abbrev pub fault_of : {T : Type 0} → Result T FileFault → Option FileFault
fault_of (Ok x) = None
fault_of (Err fault) = Some fault

-- the sink took what is read up to the refusal that is answered; after another fault it took a front of that
pub record Gives {T : Type 0} (read : Read) (result : Result T FileFault) (before now : Option (List ℕ)) : Type 0 where
  pub exact : is_defined result ≡ true → (read.stop ≡ fault_of result) × SinkTook before now read.bytes
  pub front : SinkTookFront before now read.bytes

-- There is a read of which the sink took so much; where the shelf tells what it holds it is the walk over that.
pub record GivesSome {T : Type 0} (told : Option Blobs) (walk : Blobs → Read) (result : Result T FileFault) (before now : Option (List ℕ)) : Type 0 where
  pub read : Read
  pub is : ForSome told (λ held. read ≡ walk held)
  pub gives : Gives read result before now

-- when another fault comes
abbrev pub GetFaultCause : Option Blobs → ℕ → ℕ → GetFault → Type 0
GetFaultCause told before now get_fault.Disk = FaultsRose before now
GetFaultCause told before now (get_fault.Damaged want is) = (is ≢ want) × (told ≡ None)
GetFaultCause told before now get_fault.NoMemory = ⊥

abbrev pub FaultCause : Option Blobs → (before now sink_before sink_now : ℕ) → FileFault → Type 0
FaultCause told before now sink_before sink_now (Absent r) = Unit {0}
FaultCause told before now sink_before sink_now (NotAFile r) = Unit {0}
FaultCause told before now sink_before sink_now (Short r has wants) = Unit {0}
FaultCause told before now sink_before sink_now (Deep r) = Unit {0}
FaultCause told before now sink_before sink_now WriteFault = FaultsRose sink_before sink_now
FaultCause told before now sink_before sink_now (Get fault) = GetFaultCause told before now fault
FaultCause told before now sink_before sink_now NoMemory = Unit {0}

abbrev pub ReadCause : {T : Type 0} → Option Blobs → (before now sink_before sink_now : ℕ) → Result T FileFault → Type 0
ReadCause told before now sink_before sink_now (Ok x) = Unit {0}
ReadCause told before now sink_before sink_now (Err fault) = FaultCause told before now sink_before sink_now fault

-- the same of calls of a shelf and a sink
abbrev pub IsCaused : {B K T : Type 0} → ShelfGhosts B → SinkGhosts K → (shelf shelf_now : B) (sink sink_now : K) → Result T FileFault → Type 0
IsCaused g h shelf shelf_now sink sink_now result =
    ReadCause (g.content shelf) (g.faults shelf) (g.faults shelf_now) (h.faults sink) (h.faults sink_now) result

-- of a shelf alone, whatever a sink counts, and of a sink alone
abbrev pub IsCausedByShelf : {B T : Type 0} → ShelfGhosts B → (shelf shelf_now : B) → Result T FileFault → Type 0
IsCausedByShelf g shelf shelf_now result =
    (k n : ℕ) → ReadCause (g.content shelf) (g.faults shelf) (g.faults shelf_now) k n result

abbrev pub IsCausedBySink : {K T : Type 0} → SinkGhosts K → (sink sink_now : K) → Result T FileFault → Type 0
IsCausedBySink h sink sink_now result =
    (told : Option Blobs) (k n : ℕ) → ReadCause told k n (h.faults sink) (h.faults sink_now) result

-- calls that only read a shelf leave what it holds, and put nothing
pub record Rests {B : Type 0} (g : ShelfGhosts B) (old new : B) : Type 0 where
  pub told : g.content new ≡ g.content old
  pub later : g.faults old ≤ g.faults new
  pub nothing : g.puts old [] new

-- ---- what was fetched, whether the shelf tells or not

-- one call of `fetch`, of which the shelf says this in its own words
pub record IsFetch {B : Type 0} (g : ShelfGhosts B) (before : B) (fetch : Fetch) (now : B) : Type 0 where
  pub is : g.fetches before fetch.0 fetch.1 now
  pub found : IfOk fetch.1 (λ found. ForSome (g.content before) (λ held. found ≡ get held fetch.0))
  pub named : IfOk fetch.1 (λ found. IfSome found (λ bytes. IsOwnRef fetch.0 bytes))
  pub cause : GetCause (g.content before) (g.faults before) (g.faults now) fetch.0 fetch.1
  pub rests : Rests g before now

-- such a call was made between the two
pub record Fetched {B : Type 0} (g : ShelfGhosts B) (old new : B) (fetch : Fetch) : Type 0 where
  pub before : B
  pub now : B
  pub begins : Rests g old before
  pub call : IsFetch g before fetch now
  pub ends : Rests g now new

-- What was read, by fetches that were made: the sink took exactly these bytes, and the fault that is answered is why there are no more.
pub record HasRead {B T : Type 0} (g : ShelfGhosts B) (old new : B) (before now : Option (List ℕ)) (Reads : List Fetch → Read → Type 0) (result : Result T FileFault) : Type 0 where
  pub fetches : List Fetch
  pub read : Read
  pub fetched : All (Fetched g old new) fetches
  pub is : Reads fetches read
  pub why : read.stop ≡ fault_of result
  pub took : SinkTook before now read.bytes

-- so of a file, whose bytes are as many as is answered
pub record HasReadFile {B : Type 0} (g : ShelfGhosts B) (old new : B) (before now : Option (List ℕ)) (r : List ℕ) (result : Result ℕ FileFault) : Type 0 where
  pub has : HasRead g old new before now (FileRead r) result
  pub number : IfOk result (λ n. n ≡ length has.read.bytes)

-- what a call of `fetch` opened
pub data Gave {A : Type 0} (wanted : Option (List ℕ) → Result A FileFault) (answer : Answer) (result : Result A FileFault) : Type 0 where
  opened : result ≡ opened_by wanted answer → Gave wanted answer result
  unopened : (bytes : List ℕ) → answer ≡ Ok (Some bytes) → result ≡ Err NoMemory → Gave wanted answer result

pub record IsOpening {A B : Type 0} (g : ShelfGhosts B) (old new : B) (r : List ℕ) (wanted : Option (List ℕ) → Result A FileFault) (result : Result A FileFault) : Type 0 where
  pub answer : Answer
  pub call : IsFetch g old (r, answer) new
  pub gave : Gave wanted answer result

-- ---- runs of zeros

-- a piece of zeros, so that each front of it is a run
abbrev pub AreZeros : List ℕ → Type 0
AreZeros zeros = (n : ℕ) → n ≤ length zeros → take n zeros ≡ replicate n 0
