-- What a run reads of a file, by what its fetches answered. It is the walk of `Walk` with an answer for each blob that is asked, in
-- place of a map of blobs, so it holds of a shelf that doesn't tell what it holds too, and of one that answers one ref in two ways. Each
-- relation is between the fetches, in their order, and what is read. It is no function of them, since a run may also end where the sink
-- failed or no memory was left.
use Rattle.std.specs.Prelude.{◌≡◌, ℕ, zero, suc, ◌+◌, ◌-◌, Bool, true, false, List, [], ◌∷◌, ◌++◌, take, drop, replicate, Option, None, Some, Result, Ok, Err, IfOk}
use Rattle.std.specs.FinMap.{get}
use Rattle.edge_base.specs.Shelf.{Blobs}
use Rattle.edge_base.specs.declared.answers.GetFault.{GetFault}
use Rattle.edge_base.specs.declared.answers.GetFault.TheVariants as get_fault
use Rattle.schema_fact.specs.Limits.{total_size}
use Rattle.schema_fact.specs.declared.parts.Part.{Part}
use Rattle.schema_fact.specs.declared.parts.Origin.{Origin}
use Rattle.schema_fact.specs.declared.parts.Origin.TheVariants.{Zeros, Blob, Tree}
use Rattle.file_tree.specs.declared.fault.FileFault.{FileFault}
use Rattle.file_tree.specs.declared.fault.FileFault.TheVariants.{Absent, NotAFile, Short, Deep, WriteFault, Get, NoMemory}
use Rattle.file_tree.specs.Walk.{Read, all_of, stops, opened_blob, opened_tree, opened_file, asked, deepest}

abbrev pub Answer : Type 0
Answer = Result (Option (List ℕ)) GetFault

-- a ref, and what `fetch` answered for it
abbrev pub Fetch : Type 0
Fetch = List ℕ × Answer

-- ---- where a run ends

-- no blob makes it: the sink failed, or no memory was left
abbrev pub is_of_run : FileFault → Bool
is_of_run (Absent r) = false
is_of_run (NotAFile r) = false
is_of_run (Short r has wants) = false
is_of_run (Deep r) = false
is_of_run WriteFault = true
is_of_run (Get fault) = false
is_of_run NoMemory = true

-- nothing is fetched, and this is read
abbrev pub Only : Read → List Fetch → Read → Type 0
Only this fetches read = (fetches ≡ []) × (read ≡ this)

-- nothing is fetched, and these bytes are read, or a front of them
pub data Writes (bytes : List ℕ) (fetches : List Fetch) (read : Read) : Type 0 where
  all : fetches ≡ [] → read ≡ all_of bytes → Writes bytes fetches read
  cut : (fault : FileFault) (rest : List ℕ) → is_of_run fault ≡ true → fetches ≡ [] → read.stop ≡ Some fault → bytes ≡ read.bytes ++ rest → Writes bytes fetches read

-- one after the other, as far as the first end
pub data Then (First More : List Fetch → Read → Type 0) (fetches : List Fetch) (read : Read) : Type 0 where
  ends : (fault : FileFault) → read.stop ≡ Some fault → First fetches read → Then First More fetches read
  goes_on : (before after : List Fetch) (bytes : List ℕ) (more : Read) → First before (all_of bytes) → More after more
      → fetches ≡ before ++ after → read ≡ record { bytes = bytes ++ more.bytes; stop = more.stop } → Then First More fetches read

-- ---- blobs that are needed

-- what is opened by an answer, where it is this by what was found; a failure to fetch ends the run
abbrev pub opened_by : {A : Type 0} → (Option (List ℕ) → Result A FileFault) → Answer → Result A FileFault
opened_by wanted (Ok found) = wanted found
opened_by wanted (Err get_fault.Disk) = Err (Get get_fault.Disk)
opened_by wanted (Err (get_fault.Damaged want is)) = Err (Get (get_fault.Damaged want is))
opened_by wanted (Err get_fault.NoMemory) = Err NoMemory

-- A ref is fetched; then what is opened by the answer is read on, or its refusal ends the run. No memory may be left to open a blob that
-- was found.
pub data Opens {A : Type 0} (r : List ℕ) (wanted : Option (List ℕ) → Result A FileFault) (More : A → List Fetch → Read → Type 0) (fetches : List Fetch) (read : Read) : Type 0 where
  opened : (answer : Answer) (x : A) (after : List Fetch) → fetches ≡ (r, answer) ∷ after → opened_by wanted answer ≡ Ok x → More x after read → Opens r wanted More fetches read
  refused : (answer : Answer) (fault : FileFault) → fetches ≡ (r, answer) ∷ [] → opened_by wanted answer ≡ Err fault → read ≡ stops fault → Opens r wanted More fetches read
  unopened : (bytes : List ℕ) → fetches ≡ (r, Ok (Some bytes)) ∷ [] → read ≡ stops NoMemory → Opens r wanted More fetches read

-- ---- parts

-- a part is looked at only where a byte of it is asked
abbrev pub IfAsked : ℕ → (ℕ → List Fetch → Read → Type 0) → List Fetch → Read → Type 0
IfAsked zero Reads = Only (all_of [])
IfAsked (suc n) Reads = Reads (suc n)

-- so many bytes from a place on, of parts that are read in this way
abbrev pub PartsRead : (Part → ℕ → ℕ → List Fetch → Read → Type 0) → List Part → ℕ → ℕ → List Fetch → Read → Type 0
PartsRead Reads [] from count = Only (all_of [])
PartsRead Reads (part ∷ parts) from count =
    Then (IfAsked (asked part from count) (Reads part from)) (PartsRead Reads parts (from - part.size) (count - asked part from count))

-- the same of the bytes of one part, where trees are read in this way
abbrev pub ReadBy : (List ℕ → ℕ → ℕ → ℕ → List Fetch → Read → Type 0) → Part → Origin → ℕ → ℕ → List Fetch → Read → Type 0
ReadBy TreeRead part Zeros from count = Writes (replicate count 0)
ReadBy TreeRead part (Blob r) from count =
    Opens r (λ found. opened_blob found r (part.offset + part.size)) (λ bytes. Writes (take count (drop (part.offset + from) bytes)))
ReadBy TreeRead part (Tree r) from count = TreeRead r (part.offset + part.size) (part.offset + from) count

-- the same, where trees may nest so deep within this part
unfoldable pub PartRead : ℕ → Part → ℕ → ℕ → List Fetch → Read → Type 0
PartRead zero part from count = ReadBy (λ r end at n. Only (stops (Deep r))) part part.origin from count
PartRead (suc depth) part from count =
    ReadBy (λ r end at n. Opens r (λ found. opened_tree found r end) (λ parts. PartsRead (PartRead depth) parts at n)) part part.origin from count

-- what is read of a file
abbrev pub FileRead : List ℕ → List Fetch → Read → Type 0
FileRead r = Opens r (λ found. opened_file found r) (λ parts. PartsRead (PartRead deepest) parts 0 (total_size parts))

-- ---- beside the walk

-- nothing ended it, or a blob did
abbrev pub is_of_walk : Option FileFault → Bool
is_of_walk None = true
is_of_walk (Some (Absent r)) = true
is_of_walk (Some (NotAFile r)) = true
is_of_walk (Some (Short r has wants)) = true
is_of_walk (Some (Deep r)) = true
is_of_walk (Some WriteFault) = false
is_of_walk (Some (Get fault)) = false
is_of_walk (Some NoMemory) = false

-- the whole of a read, or a front of it
pub record BeginsAs (read whole : Read) : Type 0 where
  pub same : is_of_walk read.stop ≡ true → read ≡ whole
  pub front : (rest : List ℕ) × (whole.bytes ≡ read.bytes ++ rest)

-- the answer, where the ref was looked for, is what stands under it
abbrev pub IsAnswerOf : Blobs → Fetch → Type 0
IsAnswerOf held fetch = IfOk fetch.1 (λ found. found ≡ get held fetch.0)
