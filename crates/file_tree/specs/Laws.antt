-- Laws of files.
use Rattle.std.specs.Prelude.{◌≡◌, ◌<◌, ◌⊎◌, true, suc, ℕ, List, length, All, Contains, Option, None, Some, Ok, Err}
use Rattle.std.specs.FinMap.{get}
use Rattle.edge_base.specs.Shelf.{Blobs}
use Rattle.schema_json.specs.Facts.{fact_of}
use Rattle.schema_fact.specs.Limits.{total_size}
use Rattle.schema_fact.specs.declared.parts.Part.{Part}
use Rattle.claim_model.specs.Facts.{passes}
use Rattle.claim_model.specs.Trees.{is_file, is_sound_tree, tree_parts}
use Rattle.file_tree.specs.declared.fault.FileFault.{FileFault}
use Rattle.file_tree.specs.declared.fault.FileFault.TheVariants.{Absent, NotAFile, Short, Deep, WriteFault, Get, NoMemory}
use Rattle.file_tree.specs.Walk.{Read, walk, all_of, deepest, file_parts}
use Rattle.file_tree.specs.Fetching.{Fetch, FileRead, BeginsAs, IsAnswerOf}
use Rattle.file_tree.specs.Bytes.{facts_in, bytes_of, nests_within}

-- a sound file whose trees nest at most 64 deep is read whole
abbrev pub SoundFilesAreRead : Type 0
SoundFilesAreRead = (held : Blobs) (r : List ℕ) → passes (λ fact. is_file fact.kind) (get (facts_in held) r) ≡ true → is_sound_tree (facts_in held) r ≡ true
    → nests_within held (suc deepest) r ≡ true → walk held r ≡ all_of (bytes_of held r)

-- ---- what was fetched

-- any two fetches of one ref, of which no one failed, gave the same
abbrev pub HaveOneAnswer : List Fetch → Type 0
HaveOneAnswer fetches = (r : List ℕ) (x y : Option (List ℕ)) → Contains fetches (r, Ok x) → Contains fetches (r, Ok y) → x ≡ y

-- each blob was fetched
abbrev pub WereFetched : List Fetch → Blobs → Type 0
WereFetched fetches held = (r bytes : List ℕ) → get held r ≡ Some bytes → Contains fetches (r, Ok (Some bytes))

-- what is read where the answers are those of one map of blobs is the walk over it
abbrev pub FetchedFilesAreWalked : Type 0
FetchedFilesAreWalked = (held : Blobs) (r : List ℕ) (fetches : List Fetch) (read : Read) → FileRead r fetches read → All (IsAnswerOf held) fetches → BeginsAs read (walk held r)

-- where each ref has one answer it is the walk over the blobs that were fetched
abbrev pub FetchedBlobsAreOneMap : Type 0
FetchedBlobsAreOneMap = (r : List ℕ) (fetches : List Fetch) (read : Read) → FileRead r fetches read → HaveOneAnswer fetches
    → (held : Blobs) × WereFetched fetches held × BeginsAs read (walk held r)

-- these bytes, or the parts in them, are so few
abbrev pub HasOnly : List ℕ → ℕ → Type 0
HasOnly bytes has = (has ≡ length bytes) ⊎ ((parts : List Part) × (tree_parts (fact_of bytes).kind ≡ Some parts) × (has ≡ total_size parts))

-- a fetch was answered so that there is this refusal, or this failure
abbrev pub IsAnswered : List Fetch → FileFault → Type 0
IsAnswered fetches (Absent r) = Contains fetches (r, Ok None)
IsAnswered fetches (NotAFile r) = (bytes : List ℕ) × Contains fetches (r, Ok (Some bytes)) × (file_parts (fact_of bytes).kind ≡ None)
IsAnswered fetches (Short r has wants) = (bytes : List ℕ) × Contains fetches (r, Ok (Some bytes)) × HasOnly bytes has × (has < wants)
IsAnswered fetches (Deep r) = Unit {0}
IsAnswered fetches WriteFault = Unit {0}
IsAnswered fetches (Get fault) = (r : List ℕ) × Contains fetches (r, Err fault)
IsAnswered fetches NoMemory = Unit {0}

abbrev pub RefusalsAreAnswered : Type 0
RefusalsAreAnswered = (r : List ℕ) (fetches : List Fetch) (read : Read) (fault : FileFault) → FileRead r fetches read → read.stop ≡ Some fault → IsAnswered fetches fault
