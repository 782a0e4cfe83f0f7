-- What is read of a file: its parts in the order of their bytes, up to the first that can't be read.
use Rattle.std.specs.Prelude.{ℕ, zero, suc, ◌+◌, ◌-◌, min, List, [], ◌∷◌, ◌++◌, length, take, drop, replicate, nat_lt, Option, None, Some, Result, Ok, Err, if◌then◌else◌}
use Rattle.std.specs.Option.{ok_or}
use Rattle.std.specs.FinMap.{get}
use Rattle.edge_base.specs.Shelf.{Blobs}
use Rattle.schema_json.specs.Facts.{fact_of}
use Rattle.schema_fact.specs.Limits.{total_size}
use Rattle.schema_fact.specs.declared.kinds.Kind.{Kind}
use Rattle.schema_fact.specs.declared.parts.Part.{Part}
use Rattle.schema_fact.specs.declared.parts.Origin.{Origin}
use Rattle.schema_fact.specs.declared.parts.Origin.TheVariants.{Zeros, Blob, Tree}
use Rattle.claim_model.specs.Trees.{tree_parts, is_file}
use Rattle.file_tree.specs.declared.fault.FileFault.{FileFault}
use Rattle.file_tree.specs.declared.fault.FileFault.TheVariants.{Absent, NotAFile, Short, Deep}

-- bytes, and why there are no more of them, if that is so
pub record Read : Type 0 where
  pub bytes : List ℕ
  pub stop : Option FileFault

abbrev pub all_of : List ℕ → Read
all_of bytes = record { bytes = bytes; stop = None }

abbrev pub stops : FileFault → Read
stops fault = record { bytes = []; stop = Some fault }

-- one after the other, as far as the first refusal
abbrev pub joined : List ℕ → Option FileFault → Read → Read
joined bytes None more = record { bytes = bytes ++ more.bytes; stop = more.stop }
joined bytes (Some fault) more = record { bytes = bytes; stop = Some fault }

abbrev pub and_then : Read → Read → Read
and_then read more = joined read.bytes read.stop more

-- ---- blobs that are needed

-- a blob that should have so many bytes
abbrev pub long_blob : List ℕ → ℕ → List ℕ → Result (List ℕ) FileFault
long_blob r end bytes = if nat_lt (length bytes) end then Err (Short r (length bytes) end) else Ok bytes

abbrev pub opened_blob : Option (List ℕ) → List ℕ → ℕ → Result (List ℕ) FileFault
opened_blob None r end = Err (Absent r)
opened_blob (Some bytes) r end = long_blob r end bytes

-- a tree that should have so many bytes
abbrev pub long_tree : List ℕ → ℕ → Option (List Part) → Result (List Part) FileFault
long_tree r end None = Err (NotAFile r)
long_tree r end (Some parts) = if nat_lt (total_size parts) end then Err (Short r (total_size parts) end) else Ok parts

abbrev pub opened_tree : Option (List ℕ) → List ℕ → ℕ → Result (List Part) FileFault
opened_tree None r end = Err (Absent r)
opened_tree (Some bytes) r end = long_tree r end (tree_parts (fact_of bytes).kind)

-- the parts of a file, but of no bytes blob
abbrev pub file_parts : Kind → Option (List Part)
file_parts kind = if is_file kind then tree_parts kind else None

abbrev pub opened_file : Option (List ℕ) → List ℕ → Result (List Part) FileFault
opened_file None r = Err (Absent r)
opened_file (Some bytes) r = ok_or (file_parts (fact_of bytes).kind) (NotAFile r)

-- what is read once something is opened
abbrev pub once : {A : Type 0} → Result A FileFault → (A → Read) → Read
once (Ok x) read = read x
once (Err fault) read = stops fault

-- ---- parts

-- a part is looked at only where a byte of it is asked
abbrev pub if_asked : ℕ → (ℕ → Read) → Read
if_asked zero read = all_of []
if_asked (suc n) read = read (suc n)

-- how many of the bytes of a part are asked, where so many bytes from a place on are
abbrev pub asked : Part → ℕ → ℕ → ℕ
asked part from count = min count (part.size - from)

-- so many bytes from a place on, of parts that are read in this way
abbrev pub walk_parts : (Part → ℕ → ℕ → Read) → List Part → ℕ → ℕ → Read
walk_parts read [] from count = all_of []
walk_parts read (part ∷ parts) from count =
    and_then (if_asked (asked part from count) (read part from)) (walk_parts read parts (from - part.size) (count - asked part from count))

-- the same of the bytes of one part, where trees are read in this way
abbrev pub read_by : Blobs → (List ℕ → ℕ → ℕ → ℕ → Read) → Part → Origin → ℕ → ℕ → Read
read_by held tree part Zeros from count = all_of (replicate count 0)
read_by held tree part (Blob r) from count = once (opened_blob (get held r) r (part.offset + part.size)) (λ bytes. all_of (take count (drop (part.offset + from) bytes)))
read_by held tree part (Tree r) from count = tree r (part.offset + part.size) (part.offset + from) count

-- the same, where trees may nest so deep within this part
unfoldable pub part_read : Blobs → ℕ → Part → ℕ → ℕ → Read
part_read held zero part from count = read_by held (λ r end at n. stops (Deep r)) part part.origin from count
part_read held (suc depth) part from count =
    read_by held (λ r end at n. once (opened_tree (get held r) r end) (λ parts. walk_parts (part_read held depth) parts at n)) part part.origin from count

-- how deep trees may nest within a file, whose own depth is one
unfoldable pub deepest : ℕ
deepest = 63

-- what is read of a file
abbrev pub walk : Blobs → List ℕ → Read
walk held r = once (opened_file (get held r) r) (λ parts. walk_parts (part_read held deepest) parts 0 (total_size parts))
