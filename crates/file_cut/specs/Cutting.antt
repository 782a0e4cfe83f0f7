-- How a file is cut into blobs, and in which order these are kept.
use Rattle.std.specs.Prelude.{◌≡◌, ℕ, zero, suc, List, [], ◌∷◌, ◌++◌, ◌*◌, length, take, drop, map, flat_map, nat_le, if◌then◌else◌}
use Rattle.blobref.specs.Blobref.{ref_of}
use Rattle.schema_fact.specs.Limits.{total_size}
use Rattle.schema_fact.specs.declared.parts.Part.{Part}
use Rattle.schema_fact.specs.declared.parts.Origin.TheVariants.{Blob, Tree}
use Rattle.schema_write.specs.Blobs.{bytes_blob, file_blob}

-- a list in runs of so many items, the last one shorter; n runs are enough
abbrev pub cut_within : {A : Type 0} → ℕ → ℕ → List A → List (List A)
cut_within zero size xs = []
cut_within (suc n) size [] = []
cut_within (suc n) size (x ∷ xs) = take size (x ∷ xs) ∷ cut_within n size (drop size (x ∷ xs))

abbrev pub cut : {A : Type 0} → ℕ → List A → List (List A)
cut size xs = cut_within (length xs) size xs

-- the run of this number, of a list of bytes, and nothing past the last one
abbrev pub chunk_at : ℕ → List ℕ → ℕ → List ℕ
chunk_at size bytes i = take size (drop (i * size) bytes)

-- how many bytes a chunk has, and how many chunks a run
unfoldable pub chunk_size : ℕ
chunk_size = 1048576

unfoldable pub run_size : ℕ
run_size = 4096

-- how many chunks are read, hashed and put together
abbrev pub together : ℕ
together = 8

-- the part that is a blob, and the one that is a run of blobs
abbrev pub blob_part : List ℕ → Part
blob_part bytes = record { size = length bytes; offset = 0; origin = Blob (ref_of bytes) }

abbrev pub run_blob : List (List ℕ) → List ℕ
run_blob run = bytes_blob (map blob_part run)

abbrev pub run_part : List (List ℕ) → Part
run_part run = record { size = total_size (map blob_part run); offset = 0; origin = Tree (ref_of (run_blob run)) }

-- the blobs of a run, and of all the chunks
abbrev pub run_blobs : List (List ℕ) → List (List ℕ)
run_blobs run = run ++ run_blob run ∷ []

abbrev pub below_file : ℕ → List (List ℕ) → List (List ℕ)
below_file size chunks = if nat_le (length chunks) size then chunks else flat_map run_blobs (cut size chunks)

-- the parts of the file
abbrev pub parts_of_file : ℕ → List (List ℕ) → List Part
parts_of_file size chunks = if nat_le (length chunks) size then map blob_part chunks else map run_part (cut size chunks)

-- the file's own blob, and all blobs in the order in which they are put, from its chunks
abbrev pub own_from : ℕ → List ℕ → List (List ℕ) → List ℕ
own_from size name chunks = file_blob name (parts_of_file size chunks)

abbrev pub blobs_from : ℕ → List ℕ → List (List ℕ) → List (List ℕ)
blobs_from size name chunks = below_file size chunks ++ own_from size name chunks ∷ []

-- and from its bytes
abbrev pub own_blob : List ℕ → List ℕ → List ℕ
own_blob name bytes = own_from run_size name (cut chunk_size bytes)

abbrev pub file_blobs : List ℕ → List ℕ → List (List ℕ)
file_blobs name bytes = blobs_from run_size name (cut chunk_size bytes)

-- ---- what is kept so far

-- runs that are whole
abbrev pub AreWhole : {A : Type 0} → ℕ → List (List A) → Type 0
AreWhole size [] = Unit {0}
AreWhole size (run ∷ runs) = (length run ≡ size) × AreWhole size runs

-- what is kept once whole runs and a last one are
abbrev pub kept_of : List (List (List ℕ)) → List (List ℕ) → List (List ℕ)
kept_of runs last = flat_map run_blobs runs ++ last

-- a front of a list
abbrev pub IsFront : {A : Type 0} → List A → List A → Type 0
IsFront {A} front whole = (rest : List A) × (whole ≡ front ++ rest)
