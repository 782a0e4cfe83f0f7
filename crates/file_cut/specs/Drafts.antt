-- A file that is being written: what was put of it, and the parts that it has so far.
use Rattle.std.specs.Prelude.{◌≡◌, ◌≤◌, ◌<◌, ◌+◌, ◌⊎◌, ℕ, List, [], ◌∷◌, ◌++◌, length, map, flat_map, ◌==◌, if◌then◌else◌}
use Rattle.blobref.specs.Blobref.{ref_of}
use Rattle.edge_base.specs.Edge.{FaultsRose}
use Rattle.edge_base.specs.Shelf.{Keeps, named}
use Rattle.edge_base.specs.declared.answers.PutFault.{PutFault}
use Rattle.edge_base.specs.declared.answers.PutFault.TheVariants as fault
use Rattle.edge_base.specs.declared.shelf.Shelf.{Ghosts}
use Rattle.schema_fact.specs.Limits.{MeetsLimits, total_size, greatest_length}
use Rattle.schema_fact.specs.declared.parts.Part.{Part}
use Rattle.schema_fact.specs.declared.parts.Origin.TheVariants.{Tree}
use Rattle.schema_write.specs.Blobs.{bytes_blob}
use Rattle.file_cut.specs.declared.draft.Draft.{Draft}
use Rattle.file_cut.specs.Cutting.{blob_part, run_part, AreWhole, kept_of}

-- ---- what was put

-- these blobs were put in this order, each under the ref that the program gives it, and nothing else was done
pub record Puts {B : Type 0} (g : Ghosts B) (start : B) (blobs : List (List ℕ)) (now : B) : Type 0 where
  pub told : Keeps (g.content start) (g.content now) (named blobs)
  pub later : g.faults start ≤ g.faults now
  pub run : g.puts start (named blobs) now

-- there is a first one of these, and it is so
abbrev pub FirstIs : (List ℕ → Type 0) → List (List ℕ) → Type 0
FirstIs P [] = ⊥
FirstIs P (blob ∷ blobs) = P blob

-- why these blobs were put, and not the rest behind them
abbrev pub WhyCut : {B : Type 0} → Ghosts B → (start now : B) → (put rest : List (List ℕ)) → PutFault → Type 0
WhyCut g start now put rest (fault.TooBig size) = ⊥
WhyCut g start now put rest (fault.BadDigest said is) = ⊥
WhyCut g start now put rest (fault.Full blobs pack) = g.puts start (named put) now × FirstIs (λ blob. g.fills now (ref_of blob, blob) blobs pack) rest
WhyCut g start now put rest fault.Disk = FaultsRose (g.faults start) (g.faults now)
WhyCut g start now put rest fault.NoMemory = g.puts start (named put) now

-- a front of these blobs was put, in their order, and no more; at `Disk` the shelf holds that front
pub record IsCut {B : Type 0} (g : Ghosts B) (start : B) (blobs : List (List ℕ)) (now : B) (fault : PutFault) : Type 0 where
  pub put : List (List ℕ)
  pub rest : List (List ℕ)
  pub front : blobs ≡ put ++ rest
  pub told : Keeps (g.content start) (g.content now) (named put)
  pub later : g.faults start ≤ g.faults now
  pub run : g.follows start now
  pub why : WhyCut g start now put rest fault

-- ---- the parts so far

-- the part that is the blob of these parts
abbrev pub tree_part : List Part → Part
tree_part parts = record { size = total_size parts; offset = 0; origin = Tree (ref_of (bytes_blob parts)) }

-- the run was closed
abbrev pub closed : Draft → Draft
closed d = record { run = []; runs = d.runs ++ tree_part d.run ∷ [] }

-- parts whose blob isn't too long
pub record IsShortList (parts : List Part) : Type 0 where
  pub limits : MeetsLimits parts
  pub few : length parts ≤ 4096

-- nor are those of the run that is open, and of all runs once it is closed
pub record MayEnd (draft : Draft) : Type 0 where
  pub run : IsShortList draft.run
  pub runs : IsShortList (draft.runs ++ tree_part draft.run ∷ [])

-- the draft has the parts of whole runs and of a last one
pub record IsDraft (size : ℕ) (draft : Draft) (runs : List (List (List ℕ))) (last : List (List ℕ)) : Type 0 where
  pub run : draft.run ≡ map blob_part last
  pub runs_are : draft.runs ≡ map run_part runs
  pub whole : AreWhole size runs
  pub fits : length last ≤ size

-- runs and a last one are these chunks
abbrev pub AreChunks : List (List (List ℕ)) → List (List ℕ) → List (List ℕ) → Type 0
AreChunks runs last chunks = flat_map (λ (run : List (List ℕ)). run) runs ++ last ≡ chunks

-- these chunks were put in runs, of which the last is open
abbrev pub IsPut : {B : Type 0} → Ghosts B → ℕ → (start now : B) → Draft → List (List ℕ) → Type 0
IsPut g size start now draft chunks = (runs : List (List (List ℕ))) × (last : List (List ℕ))
    × IsDraft size draft runs last × AreChunks runs last chunks × ((runs ≡ []) ⊎ (0 < length last))
    × Puts g start (kept_of runs last) now

-- and there is room for one more in the last run
abbrev pub IsRoomy : {B : Type 0} → Ghosts B → ℕ → (start now : B) → Draft → List (List ℕ) → Type 0
IsRoomy g size start now draft chunks = (runs : List (List (List ℕ))) × (last : List (List ℕ))
    × IsDraft size draft runs last × AreChunks runs last chunks × (length last < size)
    × Puts g start (kept_of runs last) now

-- some chunks were put, and with so many bytes more they are within the limits of parts
pub record HasRoom {B : Type 0} (g : Ghosts B) (size : ℕ) (now : B) (draft : Draft) (more : ℕ) : Type 0 where
  pub start : B
  pub chunks : List (List ℕ)
  pub put : IsPut g size start now draft chunks
  pub limit : length (flat_map (λ (chunk : List ℕ). chunk) chunks) + more ≤ greatest_length

-- the parts of the file: its runs, where there is one that was closed, and else those of its only run
abbrev pub parts_in : Draft → List Part
parts_in draft = if length draft.runs == 0 then draft.run else draft.runs
