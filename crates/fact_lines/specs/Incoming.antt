-- The facts of the blobs of a pack that comes in pieces (docs/formats/packs.md, docs/formats/schema.md).
use Rattle.std.specs.Prelude.{◌≡◌, ◌≤◌, ℕ, List, [], ◌++◌, length, map, Option}
use Rattle.std.specs.BTreeSet.{BTreeSet}
use Rattle.std.specs.FinMap.{from_entries}
use Rattle.claim_model.specs.Facts.{Entry}
use Rattle.edge_base.specs.Edge.{SourceGave, SourceGaveAll}
use Rattle.salvage_scan.specs.declared.found.Found.{Found}
use Rattle.salvage_scan.specs.Salvage.{salvage}
use Rattle.salvage_scan.specs.Arrivals.{blob_of}
use Rattle.salvage_scan.specs.Pieces.{Scanning, fed, kept_at, still_found}
use Rattle.fact_lines.specs.Blobs.{Blob, pack_facts, with_blobs, HasRefsOf}

-- the blob of a finding whose bytes a scanner keeps
abbrev pub kept_blob : Scanning → Found → Blob
kept_blob scan f = (f.r, kept_at scan f)

-- These bytes came, and the blobs that the scanner found in them were added. Whatever bytes follow, the blobs that it
-- finds then complete the facts of all.
pub record IsTaken (front : List ℕ) (scan : Scanning) (seen : BTreeSet (List ℕ)) (facts : List Entry) : Type 0 where
  pub counts : fed scan ≡ length front
  pub refs : HasRefsOf seen facts
  pub says : (more : List ℕ) → with_blobs facts (map blob_of (still_found scan more))
      ≡ with_blobs [] (map blob_of (salvage (front ++ more)))

-- a source gave so many bytes, and their blobs were added
pub record Came (left left_now : Option (List ℕ)) (count : ℕ) (scan : Scanning) (seen : BTreeSet (List ℕ))
    (facts : List Entry) : Type 0 where
  pub front : List ℕ
  pub long : length front ≡ count
  pub gave : SourceGave left left_now front
  pub taken : IsTaken front scan seen facts

-- the facts of all blobs of a pack, gathered in their order
abbrev pub IsAllOf : List ℕ → List Entry → Type 0
IsAllOf pack facts = facts ≡ with_blobs [] (map blob_of (salvage pack))

-- a source had at most so many bytes left, and these are the facts of their blobs
pub record GaveFacts (most : ℕ) (left left_now : Option (List ℕ)) (facts : List Entry) : Type 0 where
  pub input : List ℕ
  pub short : length input ≤ most
  pub gave : SourceGaveAll left left_now input
  pub says : from_entries facts ≡ pack_facts input
