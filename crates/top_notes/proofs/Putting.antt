-- Putting the blobs of a note, one after the other.
use Rattle.std.proofs.Common.{◌≡◌, ℕ, ◌≤◌, Err, List, [], ◌∷◌, refl, subst, arith}
use Rattle.edge_base.specs.declared.answers.PutFault.{PutFault}
use Rattle.pack_disk.specs.Packs.{Packs}
use Rattle.pack_disk.specs.declared.disk.Disk.{Ghosts as DiskGhosts}
use Rattle.pack_store.specs.Archive.{Archive}
use Rattle.pack_store.specs.Packs.{KeepsAll}
use Rattle.pack_store.specs.Puts.{Blob, PutsBlobs, PutLeaves}
use Rattle.pack_store.proofs.Runs.{puts_nothing, puts_then}
use Rattle.top_frame.specs.Limits.{limits}
use Rattle.top_notes.specs.Storing.{blobs_in, CanBePut, StopsAt}
use Rattle.top_notes.specs.declared.notes.Note.{Note}

module _ {D : Type 0} (g : DiskGhosts D)
    (counts_now : (d : D) (t : ℕ) (c : Packs) → t ≤ g.moment d → g.images d c → g.images_since d t c)
    (only_now : (d : D) (c : Packs) → g.images_since d (g.moment d) c → g.images d c)
    (note : Note) (can : CanBePut note) (old : Archive D) (key_bytes : List ℕ) (key_is : key_bytes ≡ note.key) where
  abbrev key : Blob
  key = (note.signer, note.key)

  abbrev blob : Blob
  blob = (note.r, note.blob)

  -- the key's blob was refused
  pub stops_first : (new : Archive D) (e : PutFault) → PutLeaves g limits old new (note.signer, key_bytes) (Err e)
      → KeepsAll g old.disk new.disk → g.faults old.disk ≤ g.faults new.disk → StopsAt g old (blobs_in note) new e
  stops_first new e refused crash later = record {
    gone = [];
    next = key;
    rest = blob ∷ [];
    cut = refl;
    short = can.key_short;
    between = old;
    puts = puts_nothing g limits counts_now only_now old;
    puts_later = omega arith;
    refused = subst (λ (b : List ℕ). PutLeaves g limits old new (note.signer, b) (Err e)) key_is refused;
    crash = crash;
    later = later;
  }

  -- the key's blob was put
  module _ (between new : Archive D) (first : PutsBlobs g limits old ((note.signer, key_bytes) ∷ []) between)
      (first_later : g.faults old.disk ≤ g.faults between.disk) (bytes : List ℕ) (is : bytes ≡ note.blob) where
    key_put : PutsBlobs g limits old (key ∷ []) between
    key_put = subst (λ (b : List ℕ). PutsBlobs g limits old ((note.signer, b) ∷ []) between) key_is first

    -- and the signed one was refused
    pub stops_second : (e : PutFault) → PutLeaves g limits between new (note.r, bytes) (Err e)
        → KeepsAll g between.disk new.disk → g.faults between.disk ≤ g.faults new.disk
        → StopsAt g old (blobs_in note) new e
    stops_second e refused crash later = record {
      gone = key ∷ [];
      next = blob;
      rest = [];
      cut = refl;
      short = can.blob_short;
      between = between;
      puts = key_put;
      puts_later = first_later;
      refused = subst (λ (b : List ℕ). PutLeaves g limits between new (note.r, b) (Err e)) is refused;
      crash = crash;
      later = later;
    }

    -- and the signed one too
    pub puts_both : PutsBlobs g limits between ((note.r, bytes) ∷ []) new → PutsBlobs g limits old (blobs_in note) new
    puts_both second =
        puts_then g limits counts_now only_now old between new (key ∷ []) (blob ∷ []) key_put
        (subst (λ (b : List ℕ). PutsBlobs g limits between ((note.r, b) ∷ []) new) is second)
