-- How the blobs of a note are put into a store, and its line is written (docs/commands.md).
use Rattle.std.specs.Prelude.{◌≡◌, ◌⊎◌, ◌≤◌, List, [], ◌∷◌, ◌++◌, length, Err}
use Rattle.blobref.specs.Blobref.{ref_of}
use Rattle.edge_base.specs.declared.answers.PutFault.{PutFault}
use Rattle.edge_base.specs.declared.edge.Sink.{Ghosts as SinkGhosts}
use Rattle.pack_disk.specs.declared.disk.Disk.{Ghosts as DiskGhosts}
use Rattle.pack_format.specs.Header.{max_size}
use Rattle.pack_store.specs.Archive.{Archive}
use Rattle.pack_store.specs.Packs.{KeepsAll}
use Rattle.pack_store.specs.Puts.{Blob, PutsBlobs, PutLeaves}
use Rattle.top_frame.specs.declared.status.Status.{Status}
use Rattle.top_frame.specs.Faults.{put_status}
use Rattle.top_frame.specs.Limits.{limits}
use Rattle.top_frame.specs.Steps.{Writes}
use Rattle.top_notes.specs.declared.notes.Note.{Note}

-- the blobs of a note, each with its ref: the key's, then the signed one
abbrev pub blobs_in : Note → List Blob
blobs_in note = (note.signer, note.key) ∷ (note.r, note.blob) ∷ []

-- each is under the ref that the program gives it, and no longer than a blob may be
pub record CanBePut (note : Note) : Type 0 where
  pub signer : note.signer ≡ ref_of note.key
  pub named : note.r ≡ ref_of note.blob
  pub key_short : length note.key ≤ max_size
  pub blob_short : length note.blob ≤ max_size

-- the first so many of these blobs were put in turn, and the next one, which isn't too long, was refused by this fault
pub record StopsAt {D : Type 0} (g : DiskGhosts D) (old : Archive D) (blobs : List Blob) (new : Archive D)
    (fault : PutFault) : Type 0 where
  pub gone : List Blob
  pub next : Blob
  pub rest : List Blob
  pub cut : blobs ≡ gone ++ next ∷ rest
  pub short : length next.1 ≤ max_size
  -- the store between the two
  pub between : Archive D
  pub puts : PutsBlobs g limits old gone between
  pub puts_later : g.faults old.disk ≤ g.faults between.disk
  pub refused : PutLeaves g limits between new next (Err fault)
  pub crash : KeepsAll g between.disk new.disk
  pub later : g.faults between.disk ≤ g.faults new.disk

module _ {D K : Type 0} (g : DiskGhosts D) (h : SinkGhosts K) (note : Note) (store : Archive D) (disk : D)
    (sink sink_now : K) (answer : Status) where
  -- all were put, and then its line was written, or that failed
  pub record PutsNote : Type 0 where
    pub new : Archive D
    pub is : disk ≡ new.disk
    pub puts : PutsBlobs g limits store (blobs_in note) new
    pub later : g.faults store.disk ≤ g.faults new.disk
    pub wrote : Writes h sink sink_now note.line answer
    pub sink_later : h.faults sink ≤ h.faults sink_now

  -- one of them was refused, and nothing was written
  pub record StopsNote : Type 0 where
    pub new : Archive D
    pub is : disk ≡ new.disk
    pub fault : PutFault
    pub stops : StopsAt g store (blobs_in note) new fault
    pub unwritten : sink_now ≡ sink
    pub told : answer ≡ put_status fault

  -- how storing a note ends
  abbrev pub StoreEnds : Type 0
  StoreEnds = PutsNote ⊎ StopsNote
