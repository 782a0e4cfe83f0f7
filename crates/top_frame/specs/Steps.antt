-- What the steps of commands answer.
use Rattle.std.specs.Prelude.{◌≡◌, ℕ, List, Option, None}
use Rattle.std.specs.Option.{ForSome}
use Rattle.std.specs.FinMap.{get}
use Rattle.edge_base.specs.Edge.{FaultsRose, SinkTook, SinkTookFront}
use Rattle.edge_base.specs.declared.edge.Source.{Ghosts as SourceGhosts}
use Rattle.edge_base.specs.declared.edge.Sink.{Ghosts as SinkGhosts}
use Rattle.pack_disk.specs.Packs.{Packs}
use Rattle.pack_disk.specs.declared.disk.Disk.{Ghosts as DiskGhosts}
use Rattle.pack_store.specs.Archive.{Archive}
use Rattle.pack_store.specs.Calls.{IsReadFrom}
use Rattle.pack_store.specs.Puts.{blobs_of}
use Rattle.pack_store.specs.Rows.{number_of}
use Rattle.top_frame.specs.declared.status.InputFault.TheVariants.{BadRef, BadDate, BadNumber, BadName, TooBig, NotAFile, Short, Deep}
use Rattle.top_frame.specs.declared.status.InputFault.TheVariants.{NoKey, TooLong, BadQuery, BadChanges, Words}
use Rattle.top_frame.specs.declared.status.Status.{Status}
use Rattle.top_frame.specs.declared.status.Status.TheVariants as status
use Rattle.top_frame.specs.Frame.{IsTooBig}

-- why the input wasn't read
abbrev pub RefusesInput : {S : Type 0} → SourceGhosts S → ℕ → S → S → Status → Type 0
RefusesInput g most old new status.ReadFault = FaultsRose (g.faults old) (g.faults new)
RefusesInput g most old new (status.BadInput (TooBig size)) = IsTooBig size most (g.left old) (g.left new)
RefusesInput g most old new status.NoMemory = Unit {0}
RefusesInput g most old new _ = ⊥

-- a text that is too long, told as such
abbrev pub too_long_status : Status → Status
too_long_status (status.BadInput (TooBig size)) = status.BadInput (TooLong size)
too_long_status (status.BadInput BadRef) = status.BadInput BadRef
too_long_status (status.BadInput BadDate) = status.BadInput BadDate
too_long_status (status.BadInput BadNumber) = status.BadInput BadNumber
too_long_status (status.BadInput BadName) = status.BadInput BadName
too_long_status (status.BadInput (NotAFile r)) = status.BadInput (NotAFile r)
too_long_status (status.BadInput (Short r has wants)) = status.BadInput (Short r has wants)
too_long_status (status.BadInput (Deep r)) = status.BadInput (Deep r)
too_long_status (status.BadInput NoKey) = status.BadInput NoKey
too_long_status (status.BadInput (TooLong len)) = status.BadInput (TooLong len)
too_long_status (status.BadInput (BadQuery fault)) = status.BadInput (BadQuery fault)
too_long_status (status.BadInput BadChanges) = status.BadInput BadChanges
too_long_status (status.BadInput (Words fault)) = status.BadInput (Words fault)
too_long_status status.Done = status.Done
too_long_status status.NoMemory = status.NoMemory
too_long_status status.BadWords = status.BadWords
too_long_status status.ListenerFault = status.ListenerFault
too_long_status (status.Absent r) = status.Absent r
too_long_status status.ReadFault = status.ReadFault
too_long_status status.WriteFault = status.WriteFault
too_long_status status.Disk = status.Disk
too_long_status status.Peer = status.Peer
too_long_status (status.BadReply fault) = status.BadReply fault
too_long_status status.HandFault = status.HandFault
too_long_status (status.Full blobs pack) = status.Full blobs pack
too_long_status (status.Damaged want is) = status.Damaged want is

-- what was asked of the disk, which nothing changed, was refused: by that cause, or as memory or the disk failed
abbrev pub Finds : {D : Type 0} → DiskGhosts D → D → D → (Status → Type 0) → Status → Type 0
Finds g old new Why status.Disk = FaultsRose (g.faults old) (g.faults new)
Finds g old new Why status.NoMemory = Unit {0}
Finds g old new Why (status.Absent r) = Why (status.Absent r)
Finds g old new Why (status.Damaged want is) = Why (status.Damaged want is)
Finds g old new Why _ = ⊥

-- nothing but memory or the disk refuses it
abbrev pub NeverRefuses : Status → Type 0
NeverRefuses answer = ⊥

-- it is so of the store that was opened on the disk, from what the disk's calls answered
pub record OfOpened {D : Type 0} (g : DiskGhosts D) (disk : D) (P : Archive D → Type 0) : Type 0 where
  pub store : Archive D
  pub read : IsReadFrom g disk store
  pub is : P store

-- the ref isn't there: not in the store that was opened, and not in the packs, where the disk tells them
pub record IsAbsent {D : Type 0} (s : Archive D) (r : List ℕ) (told : Option Packs) (asked : List ℕ) : Type 0 where
  pub same : asked ≡ r
  pub lacks : number_of r s.rows ≡ None
  pub absent : ForSome told (λ held. get (blobs_of held) r ≡ None)

-- how the writing ended
abbrev pub Writes : {K : Type 0} → SinkGhosts K → K → K → List ℕ → Status → Type 0
Writes g old new bytes status.Done = SinkTook (g.written old) (g.written new) bytes
Writes g old new bytes status.WriteFault = FaultsRose (g.faults old) (g.faults new) × SinkTookFront (g.written old) (g.written new) bytes
Writes g old new bytes _ = ⊥
