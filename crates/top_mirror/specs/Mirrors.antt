-- How a run of `mirror` ends (docs/commands.md).
use Rattle.std.specs.Prelude.{◌≡◌, ◌≢◌, ◌⊎◌, ◌≤◌, ◌+◌, ℕ, List, ◌++◌, length, map, slice_get, codes, decimal, Option, None, Some, Ok, Err}
use Rattle.std.specs.List.{AllZip}
use Rattle.std.specs.Option.{ForSome, option_map}
use Rattle.std.specs.FinMap.{entries}
use Rattle.edge_base.specs.Edge.{FaultsRose, SinkTook, SinkTookFront}
use Rattle.edge_base.specs.Shelf.{Blob, Blobs}
use Rattle.edge_base.specs.declared.edge.Sink.{Ghosts as SinkGhosts}
use Rattle.salvage_scan.specs.Arrivals.{arrivals}
use Rattle.pack_disk.specs.Disk.{Tells}
use Rattle.pack_disk.specs.Runs.{Stays}
use Rattle.pack_disk.specs.declared.disk.Disk.{Ghosts as DiskGhosts}
use Rattle.pack_store.specs.Archive.{Archive, count}
use Rattle.pack_store.specs.Calls.{IsReadFrom}
use Rattle.pack_store.specs.Packs.{KeepsAll}
use Rattle.pack_store.specs.Puts.{PutsAll, HoldAll, IsFull, IsAtLimit, blobs_of}
use Rattle.pack_store.specs.StoreShelf.{content_of}
use Rattle.peer_base.specs.declared.peer.Peer.{Ghosts as PeerGhosts}
use Rattle.peer_base.specs.declared.peer.PeerFault.TheVariants as peer_fault
use Rattle.listed_pages.specs.Answers.{Fetched}
use Rattle.sync_core.specs.declared.syncing.SyncFault.TheVariants as sync
use Rattle.store_peer.specs.StorePeer.{peer_of}
use Rattle.ring_rounds.specs.declared.rounds.RingFault.{RingFault}
use Rattle.ring_rounds.specs.declared.rounds.RingFault.TheVariants.{Gather, Scatter}
use Rattle.ring_rounds.specs.Joins.{JoinsAll, StaysBetween}
use Rattle.ring_rounds.specs.Peers.{IsRunOf}
use Rattle.ring_rounds.specs.Rounds.{IsRound, RoundStops}
use Rattle.perkeep_words.specs.Mirroring.{mirror_of}
use Rattle.top_frame.specs.declared.status.Status.{Status}
use Rattle.top_frame.specs.declared.status.Status.TheVariants as status
use Rattle.top_frame.specs.Answers.{Answers, Replies}
use Rattle.top_frame.specs.Faults.{pull_status, push_status}
use Rattle.top_frame.specs.Limits.{limits}

-- how many stores there are, with the hub, and how many blobs that has
abbrev pub stores_line : ℕ → ℕ → List ℕ
stores_line peers blobs = codes "stores " ++ decimal (peers + 1) ++ codes " blobs " ++ decimal blobs ++ codes "\n"

-- the status of a round that stopped at a fault, and the place of the peer at which it did
abbrev pub round_status : RingFault → Status
round_status (Gather place e) = pull_status e
round_status (Scatter place e) = push_status e

abbrev pub place_of : RingFault → ℕ
place_of (Gather place e) = place
place_of (Scatter place e) = place

-- it is so, but where the hub failed as a blob was put to it
abbrev pub UnlessPutFailed : RingFault → Type 0 → Type 0
UnlessPutFailed (Gather place (sync.Target peer_fault.Failed)) S = Unit {0}
UnlessPutFailed _ S = S

-- the words are a line of `mirror` that names so many addresses
abbrev pub Names : List (List ℕ) → ℕ → Type 0
Names words n = option_map length (mirror_of words) ≡ Some n

-- the disk of the hub's store, the peers and the sink at a moment
pub record Objects (D P K : Type 0) : Type 0 where
  pub disk : D
  pub peers : List P
  pub sink : K

abbrev pub objects : {D P K : Type 0} → D → List P → K → Objects D P K
objects disk peers sink = record { disk = disk; peers = peers; sink = sink }

module _ {D P K : Type 0} (g : DiskGhosts D) (h : PeerGhosts P) (o : SinkGhosts K) (old new : Objects D P K) where
  -- what the disk tells of blobs at the start, and then
  abbrev pub told : Option Blobs
  told = option_map blobs_of (g.packs old.disk)

  abbrev pub told_now : Option Blobs
  told_now = option_map blobs_of (g.packs new.disk)

  -- What stands whatever is answered: a crash at any moment leaves what holds every ref that each image held before, to
  -- each peer its calls alone were made, and no count of faults falls.
  pub record Always : Type 0 where
    pub crash : KeepsAll g old.disk new.disk
    pub each : AllZip (IsRunOf h) old.peers new.peers
    pub disk_later : g.faults old.disk ≤ g.faults new.disk
    pub sink_later : o.faults old.sink ≤ o.faults new.sink

  -- The store of the disk was opened, from what the disk's calls answered, and holds what the disk tells. It was the
  -- hub, and what it then had is the disk now.
  pub record IsHub (store store_now : Archive D) : Type 0 where
    pub opened : Stays g old.disk store.disk
    pub read : IsReadFrom g old.disk store
    pub holds : content_of g store ≡ told
    pub now : store_now.disk ≡ new.disk

  -- the hub gained these blobs, which every image has, and holds what the disk tells
  pub record Gains (store_now : Archive D) (blobs : List Blob) : Type 0 where
    pub put : Tells (g.packs old.disk) (g.packs new.disk) (PutsAll limits blobs)
    pub held : HoldAll (g.images new.disk) blobs
    pub holds : content_of g store_now ≡ told_now

  -- A round was made, and so where disk and peers tell all have the refs that any had. The line was written so: the hub
  -- has as many blobs as arrived on its disk.
  pub record Finishes (Wrote : List ℕ → Type 0) : Type 0 where
    pub store : Archive D
    pub store_now : Archive D
    pub hub : IsHub store store_now
    pub copied : ℕ
    pub round : IsRound (peer_of g) h store store_now old.peers new.peers copied
    pub gains : Gains store_now round.gone
    pub joined : JoinsAll told told_now (map h.content old.peers) (map h.content new.peers)
    pub blobs : ForSome (g.packs new.disk) (λ held. count store_now ≡ length (arrivals (entries held)))
    pub wrote : Wrote (stores_line (length old.peers) (count store_now))

  -- ---- refusals

  -- the store wasn't opened: no peer was asked, and nothing was written
  pub record Unopened : Type 0 where
    pub unwritten : new.sink ≡ old.sink
    pub unasked : new.peers ≡ old.peers
    pub stays : Stays g old.disk new.disk

  -- it is so of the peer at this place, as it was at the start and as it is now
  pub record AtPeer (place : ℕ) (Why : P → P → Type 0) : Type 0 where
    pub peer : P
    pub peer_now : P
    pub at : slice_get old.peers place ≡ Some peer
    pub at_now : slice_get new.peers place ≡ Some peer_now
    pub why : Why peer peer_now

  -- the hub has no room for a blob that it lacks
  pub record IsHubFull (blobs pack : ℕ) : Type 0 where
    pub limit : IsAtLimit limits blobs pack
    pub next : Blob
    pub full : ForSome (g.packs new.disk) (IsFull limits next blobs pack)

  -- why a round over a store stopped at the peer of this place, by the status
  abbrev pub Cause : ℕ → (store store_now : Archive D) → Status → Type 0
  Cause place store store_now status.Disk = FaultsRose (g.faults old.disk) (g.faults new.disk)
  Cause place store store_now status.Peer =
      AtPeer place (λ peer peer_now. FaultsRose (h.faults peer) (h.faults peer_now))
  Cause place store store_now status.NoMemory = Unit {0}
  Cause place store store_now (status.BadReply why) =
      AtPeer place (λ peer peer_now. (h.content peer ≡ None) × Replies h peer peer_now why)
  Cause place store store_now (status.Full blobs pack) =
      IsHubFull blobs pack ⊎ AtPeer place (λ peer peer_now. (blob : Blob) × h.fills peer_now blob blobs pack)
  Cause place store store_now (status.Damaged want is) = (is ≢ want)
      × (AtPeer place (λ peer peer_now. (h.content peer ≡ None) × Answers h peer peer_now (peer_fault.Damaged want is))
      ⊎ ((g.packs old.disk ≡ None) × Fetched (peer_of g) store store_now want (Err (peer_fault.Damaged want is))))
  Cause place store store_now _ = ⊥

  -- the blobs that the hub gained in a round that stopped
  abbrev pub gained : (store store_now : Archive D) (fault : RingFault)
      → RoundStops (peer_of g) h store store_now old.peers new.peers fault → List Blob
  gained store store_now (Gather place e) w = w.2.before ++ w.2.gone
  gained store store_now (Scatter place e) w = w.taken

  -- A round stopped at a fault, and nothing was written. Where disk and peers tell, each has what it had, and further
  -- blobs of all.
  pub record Stops (answer : Status) : Type 0 where
    pub unwritten : new.sink ≡ old.sink
    pub store : Archive D
    pub store_now : Archive D
    pub hub : IsHub store store_now
    pub fault : RingFault
    pub told_as : answer ≡ round_status fault
    pub round : RoundStops (peer_of g) h store store_now old.peers new.peers fault
    pub gains : UnlessPutFailed fault (Gains store_now (gained store store_now fault round))
    pub between : StaysBetween told (content_of g store_now) (map h.content old.peers) (map h.content new.peers)
    pub why : Cause (place_of fault) store store_now answer

  -- How it ends where the words fit, by its status.
  abbrev pub EndsBy : Status → Type 0
  EndsBy status.Done = Finishes (SinkTook (o.written old.sink) (o.written new.sink))
  EndsBy status.WriteFault = FaultsRose (o.faults old.sink) (o.faults new.sink)
      × Finishes (SinkTookFront (o.written old.sink) (o.written new.sink))
  EndsBy status.NoMemory = Unopened ⊎ (Stops status.NoMemory ⊎ ((new.sink ≡ old.sink) × Finishes (λ line. Unit {0})))
  EndsBy status.Disk = (Unopened × FaultsRose (g.faults old.disk) (g.faults new.disk)) ⊎ Stops status.Disk
  EndsBy status.Peer = Stops status.Peer
  EndsBy (status.BadReply why) = Stops (status.BadReply why)
  EndsBy (status.Full blobs pack) = Stops (status.Full blobs pack)
  EndsBy (status.Damaged want is) = Stops (status.Damaged want is)
  EndsBy _ = ⊥

  -- the words are no line of `mirror` with an address for each peer, and all is as before
  pub record Misfits (words : List (List ℕ)) (answer : Status) : Type 0 where
    pub told_as : answer ≡ status.BadWords
    pub other : Names words (length old.peers) → ⊥
    pub untouched : new ≡ old

  pub record MirrorEnds (words : List (List ℕ)) (answer : Status) : Type 0 where
    pub always : Always
    pub ends : Misfits words answer ⊎ (Names words (length old.peers) × EndsBy answer)
