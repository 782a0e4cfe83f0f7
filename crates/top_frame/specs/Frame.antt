-- What a command means, and how a run of it may end: the same for every command (docs/commands.md).
use Rattle.std.specs.Prelude.{◌≡◌, ◌≢◌, ◌⊎◌, ◌≤◌, ◌<◌, ◌+◌, ℕ, ℤ, Bool, true, false, List, [], ◌∷◌, ◌++◌, length, Option, None, Some, IfSome, Err}
use Rattle.std.specs.Option.{ForSome, option_map}
use Rattle.std.specs.FinMap.{entries}
use Rattle.schema_date.specs.Dates.{IsInRange}
use Rattle.schema_write.specs.Laws.{AreBytes}
use Rattle.schema_date.specs.DateTexts.{IsDateText}
use Rattle.edge_base.specs.Edge.{FaultsRose, SourceGave, SourceGaveAll, SourceGaveFront, SinkTook, SinkTookFront}
use Rattle.edge_base.specs.Shelf.{Blob, Blobs, Keeps}
use Rattle.edge_base.specs.declared.edge.Source.{Ghosts as SourceGhosts}
use Rattle.pack_disk.specs.Packs.{Packs}
use Rattle.pack_disk.specs.Disk.{Tells}
use Rattle.pack_disk.specs.Runs.{Stays}
use Rattle.pack_store.specs.Archive.{Archive}
use Rattle.pack_store.specs.Calls.{IsReadFrom}
use Rattle.pack_store.specs.Packs.{KeepsAll}
use Rattle.pack_store.specs.Puts.{PutsAll, HoldAll, IsFull, IsAtLimit, blobs_of}
use Rattle.peer_base.specs.declared.peer.PeerFault.{PeerFault}
use Rattle.peer_base.specs.declared.peer.PeerFault.TheVariants as peer_fault
use Rattle.listed_pages.specs.Answers.{Fetched, IsReached}
use Rattle.sync_core.specs.Copying.{lacking, copied, StandIn}
use Rattle.sync_core.specs.Turns.{SyncsAll}
use Rattle.store_peer.specs.StorePeer.{peer_of}
use Rattle.top_frame.specs.declared.status.ReplyFault.{ReplyFault}
use Rattle.top_frame.specs.declared.status.ReplyFault.TheVariants as reply
use Rattle.top_frame.specs.declared.status.InputFault.{InputFault}
use Rattle.top_frame.specs.declared.status.Status.{Status}
use Rattle.top_frame.specs.declared.status.Status.TheVariants as status
use Rattle.top_frame.specs.Limits.{limits}
use Rattle.top_frame.specs.Outside.{Outside, World}
use Rattle.top_frame.specs.Answers.{Answers, Replies, SyncsPart}

-- ---- what a command means

-- how it asks the disk: not at all; so that it only looks at what stands there; or as a store, which it opens, and that syncs each pack
pub data DiskUse : Type 0 where
  leaves_alone : DiskUse
  only_looks : DiskUse
  opens_store : DiskUse

-- whether it reads the source, and then when: before the store is opened, or as the store stands open; and at most how many bytes
pub data Input : Type 0 where
  reads_nothing : Input
  reads_first : (most : ℕ) → Input
  reads_later : (most : ℕ) → Input

-- whether it asks the peer, and which way blobs are copied: to the store, or from it
pub data Exchange : Type 0 where
  no_peer : Exchange
  pulls : Exchange
  pushes : Exchange

-- what came from the outside before the command's own calls on its store, and what is copied between that and the peer
pub record Given : Type 0 where
  -- what the source had left
  pub input : List ℕ
  -- the time that the clock told, its written text, and the random bytes that the dice gave
  pub date : ℤ
  pub date_text : List ℕ
  pub random : List ℕ
  -- the blobs that are pulled, in the order of their refs
  pub pulled : List Blob
  -- how many blobs of the one that is copied from the other lacked, and how many it had
  pub lacked : ℕ
  pub had : ℕ

pub record Meaning : Type 1 where
  pub disk : DiskUse
  pub input : Input
  -- whether it asks the clock and the dice
  pub draws_time : Bool
  pub draws_random : Bool
  pub exchange : Exchange
  -- what is wrong with what the words say, if anything is that shows before anything is touched
  pub bad : Option InputFault
  -- how an input of that many bytes, one more than it may have, is told
  pub too_long : ℕ → InputFault
  -- what is wrong with an input that isn't too long, if anything is
  pub wrong : List ℕ → Option InputFault
  -- the blobs that it puts, in their order, each with its ref
  pub blobs : Given → List Blob
  -- what it writes, by what it is given and, where the disk tells them, the packs that it finds
  pub IsOutput : Given → Option Packs → List ℕ → Type 0
  -- whether it writes as it goes, and what it may have written where it is refused
  pub streams : Bool
  pub IsPart : Given → Option Packs → List ℕ → Type 0
  -- when it is refused for what it finds, by what it has written and put by then, and its status
  pub Refuses : Given → Option Packs → List ℕ → List Blob → Status → Type 0

-- a time that a date can tell, with its written text: the clock's, where that tells it
pub record IsTime (told : Option ℤ) (given : Given) : Type 0 where
  pub range : IsInRange given.date
  pub text : IsDateText given.date given.date_text
  pub clock : ForSome told (λ time. given.date ≡ time)

-- sixteen random bytes: those of the dice, where they tell them
pub record AreRandom (told : Option (List ℕ)) (given : Given) : Type 0 where
  pub sixteen : AreBytes 16 given.random
  pub dice : ForSome told (λ random. given.random ≡ random)

-- what is drawn, by what the clock and the dice tell
abbrev pub IsDrawn : Meaning → Option ℤ → Option (List ℕ) → Given → Type 0
IsDrawn m time random given = (m.draws_time ≡ true → IsTime time given) × (m.draws_random ≡ true → AreRandom random given)

-- it puts nothing
abbrev pub IsQuiet : Meaning → Type 0
IsQuiet m = (given : Given) → m.blobs given ≡ []

-- ---- what was read

-- all that the source had left, at most so many bytes
abbrev pub GaveWhole : ℕ → Option (List ℕ) → Option (List ℕ) → List ℕ → Type 0
GaveWhole most left left_now input = (length input ≤ most) × SourceGaveAll left left_now input

-- what the source had left, of which it gave a front
abbrev pub GaveSome : Option (List ℕ) → Option (List ℕ) → List ℕ → Type 0
GaveSome left left_now input = (front : List ℕ) × SourceGave left left_now front × ForSome left (λ all. input ≡ all)

-- the whole input
abbrev pub ReadsAll : {S : Type 0} → SourceGhosts S → Input → S → S → List ℕ → Type 0
ReadsAll g reads_nothing old new input = (new ≡ old) × (input ≡ [])
ReadsAll g (reads_first most) old new input = GaveWhole most (g.left old) (g.left new) input
ReadsAll g (reads_later most) old new input = GaveWhole most (g.left old) (g.left new) input

-- the input of a refusal that stands behind the opening: where the store stands open as it is read, a front of it was read
abbrev pub ReadsSome : {S : Type 0} → SourceGhosts S → Input → S → S → List ℕ → Type 0
ReadsSome g reads_nothing old new input = (new ≡ old) × (input ≡ [])
ReadsSome g (reads_first most) old new input = GaveWhole most (g.left old) (g.left new) input
ReadsSome g (reads_later most) old new input = GaveSome (g.left old) (g.left new) input

-- more bytes were left than may be read, and the source gave one more than that
pub record IsTooBig (size most : ℕ) (left left_now : Option (List ℕ)) : Type 0 where
  pub told : size ≡ most + 1
  pub more : IfSome left (λ input. most < length input)
  pub gave : SourceGaveFront left left_now (most + 1)

-- ---- the ends

module _ {D P S K C R : Type 0} (o : Outside D P S K C R) (m : Meaning) (old new : World D P S K C R) where
  abbrev pub told : Option Packs
  told = o.disk.packs old.disk

  -- what stands whatever is answered
  pub record Always : Type 0 where
    -- a crash at any moment leaves what holds every ref that each image held before, and what was an image before where nothing is put
    pub crash : KeepsAll o.disk old.disk new.disk
    pub quiet : IsQuiet m → Stays o.disk old.disk new.disk
    -- what the command doesn't ask is left alone
    pub unopened : m.disk ≡ leaves_alone → new.disk ≡ old.disk
    pub unread : m.input ≡ reads_nothing → new.source ≡ old.source
    pub untimed : m.draws_time ≡ false → new.clock ≡ old.clock
    pub undiced : m.draws_random ≡ false → new.dice ≡ old.dice
    pub unmet : m.exchange ≡ no_peer → new.peer ≡ old.peer
    -- a peer that is pulled from tells what it told
    pub unsent : m.exchange ≡ pulls → o.peer.content new.peer ≡ o.peer.content old.peer
    -- where it only looks at the disk, no moment of that passes: nothing is synced, made or added
    pub unmoved : m.disk ≡ only_looks → o.disk.moment new.disk ≡ o.disk.moment old.disk
    -- no count of faults falls
    pub peer_later : o.peer.faults old.peer ≤ o.peer.faults new.peer
    pub disk_later : o.disk.faults old.disk ≤ o.disk.faults new.disk
    pub source_later : o.source.faults old.source ≤ o.source.faults new.source
    pub sink_later : o.sink.faults old.sink ≤ o.sink.faults new.sink
    pub clock_later : o.clock.faults old.clock ≤ o.clock.faults new.clock
    pub dice_later : o.dice.faults old.dice ≤ o.dice.faults new.dice

  -- ---- what is copied between the store and the peer

  -- what the disk and the peer hold at the start meets it, where both tell
  abbrev pub WhereBothTell : (Blobs → Blobs → Type 0) → Type 0
  WhereBothTell P = ForSome told (λ held. ForSome (o.peer.content old.peer) (λ there. P (blobs_of held) there))

  -- so many blobs of the first lacked in the second, and so many stood there
  abbrev pub AreCounted : Given → Blobs → Blobs → Type 0
  AreCounted given from to = (given.lacked ≡ length (lacking from to)) × (given.lacked + given.had ≡ length (entries from))

  -- The store of the disk was opened, from what the disk's calls answered, and asked, and what it then had is the disk now.
  pub record IsOpened (store store_now : Archive D) : Type 0 where
    pub opened : Stays o.disk old.disk store.disk
    pub read : IsReadFrom o.disk old.disk store
    pub now : store_now.disk ≡ new.disk

  -- The peer's blobs that the store lacked were pulled, and nothing was put to the peer. Told or not, these are the blobs whose refs were on the
  -- peer's pages and not on the store's, and these and the other refs are counted.
  pub record PullsAll (given : Given) : Type 0 where
    pub store : Archive D
    pub store_now : Archive D
    pub opens : IsOpened store store_now
    pub did : SyncsAll o.peer (peer_of o.disk) old.peer new.peer store store_now given.pulled given.lacked given.had
    pub stand : StandIn (o.peer.content old.peer) given.pulled
    pub alone : o.peer.puts old.peer [] new.peer
    pub all : WhereBothTell (λ here there. given.pulled ≡ lacking there here)
    pub counted : WhereBothTell (λ here there. AreCounted given there here)

  -- these were pulled: none, since the store wasn't opened, or those that a sync copied
  abbrev pub PullsPart : Given → List Blob → Type 0
  PullsPart given pulled = ((new.peer ≡ old.peer) × (pulled ≡ []))
      ⊎ ((store store_now : Archive D) × IsOpened store store_now
      × SyncsPart o.peer (peer_of o.disk) old.peer new.peer store store_now pulled given.lacked given.had)

  -- and these pushed
  abbrev pub PushesPart : Given → List Blob → Type 0
  PushesPart given sent = ((new.peer ≡ old.peer) × (sent ≡ []))
      ⊎ ((store store_now : Archive D) × IsOpened store store_now
      × SyncsPart (peer_of o.disk) o.peer store store_now old.peer new.peer sent given.lacked given.had)

  -- what was to be pulled where that stopped, and what of it was: nothing was put to the peer
  pub record PullsSome (given : Given) : Type 0 where
    pub pulled : List Blob
    pub rest : List Blob
    pub cut : given.pulled ≡ pulled ++ rest
    pub did : PullsPart given pulled
    pub alone : o.peer.puts old.peer [] new.peer
    pub all : WhereBothTell (λ here there. given.pulled ≡ lacking there here)

  -- The store's blobs that the peer lacked, and nothing else, were put to the peer, which was reached. Told or not, these are the blobs whose
  -- refs were on the store's pages and not on the peer's, and these and the other refs are counted.
  pub record PushesAll (given : Given) : Type 0 where
    pub sent : List Blob
    pub store : Archive D
    pub store_now : Archive D
    pub opens : IsOpened store store_now
    pub did : SyncsAll (peer_of o.disk) o.peer store store_now old.peer new.peer sent given.lacked given.had
    pub stand : StandIn (option_map blobs_of told) sent
    pub put : o.peer.puts old.peer sent new.peer
    pub kept : Keeps (o.peer.content old.peer) (o.peer.content new.peer) sent
    pub all : WhereBothTell (λ here there. sent ≡ lacking here there)
    pub union : WhereBothTell (λ here there. o.peer.content new.peer ≡ Some (copied here there))
    pub counted : WhereBothTell (λ here there. AreCounted given here there)
    pub reached : IsReached o.peer old.peer new.peer

  -- a front of them was put where that stopped, and it is known what was put unless the peer failed
  pub record PushesSome (given : Given) : Type 0 where
    pub sent : List Blob
    pub did : PushesPart given sent
    pub stand : StandIn (option_map blobs_of told) sent
    pub put : o.peer.puts old.peer sent new.peer ⊎ FaultsRose (o.peer.faults old.peer) (o.peer.faults new.peer)
    pub kept : Keeps (o.peer.content old.peer) (o.peer.content new.peer) sent
    pub front : WhereBothTell (λ here there. (rest : List Blob) × (lacking here there ≡ sent ++ rest))

  abbrev pub Exchanges : Exchange → Given → Type 0
  Exchanges no_peer given = Unit {0}
  Exchanges pulls given = PullsAll given
  Exchanges pushes given = PushesAll given

  abbrev pub ExchangesSome : Exchange → Given → Type 0
  ExchangesSome no_peer given = Unit {0}
  ExchangesSome pulls given = PullsSome given
  ExchangesSome pushes given = PushesSome given

  -- the peer, which doesn't tell what it holds, answered a call with this fault
  abbrev pub PeerAnswered : PeerFault → Type 0
  PeerAnswered e = (o.peer.content old.peer ≡ None) × Answers o.peer old.peer new.peer e

  -- or so that its reply can't be used
  abbrev pub PeerReplied : ReplyFault → Type 0
  PeerReplied why = (o.peer.content old.peer ≡ None) × Replies o.peer old.peer new.peer why

  -- The store that was opened on a disk that doesn't tell its packs was asked for a blob: the bytes that it read have this other ref.
  pub record StoreDamaged (want is : List ℕ) : Type 0 where
    pub untold : told ≡ None
    pub store : Archive D
    pub store_now : Archive D
    pub opens : IsOpened store store_now
    pub fetched : Fetched (peer_of o.disk) store store_now want (Err (peer_fault.Damaged want is))

  -- ---- how it ends

  -- all was done, and what was written is such a text
  pub record Finishes (Writes : List ℕ → Type 0) : Type 0 where
    pub given : Given
    pub bytes : List ℕ
    pub fit : m.bad ≡ None
    pub drawn : IsDrawn m (o.clock.time old.clock) (o.dice.random old.dice) given
    pub read : ReadsAll o.source m.input old.source new.source given.input
    pub right : m.wrong given.input ≡ None
    pub exchanged : Exchanges m.exchange given
    pub output : m.IsOutput given told bytes
    pub put : Tells told (o.disk.packs new.disk) (PutsAll limits (m.blobs given))
    pub held : HoldAll (o.disk.images new.disk) (m.blobs given)
    pub wrote : Writes bytes

  -- it was refused before it asked the disk and the peer: only the source was touched
  pub record RefusedEarly (Why : Type 0) : Type 0 where
    pub unasked : new.disk ≡ old.disk
    pub unwritten : new.sink ≡ old.sink
    pub unsent : new.peer ≡ old.peer
    pub why : Why

  -- what was written by the time of a refusal: exactly these bytes, and the sink is left alone where nothing is written before the end
  abbrev pub WritesSome : Bool → List ℕ → Type 0
  WritesSome false bytes = new.sink ≡ old.sink
  WritesSome true bytes = SinkTook (o.sink.written old.sink) (o.sink.written new.sink) bytes

  -- it was refused later: what it reads first was read and isn't wrong
  pub record RefusedLate (Why : Given → List ℕ → Type 0) : Type 0 where
    pub given : Given
    pub bytes : List ℕ
    pub fit : m.bad ≡ None
    pub drawn : IsDrawn m (o.clock.time old.clock) (o.dice.random old.dice) given
    pub read : ReadsSome o.source m.input old.source new.source given.input
    pub right : m.wrong given.input ≡ None
    pub exchanged : ExchangesSome m.exchange given
    pub written : WritesSome m.streams bytes
    pub part : m.IsPart given told bytes
    pub why : Why given bytes

  -- a front of the blobs was put, and no more
  pub record PutsFront (Why : List Blob → List Blob → Type 0) (given : Given) : Type 0 where
    pub blobs : List Blob
    pub rest : List Blob
    pub cut : m.blobs given ≡ blobs ++ rest
    pub put : Tells told (o.disk.packs new.disk) (PutsAll limits blobs)
    pub held : HoldAll (o.disk.images new.disk) blobs
    pub why : Why blobs rest

  -- a refusal of that kind with a cause that the given, what was written, what was put and what is left to put give
  abbrev pub EndsEarly : (Given → List ℕ → List Blob → List Blob → Type 0) → Type 0
  EndsEarly Why = RefusedLate (λ given bytes. PutsFront (Why given bytes) given)

  -- the next blob is lacking, and there is no room for it
  abbrev pub StopsFull : ℕ → ℕ → List Blob → Type 0
  StopsFull blobs pack [] = ⊥
  StopsFull blobs pack (next ∷ more) = IsAtLimit limits blobs pack × ForSome (o.disk.packs new.disk) (IsFull limits next blobs pack)

  -- a refusal of that kind as blobs are copied from the peer or to it
  abbrev pub WhileExchanging : Exchange → Type 0 → Type 0
  WhileExchanging no_peer Why = ⊥
  WhileExchanging pulls Why = EndsEarly (λ given bytes gone rest. Why)
  WhileExchanging pushes Why = EndsEarly (λ given bytes gone rest. Why)

  -- the peer has no room for a blob that is pushed
  abbrev pub WhilePushing : Exchange → ℕ → ℕ → Type 0
  WhilePushing pushes blobs pack = EndsEarly (λ given bytes gone rest. (blob : Blob) × o.peer.fills new.peer blob blobs pack)
  WhilePushing _ blobs pack = ⊥

  -- bytes of another ref were read where blobs are copied from: from the peer, or from the store
  abbrev pub WhileFetching : Exchange → List ℕ → List ℕ → Type 0
  WhileFetching no_peer want is = ⊥
  WhileFetching pulls want is = EndsEarly (λ given bytes gone rest. (is ≢ want) × PeerAnswered (peer_fault.Damaged want is))
  WhileFetching pushes want is = EndsEarly (λ given bytes gone rest. (is ≢ want) × StoreDamaged want is)

  -- a fault of the reading, where the command reads
  abbrev pub WhileReading : Input → (ℕ → Type 0) → Type 0
  WhileReading reads_nothing Why = ⊥
  WhileReading (reads_first most) Why = RefusedEarly ((m.bad ≡ None) × Why most)
  WhileReading (reads_later most) Why = EndsEarly (λ given bytes gone rest. Why most)

  -- an input that is too long is told as such a fault
  abbrev pub IsTooLong : InputFault → ℕ → Type 0
  IsTooLong fault most = (size : ℕ) × (fault ≡ m.too_long size) × IsTooBig size most (o.source.left old.source) (o.source.left new.source)

  -- as the store stands open it may be read further
  abbrev pub IsTooMany : InputFault → ℕ → Type 0
  IsTooMany fault most = (fault ≡ m.too_long (most + 1)) × IfSome (o.source.left old.source) (λ input. most < length input)

  abbrev pub ReadsTooMuch : Input → InputFault → Type 0
  ReadsTooMuch reads_nothing fault = ⊥
  ReadsTooMuch (reads_first most) fault = RefusedEarly ((m.bad ≡ None) × IsTooLong fault most)
  ReadsTooMuch (reads_later most) fault = EndsEarly (λ given bytes gone rest. IsTooMany fault most)

  -- an input that was read whole before the store is opened, and is wrong
  abbrev pub WhenRead : Input → InputFault → Type 0
  WhenRead (reads_first most) fault =
      RefusedEarly ((m.bad ≡ None) × (input : List ℕ) × GaveWhole most (o.source.left old.source) (o.source.left new.source) input × (m.wrong input ≡ Some fault))
  WhenRead _ fault = ⊥

  -- why what the words or the input say can't be used
  pub data Unusable (fault : InputFault) : Type 0 where
    said_badly : m.bad ≡ Some fault → new ≡ old → Unusable fault
    read_too_much : ReadsTooMuch m.input fault → Unusable fault
    read_wrongly : WhenRead m.input fault → Unusable fault
    found_unfit : EndsEarly (λ given bytes gone rest. m.Refuses given told bytes gone (status.BadInput fault)) → Unusable fault

  -- the clock or the dice failed, where they are asked; what is read first was read, and isn't wrong
  pub record WhileDrawing : Type 0 where
    pub input : List ℕ
    pub fit : m.bad ≡ None
    pub read : ReadsSome o.source m.input old.source new.source input
    pub right : m.wrong input ≡ None
    pub rose : ((m.draws_time ≡ true) × FaultsRose (o.clock.faults old.clock) (o.clock.faults new.clock))
        ⊎ ((m.draws_random ≡ true) × FaultsRose (o.dice.faults old.dice) (o.dice.faults new.dice))

  -- How it ends, by its status.
  abbrev pub EndsBy : Status → Type 0
  EndsBy status.Done = Finishes (SinkTook (o.sink.written old.sink) (o.sink.written new.sink))
  EndsBy status.WriteFault = FaultsRose (o.sink.faults old.sink) (o.sink.faults new.sink)
      × (Finishes (SinkTookFront (o.sink.written old.sink) (o.sink.written new.sink)) ⊎ ((m.streams ≡ true) × EndsEarly (λ given bytes gone rest. Unit {0})))
  EndsBy status.NoMemory = RefusedEarly (Unit {0}) ⊎ EndsEarly (λ given bytes gone rest. Unit {0})
  EndsBy status.ReadFault = WhileReading m.input (λ most. FaultsRose (o.source.faults old.source) (o.source.faults new.source))
  EndsBy (status.BadInput fault) = Unusable fault
  EndsBy status.HandFault = RefusedEarly WhileDrawing
  EndsBy status.Disk = RefusedLate (λ given bytes. FaultsRose (o.disk.faults old.disk) (o.disk.faults new.disk))
  EndsBy status.Peer = WhileExchanging m.exchange (FaultsRose (o.peer.faults old.peer) (o.peer.faults new.peer))
  EndsBy (status.BadReply why) = WhileExchanging m.exchange (PeerReplied why)
  EndsBy (status.Full blobs pack) = EndsEarly (λ given bytes gone rest. StopsFull blobs pack rest) ⊎ WhilePushing m.exchange blobs pack
  EndsBy (status.Absent r) = EndsEarly (λ given bytes gone rest. m.Refuses given told bytes gone (status.Absent r))
  EndsBy (status.Damaged want is) = EndsEarly (λ given bytes gone rest. m.Refuses given told bytes gone (status.Damaged want is))
      ⊎ WhileFetching m.exchange want is
  EndsBy status.BadWords = ⊥
  EndsBy status.ListenerFault = ⊥

  pub record Ends (answer : Status) : Type 0 where
    pub always : Always
    pub ends : EndsBy answer
