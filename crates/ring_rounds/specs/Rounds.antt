-- What a round over peers makes.
use Rattle.std.specs.Prelude.{◌≡◌, ℕ, ◌+◌, List, ◌++◌, length, map, take, slice_get, Some}
use Rattle.std.specs.List.{AllZip}
use Rattle.std.specs.Option.{ForSome}
use Rattle.edge_base.specs.Shelf.{Blob, Keeps}
use Rattle.peer_base.specs.declared.peer.Peer.{Ghosts}
use Rattle.sync_core.specs.Copying.{PutsBut, StopCause}
use Rattle.sync_core.specs.Turns.{counted}
use Rattle.sync_core.specs.declared.syncing.SyncFault.{SyncFault}
use Rattle.ring_rounds.specs.declared.rounds.RingFault.{RingFault}
use Rattle.ring_rounds.specs.declared.rounds.RingFault.TheVariants.{Gather, Scatter}
use Rattle.ring_rounds.specs.Maps.{gathered, HasGathered, IsFront, AreGiven, scattered, IsCount, StopsAt, AreRound, AreStopped}
use Rattle.ring_rounds.specs.Peers.{WasGiven, IsOnlyRead}
use Rattle.ring_rounds.specs.Turns.{InTurn, CountsTurns, StopsInTurn, Gives, StopsGiving, Takes, StopsTaking}

module _ {A P : Type 0} (g : Ghosts A) (h : Ghosts P) where
  -- each peer in turn was copied to the hub, and so many blobs were copied
  pub record Gathers (hub hub_now : A) (old now : List P) (n : ℕ) : Type 0 where
    pub gone : List Blob
    pub given : WasGiven g hub hub_now gone
    pub maps : HasGathered (g.content hub) (map h.content old) (g.content hub_now) n
    pub did : CountsTurns (Gives g h) hub hub_now old now n

  -- the peers before this place were, and a front of what the hub lacks of the one there
  pub record GatherStops (hub hub_now : A) (old now : List P) (k : ℕ) (e : SyncFault) : Type 0 where
    pub peer : P
    pub peer_now : P
    pub at : slice_get old k ≡ Some peer
    pub at_now : slice_get now k ≡ Some peer_now
    pub before : List Blob
    pub gone : List Blob
    pub next : List Blob
    pub given : Keeps (g.content hub) (g.content hub_now) (before ++ gone)
    pub put : PutsBut h g hub hub_now (before ++ gone) e
    pub why : StopCause h g peer peer_now hub hub_now next e
    pub maps : ForSome (gathered (g.content hub) (take k (map h.content old)))
        (λ end. ForSome (h.content peer) (λ from. IsFront gone next from end.0 (g.content hub_now)))
    pub did : StopsInTurn (Gives g h) (StopsGiving g h e) hub hub_now old now k

  abbrev pub GatherEnds : A → A → List P → List P → RingFault → Type 0
  GatherEnds hub hub_now old now (Gather k e) = GatherStops hub hub_now old now k e
  GatherEnds hub hub_now old now (Scatter k e) = ⊥

  -- the hub was copied to each peer in turn, and so many blobs were copied
  pub record Scatters (hub hub_now : A) (old now : List P) (n : ℕ) : Type 0 where
    pub maps : AreGiven (g.content hub) (length (map h.content old)) (map h.content old) (map h.content now)
    pub count : IsCount (scattered (g.content hub) (map h.content old)) n
    pub did : CountsTurns (Takes g h) hub hub_now old now n

  -- the peer at this place got a front of what it lacked
  pub record PeerStops (hub hub_now : A) (old now : List P) (k : ℕ) (e : SyncFault) (gone next : List Blob) : Type 0 where
    pub peer : P
    pub peer_now : P
    pub at : slice_get old k ≡ Some peer
    pub at_now : slice_get now k ≡ Some peer_now
    pub given : Keeps (h.content peer) (h.content peer_now) gone
    pub put : PutsBut g h peer peer_now gone e
    pub why : StopCause g h hub hub_now peer peer_now next e

  pub record ScatterStops (hub hub_now : A) (old now : List P) (k : ℕ) (e : SyncFault) : Type 0 where
    pub gone : List Blob
    pub next : List Blob
    pub here : PeerStops hub hub_now old now k e gone next
    pub maps : StopsAt (g.content hub) k (map h.content old) (map h.content now) gone next
    pub did : StopsInTurn (Takes g h) (StopsTaking g h e) hub hub_now old now k

  abbrev pub ScatterEnds : A → A → List P → List P → RingFault → Type 0
  ScatterEnds hub hub_now old now (Gather k e) = ⊥
  ScatterEnds hub hub_now old now (Scatter k e) = ScatterStops hub hub_now old now k e

  -- ---- a round

  -- each peer in turn was copied to the hub, and then the hub to each in turn
  pub record DoesRound (hub hub_now : A) (old now : List P) (n : ℕ) : Type 0 where
    pub mid : A
    pub peers : List P
    pub gathered : ℕ
    pub gathers : InTurn (Gives g h) hub mid old peers gathered
    pub read : AllZip (IsOnlyRead h) old peers
    pub scattered : ℕ
    pub scatters : InTurn (Takes g h) mid hub_now peers now scattered
    pub count_is : n ≡ counted (gathered + scattered)

  -- each peer in turn was copied to the hub, and the hub to those before this place
  pub record StopsRound (hub hub_now : A) (old now : List P) (k : ℕ) (e : SyncFault) : Type 0 where
    pub mid : A
    pub peers : List P
    pub gathered : ℕ
    pub gathers : InTurn (Gives g h) hub mid old peers gathered
    pub read : AllZip (IsOnlyRead h) old peers
    pub scatters : StopsInTurn (Takes g h) (StopsTaking g h e) mid hub_now peers now k

  pub record IsRound (hub hub_now : A) (old now : List P) (n : ℕ) : Type 0 where
    pub gone : List Blob
    pub given : WasGiven g hub hub_now gone
    pub maps : AreRound (g.content hub) (g.content hub_now) (map h.content old) (map h.content now) n
    pub did : DoesRound hub hub_now old now n

  -- the hub took up all peers, those before this place got what they lacked, and the one there a front of that
  pub record RoundBreaks (hub hub_now : A) (old now : List P) (k : ℕ) (e : SyncFault) : Type 0 where
    pub taken : List Blob
    pub taken_up : WasGiven g hub hub_now taken
    pub gone : List Blob
    pub next : List Blob
    pub here : PeerStops hub hub_now old now k e gone next
    pub maps : AreStopped (g.content hub) (g.content hub_now) k (map h.content old) (map h.content now) gone next
    pub did : StopsRound hub hub_now old now k e

  abbrev pub RoundStops : A → A → List P → List P → RingFault → Type 0
  RoundStops hub hub_now old now (Gather k e) = (map h.content now ≡ map h.content old) × AllZip (IsOnlyRead h) old now × GatherStops hub hub_now old now k e
  RoundStops hub hub_now old now (Scatter k e) = RoundBreaks hub hub_now old now k e
