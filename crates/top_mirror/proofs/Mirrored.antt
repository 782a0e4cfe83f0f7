-- How a mirror ends, from what the round gave.
use Rattle.std.proofs.Common.{◌≡◌, ◌⊎◌, inl, inr, ℕ, ◌≤◌, Option, None, Some, List, [], ◌∷◌, ◌++◌, length, map, slice_get, refl, sym, ap, subst, ◌∙◌, arith}
use Rattle.std.proofs.lemmas.List.{length-map}
use Rattle.std.specs.List.{AllZip}
use Rattle.std.specs.Option.{ForSome, option_map}
use Rattle.std.specs.FinMap.{entries}
use Rattle.edge_base.specs.Edge.{FaultsRose, SinkTook, SinkTookFront}
use Rattle.edge_base.specs.Shelf.{Blob, Blobs}
use Rattle.edge_base.specs.declared.edge.Sink.{Ghosts as SinkGhosts}
use Rattle.salvage_scan.specs.Arrivals.{arrivals}
use Rattle.pack_disk.specs.Packs.{Packs}
use Rattle.pack_disk.specs.Disk.{Tells}
use Rattle.pack_disk.specs.Runs.{Stays}
use Rattle.pack_disk.specs.declared.disk.Disk.{Ghosts as DiskGhosts}
use Rattle.pack_store.specs.Archive.{Archive, count}
use Rattle.pack_store.specs.Calls.{IsReadFrom}
use Rattle.pack_store.specs.Packs.{KeepsAll}
use Rattle.pack_store.specs.Puts.{Stands, PutsAll, PutsBlobs, HasNoRoom, blobs_of}
use Rattle.pack_store.specs.Rows.{arrival_of}
use Rattle.pack_store.specs.StoreShelf.{content_of, PutsStore, ContentStands}
use Rattle.pack_store.proofs.Moments.{keeps_itself, keeps_then, stays_keeps}
use Rattle.peer_base.specs.declared.peer.Peer.{Ghosts as PeerGhosts}
use Rattle.peer_base.specs.declared.peer.PeerFault.TheVariants as peer_fault
use Rattle.sync_core.specs.declared.syncing.SyncFault.{SyncFault}
use Rattle.sync_core.specs.declared.syncing.SyncFault.TheVariants as sync
use Rattle.sync_core.specs.Causes.{FirstIs}
use Rattle.sync_core.specs.Copying.{PutsBut}
use Rattle.store_peer.specs.StorePeer.{peer_of}
use Rattle.ring_rounds.specs.declared.rounds.RingFault.{RingFault}
use Rattle.ring_rounds.specs.declared.rounds.RingFault.TheVariants.{Gather, Scatter}
use Rattle.ring_rounds.specs.Joins.{JoinsAll, StaysBetween}
use Rattle.ring_rounds.specs.Peers.{IsRunOf}
use Rattle.ring_rounds.specs.Rounds.{IsRound, GatherStops, RoundBreaks, RoundStops}
use Rattle.top_frame.specs.declared.status.Status.{Status}
use Rattle.top_frame.specs.declared.status.Status.TheVariants as status
use Rattle.top_frame.specs.Limits.{limits}
use Rattle.top_frame.specs.Steps.{Finds, NeverRefuses, Writes}
use Rattle.top_sync.proofs.Exchanged.{from_source, from_target, holds, later_rose, untold}
use Rattle.top_sync.proofs.Stored.{bad_reply, refused, never_source, damaged_source, never_target, never_gone}
use Rattle.top_mirror.specs.Mirrors.{Objects, objects, stores_line, round_status, place_of, UnlessPutFailed, Always, IsHub, Gains, Finishes, Unopened, AtPeer, IsHubFull, Cause, gained, Stops, EndsBy}

module _ {P : Type 0} (h : PeerGhosts P) (nothing : (p : P) → h.puts p [] p)
    (follows : (a b : P) (blobs : List Blob) → h.puts a blobs b → h.follows a b) where
  -- no call is made
  pub unmet : (ps : List P) → AllZip (IsRunOf h) ps ps
  unmet [] = tt
  unmet (p ∷ ps) = (record { run = follows p p [] (nothing p); later = omega arith }, unmet ps)

module _ {D P K : Type 0} (g : DiskGhosts D) (h : PeerGhosts P) (o : SinkGhosts K)
    (counts_now : (d : D) (t : ℕ) (c : Packs) → t ≤ g.moment d → g.images d c → g.images_since d t c)
    (only_now : (d : D) (c : Packs) → g.images_since d (g.moment d) c → g.images d c) (old : Objects D P K) where
  abbrev pub told : Option Blobs
  told = option_map blobs_of (g.packs old.disk)

  -- ---- nothing was done, or the store wasn't opened

  pub untouched : AllZip (IsRunOf h) old.peers old.peers → Always g h o old old
  untouched each = record {
    crash = keeps_itself g counts_now only_now old.disk;
    each = each;
    disk_later = omega arith;
    sink_later = omega arith;
  }

  module _ (e : D) (stays : Stays g old.disk e) (later : g.faults old.disk ≤ g.faults e) where
    pub unopened_always : AllZip (IsRunOf h) old.peers old.peers → Always g h o old (objects e old.peers old.sink)
    unopened_always each = record {
      crash = stays_keeps g counts_now only_now old.disk e stays;
      each = each;
      disk_later = later;
      sink_later = omega arith;
    }

    unopened : Unopened g h o old (objects e old.peers old.sink)
    unopened = record { unwritten = refl; unasked = refl; stays = stays }

    pub unopened_ends : (end : Status) → Finds g old.disk e NeverRefuses end
        → EndsBy g h o old (objects e old.peers old.sink) end
    unopened_ends status.Disk w = inl (unopened, w)
    unopened_ends status.NoMemory w = inl unopened
    unopened_ends (status.Absent r) w = absurd w
    unopened_ends (status.Damaged want is) w = absurd w
    unopened_ends status.ReadFault w = absurd w
    unopened_ends (status.BadInput fault) w = absurd w
    unopened_ends status.Done w = absurd w
    unopened_ends status.WriteFault w = absurd w
    unopened_ends status.BadWords w = absurd w
    unopened_ends status.ListenerFault w = absurd w
    unopened_ends status.HandFault w = absurd w
    unopened_ends status.Peer w = absurd w
    unopened_ends (status.BadReply why) w = absurd w
    unopened_ends (status.Full blobs pack) w = absurd w

  -- ---- it was

  module _ (store s0 : Archive D) (is : s0 ≡ store) (s1 : Archive D) (ps : List P)
      (store_opened : Stays g old.disk store.disk) (store_later : g.faults old.disk ≤ g.faults store.disk)
      (store_stands : Stands g limits store) (store_read : IsReadFrom g old.disk store) (tells : ContentStands g)
      (run : KeepsAll g s0.disk s1.disk) (hub_later : g.faults s0.disk ≤ g.faults s1.disk)
      (each : AllZip (IsRunOf h) old.peers ps)
      (between : StaysBetween (content_of g s0) (content_of g s1) (map h.content old.peers) (map h.content ps)) where
    abbrev here : K → Objects D P K
    here k = objects s1.disk ps k

    opened : Stays g old.disk s0.disk
    opened = subst (λ (s : Archive D). Stays g old.disk s.disk) (sym is) store_opened

    opened_later : g.faults old.disk ≤ g.faults s0.disk
    opened_later = subst (λ (s : Archive D). g.faults old.disk ≤ g.faults s.disk) (sym is) store_later

    stands : Stands g limits s0
    stands = subst (λ (s : Archive D). Stands g limits s) (sym is) store_stands

    stored : content_of g s0 ≡ told
    stored = holds g old.disk s0 opened stands tells

    pub round_always : (k : K) → o.faults old.sink ≤ o.faults k → Always g h o old (here k)
    round_always k sink_later = record {
      crash = keeps_then g counts_now only_now old.disk s0.disk s1.disk
          (stays_keeps g counts_now only_now old.disk s0.disk opened) run;
      each = each;
      disk_later = omega (arith, opened_later, hub_later);
      sink_later = sink_later;
    }

    hub : (k : K) → IsHub g h o old (here k) s0 s1
    hub k = record {
      opened = opened;
      read = subst (IsReadFrom g old.disk) (sym is) store_read;
      holds = stored;
      now = refl;
    }

    -- ---- what the hub gained

    of_store : (blobs : List Blob) → PutsStore g s0 blobs s1 → PutsBlobs g limits s0 blobs s1
    of_store blobs puts = subst (λ l. PutsBlobs g l s0 blobs s1) stands.limited puts

    stands_now : (blobs : List Blob) → PutsStore g s0 blobs s1 → Stands g limits s1
    stands_now blobs puts = (of_store blobs puts).stands stands

    gains : (k : K) (blobs : List Blob) → PutsStore g s0 blobs s1 → Gains g h o old (here k) s1 blobs
    gains k blobs puts =
        let own = of_store blobs puts in
        let now = stands_now blobs puts in
        record {
          put = subst (λ t. Tells t (g.packs s1.disk) (PutsAll limits blobs)) opened.told (own.packs stands);
          held = own.held;
          holds = tells s1 (subst (λ l. Stands g l s1) (sym now.limited) now);
        }

    arrived : (blobs : List Blob) → PutsStore g s0 blobs s1
        → ForSome (g.packs s1.disk) (λ held. count s1 ≡ length (arrivals (entries held)))
    arrived blobs puts held e = sym (length-map s1.rows (arrival_of held))
        ∙ ap (λ (l : List (List ℕ × List ℕ)). length l) ((stands_now blobs puts).arrived held e)

    gains_gathered : (k : K) (place : ℕ) (e : SyncFault) (blobs : List Blob) → PutsBut h (peer_of g) s0 s1 blobs e
        → UnlessPutFailed (Gather place e) (Gains g h o old (here k) s1 blobs)
    gains_gathered k place (sync.Target peer_fault.Failed) blobs put = tt
    gains_gathered k place (sync.Target peer_fault.BadReply) blobs put = gains k blobs put
    gains_gathered k place (sync.Target (peer_fault.Refused number)) blobs put = gains k blobs put
    gains_gathered k place (sync.Target (peer_fault.Damaged want other)) blobs put = gains k blobs put
    gains_gathered k place (sync.Target (peer_fault.Full blobs_there pack)) blobs put = gains k blobs put
    gains_gathered k place (sync.Target peer_fault.NoMemory) blobs put = gains k blobs put
    gains_gathered k place (sync.Source e) blobs put = gains k blobs put
    gains_gathered k place (sync.Gone r) blobs put = gains k blobs put

    gains_some : (k : K) (fault : RingFault) (w : RoundStops (peer_of g) h s0 s1 old.peers ps fault)
        → UnlessPutFailed fault (Gains g h o old (here k) s1 (gained g h o old (here k) s0 s1 fault w))
    gains_some k (Gather place e) w = gains_gathered k place e (w.2.before ++ w.2.gone) w.2.put
    gains_some k (Scatter place e) w = gains k w.taken w.taken_up.put

    -- ---- why it stopped

    abbrev end : Objects D P K
    end = here old.sink

    at_gather : (place : ℕ) (e : SyncFault) (w : GatherStops (peer_of g) h s0 s1 old.peers ps place e)
        {Why : P → P → Type 0} → Why w.peer w.peer_now → AtPeer g h o old end place Why
    at_gather place e w why = record { peer = w.peer; peer_now = w.peer_now; at = w.at; at_now = w.at_now; why = why }

    at_scatter : (place : ℕ) (e : SyncFault) (w : RoundBreaks (peer_of g) h s0 s1 old.peers ps place e)
        {Why : P → P → Type 0} → Why w.here.peer w.here.peer_now → AtPeer g h o old end place Why
    at_scatter place e w why =
        record { peer = w.here.peer; peer_now = w.here.peer_now; at = w.here.at; at_now = w.here.at_now; why = why }

    hub_full : (blobs pack : ℕ) (gone next : List Blob) → PutsStore g s0 gone s1
        → FirstIs (λ blob. HasNoRoom g s1.limits s1 blob blobs pack) next → IsHubFull g h o old end blobs pack
    hub_full blobs pack gone [] puts w = absurd w
    hub_full blobs pack gone (blob ∷ more) puts w =
        let own = of_store gone puts in
        let room = subst (λ l. HasNoRoom g l s1 blob blobs pack) (own.same_limits ∙ stands.limited) w
        (own.stands stands) in
        record { limit = room.0; next = blob; full = room.1 }

    first_fills : (p : P) (blobs pack : ℕ) (next : List Blob) → FirstIs (λ blob. h.fills p blob blobs pack) next
        → (blob : Blob) × h.fills p blob blobs pack
    first_fills p blobs pack [] w = absurd w
    first_fills p blobs pack (blob ∷ more) w = (blob, w)

    gather_why : (place : ℕ) (e : SyncFault) → GatherStops (peer_of g) h s0 s1 old.peers ps place e
        → Cause g h o old end place s0 s1 (round_status (Gather place e))
    gather_why place (sync.Source peer_fault.Failed) w = at_gather place (sync.Source peer_fault.Failed) w w.why.0
    gather_why place (sync.Source peer_fault.BadReply) w =
        at_gather place (sync.Source peer_fault.BadReply) w
        (w.why.0, from_source h w.peer w.peer_now peer_fault.BadReply w.why.1)
    gather_why place (sync.Source (peer_fault.Refused number)) w =
        at_gather place (sync.Source (peer_fault.Refused number)) w
        (w.why.0, from_source h w.peer w.peer_now (peer_fault.Refused number) w.why.1)
    gather_why place (sync.Source (peer_fault.Damaged want other)) w = (
      w.why.0.0,
      inl (at_gather place (sync.Source (peer_fault.Damaged want other)) w
          (w.why.0.1, from_source h w.peer w.peer_now (peer_fault.Damaged want other) w.why.1)),
    )
    gather_why place (sync.Source (peer_fault.Full blobs pack)) w = absurd w.why.0
    gather_why place (sync.Source peer_fault.NoMemory) w = tt
    gather_why place (sync.Target peer_fault.Failed) w =
        later_rose (g.faults old.disk) (g.faults s0.disk) (g.faults s1.disk) opened_later w.why.0
    gather_why place (sync.Target peer_fault.BadReply) w =
        absurd (never_target g s0 s1 peer_fault.BadReply w.why.1 bad_reply)
    gather_why place (sync.Target (peer_fault.Refused number)) w =
        absurd (never_target g s0 s1 (peer_fault.Refused number) w.why.1 (refused number))
    gather_why place (sync.Target (peer_fault.Damaged want other)) w = absurd w.why.0
    gather_why place (sync.Target (peer_fault.Full blobs pack)) w =
        inl (hub_full blobs pack (w.before ++ w.gone) w.next w.put w.why.0)
    gather_why place (sync.Target peer_fault.NoMemory) w = tt
    gather_why place (sync.Gone r) w = at_gather place (sync.Gone r) w (w.why.0, w.why.1)

    scatter_why : (place : ℕ) (e : SyncFault) → RoundBreaks (peer_of g) h s0 s1 old.peers ps place e
        → Cause g h o old end place s0 s1 (round_status (Scatter place e))
    scatter_why place (sync.Source peer_fault.Failed) w =
        later_rose (g.faults old.disk) (g.faults s0.disk) (g.faults s1.disk) opened_later w.here.why.0
    scatter_why place (sync.Source peer_fault.BadReply) w =
        absurd (never_source g s0 s1 peer_fault.BadReply w.here.why.1 bad_reply)
    scatter_why place (sync.Source (peer_fault.Refused number)) w =
        absurd (never_source g s0 s1 (peer_fault.Refused number) w.here.why.1 (refused number))
    scatter_why place (sync.Source (peer_fault.Damaged want other)) w = (
      w.here.why.0.0,
      inr (
        untold (g.packs old.disk) (content_of g s0) stored w.here.why.0.1,
        damaged_source g s0 s1 want other w.here.why.1,
      ),
    )
    scatter_why place (sync.Source (peer_fault.Full blobs pack)) w = absurd w.here.why.0
    scatter_why place (sync.Source peer_fault.NoMemory) w = tt
    scatter_why place (sync.Target peer_fault.Failed) w =
        at_scatter place (sync.Target peer_fault.Failed) w w.here.why.0
    scatter_why place (sync.Target peer_fault.BadReply) w =
        at_scatter place (sync.Target peer_fault.BadReply) w
        (w.here.why.0, from_target h w.here.peer w.here.peer_now peer_fault.BadReply (λ e. cc e) w.here.why.1)
    scatter_why place (sync.Target (peer_fault.Refused number)) w =
        at_scatter place (sync.Target (peer_fault.Refused number)) w (
          w.here.why.0,
          from_target h w.here.peer w.here.peer_now (peer_fault.Refused number) (λ e. cc e) w.here.why.1,
        )
    scatter_why place (sync.Target (peer_fault.Damaged want other)) w = absurd w.here.why.0
    scatter_why place (sync.Target (peer_fault.Full blobs pack)) w =
        inr (at_scatter place (sync.Target (peer_fault.Full blobs pack)) w
        (first_fills w.here.peer_now blobs pack w.next w.here.why.0))
    scatter_why place (sync.Target peer_fault.NoMemory) w = tt
    scatter_why place (sync.Gone r) w =
        let turn = w.did.scatters in
        let last = turn.stops in
        absurd (never_gone g h turn.mid s1 turn.peer turn.peer_now last.gone last.next r last.did)

    why_of : (fault : RingFault) → RoundStops (peer_of g) h s0 s1 old.peers ps fault
        → Cause g h o old end (place_of fault) s0 s1 (round_status fault)
    why_of (Gather place e) w = gather_why place e w.2
    why_of (Scatter place e) w = scatter_why place e w

    stops : (fault : RingFault) → RoundStops (peer_of g) h s0 s1 old.peers ps fault
        → Stops g h o old end (round_status fault)
    stops fault w = record {
      unwritten = refl;
      store = s0;
      store_now = s1;
      hub = hub old.sink;
      fault = fault;
      told_as = refl;
      round = w;
      gains = gains_some old.sink fault w;
      between = subst (λ t. StaysBetween t (content_of g s1) (map h.content old.peers) (map h.content ps)) stored
          between;
      why = why_of fault w;
    }

    by_status : (answer : Status) → Stops g h o old end answer → EndsBy g h o old end answer
    by_status status.Disk w = inr w
    by_status status.NoMemory w = inr (inl w)
    by_status status.Peer w = w
    by_status (status.BadReply why) w = w
    by_status (status.Full blobs pack) w = w
    by_status (status.Damaged want other) w = w
    by_status (status.Absent r) w = absurd w.why
    by_status status.ReadFault w = absurd w.why
    by_status (status.BadInput fault) w = absurd w.why
    by_status status.Done w = absurd w.why
    by_status status.WriteFault w = absurd w.why
    by_status status.BadWords w = absurd w.why
    by_status status.ListenerFault w = absurd w.why
    by_status status.HandFault w = absurd w.why

    pub refused_ends : (fault : RingFault) → RoundStops (peer_of g) h s0 s1 old.peers ps fault
        → EndsBy g h o old end (round_status fault)
    refused_ends fault w = by_status (round_status fault) (stops fault w)

    -- ---- the round was made

    module _ (n : ℕ) (w : IsRound (peer_of g) h s0 s1 old.peers ps n)
        (joined : JoinsAll (content_of g s0) (content_of g s1) (map h.content old.peers) (map h.content ps)) where
      finishes : (k : K) (Wrote : List ℕ → Type 0) → Wrote (stores_line (length old.peers) (count s1))
          → Finishes g h o old (here k) Wrote
      finishes k Wrote wrote =
          let gains_all = gains k w.gone w.given.put in
          record {
            store = s0;
            store_now = s1;
            hub = hub k;
            copied = n;
            round = w;
            gains = gains_all;
            joined = subst (λ t. JoinsAll told t (map h.content old.peers) (map h.content ps)) gains_all.holds
                (subst (λ t. JoinsAll t (content_of g s1) (map h.content old.peers) (map h.content ps)) stored joined);
            blobs = arrived w.gone w.given.put;
            wrote = wrote;
          }

      pub unprinted_ends : EndsBy g h o old end status.NoMemory
      unprinted_ends = inr (inr (refl, finishes old.sink (λ line. Unit {0}) tt))

      pub printed_ends : (k : K) (answer : Status)
          → Writes o old.sink k (stores_line (length old.peers) (count s1)) answer → EndsBy g h o old (here k) answer
      printed_ends k status.Done v = finishes k (SinkTook (o.written old.sink) (o.written k)) v
      printed_ends k status.WriteFault v = (v.0, finishes k (SinkTookFront (o.written old.sink) (o.written k)) v.1)
      printed_ends k status.NoMemory v = absurd v
      printed_ends k status.BadWords v = absurd v
      printed_ends k status.ListenerFault v = absurd v
      printed_ends k status.HandFault v = absurd v
      printed_ends k status.Peer v = absurd v
      printed_ends k (status.BadReply why) v = absurd v
      printed_ends k (status.Absent r) v = absurd v
      printed_ends k (status.BadInput fault) v = absurd v
      printed_ends k status.ReadFault v = absurd v
      printed_ends k status.Disk v = absurd v
      printed_ends k (status.Full blobs pack) v = absurd v
      printed_ends k (status.Damaged want other) v = absurd v
