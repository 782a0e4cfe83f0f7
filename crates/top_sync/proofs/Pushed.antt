-- How a push ends, from what the sync gave.
use Rattle.std.proofs.Common.{◌≡◌, ◌⊎◌, inl, inr, ℕ, ◌≤◌, Option, Some, List, [], ◌∷◌, ◌++◌, refl, sym, ap, subst, ◌∙◌, arith, append_assoc}
use Rattle.std.proofs.lemmas.List.{append-nil}
use Rattle.std.specs.Option.{option_map}
use Rattle.edge_base.specs.Edge.{FaultsRose}
use Rattle.edge_base.specs.Shelf.{Blob}
use Rattle.pack_disk.specs.Packs.{Packs}
use Rattle.pack_disk.specs.Runs.{Stays}
use Rattle.pack_store.specs.Archive.{Archive}
use Rattle.pack_store.specs.Calls.{IsReadFrom}
use Rattle.pack_store.specs.Puts.{Stands, blobs_of}
use Rattle.pack_store.specs.StoreShelf.{content_of, PutsStore, ContentStands}
use Rattle.pack_store.proofs.Moments.{stays_then, stays_keeps}
use Rattle.peer_base.specs.declared.peer.PeerFault.TheVariants as peer_fault
use Rattle.sync_core.specs.declared.syncing.SyncFault.{SyncFault}
use Rattle.sync_core.specs.declared.syncing.SyncFault.TheVariants as sync
use Rattle.sync_core.specs.declared.syncing.Synced.{Synced}
use Rattle.sync_core.specs.Causes.{FirstIs}
use Rattle.sync_core.specs.Copying.{lacking, StandIn}
use Rattle.sync_core.specs.Syncing.{IsStopped, IsSynced}
use Rattle.store_peer.specs.StorePeer.{peer_of}
use Rattle.top_frame.specs.declared.status.Status.{Status}
use Rattle.top_frame.specs.declared.status.Status.TheVariants as status
use Rattle.top_frame.specs.Faults.{push_status}
use Rattle.top_frame.specs.Frame.{pushes, Given, Always, IsOpened, StoreDamaged, PushesAll, PushesSome, EndsEarly, EndsBy, Ends}
use Rattle.top_frame.specs.Limits.{limits}
use Rattle.top_frame.specs.Outside.{Outside, World}
use Rattle.top_frame.specs.Steps.{Finds, NeverRefuses, Writes}
use Rattle.top_sync.specs.Meanings.{push_meaning, copied_line}
use Rattle.top_sync.proofs.Stored.{bad_reply, refused, never_source, damaged_source, never_gone}
use Rattle.top_sync.proofs.Exchanged.{from_target, holds, later_rose, untold, none_stand, front_stands, kept_none, given_of, now_at, always, late, stops, written, put_none, unopened}

abbrev no_blobs : Given → List Blob
no_blobs given = []

module _ {D P S K C R : Type 0} (o : Outside D P S K C R)
    (counts_now : (d : D) (t : ℕ) (c : Packs) → t ≤ o.disk.moment d → o.disk.images d c → o.disk.images_since d t c)
    (only_now : (d : D) (c : Packs) → o.disk.images_since d (o.disk.moment d) c → o.disk.images d c) (old : World D P S K C R) where
  abbrev told : Option Packs
  told = o.disk.packs old.disk

  abbrev here : D → P → K → World D P S K C R
  here d p k = now_at o old pushes no_blobs d p k

  abbrev pushed : Given
  pushed = given_of [] 0 0

  -- ---- the store wasn't opened

  module _ (nothing_put : o.peer.puts old.peer [] old.peer) (e : D) (stays : Stays o.disk old.disk e) (later : o.disk.faults old.disk ≤ o.disk.faults e) where
    sent_none : PushesSome o push_meaning old (here e old.peer old.sink) pushed
    sent_none = record {
      sent = [];
      did = inl (refl, refl);
      stand = none_stand (option_map blobs_of told);
      put = inl nothing_put;
      kept = kept_none (o.peer.content old.peer);
      front = λ held e there f. (lacking (blobs_of held) there, refl);
    }

    pub push_unopened : (end : Status) → Finds o.disk old.disk e NeverRefuses end → Ends o push_meaning old (here e old.peer old.sink) end
    push_unopened end why = record {
      always = always o old pushes no_blobs (λ e. absurd (cc e)) e old.peer old.sink (stays_keeps o.disk counts_now only_now old.disk e stays) (λ _. stays) (λ e. absurd (cc e)) later (omega arith) (omega arith);
      ends = unopened o old pushes no_blobs e stays pushed refl sent_none end why;
    }

  -- ---- it was

  module _ (store s0 : Archive D) (is : s0 ≡ store) (s1 : Archive D) (p1 : P) (store_opened : Stays o.disk old.disk store.disk) (store_later : o.disk.faults old.disk ≤ o.disk.faults store.disk) (store_stands : Stands o.disk limits store) (store_read : IsReadFrom o.disk old.disk store)
      (tells : ContentStands o.disk)
      (nothing : PutsStore o.disk s0 [] s1) (disk_later : o.disk.faults s0.disk ≤ o.disk.faults s1.disk) (peer_later : o.peer.faults old.peer ≤ o.peer.faults p1) where
    opened : Stays o.disk old.disk s0.disk
    opened = subst (λ (s : Archive D). Stays o.disk old.disk s.disk) (sym is) store_opened

    opened_later : o.disk.faults old.disk ≤ o.disk.faults s0.disk
    opened_later = subst (λ (s : Archive D). o.disk.faults old.disk ≤ o.disk.faults s.disk) (sym is) store_later

    stands : Stands o.disk limits s0
    stands = subst (λ (s : Archive D). Stands o.disk limits s) (sym is) store_stands

    stays : Stays o.disk old.disk s1.disk
    stays = stays_then o.disk counts_now only_now old.disk s0.disk s1.disk opened (nothing.still refl)

    stored : content_of o.disk s0 ≡ option_map blobs_of told
    stored = holds o.disk old.disk s0 opened stands tells

    in_packs : (held : Packs) → told ≡ Some held → content_of o.disk s0 ≡ Some (blobs_of held)
    in_packs held e = stored ∙ ap (option_map blobs_of) e

    always_so : (k : K) → o.sink.faults old.sink ≤ o.sink.faults k → Always o push_meaning old (here s1.disk p1 k)
    always_so k sink_later = always o old pushes no_blobs (λ e. absurd (cc e)) s1.disk p1 k (stays_keeps o.disk counts_now only_now old.disk s1.disk stays) (λ _. stays) (λ e. absurd (cc e))
        (omega (arith, opened_later, disk_later)) peer_later sink_later

    -- ---- the sync stopped

    -- what was put is known but where the peer failed
    known : (f : SyncFault) (w : IsStopped (peer_of o.disk) o.peer s0 s1 old.peer p1 f) → o.peer.puts old.peer w.gone p1 ⊎ FaultsRose (o.peer.faults old.peer) (o.peer.faults p1)
    known (sync.Target peer_fault.Failed) w = inr w.stopped.why.0
    known (sync.Target peer_fault.BadReply) w = inl w.stopped.put
    known (sync.Target (peer_fault.Refused number)) w = inl w.stopped.put
    known (sync.Target (peer_fault.Damaged want is)) w = inl w.stopped.put
    known (sync.Target (peer_fault.Full count pack)) w = inl w.stopped.put
    known (sync.Target peer_fault.NoMemory) w = inl w.stopped.put
    known (sync.Source e) w = inl w.stopped.put
    known (sync.Gone r) w = inl w.stopped.put

    asked : (k : K) → IsOpened o push_meaning old (here s1.disk p1 k) s0 s1
    asked k = record { opened = opened; read = subst (IsReadFrom o.disk old.disk) (sym is) store_read; now = refl }

    damaged : (want is : List ℕ) → IsStopped (peer_of o.disk) o.peer s0 s1 old.peer p1 (sync.Source (peer_fault.Damaged want is)) → StoreDamaged o push_meaning old (here s1.disk p1 old.sink) want is
    damaged want is w = record {
      untold = untold told (content_of o.disk s0) stored w.stopped.why.0.1;
      store = s0;
      store_now = s1;
      opens = asked old.sink;
      fetched = damaged_source o.disk s0 s1 want is w.stopped.why.1;
    }

    first_fills : (count pack : ℕ) (next : List Blob) → FirstIs (λ blob. o.peer.fills p1 blob count pack) next → (blob : Blob) × o.peer.fills p1 blob count pack
    first_fills count pack [] w = absurd w
    first_fills count pack (blob ∷ more) w = (blob, w)

    module _ (f : SyncFault) (w : IsStopped (peer_of o.disk) o.peer s0 s1 old.peer p1 f) where
      some : PushesSome o push_meaning old (here s1.disk p1 old.sink) pushed
      some = record {
        sent = w.gone;
        did = inr (s0, s1, asked old.sink, inl (w.next, f, w.did));
        stand = subst (λ from. StandIn from w.gone) stored (front_stands (content_of o.disk s0) w.gone w.next w.stopped.stand);
        put = known f w;
        kept = w.stopped.given;
        front = λ held e there f. let rest = w.front (blobs_of held) (in_packs held e) there f in (w.next ++ rest.0, rest.1 ∙ append_assoc w.gone w.next rest.0);
      }

      stopped : {Why : Given → List ℕ → List Blob → List Blob → Type 0} → Why pushed [] [] [] → EndsEarly o push_meaning old (here s1.disk p1 old.sink) Why
      stopped why = stops o old pushes no_blobs s1.disk p1 pushed refl some [] [] refl (put_none o old pushes no_blobs s1.disk stays) tt why

    push_why : (f : SyncFault) → IsStopped (peer_of o.disk) o.peer s0 s1 old.peer p1 f → EndsBy o push_meaning old (here s1.disk p1 old.sink) (push_status f)
    push_why (sync.Source peer_fault.Failed) w = late o old pushes no_blobs s1.disk p1 pushed refl (some (sync.Source peer_fault.Failed) w)
        (later_rose (o.disk.faults old.disk) (o.disk.faults s0.disk) (o.disk.faults s1.disk) opened_later w.stopped.why.0)
    push_why (sync.Source peer_fault.BadReply) w = absurd (never_source o.disk s0 s1 peer_fault.BadReply w.stopped.why.1 bad_reply)
    push_why (sync.Source (peer_fault.Refused number)) w = absurd (never_source o.disk s0 s1 (peer_fault.Refused number) w.stopped.why.1 (refused number))
    push_why (sync.Source (peer_fault.Damaged want is)) w = inr (stopped (sync.Source (peer_fault.Damaged want is)) w (w.stopped.why.0.0, damaged want is w))
    push_why (sync.Source (peer_fault.Full count pack)) w = absurd w.stopped.why.0
    push_why (sync.Source peer_fault.NoMemory) w = inr (stopped (sync.Source peer_fault.NoMemory) w tt)
    push_why (sync.Target peer_fault.Failed) w = stopped (sync.Target peer_fault.Failed) w w.stopped.why.0
    push_why (sync.Target peer_fault.BadReply) w =
        stopped (sync.Target peer_fault.BadReply) w (w.stopped.why.0, from_target o.peer old.peer p1 peer_fault.BadReply (λ e. cc e) w.stopped.why.1)
    push_why (sync.Target (peer_fault.Refused number)) w =
        stopped (sync.Target (peer_fault.Refused number)) w (w.stopped.why.0, from_target o.peer old.peer p1 (peer_fault.Refused number) (λ e. cc e) w.stopped.why.1)
    push_why (sync.Target (peer_fault.Damaged want is)) w = absurd w.stopped.why.0
    push_why (sync.Target (peer_fault.Full count pack)) w =
        inr (stopped (sync.Target (peer_fault.Full count pack)) w (first_fills count pack w.next w.stopped.why.0))
    push_why (sync.Target peer_fault.NoMemory) w = inr (stopped (sync.Target peer_fault.NoMemory) w tt)
    push_why (sync.Gone r) w = absurd (never_gone o.disk o.peer s0 s1 old.peer p1 w.gone w.next r w.did)

    pub push_refused : (f : SyncFault) → IsStopped (peer_of o.disk) o.peer s0 s1 old.peer p1 f → Ends o push_meaning old (here s1.disk p1 old.sink) (push_status f)
    push_refused f w = record { always = always_so old.sink (omega arith); ends = push_why f w }

    -- ---- the sync was done

    module _ (done : Synced) (w : IsSynced (peer_of o.disk) o.peer s0 s1 old.peer p1 done) where
      stand : StandIn (option_map blobs_of told) w.gone
      stand = subst (λ from. StandIn from w.gone) stored w.copies.stand

      all : (k : K) → PushesAll o push_meaning old (here s1.disk p1 k) (given_of [] done.copied done.already)
      all k = record {
        sent = w.gone;
        store = s0;
        store_now = s1;
        opens = asked k;
        did = w.did;
        stand = stand;
        put = w.copies.put;
        kept = w.copies.given;
        all = λ held e there f. w.all (blobs_of held) (in_packs held e) there f;
        union = λ held e there f. w.union (blobs_of held) (in_packs held e) there f;
        counted = λ held e there f. (w.copied_is (blobs_of held) (in_packs held e) there f, w.already_is (blobs_of held) (in_packs held e) there f);
        reached = w.reached;
      }

      -- and no memory was left for the line
      pub push_unwritten : Ends o push_meaning old (here s1.disk p1 old.sink) status.NoMemory
      push_unwritten = record {
        always = always_so old.sink (omega arith);
        ends = inr (stops o old pushes no_blobs s1.disk p1 (given_of [] done.copied done.already) refl (record {
          sent = w.gone;
          did = inr (s0, s1, asked old.sink, inr w.did);
          stand = stand;
          put = inl w.copies.put;
          kept = w.copies.given;
          front = λ held e there f. ([], sym (w.all (blobs_of held) (in_packs held e) there f) ∙ sym (append-nil w.gone));
        }) [] [] refl (put_none o old pushes no_blobs s1.disk stays) tt tt);
      }

      pub push_written : (k : K) (end : Status) → Writes o.sink old.sink k (copied_line done.copied done.already) end → o.sink.faults old.sink ≤ o.sink.faults k → Ends o push_meaning old (here s1.disk p1 k) end
      push_written k end writes sink_later = record {
        always = always_so k sink_later;
        ends = written o old pushes no_blobs s1.disk p1 (given_of [] done.copied done.already) refl k (all k) (put_none o old pushes no_blobs s1.disk stays) tt end writes;
      }
