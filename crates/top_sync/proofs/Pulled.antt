-- How a pull ends, from what the sync gave.
use Rattle.std.proofs.Common.{◌≡◌, inl, inr, ℕ, ◌≤◌, Option, None, Some, List, [], ◌∷◌, ◌++◌, refl, sym, ap, subst, ◌∙◌, arith, append_assoc}
use Rattle.std.proofs.lemmas.List.{append-nil}
use Rattle.std.specs.Option.{ForSome, option_map}
use Rattle.edge_base.specs.Shelf.{Blob, Blobs}
use Rattle.pack_disk.specs.Packs.{Packs}
use Rattle.pack_disk.specs.Disk.{Tells}
use Rattle.pack_disk.specs.Runs.{Stays}
use Rattle.pack_store.specs.Archive.{Archive}
use Rattle.pack_store.specs.Calls.{IsReadFrom}
use Rattle.pack_store.specs.Packs.{KeepsAll}
use Rattle.pack_store.specs.Puts.{Stands, PutsAll, PutsBlobs, HasNoRoom, blobs_of}
use Rattle.pack_store.specs.StoreShelf.{content_of, PutsStore, ContentStands}
use Rattle.pack_store.proofs.Moments.{keeps_then, stays_keeps}
use Rattle.peer_base.specs.declared.peer.PeerFault.TheVariants as peer_fault
use Rattle.sync_core.specs.declared.syncing.SyncFault.{SyncFault}
use Rattle.sync_core.specs.declared.syncing.SyncFault.TheVariants as sync
use Rattle.sync_core.specs.declared.syncing.Synced.{Synced}
use Rattle.sync_core.specs.Causes.{FirstIs}
use Rattle.sync_core.specs.Copying.{lacking}
use Rattle.sync_core.specs.Syncing.{IsStopped, IsSynced}
use Rattle.store_peer.specs.StorePeer.{peer_of}
use Rattle.top_frame.specs.declared.status.Status.{Status}
use Rattle.top_frame.specs.declared.status.Status.TheVariants as status
use Rattle.top_frame.specs.Faults.{pull_status}
use Rattle.top_frame.specs.Frame.{pulls, Given, IsQuiet, Always, IsOpened, PullsAll, PullsSome, EndsEarly, StopsFull, EndsBy, Ends}
use Rattle.top_frame.specs.Limits.{limits}
use Rattle.top_frame.specs.Outside.{Outside, World}
use Rattle.top_frame.specs.Steps.{Finds, NeverRefuses, Writes}
use Rattle.top_sync.specs.Meanings.{pull_meaning, copied_line}
use Rattle.top_sync.proofs.Exchanged.{from_source, holds, later_rose, given_of, now_at, always, late, stops, written, unopened}
use Rattle.top_sync.proofs.Stored.{bad_reply, refused, never_target}

abbrev its_blobs : Given → List Blob
its_blobs given = given.pulled

-- what is to be pulled: all that is lacking, where both tell
abbrev pulled_of : Option Blobs → Option Packs → List Blob → List Blob
pulled_of None told known = known
pulled_of (Some there) None known = known
pulled_of (Some there) (Some held) known = lacking there (blobs_of held)

same_packs : (a b : Packs) → Some a ≡ Some b → a ≡ b
same_packs a b e = cc e

same_blobs : (a b : Blobs) → Some a ≡ Some b → a ≡ b
same_blobs a b e = cc e

module _ {D P S K C R : Type 0} (o : Outside D P S K C R)
    (counts_now : (d : D) (t : ℕ) (c : Packs) → t ≤ o.disk.moment d → o.disk.images d c → o.disk.images_since d t c)
    (only_now : (d : D) (c : Packs) → o.disk.images_since d (o.disk.moment d) c → o.disk.images d c) (old : World D P S K C R) where
  abbrev told : Option Packs
  told = o.disk.packs old.disk

  abbrev there : Option Blobs
  there = o.peer.content old.peer

  abbrev here : D → P → K → World D P S K C R
  here d p k = now_at o old pulls its_blobs d p k

  -- what is to be pulled is told where both tell
  shown : (known : List Blob) (from : Option Blobs) (packs : Option Packs) → ForSome packs (λ held. ForSome from (λ there. pulled_of from packs known ≡ lacking there (blobs_of held)))
  shown known None packs held e there f = absurd (cc f)
  shown known (Some from) None held e there f = absurd (cc e)
  shown known (Some from) (Some packs) held e there f = λ i. lacking (same_blobs from there f i) (blobs_of (same_packs packs held e i))

  puts_some : IsQuiet pull_meaning → ⊥
  puts_some q = cc (q (given_of (([], []) ∷ []) 0 0))

  abbrev given_known : List Blob → Given
  given_known known = given_of (pulled_of there told known) 0 0

  -- ---- the store wasn't opened

  module _ (nothing_put : o.peer.puts old.peer [] old.peer) (e : D) (stays : Stays o.disk old.disk e) (later : o.disk.faults old.disk ≤ o.disk.faults e) where
    none_pulled : PullsSome o pull_meaning old (here e old.peer old.sink) (given_known [])
    none_pulled = record { pulled = []; rest = pulled_of there told []; cut = refl; did = inl (refl, refl); alone = nothing_put; all = shown [] there told }

    pub pull_unopened : (end : Status) → Finds o.disk old.disk e NeverRefuses end → Ends o pull_meaning old (here e old.peer old.sink) end
    pull_unopened end why = record {
      always = always o old pulls its_blobs (λ e. absurd (cc e)) e old.peer old.sink (stays_keeps o.disk counts_now only_now old.disk e stays) (λ _. stays) (λ _. refl) later (omega arith) (omega arith);
      ends = unopened o old pulls its_blobs e stays (given_known []) refl none_pulled end why;
    }

  -- ---- it was

  module _ (store s0 : Archive D) (is : s0 ≡ store) (s1 : Archive D) (p1 : P) (store_opened : Stays o.disk old.disk store.disk) (store_later : o.disk.faults old.disk ≤ o.disk.faults store.disk) (store_stands : Stands o.disk limits store) (store_read : IsReadFrom o.disk old.disk store)
      (tells : ContentStands o.disk)
      (run : KeepsAll o.disk s0.disk s1.disk) (disk_later : o.disk.faults s0.disk ≤ o.disk.faults s1.disk)
      (unsent : o.peer.content p1 ≡ o.peer.content old.peer) (alone : o.peer.puts old.peer [] p1) (peer_later : o.peer.faults old.peer ≤ o.peer.faults p1) where
    opened : Stays o.disk old.disk s0.disk
    opened = subst (λ (s : Archive D). Stays o.disk old.disk s.disk) (sym is) store_opened

    opened_later : o.disk.faults old.disk ≤ o.disk.faults s0.disk
    opened_later = subst (λ (s : Archive D). o.disk.faults old.disk ≤ o.disk.faults s.disk) (sym is) store_later

    stands : Stands o.disk limits s0
    stands = subst (λ (s : Archive D). Stands o.disk limits s) (sym is) store_stands

    stored : content_of o.disk s0 ≡ option_map blobs_of told
    stored = holds o.disk old.disk s0 opened stands tells

    in_packs : (held : Packs) → told ≡ Some held → content_of o.disk s0 ≡ Some (blobs_of held)
    in_packs held e = stored ∙ ap (option_map blobs_of) e

    always_so : (k : K) → o.sink.faults old.sink ≤ o.sink.faults k → Always o pull_meaning old (here s1.disk p1 k)
    always_so k sink_later = always o old pulls its_blobs (λ e. absurd (cc e)) s1.disk p1 k
        (keeps_then o.disk counts_now only_now old.disk s0.disk s1.disk (stays_keeps o.disk counts_now only_now old.disk s0.disk opened) run) (λ q. absurd (puts_some q)) (λ _. unsent)
        (omega (arith, opened_later, disk_later)) peer_later sink_later

    of_store : (blobs : List Blob) → PutsStore o.disk s0 blobs s1 → PutsBlobs o.disk limits s0 blobs s1
    of_store blobs puts = subst (λ l. PutsBlobs o.disk l s0 blobs s1) stands.limited puts

    put_of : (blobs : List Blob) → PutsStore o.disk s0 blobs s1 → Tells told (o.disk.packs s1.disk) (PutsAll limits blobs)
    put_of blobs puts = subst (λ t. Tells t (o.disk.packs s1.disk) (PutsAll limits blobs)) opened.told ((of_store blobs puts).packs stands)

    -- ---- the sync stopped

    asked : (k : K) → IsOpened o pull_meaning old (here s1.disk p1 k) s0 s1
    asked k = record { opened = opened; read = subst (IsReadFrom o.disk old.disk) (sym is) store_read; now = refl }

    module _ (f : SyncFault) (w : IsStopped o.peer (peer_of o.disk) old.peer p1 s0 s1 f) where
      abbrev gone : List Blob
      gone = w.gone

      abbrev next : List Blob
      next = w.next

      abbrev given : Given
      given = given_known (gone ++ next)

      -- what is to be pulled begins with what was copied and what was tried
      cut_of : (from : Option Blobs) (packs : Option Packs) → there ≡ from → told ≡ packs → (rest : List Blob) × (pulled_of from packs (gone ++ next) ≡ gone ++ (next ++ rest))
      cut_of None packs e f = ([], ap (λ l. gone ++ l) (sym (append-nil next)))
      cut_of (Some from) None e f = ([], ap (λ l. gone ++ l) (sym (append-nil next)))
      cut_of (Some from) (Some held) e f =
          let all = w.front from e (blobs_of held) (in_packs held f) in
          (all.0, all.1 ∙ append_assoc gone next all.0)

      some : PullsSome o pull_meaning old (here s1.disk p1 old.sink) given
      some =
          let cut = cut_of there told refl refl in
          record {
            pulled = gone;
            rest = next ++ cut.0;
            cut = cut.1;
            did = inr (s0, s1, asked old.sink, inl (next, f, w.did));
            alone = alone;
            all = shown (gone ++ next) there told;
          }

      stopped : PutsStore o.disk s0 gone s1 → {Why : Given → List ℕ → List Blob → List Blob → Type 0} → ((rest : List Blob) → Why given [] gone (next ++ rest)) → EndsEarly o pull_meaning old (here s1.disk p1 old.sink) Why
      stopped puts why =
          let cut = cut_of there told refl refl in
          stops o old pulls its_blobs s1.disk p1 given refl some gone (next ++ cut.0) cut.1 (put_of gone puts) (of_store gone puts).held (why cut.0)

      full : (count pack : ℕ) → PutsStore o.disk s0 gone s1 → (tried : List Blob) → next ≡ tried → FirstIs (λ blob. HasNoRoom o.disk s1.limits s1 blob count pack) tried
          → EndsBy o pull_meaning old (here s1.disk p1 old.sink) (status.Full count pack)
      full count pack puts [] is w = absurd w
      full count pack puts (blob ∷ more) is w =
          let own = of_store gone puts in
          let room = subst (λ l. HasNoRoom o.disk l s1 blob count pack) (own.same_limits ∙ stands.limited) w (own.stands stands) in
          inl (stopped puts (λ rest. subst (λ l. StopsFull o pull_meaning old (here s1.disk p1 old.sink) count pack (l ++ rest)) (sym is) room))

    pull_why : (f : SyncFault) → IsStopped o.peer (peer_of o.disk) old.peer p1 s0 s1 f → EndsBy o pull_meaning old (here s1.disk p1 old.sink) (pull_status f)
    pull_why (sync.Source peer_fault.Failed) w = stopped (sync.Source peer_fault.Failed) w w.stopped.put (λ rest. w.stopped.why.0)
    pull_why (sync.Source peer_fault.BadReply) w =
        stopped (sync.Source peer_fault.BadReply) w w.stopped.put (λ rest. (w.stopped.why.0, from_source o.peer old.peer p1 peer_fault.BadReply w.stopped.why.1))
    pull_why (sync.Source (peer_fault.Refused number)) w =
        stopped (sync.Source (peer_fault.Refused number)) w w.stopped.put (λ rest. (w.stopped.why.0, from_source o.peer old.peer p1 (peer_fault.Refused number) w.stopped.why.1))
    pull_why (sync.Source (peer_fault.Damaged want is)) w =
        inr (stopped (sync.Source (peer_fault.Damaged want is)) w w.stopped.put
        (λ rest. (w.stopped.why.0.0, (w.stopped.why.0.1, from_source o.peer old.peer p1 (peer_fault.Damaged want is) w.stopped.why.1))))
    pull_why (sync.Source (peer_fault.Full count pack)) w = absurd w.stopped.why.0
    pull_why (sync.Source peer_fault.NoMemory) w = inr (stopped (sync.Source peer_fault.NoMemory) w w.stopped.put (λ rest. tt))
    pull_why (sync.Target peer_fault.Failed) w =
        late o old pulls its_blobs s1.disk p1 (given (sync.Target peer_fault.Failed) w) refl (some (sync.Target peer_fault.Failed) w)
        (later_rose (o.disk.faults old.disk) (o.disk.faults s0.disk) (o.disk.faults s1.disk) opened_later w.stopped.why.0)
    pull_why (sync.Target peer_fault.BadReply) w = absurd (never_target o.disk s0 s1 peer_fault.BadReply w.stopped.why.1 bad_reply)
    pull_why (sync.Target (peer_fault.Refused number)) w = absurd (never_target o.disk s0 s1 (peer_fault.Refused number) w.stopped.why.1 (refused number))
    pull_why (sync.Target (peer_fault.Damaged want is)) w = absurd w.stopped.why.0
    pull_why (sync.Target (peer_fault.Full count pack)) w = full (sync.Target (peer_fault.Full count pack)) w count pack w.stopped.put w.next refl w.stopped.why.0
    pull_why (sync.Target peer_fault.NoMemory) w = inr (stopped (sync.Target peer_fault.NoMemory) w w.stopped.put (λ rest. tt))
    pull_why (sync.Gone r) w = stopped (sync.Gone r) w w.stopped.put (λ rest. (w.stopped.why.0, w.stopped.why.1))

    pub pull_refused : (f : SyncFault) → IsStopped o.peer (peer_of o.disk) old.peer p1 s0 s1 f → Ends o pull_meaning old (here s1.disk p1 old.sink) (pull_status f)
    pull_refused f w = record { always = always_so old.sink (omega arith); ends = pull_why f w }

    -- ---- the sync was done

    module _ (done : Synced) (w : IsSynced o.peer (peer_of o.disk) old.peer p1 s0 s1 done) where
      abbrev pulled : Given
      pulled = given_of w.gone done.copied done.already

      all : (k : K) → PullsAll o pull_meaning old (here s1.disk p1 k) pulled
      all k = record {
        store = s0;
        store_now = s1;
        opens = asked k;
        did = w.did;
        stand = w.copies.stand;
        alone = alone;
        all = λ held e from f. w.all from f (blobs_of held) (in_packs held e);
        counted = λ held e from f. (w.copied_is from f (blobs_of held) (in_packs held e), w.already_is from f (blobs_of held) (in_packs held e));
      }

      -- and no memory was left for the line
      pub pull_unwritten : Ends o pull_meaning old (here s1.disk p1 old.sink) status.NoMemory
      pull_unwritten = record {
        always = always_so old.sink (omega arith);
        ends = inr (stops o old pulls its_blobs s1.disk p1 pulled refl (record {
          pulled = w.gone;
          rest = [];
          cut = sym (append-nil w.gone);
          did = inr (s0, s1, asked old.sink, inr w.did);
          alone = alone;
          all = λ held e from f. w.all from f (blobs_of held) (in_packs held e);
        }) w.gone [] (sym (append-nil w.gone))
            (put_of w.gone w.copies.put) (of_store w.gone w.copies.put).held tt);
      }

      pub pull_written : (k : K) (end : Status) → Writes o.sink old.sink k (copied_line done.copied done.already) end → o.sink.faults old.sink ≤ o.sink.faults k → Ends o pull_meaning old (here s1.disk p1 k) end
      pull_written k end writes sink_later = record {
        always = always_so k sink_later;
        ends = written o old pulls its_blobs s1.disk p1 pulled refl k (all k) (put_of w.gone w.copies.put) (of_store w.gone w.copies.put).held end writes;
      }
