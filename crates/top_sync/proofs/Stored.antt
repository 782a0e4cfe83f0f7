-- What a store never answers where it is one of the two between which blobs are copied.
use Rattle.std.proofs.Common.{◌≡◌, inl, inr, ℕ, List, [], ◌∷◌, Option, None, Some, Result, Ok, Err, not, refl, sym, ap, subst, ◌∙◌}
use Rattle.std.specs.List.{AllByRecursion}
use Rattle.edge_base.specs.Shelf.{Blob}
use Rattle.edge_base.specs.declared.answers.GetFault.{GetFault}
use Rattle.edge_base.specs.declared.answers.GetFault.TheVariants as getting
use Rattle.edge_base.specs.declared.answers.Put.{Put as Answer}
use Rattle.edge_base.specs.declared.answers.PutFault.{PutFault}
use Rattle.edge_base.specs.declared.answers.PutFault.TheVariants as putting
use Rattle.pack_disk.specs.declared.disk.Disk.{Ghosts as DiskGhosts}
use Rattle.pack_store.specs.Archive.{Archive}
use Rattle.pack_store.specs.declared.rows.Row.{Row}
use Rattle.pack_store.specs.Rows.{number_of}
use Rattle.peer_base.specs.Order.{refs_of, is_among}
use Rattle.peer_base.specs.declared.peer.Peer.{Ghosts as PeerGhosts}
use Rattle.peer_base.specs.declared.peer.PeerFault.{PeerFault}
use Rattle.peer_base.specs.declared.peer.PeerFault.TheVariants as peer_fault
use Rattle.listed_pages.specs.Answers.{Fetched, SourceAnswered, TargetAnswered}
use Rattle.listed_pages.specs.Pages.{Page, all_refs, refs_off}
use Rattle.sync_core.specs.declared.syncing.SyncFault.{SyncFault}
use Rattle.sync_core.specs.declared.syncing.SyncFault.TheVariants as sync
use Rattle.sync_core.specs.Turns.{CopiesEach, StopsBlob, StopsCopying, StopsAt, at_page, at_beside, at_blob, at_end, SyncsSome}
use Rattle.store_peer.specs.Faults.{get_fault, put_fault}
use Rattle.store_peer.specs.StorePeer.{peer_of, fetch_answer, put_answer, ListsRows, FetchesBlob, KeepsBlob}
use Rattle.store_peer.proofs.Answered.{damaged_ref}
use Rattle.store_peer.proofs.Listed.{HasArrived, page_arrived, all_at, refs_filtered}

-- an answer that only a server gives
pub data OfServer : PeerFault → Type 0 where
  bad_reply : OfServer peer_fault.BadReply
  refused : (status : ℕ) → OfServer (peer_fault.Refused status)

ok_same : (a b : Option (List ℕ)) → ◌≡◌ {A = Result (Option (List ℕ)) PeerFault} (Ok a) (Ok b) → a ≡ b
ok_same a b e = cc e

err_same : {T : Type 0} (a b : PeerFault) → ◌≡◌ {A = Result T PeerFault} (Err a) (Err b) → a ≡ b
err_same a b e = cc e

of_get : (f : GetFault) (e : PeerFault) → e ≡ get_fault f → OfServer e → ⊥
of_get getting.Disk e is bad_reply = cc is
of_get getting.Disk e is (refused status) = cc is
of_get (getting.Damaged want other) e is bad_reply = cc is
of_get (getting.Damaged want other) e is (refused status) = cc is
of_get getting.NoMemory e is bad_reply = cc is
of_get getting.NoMemory e is (refused status) = cc is

of_put : (f : PutFault) (e : PeerFault) → e ≡ put_fault f → OfServer e → ⊥
of_put (putting.TooBig size) e is bad_reply = cc is
of_put (putting.TooBig size) e is (refused status) = cc is
of_put (putting.BadDigest said other) e is bad_reply = cc is
of_put (putting.BadDigest said other) e is (refused status) = cc is
of_put (putting.Full blobs pack) e is bad_reply = cc is
of_put (putting.Full blobs pack) e is (refused status) = cc is
of_put putting.Disk e is bad_reply = cc is
of_put putting.Disk e is (refused status) = cc is
of_put putting.NoMemory e is bad_reply = cc is
of_put putting.NoMemory e is (refused status) = cc is

module _ {D : Type 0} (g : DiskGhosts D) where
  -- ---- its calls

  never_listed : (a b : Archive D) (after : Option (List ℕ)) (limit : ℕ) (e : PeerFault) → ListsRows a after limit (Err e) b → OfServer e → ⊥
  never_listed a b after limit e call bad_reply = cc call.fault
  never_listed a b after limit e call (refused status) = cc call.fault

  never_fetched : (a b : Archive D) (r : List ℕ) (e : PeerFault) → FetchesBlob g a r (Err e) b → OfServer e → ⊥
  never_fetched a b r e call = go call.told call.answers
    where
      go : (told : Result (Option (List ℕ)) GetFault) → Err e ≡ fetch_answer told → OfServer e → ⊥
      go (Ok found) is of = cc is
      go (Err f) is of = of_get f e (err_same {T = Option (List ℕ)} e (get_fault f) is) of

  never_kept : (a b : Archive D) (blob : Blob) (e : PeerFault) → KeepsBlob g a blob (Err e) b → OfServer e → ⊥
  never_kept a b blob e call = go call.told call.answers
    where
      go : (told : Result Answer PutFault) → Err e ≡ put_answer told → OfServer e → ⊥
      go (Ok done) is of = cc is
      go (Err f) is of = of_put f e (err_same {T = Unit {0}} e (put_fault f) is) of

  -- ---- where it is copied from

  pub never_source : (old new : Archive D) (e : PeerFault) → SourceAnswered (peer_of g) old new e → OfServer e → ⊥
  never_source old new e (inl w) = never_listed w.before w.now w.after w.limit e w.call
  never_source old new e (inr w) = never_fetched w.1.before w.1.now w.0 e w.1.call

  -- where a blob is damaged, it is the one that was asked for
  pub damaged_source : (old new : Archive D) (want is : List ℕ) → SourceAnswered (peer_of g) old new (peer_fault.Damaged want is)
      → Fetched (peer_of g) old new want (Err (peer_fault.Damaged want is))
  damaged_source old new want is (inl w) = absurd (cc w.call.fault)
  damaged_source old new want is (inr w) = subst (λ (r : List ℕ). Fetched (peer_of g) old new r (Err (peer_fault.Damaged want is))) (damaged_ref g w.1.before w.1.now w.0 want is w.1.call) w.1

  -- ---- where it is copied to

  pub never_target : (old new : Archive D) (e : PeerFault) → TargetAnswered (peer_of g) old new e → OfServer e → ⊥
  never_target old new e (inl memory) bad_reply = cc memory
  never_target old new e (inl memory) (refused status) = cc memory
  never_target old new e (inr (inl w)) of = never_listed w.before w.now w.after w.limit e w.call of
  never_target old new e (inr (inr w)) of = never_kept w.1.before w.1.now w.0 e w.1.call of

  -- ---- a ref that it listed is there

  rows_after : (a b : Archive D) (r : List ℕ) (answer : Result (Option (List ℕ)) PeerFault) → FetchesBlob g a r answer b → b.rows ≡ a.rows
  rows_after a b r answer call = ap (λ (s : Archive D). s.rows) call.fetches.stays.value

  not_absent : (a b : Archive D) (r : List ℕ) → FetchesBlob g a r (Ok None) b → HasArrived a.rows r → ⊥
  not_absent a b r call here = go call.told call.answers call.fetches.none.0
    where
      go : (told : Result (Option (List ℕ)) GetFault) → Ok None ≡ fetch_answer told → (told ≡ Ok None → number_of r a.rows ≡ None) → ⊥
      go (Ok found) is none = here (none (ap Ok (sym (ok_same None found is))))
      go (Err f) is none = cc is

  page_there : (a b : Archive D) (after : Option (List ℕ)) (listed : Page) → ListsRows a after 1000 (Ok listed) b → AllByRecursion (HasArrived b.rows) (refs_of listed)
  page_there a b after listed call =
      subst (λ (s : Archive D). AllByRecursion (HasArrived s.rows) (refs_of listed)) (sym call.same)
      (subst (λ (p : Page). AllByRecursion (HasArrived a.rows) (refs_of p)) (sym call.found) (page_arrived after 1000 a.rows))

  module _ {B : Type 0} (h : PeerGhosts B) where
    rows_copied : (a b : Archive D) (old new : B) (blobs : List Blob) → CopiesEach (peer_of g) h a old blobs b new → b.rows ≡ a.rows
    rows_copied a b old new [] w = ap (λ (s : Archive D). s.rows) w.0
    rows_copied a b old new (blob ∷ more) w = rows_copied w.0 b w.1 new more w.3 ∙ rows_after a w.0 blob.0 (Ok (Some blob.1)) w.2.fetched

    blob_there : (a b : Archive D) (old new : B) (q r : List ℕ) (tried : List Blob) (e : SyncFault) → StopsBlob (peer_of g) h a b old new q tried e → HasArrived a.rows q → e ≡ sync.Gone r → ⊥
    blob_there a b old new q r tried (sync.Source f) w here is = cc is
    blob_there a b old new q r tried (sync.Target f) w here is = cc is
    blob_there a b old new q r tried (sync.Gone lost) w here is = not_absent a b q w.0 here

    copying_there : (a b : Archive D) (old new : B) (refs : List (List ℕ)) (r : List ℕ) (done tried : List Blob) (e : SyncFault) → StopsCopying (peer_of g) h a b old new refs done tried e
        → AllByRecursion (HasArrived a.rows) refs → e ≡ sync.Gone r → ⊥
    copying_there a b old new refs r done tried e w all is =
        let at : HasArrived a.rows w.r = all_at (HasArrived a.rows) (refs_of done) w.r w.rest (subst (AllByRecursion (HasArrived a.rows)) w.refs_are all) in
        blob_there w.before b w.between new w.r r tried e w.stops (subst (λ (rows : List Row). HasArrived rows w.r) (sym (rows_copied a w.before old w.between done w.copies)) at) is

    stop_there : (a b : Archive D) (old new : B) (after : Option (List ℕ)) (r : List ℕ) (e : SyncFault) (done tried : List Blob) → StopsAt (peer_of g) h a b old new after e done tried → e ≡ sync.Gone r → ⊥
    stop_there a b old new after r e done tried (at_page f call same) is = cc is
    stop_there a b old new after r e done tried (at_beside f page last call ends stops) is = cc is
    stop_there a b old new after r e done tried (at_end f none call stops) is = cc is
    stop_there a b old new after r e done tried (at_blob f page beside last listed asked done_so tried_so call ends upto stops) is =
        copying_there listed b asked new (refs_off beside page) r done tried e stops
        (refs_filtered (HasArrived listed.rows) (λ q. not (is_among (all_refs beside) q)) (refs_of page) (page_there a listed after page call)) is

    -- no store is without a ref that it listed
    pub never_gone : (source source_now : Archive D) (old new : B) (gone next : List Blob) (r : List ℕ) → SyncsSome (peer_of g) h source source_now old new gone next (sync.Gone r) → ⊥
    never_gone source source_now old new gone next r w = stop_there w.before source_now w.between new w.end r (sync.Gone r) w.done w.tried w.stops refl
