-- What the calls of a store as a peer answer.
use Rattle.std.proofs.Common.{◌≡◌, ◌↔◌, inl, ℕ, ◌≤◌, ◌<◌, List, Bool, true, false, nat_lt, Option, None, Some, Result}
use Rattle.std.proofs.Common.{Ok, Err, IfOk, IfErr, OnOk, OnErr, if◌then◌else◌, refl, sym, subst, ◌∙◌, ap, arith}
use Rattle.std.proofs.lemmas.Bool.{ltb-true}
use Rattle.std.specs.FinMap.{get}
use Rattle.std.specs.Option.{ForSome, option_map, option_or}
use Rattle.blobref.specs.Blobref.{IsOwnRef, is_own_ref, ref_like}
use Rattle.edge_base.specs.Edge.{FaultsRose}
use Rattle.edge_base.specs.Shelf.{Blob, Blobs, KeepLeaves}
use Rattle.edge_base.specs.declared.answers.GetFault.{GetFault}
use Rattle.edge_base.specs.declared.answers.GetFault.TheVariants as fault
use Rattle.edge_base.specs.declared.answers.Put.{Put}
use Rattle.edge_base.specs.declared.answers.Put.TheVariants as put
use Rattle.edge_base.specs.declared.answers.PutFault.{PutFault}
use Rattle.edge_base.specs.declared.answers.PutFault.TheVariants as putting
use Rattle.pack_format.specs.Header.{max_size}
use Rattle.pack_disk.specs.declared.disk.Disk.{Ghosts}
use Rattle.pack_store.specs.declared.reading.UncheckedBlob.{UncheckedBlob}
use Rattle.pack_store.specs.Archive.{Archive, count, greatest, is_full}
use Rattle.pack_store.specs.Finding.{IsFound, checked}
use Rattle.pack_store.specs.Putting.{early_answer_own, Answers}
use Rattle.pack_store.specs.Reading.{StaysStill, IsDamage, size_of, entry_of}
use Rattle.pack_store.specs.declared.rows.Row.{Row}
use Rattle.pack_store.specs.Rows.{number_of}
use Rattle.pack_store.specs.StoreShelf.{content_of}
use Rattle.pack_store.proofs.Damage.{damage_passed}
use Rattle.pack_store.proofs.Finding.{checked_damage, checked_named}
use Rattle.peer_base.specs.Causes.{PutLeaves}
use Rattle.peer_base.specs.declared.peer.PeerFault.{PeerFault}
use Rattle.peer_base.specs.declared.peer.PeerFault.TheVariants as peer_fault
use Rattle.store_peer.specs.Faults.{IsOfPeer, get_fault}
use Rattle.store_peer.specs.StorePeer.{fetch_answer, put_answer, FetchesBlob}

-- ---- fetches

err_same : (a b : GetFault) → ◌≡◌ {A = Result (Option (List ℕ)) GetFault} (Err a) (Err b) → a ≡ b
err_same a b e = cc e

-- the ref of a blob that is asked for is this one
asked_ref : (r : List ℕ) (rows : List Row) (q : List ℕ) (size : ℕ) → entry_of r rows ≡ Some (q, size) → q ≡ r
asked_ref r rows q size e = go (size_of r rows) e
  where
    go : (o : Option ℕ) → option_map {U = List ℕ × ℕ} (λ (n : ℕ). (r, n)) o ≡ Some (q, size) → q ≡ r
    go None e = absurd (cc e)
    go (Some n) e = first_same (r, n) (q, size) e
      where
        first_same : (a b : List ℕ × ℕ) → Some a ≡ Some b → b.0 ≡ a.0
        first_same a b e = let same : a ≡ b = cc e in ap (λ (x : List ℕ × ℕ). x.0) (sym same)

module _ {D : Type 0} (g : Ghosts D) (s t new : Archive D) (is : s ≡ t) (r : List ℕ) (still : StaysStill g s new) where
  -- what `find` says of an answer
  abbrev NoneIs : Result (Option UncheckedBlob) GetFault → Type 0
  NoneIs answer = (answer ≡ Ok None) ↔ (number_of r s.rows ≡ None)

  here : (answer : Result (Option (List ℕ)) PeerFault) → FetchesBlob g s r answer new → FetchesBlob g t r answer new
  here answer = subst (λ (x : Archive D). FetchesBlob g x r answer new) is

  not_none : {A : Type 0} (answer : Result (Option UncheckedBlob) GetFault) → NoneIs answer → (answer ≡ Ok None → ⊥)
      → (other : Result (Option A) GetFault) → (other ≡ Ok None → ⊥) → (other ≡ Ok None) ↔ (number_of r s.rows ≡ None)
  not_none answer none never other differs = ((λ e. absurd (differs e)), (λ e. absurd (never (none.1 e))))

  no_damage : (e : GetFault) → IsDamage {T = Option UncheckedBlob} None (g.packs s.disk) (Err e)
      → IsDamage {T = Option (List ℕ)} (entry_of r s.rows) (g.packs s.disk) (Err e)
  no_damage fault.Disk damage = tt
  no_damage (fault.Damaged want is) damage = absurd (cc damage.asked_for)
  no_damage fault.NoMemory damage = tt

  failed_so : (e : GetFault) → (◌≡◌ {A = Result (Option UncheckedBlob) GetFault} (Err e) (Err fault.Disk)
      → FaultsRose (g.faults s.disk) (g.faults new.disk))
      → ◌≡◌ {A = Result (Option (List ℕ)) GetFault} (Err e) (Err fault.Disk) → FaultsRose (g.faults s.disk)
      (g.faults new.disk)
  failed_so fault.Disk rose e = rose refl
  failed_so (fault.Damaged want is) rose e = absurd (cc e)
  failed_so fault.NoMemory rose e = absurd (cc e)

  -- the disk failed, or no memory was left
  pub not_found : (e : GetFault) → NoneIs (Err e) → IsDamage {T = Option UncheckedBlob} None (g.packs s.disk) (Err e)
      → (◌≡◌ {A = Result (Option UncheckedBlob) GetFault} (Err e) (Err fault.Disk) → FaultsRose (g.faults s.disk)
      (g.faults new.disk)) → FetchesBlob g t r (Err (get_fault e)) new
  not_found e none damage failed = here (Err (get_fault e)) (record {
    told = Err e;
    answers = refl;
    fetches = record {
      none = not_none (Err e) none (λ e. cc e) (Err e) (λ e. cc e);
      named = tt;
      found = tt;
      damaged = no_damage e damage;
      failed = failed_so e failed;
      stays = still;
    };
  })

  -- its ref isn't among the arrivals
  pub absent : NoneIs (Ok None) → ForSome (content_of g s) (λ held. None ≡ get held r) → FetchesBlob g t r (Ok None) new
  absent none found = here (Ok None) (record {
    told = Ok None;
    answers = refl;
    fetches = record {
      none = ((λ _. none.0 refl), (λ _. refl));
      named = tt;
      found = found;
      damaged = tt;
      failed = λ e. absurd (cc e);
      stays = still;
    };
  })

  module _ (b : UncheckedBlob) (none : NoneIs (Ok (Some b))) (placed : IsFound (entry_of r s.rows) b) where
    no_failure : (e : GetFault) → checked b ≡ Err e → e ≡ fault.Disk → ⊥
    no_failure e answered failed = go (is_own_ref b.r b.bytes) answered
      where
        chosen : Bool → Result (List ℕ × List ℕ) GetFault
        chosen own = if own then Ok (b.r, b.bytes) else Err (fault.Damaged b.r (ref_like b.r b.bytes))

        go : (own : Bool) → chosen own ≡ Err e → ⊥
        go true is = cc is
        go false is = cc (is, failed)

    -- bytes of another ref were read
    pub changed : ForSome (g.packs s.disk) (λ held. IsOwnRef b.r b.bytes) → (e : GetFault) → checked b ≡ Err e
        → FetchesBlob g t r (Err (get_fault e)) new
    changed own e answered =
        let asked = entry_of r s.rows in
        let told = g.packs s.disk in
        here (Err (get_fault e)) (record {
          told = Err e;
          answers = refl;
          fetches = record {
            none = not_none (Ok (Some b)) none (λ e. cc e) (Err e) (λ e. cc e);
            named = tt;
            found = tt;
            damaged = damage_passed (List ℕ × List ℕ) (Option (List ℕ)) asked told (Err e) e refl
                (subst (IsDamage asked told) answered (checked_damage asked told b placed own));
            failed = λ same. absurd (no_failure e answered (err_same e fault.Disk same));
            stays = still;
          };
        })

    -- the blob itself
    pub whole : (a : List ℕ × List ℕ) → checked b ≡ Ok a → ForSome (content_of g s) (λ held. Some a.1 ≡ get held r)
        → FetchesBlob g t r (Ok (Some a.1)) new
    whole a answered found =
        let passed : (a ≡ (b.r, b.bytes)) × IsOwnRef a.0 a.1 = subst (λ (x : Result (List ℕ × List ℕ) GetFault). IfOk x
        (λ a. (a ≡ (b.r, b.bytes)) × IsOwnRef a.0 a.1)) answered (checked_named b) in
        let named : a.0 ≡ r = ap (λ (x : List ℕ × List ℕ). x.0) passed.0 ∙ asked_ref r s.rows b.r placed.size
        placed.asked_for in
        here (Ok (Some a.1)) (record {
          told = Ok (Some a.1);
          answers = refl;
          fetches = record {
            none = not_none (Ok (Some b)) none (λ e. cc e) (Ok (Some a.1)) (λ e. cc e);
            named = subst (λ (q : List ℕ). IsOwnRef q a.1) named passed.1;
            found = found;
            damaged = tt;
            failed = λ e. absurd (cc e);
            stays = still;
          };
        })

-- a blob that is said to be damaged is the one that was asked for
pub damaged_ref : {D : Type 0} (g : Ghosts D) (a b : Archive D) (r want is : List ℕ) → FetchesBlob g a r
    (Err (peer_fault.Damaged want is)) b → r ≡ want
damaged_ref g a b r want is call = go call.told call.answers call.fetches.damaged
  where
    go : (told : Result (Option (List ℕ)) GetFault) → Err (peer_fault.Damaged want is) ≡ fetch_answer told
        → IsDamage (entry_of r a.rows) (g.packs a.disk) told → r ≡ want
    go (Ok found) same damage = absurd (cc same)
    go (Err fault.Disk) same damage = absurd (cc same)
    go (Err fault.NoMemory) same damage = absurd (cc same)
    go (Err (fault.Damaged said other)) same damage = sym (asked_ref r a.rows said damage.size damage.asked_for)
        ∙ wanted
      where
        wanted : said ≡ want
        wanted = let faults : ◌≡◌ {A = PeerFault} (peer_fault.Damaged want is) (peer_fault.Damaged said other) =
            cc same in cc faults

-- ---- puts

fault_same : (a b : PutFault) → ◌≡◌ {A = Result Put PutFault} (Err a) (Err b) → a ≡ b
fault_same a b e = cc e

-- an answer to a blob of no more than so many bytes is a peer's
pub of_peer : {D : Type 0} (s : Archive D) (r : List ℕ) (size : ℕ) → size ≤ max_size → (f : PutFault)
    → Answers (early_answer_own s r size) (count s) (Err f) → IsOfPeer f
of_peer s r size small f a = go (nat_lt max_size size) refl a
  where
    known : (o : Option ℕ) (full : Bool) (count greatest : ℕ) (f : PutFault)
        → Answers (option_or (option_map (λ (n : ℕ). Ok (put.Already n)) o)
        (if full then Some (Err (putting.Full count greatest)) else None)) count (Err f) → IsOfPeer f
    known (Some n) full count greatest f a = cc a
    known None true count greatest f a = subst IsOfPeer (sym (fault_same f (putting.Full count greatest) a)) tt
    known None false count greatest putting.Disk a = tt
    known None false count greatest putting.NoMemory a = tt
    known None false count greatest (putting.Full blobs pack) a = tt
    known None false count greatest (putting.TooBig n) a = a
    known None false count greatest (putting.BadDigest said is) a = a

    go : (big : Bool) → nat_lt max_size size ≡ big
        → Answers (if big then Some (Err (putting.TooBig size)) else option_or
        (option_map (λ (n : ℕ). Ok (put.Already n)) (number_of r s.rows))
        (if is_full s then Some (Err (putting.Full (count s) (greatest s))) else None)) (count s) (Err f)
        → IsOfPeer f
    go true is a = let long : max_size < size = ltb-true max_size size is in absurd (omega (arith, long, small))
    go false is a = known (number_of r s.rows) (is_full s) (count s) (greatest s) f a

pub are_of_peer : {D : Type 0} (s : Archive D) (r : List ℕ) (size : ℕ) → size ≤ max_size → (told : Result Put PutFault)
    → Answers (early_answer_own s r size) (count s) told → IfErr told IsOfPeer
are_of_peer s r size small (Ok done) a = tt
are_of_peer s r size small (Err f) a = of_peer s r size small f a

pub put_keeps : (P : Type 0) (told : Result Put PutFault) → OnOk told P → OnOk (put_answer told) P
put_keeps P (Ok done) p = p
put_keeps P (Err f) p = tt

-- what is left where nothing changes but at the blob
pub put_leaves : (puts : List Blob → Type 0) (fills : ℕ → ℕ → Type 0) (before now : Option Blobs)
    (faults faults_now : ℕ) (blob : Blob) (told : Result Put PutFault) → IfErr told IsOfPeer
    → OnErr told (now ≡ before) → KeepLeaves puts fills faults faults_now blob told
    → PutLeaves {T = Unit {0}} puts fills before now faults faults_now blob (put_answer told)
put_leaves puts fills before now faults faults_now blob (Ok done) of_peer same w = w
put_leaves puts fills before now faults faults_now blob (Err (putting.TooBig size)) of_peer same w = absurd of_peer
put_leaves puts fills before now faults faults_now blob (Err (putting.BadDigest said is)) of_peer same w =
    absurd of_peer
put_leaves puts fills before now faults faults_now blob (Err (putting.Full blobs pack)) of_peer same w =
    (w.0, same, w.1)
put_leaves puts fills before now faults faults_now blob (Err putting.Disk) of_peer same w = w
put_leaves puts fills before now faults faults_now blob (Err putting.NoMemory) of_peer same w = inl (w, same)
