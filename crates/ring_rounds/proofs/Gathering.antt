-- One peer more is gathered.
use Rattle.std.proofs.Common.{◌≡◌, ℕ, ◌+◌, ◌-◌, ◌^◌, ◌<◌, ◌≤◌, min, List, [], ◌∷◌, ◌++◌, length, take, drop, set, get_or, map, Option, Some, None, option_map, refl, sym, ap, subst, ◌∙◌, arith, length-set, get_or-set_same}
use Rattle.std.specs.Option.{ForSome}
use Rattle.std.proofs.lemmas.Option.{slice_get-get_or}
use Rattle.std.proofs.lemmas.List.{map-append, take-map, take_more_set}
use Rattle.edge_base.specs.Shelf.{Blobs, with_blobs}
use Rattle.edge_base.specs.ShelfLaws.{Keeps-then}
use Rattle.peer_base.specs.declared.peer.Peer.{Ghosts}
use Rattle.sync_core.specs.declared.syncing.SyncFault.{SyncFault}
use Rattle.sync_core.specs.declared.syncing.Synced.{Synced}
use Rattle.sync_core.specs.Copying.{lacking}
use Rattle.sync_core.specs.Syncing.{IsSynced, IsStopped}
use Rattle.listed_pages.proofs.Runs.{Laws}
use Rattle.sync_core.proofs.Gone.{given_none, puts_but, stops_on}
use Rattle.ring_rounds.specs.Maps.{Hub, IsCopied, taken_up, taken_up_told, fresh, gathered, HasGathered}
use Rattle.ring_rounds.specs.Peers.{IsOnlyRead}
use Rattle.ring_rounds.specs.Rounds.{Gathers, GatherStops}
use Rattle.ring_rounds.specs.Turns.{Gives, StopsGiving}
use Rattle.ring_rounds.proofs.Places.{fold_append, rest_at}
use Rattle.ring_rounds.proofs.Turns.{turns_none, turns_more, turns_stop, front_more}

-- ---- maps

some_same : {A : Type 0} (x y : A) → Some x ≡ Some y → x ≡ y
some_same x y e = cc e

-- what one step makes
one : (e : Option Hub) (from now later : Option Blobs) (n m k : ℕ)
    → ForSome e (λ end. (now ≡ Some end.0) × (n ≡ min end.1 (2 ^ 64 - 1))) → IsCopied from now later m → k ≡ min (n + m) (2 ^ 64 - 1)
    → ForSome (taken_up_told e from) (λ end. (later ≡ Some end.0) × (k ≡ min end.1 (2 ^ 64 - 1)))
one None from now later n m k before synced is end e = absurd (cc e)
one (Some h) None now later n m k before synced is end e = absurd (cc e)
one (Some h) (Some f) now later n m k before synced is end e =
    let b = before h refl in
    let s = synced f refl h.0 b.0 in
    let hub : taken_up h f ≡ end = some_same (taken_up h f) end e in
    let first : later ≡ Some end.0 = s.0 ∙ ap (λ (x : Hub). Some x.0) hub in
    let count : end.1 ≡ h.1 + length (lacking f h.0) = sym (ap (λ (x : Hub). x.1) hub) in
    let had : n ≡ min h.1 (2 ^ 64 - 1) = b.1 in
    let got : m ≡ length (lacking f h.0) = s.1 in
    (first, omega (arith, is, count, had, got))

gathered_step : (hub : Option Blobs) (told : List (Option Blobs)) (from now later : Option Blobs) (n m k : ℕ) → HasGathered hub told now n → IsCopied from now later m
    → k ≡ min (n + m) (2 ^ 64 - 1) → HasGathered hub (told ++ from ∷ []) later k
gathered_step hub told from now later n m k before synced is =
    subst (λ e. ForSome e (λ end. (later ≡ Some end.0) × (k ≡ min end.1 (2 ^ 64 - 1)))) (sym (fold_append taken_up_told (fresh hub) told from))
    (one (gathered hub told) from now later n m k before synced is)

-- nothing was gathered yet
gathered_none : (hub : Option Blobs) → HasGathered hub [] hub 0
gathered_none None end e = absurd (cc e)
gathered_none (Some h) end e =
    let is : (h, 0) ≡ end = some_same (h, 0) end e in
    (ap (λ (x : Hub). Some x.0) is, (let count : 0 ≡ end.1 = ap (λ (x : Hub). x.1) is in omega (arith, count)))

-- ---- peers

module _ {A P : Type 0} (g : Ghosts A) (h : Ghosts P) (la : Laws g) (lp : Laws h) where
  pub gathers_none : (hub : A) → Gathers g h hub hub [] [] 0
  gathers_none hub = record {
    gone = [];
    given = record { given = given_none (g.content hub); put = la.puts_nothing hub };
    maps = gathered_none (g.content hub);
    did = turns_none (Gives g h) hub;
  }

  copied_of : (peer x : P) (mid now : A) (synced : Synced) → IsSynced h g peer x mid now synced → IsCopied (h.content peer) (g.content mid) (g.content now) synced.copied
  copied_of peer x mid now synced s f at t to = (s.union f at t to, s.copied_is f at t to)

  gathers_one : (hub mid now : A) (front front_now : List P) (peer x : P) (n k : ℕ) (synced : Synced) → Gathers g h hub mid front front_now n → IsSynced h g peer x mid now synced
      → k ≡ min (n + synced.copied) (2 ^ 64 - 1) → Gathers g h hub now (front ++ peer ∷ []) (front_now ++ x ∷ []) k
  gathers_one hub mid now front front_now peer x n k synced b s is = record {
    gone = b.gone ++ s.gone;
    given = record {
      given = Keeps-then (g.content hub) (g.content mid) (g.content now) b.gone s.gone b.given.given s.copies.given;
      put = la.puts_then hub mid now b.gone s.gone b.given.put s.copies.put;
    };
    maps = subst (λ told. HasGathered (g.content hub) told (g.content now) k) (sym (map-append h.content front (peer ∷ [])))
        (gathered_step (g.content hub) (map h.content front) (h.content peer) (g.content mid) (g.content now) n synced.copied k b.maps (copied_of peer x mid now synced s) is);
    did = turns_more (Gives g h) hub mid now front front_now peer x n synced.copied k b.did (synced, s, refl) is;
  }

  pub gathers_step : (hub mid now : A) (old peers : List P) (i : ℕ) (d x : P) (n k : ℕ) (synced : Synced) → i < length old → i < length peers → get_or peers i d ≡ get_or old i d
      → Gathers g h hub mid (take i old) (take i peers) n → IsSynced h g (get_or peers i d) x mid now synced → k ≡ min (n + synced.copied) (2 ^ 64 - 1)
      → Gathers g h hub now (take (i + 1) old) (take (i + 1) (set peers i x)) k
  gathers_step hub mid now old peers i d x n k synced lt within same b s is =
      subst (λ l. Gathers g h hub now l (take (i + 1) (set peers i x)) k) (sym (front_more old i d lt))
      (subst (λ l. Gathers g h hub now (take i old ++ get_or old i d ∷ []) l k) (sym (take_more_set peers i x within))
      (gathers_one hub mid now (take i old) (take i peers) (get_or old i d) x n k synced b (subst (λ p. IsSynced h g p x mid now synced) same s) is))

  pub gather_stops : (hub mid now : A) (old peers : List P) (k : ℕ) (d x : P) (n : ℕ) (e : SyncFault) → k < length old → k < length peers → drop k peers ≡ drop k old
      → Gathers g h hub mid (take k old) (take k peers) n → IsStopped h g (get_or peers k d) x mid now e → g.faults hub ≤ g.faults mid
      → GatherStops g h hub now old (set peers k x) k e
  gather_stops hub mid now old peers k d x n e lt within left b s le = record {
    peer = get_or peers k d;
    peer_now = x;
    at = slice_get-get_or old k d lt ∙ ap Some (sym (rest_at peers old k d left));
    at_now = slice_get-get_or (set peers k x) k d (subst (λ n. k < n) (sym (length-set peers k x)) within) ∙ ap Some (get_or-set_same peers k x d within);
    before = b.gone;
    gone = s.gone;
    next = s.next;
    given = Keeps-then (g.content hub) (g.content mid) (g.content now) b.gone s.gone b.given.given s.stopped.given;
    put = puts_but h g lp la hub mid now b.gone s.gone e b.given.put s.stopped.put;
    why = stops_on h g lp la (get_or peers k d) (get_or peers k d) x hub mid now b.gone s.next e refl (omega arith) le (lp.puts_nothing (get_or peers k d)) b.given.given b.given.put s.stopped.why;
    maps = λ end is from at. (
      s.front from at end.0 (maps end is).0,
      s.stopped.given ∙ ap (option_map (λ (held : Blobs). with_blobs held s.gone)) (maps end is).0,
    );
    did = turns_stop (Gives g h) (StopsGiving g h e) hub mid now old peers k d x n lt within left b.did
        (subst (λ p. IsStopped h g p x mid now e) (rest_at peers old k d left) s);
  }
    where
      maps : HasGathered (g.content hub) (take k (map h.content old)) (g.content mid) n
      maps = subst (λ told. HasGathered (g.content hub) told (g.content mid) n) (sym (take-map h.content k old)) b.maps

  -- the peer that was copied from
  pub only_read : (old now x : P) → now ≡ old → h.content x ≡ h.content now → h.puts now [] x → h.faults now ≤ h.faults x → IsOnlyRead h old x
  only_read old now x same told put later = record {
    told = told ∙ ap h.content same;
    put = subst (λ p. h.puts p [] x) same put;
    later = subst (λ p. h.faults p ≤ h.faults x) same later;
  }

  pub read_same : (peer : P) → IsOnlyRead h peer peer
  read_same peer = record { told = refl; put = lp.puts_nothing peer; later = omega arith }
