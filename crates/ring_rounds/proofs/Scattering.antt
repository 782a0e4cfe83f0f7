-- One peer more is given what it lacks.
use Rattle.std.proofs.Common.{◌≡◌, ◌≢◌, ◌⊎◌, inl, inr, ℕ, ◌+◌, ◌-◌, ◌^◌, ◌<◌, ◌≤◌, min, List, [], length, take, drop, set, get_or, map, Option, Some, None, option_map, refl, sym, ap, subst, ◌∙◌, arith, add-one, take-suc, length-set, get_or-set_same, get_or-set_other}
use Rattle.std.specs.Option.{ForSome}
use Rattle.std.proofs.lemmas.List.{map-set}
use Rattle.std.proofs.lemmas.Option.{slice_get-get_or}
use Rattle.edge_base.specs.Shelf.{Blob, Blobs, with_blobs}
use Rattle.peer_base.specs.declared.peer.Peer.{Ghosts}
use Rattle.sync_core.specs.declared.syncing.SyncFault.{SyncFault}
use Rattle.sync_core.specs.declared.syncing.Synced.{Synced}
use Rattle.sync_core.specs.Copying.{lacking}
use Rattle.sync_core.specs.Syncing.{IsSynced, IsStopped}
use Rattle.listed_pages.proofs.Runs.{Laws}
use Rattle.sync_core.proofs.Gone.{given_none, stops_on}
use Rattle.ring_rounds.specs.Maps.{IsCopied, IsFront, IsGiven, AreGiven, lacked_told, scattered, IsCount, StopsAt}
use Rattle.ring_rounds.specs.Peers.{IsRunOf}
use Rattle.ring_rounds.specs.Rounds.{ScatterStops}
use Rattle.ring_rounds.specs.Turns.{CountsTurns, Takes, StopsTaking}
use Rattle.ring_rounds.proofs.Turns.{turns_stop}
use Rattle.ring_rounds.proofs.Places.{apart, fold_append, mapped_at, mapped_length, rest_at, rest_set}

abbrev Told : Type 0
Told = List (Option Blobs)

-- ---- maps

module _ (hub : Option Blobs) (i : ℕ) (old now : Told) (x : Option Blobs) (lt : i < length now) (g : AreGiven hub i old now) where
  still : (j : ℕ) → j < i → IsGiven hub (get_or old j None) (get_or (set now i x) j None)
  still j less = subst (IsGiven hub (get_or old j None)) (sym (get_or-set_other now i j x None (λ e. omega (arith, less, e)))) (g.given j less)

  pub given_step : IsGiven hub (get_or old i None) x → AreGiven hub (i + 1) old (set now i x)
  given_step is = record {
    size = length-set now i x ∙ g.size;
    given = λ j less. by j less (apart j i);
    rest = ap (λ n. drop n (set now i x)) (add-one i) ∙ rest_set now old i x g.rest ∙ ap (λ n. drop n old) (sym (add-one i));
  }
    where
      by : (j : ℕ) → j < i + 1 → (j ≡ i) ⊎ (j ≢ i) → IsGiven hub (get_or old j None) (get_or (set now i x) j None)
      by j less (inl same) = subst (λ k. IsGiven hub (get_or old k None) (get_or (set now i x) k None)) (sym same)
          (subst (IsGiven hub (get_or old i None)) (sym (get_or-set_same now i x None lt)) is)
      by j less (inr other) = still j (omega (arith, less, other))

  pub stops_at : (gone next : List Blob) → ForSome hub (λ h. ForSome (get_or old i None) (λ t. IsFront gone next h t x)) → StopsAt hub i old (set now i x) gone next
  stops_at gone next front = record {
    within = subst (λ n. i < n) g.size lt;
    size = length-set now i x ∙ g.size;
    given = still;
    front = λ h is t at. subst (IsFront gone next h t) (sym (get_or-set_same now i x None lt)) (front h is t at);
    rest = rest_set now old i x g.rest;
  }

pub given_first : (hub : Option Blobs) (old : Told) → AreGiven hub 0 old old
given_first hub old = record { size = refl; given = λ j less. absurd (omega (arith, less)); rest = refl }

-- ---- how many

count_one : (hub : Option Blobs) (e : Option ℕ) (to now : Option Blobs) (n m k : ℕ) → IsCount e n → IsCopied hub to now m → k ≡ min (n + m) (2 ^ 64 - 1)
    → IsCount (lacked_told hub e to) k
count_one hub None to now n m k before synced is x e = absurd (cc e)
count_one None (Some a) to now n m k before synced is x e = absurd (cc e)
count_one (Some h) (Some a) None now n m k before synced is x e = absurd (cc e)
count_one (Some h) (Some a) (Some t) now n m k before synced is x e =
    let had : n ≡ min a (2 ^ 64 - 1) = before a refl in
    let got : m ≡ length (lacking h t) = (synced h refl t refl).1 in
    let all : a + length (lacking h t) ≡ x = cc e in
    omega (arith, is, had, got, all)

pub count_step : (hub : Option Blobs) (old : Told) (i : ℕ) (now : Option Blobs) (n m k : ℕ) → i < length old → IsCount (scattered hub (take i old)) n
    → IsCopied hub (get_or old i None) now m → k ≡ min (n + m) (2 ^ 64 - 1) → IsCount (scattered hub (take (i + 1) old)) k
count_step hub old i now n m k lt before synced is =
    subst (λ e. IsCount e k) (sym (ap (λ j. scattered hub (take j old)) (add-one i) ∙ ap (scattered hub) (take-suc old i None lt)
    ∙ fold_append (lacked_told hub) (Some 0) (take i old) (get_or old i None)))
    (count_one hub (scattered hub (take i old)) (get_or old i None) now n m k before synced is)

pub count_first : (hub : Option Blobs) (old : Told) → IsCount (scattered hub (take 0 old)) 0
count_first hub old x e = let none : 0 ≡ x = cc e in omega (arith, none)

-- ---- peers

module _ {A P : Type 0} (g : Ghosts A) (h : Ghosts P) (la : Laws g) (lp : Laws h) where
  -- what a sync from the hub makes of the peer at a place, by what all told at first
  pub copied_to : (hub mid now : A) (old : Told) (i : ℕ) (peer x : P) (synced : Synced) → g.content mid ≡ g.content hub → h.content peer ≡ get_or old i None
      → IsSynced g h mid now peer x synced → IsCopied (g.content hub) (get_or old i None) (h.content x) synced.copied
  copied_to hub mid now old i peer x synced told here s =
      subst (λ o. IsCopied (g.content hub) o (h.content x) synced.copied) here
      (subst (λ o. IsCopied o (h.content peer) (h.content x) synced.copied) told (λ f at t to. (s.union f at t to, s.copied_is f at t to)))

  pub scatter_stops : (hub mid now : A) (old peers : List P) (k : ℕ) (d x : P) (n : ℕ) (e : SyncFault) → k < length old → k < length peers → drop k peers ≡ drop k old
      → g.content mid ≡ g.content hub → g.puts hub [] mid → g.faults hub ≤ g.faults mid
      → AreGiven (g.content hub) k (map h.content old) (map h.content peers) → CountsTurns (Takes g h) hub mid (take k old) (take k peers) n → IsStopped g h mid now (get_or peers k d) x e
      → ScatterStops g h hub now old (set peers k x) k e
  scatter_stops hub mid now old peers k d x n e lt within left told nothing le given before s = record {
    gone = s.gone;
    next = s.next;
    here = record {
      peer = get_or peers k d;
      peer_now = x;
      at = slice_get-get_or old k d lt ∙ ap Some (sym (rest_at peers old k d left));
      at_now = slice_get-get_or (set peers k x) k d (subst (λ n. k < n) (sym (length-set peers k x)) within) ∙ ap Some (get_or-set_same peers k x d within);
      given = s.stopped.given;
      put = s.stopped.put;
      why = stops_on g h la lp hub mid now (get_or peers k d) (get_or peers k d) x [] s.next e told le (omega arith) nothing
          (given_none (h.content (get_or peers k d))) (lp.puts_nothing (get_or peers k d)) s.stopped.why;
    };
    maps = subst (λ t. StopsAt (g.content hub) k (map h.content old) t s.gone s.next) (sym (map-set h.content peers k x))
        (stops_at (g.content hub) k (map h.content old) (map h.content peers) (h.content x) (subst (λ n. k < n) (sym (mapped_length h.content peers)) within) given s.gone s.next
        (λ from is to at. front from is to at));
    did = turns_stop (Takes g h) (StopsTaking g h e) hub mid now old peers k d x n lt within left before
        (subst (λ p. IsStopped g h mid now p x e) (rest_at peers old k d left) s);
  }
    where
      here_is : get_or (map h.content old) k None ≡ h.content (get_or peers k d)
      here_is = mapped_at h.content old k d None lt ∙ ap h.content (sym (rest_at peers old k d left))

      front : (from : Blobs) → g.content hub ≡ Some from → (to : Blobs) → get_or (map h.content old) k None ≡ Some to → IsFront s.gone s.next from to (h.content x)
      front from is to at =
          let stood : h.content (get_or peers k d) ≡ Some to = sym here_is ∙ at in
          (s.front from (told ∙ is) to stood, s.stopped.given ∙ ap (option_map (λ (held : Blobs). with_blobs held s.gone)) stood)

  -- the peer that was copied to
  pub run_of : (old now x : P) → now ≡ old → h.follows now x → h.faults now ≤ h.faults x → IsRunOf h old x
  run_of old now x same run later = record {
    run = subst (λ p. h.follows p x) same run;
    later = subst (λ p. h.faults p ≤ h.faults x) same later;
  }

  pub run_same : (peer : P) → IsRunOf h peer peer
  run_same peer = record { run = lp.puts_follows peer peer [] (lp.puts_nothing peer); later = omega arith }
