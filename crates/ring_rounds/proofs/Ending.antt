-- A round whole.
use Rattle.std.proofs.Common.{◌≡◌, ℕ, ◌+◌, ◌-◌, ◌^◌, ◌<◌, ◌≤◌, min, List, [], length, map, get_or, Option, Some, None, option_map, Ok, refl, sym, subst, ◌∙◌, arith}
use Rattle.std.specs.List.{AllZip}
use Rattle.std.proofs.lemmas.List.Elements.{AllZip-get_or, length_all_zip}
use Rattle.std.proofs.lemmas.List.{append-nil}
use Rattle.std.proofs.lemmas.Option.{slice_get-get_or, slice_get_within, get_or_from_slice_get}
use Rattle.edge_base.specs.Edge.{FaultsRose}
use Rattle.edge_base.specs.Shelf.{Blob, Blobs, Keeps}
use Rattle.edge_base.specs.ShelfLaws.{Keeps-then}
use Rattle.peer_base.specs.declared.peer.Peer.{Ghosts}
use Rattle.peer_base.specs.declared.peer.PeerFault.{PeerFault}
use Rattle.peer_base.specs.declared.peer.PeerFault.TheVariants as fault
use Rattle.sync_core.specs.declared.syncing.SyncFault.{SyncFault}
use Rattle.sync_core.specs.declared.syncing.SyncFault.TheVariants as sync
use Rattle.sync_core.specs.Causes.{SourceFault}
use Rattle.sync_core.specs.Copying.{StopCause}
use Rattle.listed_pages.proofs.Runs.{Laws, source_answered_on, target_answered_on, fetched_on}
use Rattle.sync_core.proofs.Gone.{given_same, target_later, puts_but}
use Rattle.ring_rounds.specs.declared.rounds.RingFault.{RingFault}
use Rattle.ring_rounds.specs.declared.rounds.RingFault.TheVariants.{Gather, Scatter}
use Rattle.ring_rounds.specs.Maps.{HasGathered, AreGiven, scattered, IsCount, StopsAt, AreRound, AreStopped}
use Rattle.ring_rounds.specs.Peers.{WasGiven, IsOnlyRead, IsRunOf}
use Rattle.ring_rounds.specs.Rounds.{Gathers, GatherEnds, Scatters, ScatterEnds, PeerStops, DoesRound, IsRound, RoundStops}
use Rattle.ring_rounds.specs.Turns.{CountsTurns, Gives, Takes}
use Rattle.ring_rounds.proofs.Zips.{zip_then, zip_turn}

abbrev Told : Type 0
Told = List (Option Blobs)

-- ---- maps

counted : (a n1 n2 k : ℕ) (o : Option ℕ) → n1 ≡ min a (2 ^ 64 - 1) → IsCount o n2 → k ≡ min (n1 + n2) (2 ^ 64 - 1) → IsCount (option_map (λ m. a + m) o) k
counted a n1 n2 k None first second is x e = absurd (cc e)
counted a n1 n2 k (Some b) first second is x e =
    let had : n2 ≡ min b (2 ^ 64 - 1) = second b refl in
    let all : a + b ≡ x = cc e in
    omega (arith, first, had, is, all)

maps_done : (hub mid hub_now : Option Blobs) (old olds now : Told) (n1 n2 k : ℕ) → HasGathered hub old mid n1 → olds ≡ old → hub_now ≡ mid
    → AreGiven mid (length olds) olds now → IsCount (scattered mid olds) n2 → k ≡ min (n1 + n2) (2 ^ 64 - 1) → AreRound hub hub_now old now k
maps_done hub mid hub_now old olds now n1 n2 k gathers same told given count is end at =
    let g = gathers end at in
    let s : AreGiven (Some end.0) (length old) old now =
    subst (λ o. AreGiven o (length old) old now) g.0 (subst (λ os. AreGiven mid (length os) os now) same given) in
    let c : IsCount (scattered (Some end.0) old) n2 = subst (λ o. IsCount (scattered o old) n2) g.0 (subst (λ os. IsCount (scattered mid os) n2) same count) in
    (told ∙ g.0, (s, counted end.1 n1 n2 k (scattered (Some end.0) old) g.1 c is))

maps_stop : (hub mid hub_now : Option Blobs) (old olds now : Told) (n1 k : ℕ) (gone next : List Blob) → HasGathered hub old mid n1 → olds ≡ old → hub_now ≡ mid
    → StopsAt mid k olds now gone next → AreStopped hub hub_now k old now gone next
maps_stop hub mid hub_now old olds now n1 k gone next gathers same told stops end at =
    (told ∙ (gathers end at).0, subst (λ o. StopsAt o k old now gone next) (gathers end at).0 (subst (λ os. StopsAt mid k os now gone next) same stops))

-- ---- causes

rose_on : (a b c : ℕ) → a ≤ b → FaultsRose b c → FaultsRose a c
rose_on a b c le rose = omega (arith, le, rose)

none_before : (before now : Option Blobs) (gone : List Blob) → Keeps before now gone → now ≡ None → before ≡ None
none_before None now gone g e = refl
none_before (Some held) now gone g e = absurd (cc (g, e))

source_since : (first told : Option Blobs) (gone : List Blob) (a b c : ℕ) (e : PeerFault) → Keeps first told gone → a ≤ b → SourceFault told b c e → SourceFault first a c e
source_since first told gone a b c fault.Failed g le w = rose_on a b c le w
source_since first told gone a b c fault.BadReply g le w = none_before first told gone g w
source_since first told gone a b c (fault.Refused status) g le w = none_before first told gone g w
source_since first told gone a b c (fault.Damaged want is) g le w = (w.0, none_before first told gone g w.1)
source_since first told gone a b c (fault.Full blobs pack) g le w = absurd w
source_since first told gone a b c fault.NoMemory g le w = tt

module _ {A P : Type 0} (g : Ghosts A) (h : Ghosts P) (la : Laws g) (lp : Laws h) where
  -- from the start of the round on: the hub was given some blobs first, and the peer was only read
  since : (hub mid now : A) (p q r : P) (gone next : List Blob) (e : SyncFault) → Keeps (g.content hub) (g.content mid) gone → g.puts hub gone mid → g.faults hub ≤ g.faults mid
      → IsOnlyRead h p q → StopCause g h mid now q r next e → StopCause g h hub now p r next e
  since hub mid now p q r gone next (sync.Source f) given put le read w = (
    source_since (g.content hub) (g.content mid) gone (g.faults hub) (g.faults mid) (g.faults now) f given le w.0,
    source_answered_on g la hub mid now f (la.puts_follows hub mid gone put) w.1,
  )
  since hub mid now p q r gone next (sync.Target f) given put le read w = (
    target_later (h.content p) (h.content q) [] (h.fills r) (h.faults p) (h.faults q) (h.faults r) next f (given_same (h.content p) (h.content q) read.told) read.later w.0,
    target_answered_on h lp p q r f (lp.puts_follows p q [] read.put) w.1,
  )
  since hub mid now p q r gone next (sync.Gone lost) given put le read w =
      (none_before (g.content hub) (g.content mid) gone given w.0, fetched_on g la hub mid now lost (Ok None) (la.puts_follows hub mid gone put) w.1)

  peer_since : (hub mid now : A) (old olds news : List P) (k : ℕ) (e : SyncFault) (taken gone next : List Blob) → Keeps (g.content hub) (g.content mid) taken → g.puts hub taken mid
      → g.faults hub ≤ g.faults mid → AllZip (IsOnlyRead h) old olds → PeerStops g h mid now olds news k e gone next → PeerStops g h hub now old news k e gone next
  peer_since hub mid now old olds news k e taken gone next given put le read s = record {
    peer = get_or old k s.peer;
    peer_now = s.peer_now;
    at = slice_get-get_or old k s.peer within;
    at_now = s.at_now;
    given = Keeps-then (h.content (get_or old k s.peer)) (h.content s.peer) (h.content s.peer_now) [] gone (given_same (h.content (get_or old k s.peer)) (h.content s.peer) here.told) s.given;
    put = puts_but g h la lp (get_or old k s.peer) s.peer s.peer_now [] gone e here.put s.put;
    why = since hub mid now (get_or old k s.peer) s.peer s.peer_now taken next e given put le here s.why;
  }
    where
      within : k < length old
      within = subst (λ n. k < n) (sym (length_all_zip (IsOnlyRead h) old olds read)) (slice_get_within olds k s.peer s.at)

      here : IsOnlyRead h (get_or old k s.peer) s.peer
      here = subst (IsOnlyRead h (get_or old k s.peer)) (get_or_from_slice_get olds k s.peer s.peer s.at) (AllZip-get_or (IsOnlyRead h) old olds k s.peer s.peer read within)

  -- what the hub was given, though it was only read since
  taken_since : (hub mid now : A) (taken : List Blob) → g.content now ≡ g.content mid → g.puts mid [] now → WasGiven g hub mid taken → WasGiven g hub now taken
  taken_since hub mid now taken told nothing b = record {
    given = told ∙ b.given;
    put = subst (λ l. g.puts hub l now) (append-nil taken) (la.puts_then hub mid now taken [] b.put nothing);
  }

  did_round : (hub mid now : A) (old olds news : List P) (n1 n2 k : ℕ) → CountsTurns (Gives g h) hub mid old olds n1 → CountsTurns (Takes g h) mid now olds news n2
      → AllZip (IsOnlyRead h) old olds → k ≡ min (n1 + n2) (2 ^ 64 - 1) → DoesRound g h hub now old news k
  did_round hub mid now old olds news n1 n2 k b s read is =
      let first : n1 ≡ min b.0 (2 ^ 64 - 1) = b.2 in
      let second : n2 ≡ min s.0 (2 ^ 64 - 1) = s.2 in
      let all : k ≡ min (b.0 + s.0) (2 ^ 64 - 1) = omega (arith, first, second, is) in
      record { mid = mid; peers = olds; gathered = b.0; gathers = b.1; read = read; scattered = s.0; scatters = s.1; count_is = all }

  pub round_done : (hub mid now : A) (old olds news : List P) (n1 n2 k : ℕ) → Gathers g h hub mid old olds n1 → map h.content olds ≡ map h.content old
      → AllZip (IsOnlyRead h) old olds → g.content now ≡ g.content mid → g.puts mid [] now → Scatters g h mid now olds news n2 → k ≡ min (n1 + n2) (2 ^ 64 - 1) → IsRound g h hub now old news k
  round_done hub mid now old olds news n1 n2 k b same read told nothing s is = record {
    gone = b.gone;
    given = taken_since hub mid now b.gone told nothing b.given;
    maps = maps_done (g.content hub) (g.content mid) (g.content now) (map h.content old) (map h.content olds) (map h.content news) n1 n2 k b.maps same told s.maps s.count is;
    did = did_round hub mid now old olds news n1 n2 k b.did s.did read is;
  }

  pub gather_breaks : (hub now : A) (old news : List P) (fault : RingFault) → map h.content news ≡ map h.content old → AllZip (IsOnlyRead h) old news → GatherEnds g h hub now old news fault → RoundStops g h hub now old news fault
  gather_breaks hub now old news (Gather k e) same read s = (same, read, s)
  gather_breaks hub now old news (Scatter k e) same read s = absurd s

  pub round_stops : (hub mid now : A) (old olds news : List P) (n1 : ℕ) (fault : RingFault) → Gathers g h hub mid old olds n1 → map h.content olds ≡ map h.content old
      → AllZip (IsOnlyRead h) old olds → g.faults hub ≤ g.faults mid → g.content now ≡ g.content mid → g.puts mid [] now → ScatterEnds g h mid now olds news fault → RoundStops g h hub now old news fault
  round_stops hub mid now old olds news n1 (Gather k e) b same read le told nothing s = absurd s
  round_stops hub mid now old olds news n1 (Scatter k e) b same read le told nothing s = record {
    taken = b.gone;
    taken_up = taken_since hub mid now b.gone told nothing b.given;
    gone = s.gone;
    next = s.next;
    here = peer_since hub mid now old olds news k e b.gone s.gone s.next b.given.given b.given.put le read s.here;
    maps = maps_stop (g.content hub) (g.content mid) (g.content now) (map h.content old) (map h.content olds) (map h.content news) n1 k s.gone s.next b.maps same told s.maps;
    did = record { mid = mid; peers = olds; gathered = b.did.0; gathers = b.did.1; read = read; scatters = s.did };
  }

  -- ---- runs

  pub all_run : (old olds news : List P) → AllZip (IsOnlyRead h) old olds → AllZip (IsRunOf h) olds news → AllZip (IsRunOf h) old news
  all_run old olds news read run = zip_then (IsOnlyRead h) (IsRunOf h) (IsRunOf h) on old olds news read run
    where
      on : (x y z : P) → IsOnlyRead h x y → IsRunOf h y z → IsRunOf h x z
      on x y z r q = record { run = lp.follows_then x y z (lp.puts_follows x y [] r.put) q.run; later = omega (arith, r.later, q.later) }

  pub all_read : (old news : List P) → AllZip (IsOnlyRead h) old news → AllZip (IsRunOf h) old news
  all_read old news read = zip_turn (IsOnlyRead h) (IsRunOf h) on old news read
    where
      on : (x y : P) → IsOnlyRead h x y → IsRunOf h x y
      on x y r = record { run = lp.puts_follows x y [] r.put; later = r.later }

  pub hub_run : (hub mid now : A) → g.follows hub mid → g.puts mid [] now → g.follows hub now
  hub_run hub mid now run nothing = la.follows_then hub mid now run (la.puts_follows mid now [] nothing)
