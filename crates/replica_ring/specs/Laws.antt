-- Laws of rings.
use Rattle.std.specs.Prelude.{◌≡◌, ◌≢◌, ℕ, ◌<◌, ◌≤◌, List, ◌∷◌, fold, length, Some}
use Rattle.std.specs.FinMap.{get, contains_key}
use Rattle.edge_base.specs.Shelf.{Blob, Blobs}
use Rattle.replica_ring.specs.declared.events.RingEvent.{RingEvent}
use Rattle.replica_ring.specs.declared.events.RingEvent.TheVariants.{Upload, Pull, Stop}
use Rattle.replica_ring.specs.Rings.{join, join_of, at, step, run, AreQuiet, HasFull, AreAllValid}

abbrev pub EventsKeep : Type 0
EventsKeep = (ring : List Blobs) (events : List RingEvent) (i : ℕ) (r bytes : List ℕ)
    → get (at ring i) r ≡ Some bytes → get (at (run ring events) i) r ≡ Some bytes

abbrev pub EventsKeepValid : Type 0
EventsKeepValid = (ring : List Blobs) (events : List RingEvent) → AreAllValid ring → AreAllValid (run ring events)

pub record JoinIsUnion : Type 0 where
  pub associative : (a b c : Blobs) → join (join a b) c ≡ join a (join b c)
  pub itself : (a : Blobs) → join a a ≡ a
  pub refs : (a b : Blobs) (r : List ℕ) → contains_key (join a b) r ≡ contains_key (join b a) r

pub record OthersChangeNothing : Type 0 where
  pub upload : (ring : List Blobs) (i : ℕ) (r bytes : List ℕ) → length ring ≤ i
      → step ring (Upload i r bytes) ≡ ring
  pub source : (ring : List Blobs) (i j count : ℕ) → length ring ≤ i → step ring (Pull i j count) ≡ ring
  pub target : (ring : List Blobs) (i j count : ℕ) → length ring ≤ j → step ring (Pull i j count) ≡ ring
  pub stop : (ring : List Blobs) (i : ℕ) (also : List Blob) → length ring ≤ i
      → step ring (Stop i also) ≡ ring

-- no two stores have other bytes under one ref
abbrev pub HaveOne : List Blobs → Type 0
HaveOne ring = (i k : ℕ) (r b c : List ℕ) → get (at ring i) r ≡ Some b → get (at ring k) r ≡ Some c → b ≡ c

-- a full pull over each ordered pair of stores
abbrev pub HasAllFull : List Blobs → List RingEvent → Type 0
HasAllFull ring events = (i j : ℕ) → i < length ring → j < length ring → i ≢ j → HasFull ring i j events

pub record FullPullsJoin : Type 0 where
  pub refs : (ring : List Blobs) (events : List RingEvent) → AreQuiet ring events → HasAllFull ring events
      → (j : ℕ) → j < length ring → (r : List ℕ) → contains_key (at (run ring events) j) r ≡ contains_key (join_of ring) r
  pub maps : (ring : List Blobs) (events : List RingEvent) → AreQuiet ring events → HasAllFull ring events
      → HaveOne ring → (j : ℕ) → j < length ring → at (run ring events) j ≡ join_of ring

-- a hub that takes up one map after the other is their join, and what is given that has its refs
pub record RoundsJoin : Type 0 where
  pub gathered : (hub : Blobs) (ms : List Blobs) → fold join hub ms ≡ join_of (hub ∷ ms)
  pub given : (ms : List Blobs) (i : ℕ) (r : List ℕ) → contains_key (join (at ms i) (join_of ms)) r ≡ contains_key (join_of ms) r
