-- Stores that exchange blobs in pairs.
use Rattle.std.specs.Prelude.{◌≡◌, ◌⊎◌, ℕ, zero, suc, ◌≤◌, ◌&&◌, Bool, true, nat_le, Some, List, [], ◌∷◌, length, take, fold, if◌then◌else◌}
use Rattle.std.specs.FinMap.{empty, get}
use Rattle.blobref.specs.Blobref.{is_own_ref}
use Rattle.edge_base.specs.Shelf.{Blob, Blobs, with_blob, with_blobs, max_blob}
use Rattle.sync_core.specs.Copying.{lacking}
use Rattle.replica_ring.specs.declared.events.RingEvent.{RingEvent}
use Rattle.replica_ring.specs.declared.events.RingEvent.TheVariants.{Upload, Pull, Stop}

-- the refs of both maps, with the first one's bytes where it has the ref
abbrev pub join : Blobs → Blobs → Blobs
join a b = with_blobs a (lacking b a)

abbrev pub join_of : List Blobs → Blobs
join_of [] = empty
join_of (m ∷ ms) = join m (join_of ms)

-- the map of a store; beyond the last it is empty
abbrev pub at : List Blobs → ℕ → Blobs
at [] i = empty
at (m ∷ ms) zero = m
at (m ∷ ms) (suc i) = at ms i

abbrev pub changed : ℕ → (Blobs → Blobs) → List Blobs → List Blobs
changed i f [] = []
changed zero f (m ∷ ms) = f m ∷ ms
changed (suc i) f (m ∷ ms) = m ∷ changed i f ms

-- what a map becomes that takes so many of the blobs that it lacks, in the order of refs
abbrev pub pulled : Blobs → ℕ → Blobs → Blobs
pulled from count to = with_blobs to (take count (lacking from to))

-- a blob that a store takes: it is under a ref of its own, and no longer than a blob may be
abbrev pub is_valid : Blob → Bool
is_valid blob = is_own_ref blob.0 blob.1 && nat_le (length blob.1) max_blob

-- each blob is one that a store takes
abbrev pub AreValid : Blobs → Type 0
AreValid held = (r bytes : List ℕ) → get held r ≡ Some bytes → is_valid (r, bytes) ≡ true

-- and so it is in each store
abbrev pub AreAllValid : List Blobs → Type 0
AreAllValid ring = (i : ℕ) → AreValid (at ring i)

abbrev pub uploaded : Blobs → Blob → Blobs
uploaded held blob = if is_valid blob then with_blob held blob else held

abbrev pub all_uploaded : Blobs → List Blob → Blobs
all_uploaded held blobs = fold uploaded held blobs

-- what an event makes of the maps
abbrev pub step : List Blobs → RingEvent → List Blobs
step ring (Upload store r bytes) = changed store (λ h. uploaded h (r, bytes)) ring
step ring (Pull source target count) = changed target (pulled (at ring source) count) ring
step ring (Stop store also) = changed store (λ h. all_uploaded h also) ring

abbrev pub run : List Blobs → List RingEvent → List Blobs
run ring [] = ring
run ring (e ∷ es) = run (step ring e) es

-- an event that isn't a pull changes nothing when it comes
abbrev pub IsQuiet : List Blobs → RingEvent → Type 0
IsQuiet ring (Upload store r bytes) = step ring (Upload store r bytes) ≡ ring
IsQuiet ring (Pull source target count) = Unit {0}
IsQuiet ring (Stop store also) = step ring (Stop store also) ≡ ring

abbrev pub AreQuiet : List Blobs → List RingEvent → Type 0
AreQuiet ring [] = Unit {0}
AreQuiet ring (e ∷ es) = IsQuiet ring e × AreQuiet (step ring e) es

-- a pull from one store to another of at least as many blobs as the target lacks
abbrev pub IsFull : List Blobs → ℕ → ℕ → RingEvent → Type 0
IsFull ring i j (Upload store r bytes) = ⊥
IsFull ring i j (Pull source target count) = (source ≡ i) × ((target ≡ j) × (length (lacking (at ring i) (at ring j)) ≤ count))
IsFull ring i j (Stop store also) = ⊥

-- one of the events is such a pull when it comes
abbrev pub HasFull : List Blobs → ℕ → ℕ → List RingEvent → Type 0
HasFull ring i j [] = ⊥
HasFull ring i j (e ∷ es) = IsFull ring i j e ⊎ HasFull (step ring e) i j es
