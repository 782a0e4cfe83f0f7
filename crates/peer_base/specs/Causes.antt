-- Why a peer doesn't answer, and what a call leaves.
use Rattle.std.specs.Prelude.{◌≡◌, ◌≢◌, ◌⊎◌, ℕ, List, [], ◌∷◌, Option, None, Result, Ok, Err}
use Rattle.edge_base.specs.Edge.{FaultsRose}
use Rattle.edge_base.specs.Shelf.{Blob, Blobs, Keeps}
use Rattle.peer_base.specs.declared.peer.PeerFault.{PeerFault}
use Rattle.peer_base.specs.declared.peer.PeerFault.TheVariants as fault

-- why a page isn't listed
abbrev pub ListCause : {T : Type 0} → Option Blobs → (before now : ℕ) → Result T PeerFault → Type 0
ListCause told before now (Ok page) = Unit {0}
ListCause told before now (Err fault.Failed) = FaultsRose before now
ListCause told before now (Err fault.BadReply) = told ≡ None
ListCause told before now (Err (fault.Refused status)) = told ≡ None
ListCause told before now (Err (fault.Damaged want is)) = ⊥
ListCause told before now (Err (fault.Full blobs pack)) = ⊥
ListCause told before now (Err fault.NoMemory) = Unit {0}

-- why a blob isn't fetched
abbrev pub FetchCause : {T : Type 0} → Option Blobs → (before now : ℕ) → List ℕ → Result T PeerFault → Type 0
FetchCause told before now r (Ok found) = Unit {0}
FetchCause told before now r (Err fault.Failed) = FaultsRose before now
FetchCause told before now r (Err fault.BadReply) = told ≡ None
FetchCause told before now r (Err (fault.Refused status)) = told ≡ None
FetchCause told before now r (Err (fault.Damaged want is)) = (want ≡ r) × (is ≢ r) × (told ≡ None)
FetchCause told before now r (Err (fault.Full blobs pack)) = ⊥
FetchCause told before now r (Err fault.NoMemory) = Unit {0}

-- what is told is as before, or has the blob too
abbrev pub MayKeep : Option Blobs → Option Blobs → Blob → Type 0
MayKeep before now blob = (now ≡ before) ⊎ Keeps before now (blob ∷ [])

-- nothing was put, or the blob was, and that is what is told
abbrev pub PutsMaybe : (List Blob → Type 0) → Option Blobs → Option Blobs → Blob → Type 0
PutsMaybe puts before now blob = (puts [] × (now ≡ before)) ⊎ (puts (blob ∷ []) × Keeps before now (blob ∷ []))

-- What a call that puts a blob leaves, by its answer. `puts` says which blobs were put, and `fills` whether there is no room for this one
-- with so many blobs and a last pack of that number.
abbrev pub PutLeaves : {T : Type 0} → (List Blob → Type 0) → (ℕ → ℕ → Type 0) → (told told_now : Option Blobs) → (before now : ℕ) → Blob
    → Result T PeerFault → Type 0
PutLeaves puts fills told told_now before now blob (Ok done) = puts (blob ∷ [])
PutLeaves puts fills told told_now before now blob (Err fault.Failed) = FaultsRose before now
PutLeaves puts fills told told_now before now blob (Err fault.BadReply) = (told ≡ None) × PutsMaybe puts told told_now blob
PutLeaves puts fills told told_now before now blob (Err (fault.Refused status)) = (told ≡ None) × PutsMaybe puts told told_now blob
PutLeaves puts fills told told_now before now blob (Err (fault.Damaged want is)) = ⊥
PutLeaves puts fills told told_now before now blob (Err (fault.Full blobs pack)) = puts [] × (told_now ≡ told) × fills blobs pack
PutLeaves puts fills told told_now before now blob (Err fault.NoMemory) = PutsMaybe puts told told_now blob
