-- Why not all was copied.
use Rattle.std.specs.Prelude.{◌≡◌, ◌≢◌, ℕ, List, [], ◌∷◌, Option, None}
use Rattle.edge_base.specs.Edge.{FaultsRose}
use Rattle.edge_base.specs.Shelf.{Blob, Blobs}
use Rattle.peer_base.specs.declared.peer.PeerFault.{PeerFault}
use Rattle.peer_base.specs.declared.peer.PeerFault.TheVariants as fault

-- the peer that is copied from didn't list, or didn't give a blob
abbrev pub SourceFault : Option Blobs → (before now : ℕ) → PeerFault → Type 0
SourceFault told before now fault.Failed = FaultsRose before now
SourceFault told before now fault.BadReply = told ≡ None
SourceFault told before now (fault.Refused status) = told ≡ None
SourceFault told before now (fault.Damaged want is) = (is ≢ want) × (told ≡ None)
SourceFault told before now (fault.Full blobs pack) = ⊥
SourceFault told before now fault.NoMemory = Unit {0}

-- the first of these blobs meets it, and there is one
abbrev pub FirstIs : (Blob → Type 0) → List Blob → Type 0
FirstIs P [] = ⊥
FirstIs P (blob ∷ more) = P blob

-- The peer that is copied to didn't list, or didn't take a blob. `fills` says whether it has no room for a blob, with
-- so many blobs and a last pack of that number, and the blobs are those that were still to be copied.
abbrev pub TargetFault : Option Blobs → (Blob → ℕ → ℕ → Type 0) → (before now : ℕ) → List Blob → PeerFault → Type 0
TargetFault told fills before now rest fault.Failed = FaultsRose before now
TargetFault told fills before now rest fault.BadReply = told ≡ None
TargetFault told fills before now rest (fault.Refused status) = told ≡ None
TargetFault told fills before now rest (fault.Damaged want is) = ⊥
TargetFault told fills before now rest (fault.Full blobs pack) = FirstIs (λ blob. fills blob blobs pack) rest
TargetFault told fills before now rest fault.NoMemory = Unit {0}
