-- Why a peer didn't list its refs.
use Rattle.std.specs.Prelude.{◌≡◌, ℕ, Option, None}
use Rattle.edge_base.specs.Edge.{FaultsRose}
use Rattle.edge_base.specs.Shelf.{Blobs}
use Rattle.peer_base.specs.declared.peer.PeerFault.{PeerFault}
use Rattle.peer_base.specs.declared.peer.PeerFault.TheVariants as fault

abbrev pub ListFault : Option Blobs → (before now : ℕ) → PeerFault → Type 0
ListFault told before now fault.Failed = FaultsRose before now
ListFault told before now fault.BadReply = told ≡ None
ListFault told before now (fault.Refused status) = told ≡ None
ListFault told before now (fault.Damaged want is) = ⊥
ListFault told before now (fault.Full blobs pack) = ⊥
ListFault told before now fault.NoMemory = Unit {0}
