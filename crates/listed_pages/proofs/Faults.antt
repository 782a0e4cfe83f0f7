-- Why a peer didn't list its refs, from what a call of it says.
use Rattle.std.proofs.Common.{Err, Option, ℕ}
use Rattle.edge_base.specs.Shelf.{Blobs}
use Rattle.peer_base.specs.Causes.{ListCause}
use Rattle.peer_base.specs.declared.peer.PeerFault.{PeerFault}
use Rattle.peer_base.specs.declared.peer.PeerFault.TheVariants as fault
use Rattle.listed_pages.specs.Causes.{ListFault}

pub list_fault : (told : Option Blobs) (before now : ℕ) (T : Type 0) (e : PeerFault) → ListCause {T = T} told before now
    (Err e) → ListFault told before now e
list_fault told before now T fault.Failed w = w
list_fault told before now T fault.BadReply w = w
list_fault told before now T (fault.Refused status) w = w
list_fault told before now T (fault.Damaged want is) w = w
list_fault told before now T (fault.Full blobs pack) w = w
list_fault told before now T fault.NoMemory w = w
