-- The faults of a store, as those of a peer.
use Rattle.edge_base.specs.declared.answers.GetFault.{GetFault}
use Rattle.edge_base.specs.declared.answers.GetFault.TheVariants as get
use Rattle.edge_base.specs.declared.answers.PutFault.{PutFault}
use Rattle.edge_base.specs.declared.answers.PutFault.TheVariants as put
use Rattle.peer_base.specs.declared.peer.PeerFault.{PeerFault}
use Rattle.peer_base.specs.declared.peer.PeerFault.TheVariants as peer

abbrev pub get_fault : GetFault → PeerFault
get_fault get.Disk = peer.Failed
get_fault (get.Damaged want is) = peer.Damaged want is
get_fault get.NoMemory = peer.NoMemory

-- a blob that is put is neither too long nor under another ref
abbrev pub IsOfPeer : PutFault → Type 0
IsOfPeer (put.TooBig size) = ⊥
IsOfPeer (put.BadDigest said is) = ⊥
IsOfPeer _ = Unit {0}

abbrev pub put_fault : PutFault → PeerFault
put_fault (put.Full blobs pack) = peer.Full blobs pack
put_fault put.Disk = peer.Failed
put_fault _ = peer.NoMemory
