-- The statuses that tell the faults of the crates below (docs/commands.md).
use Rattle.edge_base.specs.declared.answers.GetFault.{GetFault}
use Rattle.edge_base.specs.declared.answers.GetFault.TheVariants as get
use Rattle.edge_base.specs.declared.answers.PutFault.{PutFault}
use Rattle.edge_base.specs.declared.answers.PutFault.TheVariants as put
use Rattle.pack_store.specs.declared.opening.OpenFault.{OpenFault}
use Rattle.pack_store.specs.declared.opening.OpenFault.TheVariants as opening
use Rattle.query_read.specs.declared.fault.QueryFault.{QueryFault}
use Rattle.query_read.specs.declared.fault.QueryFault.TheVariants as query
use Rattle.search_words.specs.declared.fault.WordsFault.{WordsFault}
use Rattle.search_words.specs.declared.fault.WordsFault.TheVariants as words
use Rattle.schema_write.specs.declared.draft.DraftFault.{DraftFault}
use Rattle.schema_write.specs.declared.draft.DraftFault.TheVariants as draft
use Rattle.peer_base.specs.declared.peer.PeerFault.{PeerFault}
use Rattle.peer_base.specs.declared.peer.PeerFault.TheVariants as peer
use Rattle.sync_core.specs.declared.syncing.SyncFault.{SyncFault}
use Rattle.sync_core.specs.declared.syncing.SyncFault.TheVariants as sync
use Rattle.top_frame.specs.declared.status.ReplyFault.TheVariants as reply
use Rattle.file_cut.specs.declared.fault.CutFault.{CutFault}
use Rattle.file_cut.specs.declared.fault.CutFault.TheVariants as cut
use Rattle.file_tree.specs.declared.fault.FileFault.{FileFault}
use Rattle.file_tree.specs.declared.fault.FileFault.TheVariants as file
use Rattle.top_frame.specs.declared.status.InputFault.TheVariants.{TooBig, NotAFile, Short, Deep, TooLong, BadQuery, Words}
use Rattle.top_frame.specs.declared.status.Status.{Status}
use Rattle.top_frame.specs.declared.status.Status.TheVariants.{NoMemory, BadInput, Disk, Peer, Full, Damaged, BadReply, Absent, ReadFault, WriteFault}

abbrev pub open_status : OpenFault → Status
open_status opening.Disk = Disk
open_status opening.NoMemory = NoMemory

abbrev pub get_status : GetFault → Status
get_status get.Disk = Disk
get_status (get.Damaged want is) = Damaged want is
get_status get.NoMemory = NoMemory

abbrev pub put_status : PutFault → Status
put_status (put.TooBig size) = BadInput (TooBig size)
put_status (put.BadDigest said is) = Damaged said is
put_status (put.Full blobs pack) = Full blobs pack
put_status put.Disk = Disk
put_status put.NoMemory = NoMemory

abbrev pub file_status : FileFault → Status
file_status (file.Absent r) = Absent r
file_status (file.NotAFile r) = BadInput (NotAFile r)
file_status (file.Short r has wants) = BadInput (Short r has wants)
file_status (file.Deep r) = BadInput (Deep r)
file_status file.WriteFault = WriteFault
file_status (file.Get fault) = get_status fault
file_status file.NoMemory = NoMemory

abbrev pub cut_status : CutFault → Status
cut_status cut.TooLong = BadInput (TooLong 17592186044417)
cut_status (cut.NameTooLong len) = BadInput (TooLong len)
cut_status cut.ReadFault = ReadFault
cut_status (cut.Put fault) = put_status fault
cut_status cut.NoMemory = NoMemory

abbrev pub draft_status : DraftFault → Status
draft_status (draft.TooLong len) = BadInput (TooLong len)
draft_status draft.NoMemory = NoMemory

abbrev pub query_status : QueryFault → Status
query_status query.NotJson = BadInput (BadQuery query.NotJson)
query_status (query.BadKey at) = BadInput (BadQuery (query.BadKey at))
query_status (query.BadValue at) = BadInput (BadQuery (query.BadValue at))
query_status (query.TooDeep at) = BadInput (BadQuery (query.TooDeep at))
query_status query.NoMemory = NoMemory

abbrev pub words_status : WordsFault → Status
words_status (words.TooLong len) = BadInput (Words (words.TooLong len))
words_status (words.Bad at) = BadInput (Words (words.Bad at))
words_status words.TooDeep = BadInput (Words words.TooDeep)
words_status words.NoMemory = NoMemory

-- a fault of one of the two between which blobs are copied; `failed` tells that it failed
abbrev pub peer_status : Status → PeerFault → Status
peer_status failed peer.Failed = failed
peer_status failed peer.BadReply = BadReply reply.Grammar
peer_status failed (peer.Refused status) = BadReply (reply.Refused status)
peer_status failed (peer.Damaged want is) = Damaged want is
peer_status failed (peer.Full blobs pack) = Full blobs pack
peer_status failed peer.NoMemory = NoMemory

-- where the store is copied from
abbrev pub push_status : SyncFault → Status
push_status (sync.Source fault) = peer_status Disk fault
push_status (sync.Target fault) = peer_status Peer fault
push_status (sync.Gone r) = BadReply (reply.Gone r)

-- where the peer is copied from
abbrev pub pull_status : SyncFault → Status
pull_status (sync.Source fault) = peer_status Peer fault
pull_status (sync.Target fault) = peer_status Disk fault
pull_status (sync.Gone r) = BadReply (reply.Gone r)
