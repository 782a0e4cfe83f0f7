-- The exit statuses (docs/commands.md).
use Rattle.std.specs.Prelude.{ℕ, List, codes}
use Rattle.top_frame.specs.declared.status.Status.{Status}
use Rattle.top_frame.specs.declared.status.Status.TheVariants.{Done, NoMemory, BadWords, Absent, BadInput, ReadFault}
use Rattle.top_frame.specs.declared.status.Status.TheVariants.{WriteFault, Disk, Peer, Full, Damaged, BadReply, HandFault}
use Rattle.top_frame.specs.declared.status.Status.TheVariants.{ListenerFault}

-- the exit status of the process
abbrev pub code : Status → ℕ
code Done = 0
code NoMemory = 1
code BadWords = 2
code (Absent r) = 3
code (BadInput fault) = 4
code ReadFault = 5
code WriteFault = 6
code Disk = 7
code Peer = 8
code (Full blobs pack) = 9
code (Damaged want is) = 10
code (BadReply fault) = 11
code HandFault = 12
code ListenerFault = 14

-- the word that is printed on standard error
abbrev pub word : Status → List ℕ
word Done = codes "done"
word NoMemory = codes "memory"
word BadWords = codes "words"
word (Absent r) = codes "absent"
word (BadInput fault) = codes "input"
word ReadFault = codes "read"
word WriteFault = codes "write"
word Disk = codes "disk"
word Peer = codes "peer"
word (Full blobs pack) = codes "full"
word (Damaged want is) = codes "damaged"
word (BadReply fault) = codes "reply"
word HandFault = codes "hand"
word ListenerFault = codes "listener"
