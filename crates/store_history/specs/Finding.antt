-- Blobs are read in a turn, and their digests are checked after it (docs/store.md).
use Rattle.std.specs.Prelude.{ℕ, List, if◌then◌else◌, Option, Some, None, Result, Ok, Err}
use Rattle.blobref.specs.Blobref.{is_own_ref, ref_like}
use Rattle.edge_base.specs.declared.answers.GetFault.{GetFault}
use Rattle.edge_base.specs.declared.answers.GetFault.TheVariants as unread
use Rattle.pack_store.specs.declared.reading.UncheckedBlob.{UncheckedBlob}
use Rattle.pack_store.specs.Finding.{checked}
use Rattle.histories.specs.declared.events.StoreEvent.{StoreEvent}
use Rattle.histories.specs.declared.events.StoreEvent.TheVariants as store
use Rattle.store_history.specs.Represents.{fault_entry}

-- The entry of a find, by a ref or by a number; `before` and `now` are the disk's counts of faults before and after it.
-- Bytes that have another ref add a Damage, and `Disk` adds a Fault: it comes only if the count rose or is at its
-- maximum. Any other result adds a Fault exactly if the count rose.
abbrev pub find_entry : Result (Option UncheckedBlob) GetFault → (before now : ℕ) → Option StoreEvent
find_entry (Ok None) before now = fault_entry before now
find_entry (Ok (Some b)) before now =
    if is_own_ref b.r b.bytes then fault_entry before now else Some (store.Damage b.r (ref_like b.r b.bytes))
find_entry (Err unread.Disk) before now = Some (store.Fault now)
find_entry (Err (unread.Damaged want is)) before now = fault_entry before now
find_entry (Err unread.NoMemory) before now = fault_entry before now

-- the answer for a blob that was checked
abbrev pub bytes_in : Result (List ℕ × List ℕ) GetFault → Result (Option (List ℕ)) GetFault
bytes_in (Ok b) = Ok (Some b.1)
bytes_in (Err f) = Err f

abbrev pub blob_in : Result (List ℕ × List ℕ) GetFault → Result (Option (List ℕ × List ℕ)) GetFault
blob_in (Ok b) = Ok (Some b)
blob_in (Err f) = Err f

-- The answer after the digest of the blob was checked: the bytes under a ref, and the blob of a number.
abbrev pub checked_get : Result (Option UncheckedBlob) GetFault → Result (Option (List ℕ)) GetFault
checked_get (Ok None) = Ok None
checked_get (Ok (Some b)) = bytes_in (checked b)
checked_get (Err f) = Err f

abbrev pub checked_arrival : Result (Option UncheckedBlob) GetFault → Result (Option (List ℕ × List ℕ)) GetFault
checked_arrival (Ok None) = Ok None
checked_arrival (Ok (Some b)) = blob_in (checked b)
checked_arrival (Err f) = Err f
