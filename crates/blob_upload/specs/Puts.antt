-- What an upload does to the pass.
use Rattle.std.specs.Prelude.{◌≡◌, ℕ, List, ◌++◌, true, length, All, Contains, Result, Ok, Err, None}
use Rattle.edge_base.specs.declared.answers.Put.{Put}
use Rattle.edge_base.specs.declared.answers.PutFault.{PutFault}
use Rattle.edge_base.specs.declared.answers.PutFault.TheVariants.{NoMemory}
use Rattle.histories.specs.declared.events.StoreEvent.{StoreEvent}
use Rattle.histories.specs.declared.events.StoreEvent.TheVariants as store
use Rattle.histories.specs.Stores.{arrivals, has_ref}
use Rattle.histories.specs.StoreCalls.{PutSpec, sizes}
use Rattle.multipart_read.specs.PartLists.{Part}
use Rattle.home_places.specs.Seats.{StoreGrew}
use Rattle.home_places.specs.Passes.{Sight, StoreCall}
use Rattle.blob_upload.specs.declared.upload_end.UploadEnd.{UploadEnd}
use Rattle.blob_upload.specs.declared.upload_end.UploadEnd.TheVariants.{Memory}
use Rattle.blob_upload.specs.Faults.{part_fault, end_of_put}

-- the arrival of one of these parts
abbrev pub IsArrivalOf : List Part → StoreEvent → Type 0
IsArrivalOf parts (store.Put n r bytes) = Contains parts (r, bytes)
IsArrivalOf parts (store.Fault f) = ⊥
IsArrivalOf parts (store.Damage want is) = ⊥
IsArrivalOf parts (store.Full blobs pack) = ⊥

-- Each of the parts was put, in one turn of the store for each. Under these turns stand arrivals of parts alone, and
-- for each part a blob that arrived, now or before, has its ref.
pub record Puts (parts : List Part) (v w : Sight) : Type 0 where
  pub grew : StoreGrew (IsArrivalOf parts) v.store w.store
  pub turns : length grew.further ≡ length parts
  pub stand : All (λ (part : Part). has_ref part.0 (arrivals w.store.history) ≡ true) parts
  pub index : w.index ≡ v.index
  pub limits : w.store.limits ≡ v.store.limits
  pub spent : w.spent ≡ v.spent

-- The first parts of an upload, none of which has a fault, were put, and listed behind what was kept before.
pub record Keeps (parts : List Part) (kept kept' : List (List ℕ × ℕ)) (v w : Sight) : Type 0 where
  pub sound : All (λ (part : Part). part_fault part ≡ None) parts
  pub listed : kept' ≡ kept ++ sizes parts
  pub puts : Puts parts v w

-- What an upload ends with by the answer to its last put. A part that was put isn't kept where there is no memory to
-- list it.
abbrev pub EndsBy : Result Put PutFault → UploadEnd → Type 0
EndsBy (Ok put) end = end ≡ Memory
EndsBy (Err fault) end = end ≡ end_of_put fault

-- the put of a part that wasn't kept, within the limits of the store
pub record LastPut (part : Part) (end : UploadEnd) (v w : Sight) : Type 0 where
  pub answer : Result Put PutFault
  pub ends : EndsBy answer end
  pub call : StoreCall (answer ≡ Err NoMemory)
      (λ before entry. PutSpec v.store.limits part.0 part.1 before answer entry) v w
