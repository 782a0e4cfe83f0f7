-- What an upload has added to the store, all told.
use Rattle.std.specs.Prelude.{◌≡◌, ◌⊎◌, ◌+◌, ◌++◌, ℕ, List, true, length, All, Contains, Option}
use Rattle.http_wire.specs.Wires.{WireView}
use Rattle.histories.specs.declared.stamped.Stamped.{Stamped}
use Rattle.histories.specs.declared.events.StoreEvent.{StoreEvent}
use Rattle.histories.specs.declared.events.StoreEvent.TheVariants as store
use Rattle.histories.specs.History.{stamp, has}
use Rattle.histories.specs.Stores.{arrivals, has_ref}
use Rattle.multipart_read.specs.Tokens.{Token}
use Rattle.multipart_read.specs.PartLists.{Part, part_tokens}
use Rattle.home_places.specs.Seats.{StoreGrew}
use Rattle.home_places.specs.Passes.{Sight}
use Rattle.answer_text.specs.declared.refusal.Refusal.{Refusal}
use Rattle.answer_text.specs.declared.refusal.Refusal.TheVariants.{BadDigest}
use Rattle.blob_upload.specs.declared.upload_end.UploadEnd.{UploadEnd}
use Rattle.blob_upload.specs.declared.upload_end.UploadEnd.TheVariants.{Whole, Refused, Full, Disk, Memory, Ended}
use Rattle.blob_upload.specs.Ends.{Told}
use Rattle.blob_upload.specs.Uploads.{Uploads}

-- Arrivals of parts that were kept, and where memory was wanting of one that wasn't, as is said of the next. And why
-- the upload ended, where the store or the disk is why.
abbrev pub IsAddedBy : List Part → (Part → Type 0) → UploadEnd → StoreEvent → Type 0
IsAddedBy parts next end (store.Put n r bytes) = Contains parts (r, bytes) ⊎ ((end ≡ Memory) × next (r, bytes))
IsAddedBy parts next end (store.Fault f) = end ≡ Disk
IsAddedBy parts next end (store.Damage want is) = ⊥
IsAddedBy parts next end (store.Full blobs pack) = end ≡ Full blobs pack

-- how many turns of the store are drawn where a body is refused behind so many parts that were kept
abbrev pub TurnsRefused : Refusal → ℕ → ℕ → Type 0
TurnsRefused (BadDigest said is) kept turns = turns ≡ kept + 1
TurnsRefused refusal kept turns = turns ≡ kept

-- one for each part that was kept, and one for the part that was tried at the end
abbrev pub Turns : UploadEnd → ℕ → ℕ → Type 0
Turns Whole kept turns = turns ≡ kept
Turns (Refused refusal) kept turns = TurnsRefused refusal kept turns
Turns (Full blobs pack) kept turns = turns ≡ kept + 1
Turns Disk kept turns = turns ≡ kept + 1
Turns Memory kept turns = (turns ≡ kept) ⊎ (turns ≡ kept + 1)
Turns (Ended end) kept turns = turns ≡ kept

-- the entry that shows that the store is full, or that the disk failed, stands in the history under one of these turns
abbrev pub ShowsWhy : UploadEnd → List ℕ → List (Stamped StoreEvent) → Type 0
ShowsWhy Whole turns h = Unit {0}
ShowsWhy (Refused refusal) turns h = Unit {0}
ShowsWhy (Full blobs pack) turns h = (t : ℕ) × (has turns t ≡ true) × Contains h (stamp t (store.Full blobs pack))
ShowsWhy Disk turns h = (t f : ℕ) × (has turns t ≡ true) × Contains h (stamp t (store.Fault f))
ShowsWhy Memory turns h = Unit {0}
ShowsWhy (Ended end) turns h = Unit {0}

-- behind these parts the body tells this one whole
abbrev pub IsNext : List ℕ → List ℕ → List Part → Part → Type 0
IsNext boundary given parts part = (later : List Token) × Told boundary given parts (part_tokens part ++ later)

-- `parts` are those that were kept, `next` says what may come next, and the pass was `v` before and is `w`
pub record Adds (parts : List Part) (next : Part → Type 0) (end : UploadEnd) (v w : Sight) : Type 0 where
  pub grew : StoreGrew (IsAddedBy parts next end) v.store w.store
  pub turns : Turns end (length parts) (length grew.further)
  pub why : ShowsWhy end grew.further w.store.history
  pub stand : All (λ (part : Part). has_ref part.0 (arrivals w.store.history) ≡ true) parts
  pub index : w.index ≡ v.index
  pub limits : w.store.limits ≡ v.store.limits
  pub spent : (w.spent ≡ v.spent) ⊎ ((end ≡ Memory) × (w.spent ≡ true))

-- each upload has added this; next is the part that its body tells behind those that were kept
abbrev pub UploadsAdd : Type 0
UploadsAdd = (boundary : List ℕ) (left left' : Option (List ℕ)) (wire wire' : WireView) (v w : Sight)
    (kept kept' : List (List ℕ × ℕ)) (end : UploadEnd)
    → (upload : Uploads boundary left left' wire wire' v w kept kept' end)
    → Adds upload.parts (IsNext boundary upload.given upload.parts) end v w
