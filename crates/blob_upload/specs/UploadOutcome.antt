-- What an upload came to, over the bytes that came of its body alone.
use Rattle.std.specs.Prelude.{◌≡◌, ◌≤◌, ◌<◌, ◌⊎◌, ℕ, List, ◌∷◌, ◌++◌, length, false, Option, Some, None, Ok, Err}
use Rattle.std.specs.Prelude.{IfSome}
use Rattle.blobref.specs.Blobref.{is_blobref}
use Rattle.http_wire.specs.declared.body.Body.TheVariants.{Done}
use Rattle.http_wire.specs.Bodies.{IsMalformed}
use Rattle.http_wire.specs.Wires.{WireView, BodyEnds, to_come}
use Rattle.multipart_read.specs.declared.events.PartFault.{PartFault}
use Rattle.multipart_read.specs.declared.events.PartFault.TheVariants as part
use Rattle.multipart_read.specs.Tokens.{Token, named}
use Rattle.multipart_read.specs.PartLists.{Part, part_tokens, IsMultipart}
use Rattle.home_places.specs.Passes.{Sight}
use Rattle.answer_text.specs.declared.refusal.Refusal.{Refusal}
use Rattle.answer_text.specs.declared.refusal.Refusal.TheVariants.{BadRef, BadDigest, BadMultipart, TooLong, BadLength}
use Rattle.blob_upload.specs.declared.upload_end.UploadEnd.{UploadEnd}
use Rattle.blob_upload.specs.declared.upload_end.UploadEnd.TheVariants.{Whole, Refused, Full, Disk, Memory, Ended}
use Rattle.multipart_read.specs.Limits.{most_bytes}
use Rattle.blob_upload.specs.Faults.{part_fault}
use Rattle.blob_upload.specs.Ends.{Told, Reads, Faulty, IsAll, EndsShort}
use Rattle.blob_upload.specs.Uploads.{Uploads}

-- `wire` is the reader of the connection in the end, and `x` what is then still to come on the connection
module _ (boundary given : List ℕ) (parts : List Part) (wire : WireView) (x : Option (List ℕ)) where
  -- behind these parts the multipart body has this fault: however it goes on, or where it ends
  abbrev pub HasFault : PartFault → Type 0
  HasFault fault = Faulty boundary given parts fault ⊎ ((wire.body ≡ Done) × IsAll boundary given parts (Err fault))

  -- behind these parts a part is told whole, and what follows it
  abbrev pub TellsPart : Part → Type 0
  TellsPart p = (later : List Token) × Told boundary given parts (part_tokens p ++ later)

  -- the first bytes, as many as there may be, tell these parts and no fault, and others follow
  abbrev pub IsOver : Type 0
  IsOver = (front rest : List ℕ) × (given ≡ front ++ rest) × (length front ≡ most_bytes) × (0 < length rest)
      × Reads boundary front parts

  -- why the body is refused behind these parts
  abbrev pub Refuses : Refusal → Type 0
  Refuses BadRef = (name : List ℕ) × (later : List Token) × Told boundary given parts (named name ∷ later)
      × (is_blobref name ≡ false)
  Refuses (BadDigest said is) = (content : List ℕ) × TellsPart (said, content)
      × (part_fault (said, content) ≡ Some (BadDigest said is))
  Refuses (BadMultipart at) = HasFault (part.Bad at)
  Refuses (TooLong limit) = HasFault (part.TooLong limit) ⊎ ((limit ≡ most_bytes) × IsOver)
  Refuses BadLength = Reads boundary given parts × IfSome x (IsMalformed wire.body)
  Refuses refusal = ⊥

  -- What it came to behind these parts. Where the store had no room, or its disk failed, that was at a part without a
  -- fault.
  abbrev pub UploadOutcome : UploadEnd → Type 0
  UploadOutcome Whole = (wire.body ≡ Done) × (length given ≤ most_bytes) × IsMultipart boundary given parts (Ok tt)
  UploadOutcome (Refused refusal) = Refuses refusal
  UploadOutcome (Full blobs pack) = (p : Part) × TellsPart p × (part_fault p ≡ None)
  UploadOutcome Disk = (p : Part) × TellsPart p × (part_fault p ≡ None)
  UploadOutcome Memory = (after : List Token) × Told boundary given parts after
  UploadOutcome (Ended end) = Reads boundary given parts × BodyEnds x wire.body wire.begun end × EndsShort wire end

-- each upload came to this
abbrev pub UploadsCome : Type 0
UploadsCome = (boundary : List ℕ) (left left' : Option (List ℕ)) (wire wire' : WireView) (v w : Sight)
    (kept kept' : List (List ℕ × ℕ)) (end : UploadEnd)
    → (upload : Uploads boundary left left' wire wire' v w kept kept' end)
    → UploadOutcome boundary upload.given upload.parts wire' (to_come wire' left') end

-- no upload keeps more than 1,000 parts
abbrev pub PartsAreFew : Type 0
PartsAreFew = (boundary : List ℕ) (left left' : Option (List ℕ)) (wire wire' : WireView) (v w : Sight)
    (kept kept' : List (List ℕ × ℕ)) (end : UploadEnd)
    → (upload : Uploads boundary left left' wire wire' v w kept kept' end) → length upload.parts ≤ 1000
