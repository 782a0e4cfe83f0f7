-- What an upload keeps, and its reply.
use Rattle.std.specs.Prelude.{◌≡◌, ℕ, List, [], Bool, true, false, length, All, Option, Some, None, option_map}
use Rattle.std.specs.Prelude.{Result, Ok, Err}
use Rattle.answer_text.specs.declared.refusal.Refusal.{Refusal}
use Rattle.answer_text.specs.declared.refusal.Refusal.TheVariants as refusal
use Rattle.answer_text.specs.Refusals.{code_of}
use Rattle.answer_text.specs.Listings.{upload_text}
use Rattle.histories.specs.Stores.{Blob, has_ref}
use Rattle.histories.specs.StoreCalls.{sizes}
use Rattle.http_wire.specs.declared.head.Head.{Head}
use Rattle.http_wire.specs.declared.ends.WireEnd.TheVariants as ends
use Rattle.multipart_read.specs.PartLists.{Part}
use Rattle.blob_routes.specs.declared.routes.Route.TheVariants.{Upload}
use Rattle.blob_routes.specs.Before.{boundary_in}
use Rattle.blob_upload.specs.declared.upload_end.UploadEnd.{UploadEnd}
use Rattle.blob_upload.specs.declared.upload_end.UploadEnd.TheVariants as upload_end
use Rattle.blob_upload.specs.Faults.{part_fault}
use Rattle.blob_http.specs.declared.entries.Outcome.{Outcome}
use Rattle.blob_http.specs.declared.entries.Outcome.TheVariants.{Defined, Memory, Disk, Full, Damaged}
use Rattle.blob_http.specs.declared.replies.ReplyText.{ReplyText}
use Rattle.http_exchange.specs.declared.replies.Kind.TheVariants.{Json}
use Rattle.http_exchange.specs.declared.ended.Ended.{Ended}
use Rattle.http_exchange.specs.declared.ended.Ended.TheVariants as ended
use Rattle.blob_http.specs.Operations.{first_of}
use Rattle.http_exchange.specs.HeadPlaces.{piece}
use Rattle.http_exchange.specs.Replies.{reply_text, json_reply, memory_reply}
use Rattle.blob_http.specs.Answers.{IsTold, IsMemory}

-- the boundary of an upload, by its head
abbrev pub boundary_at : List ℕ → Head → Option (List ℕ)
boundary_at head says = boundary_in (option_map (piece head) says.content_type)

-- parts that were kept of an upload: none has a fault, and a blob that arrived has each ref
pub record Kept (head : List ℕ) (says : Head) (blobs : List Blob) (kept : ℕ) : Type 0 where
  pub upload : first_of head says ≡ Ok Upload
  pub boundary : List ℕ
  pub bounds : boundary_at head says ≡ Some boundary
  pub parts : List Part
  pub count : kept ≡ length parts
  pub sound : All (λ (part : Part). part_fault part ≡ None) parts
  pub stand : All (λ (part : Part). has_ref part.0 blobs ≡ true) parts

-- the reply to an upload that isn't whole lists what was kept
abbrev pub upload_reply : List (List ℕ × ℕ) → Refusal → List ℕ
upload_reply kept why = reply_text (code_of why) Json true [] (upload_text kept (Some why))

-- the reply to an upload that was refused
abbrev pub IsUploadRefused : List (List ℕ × ℕ) → UploadEnd → List ℕ → Type 0
IsUploadRefused kept (upload_end.Refused why) text = text ≡ upload_reply kept why
IsUploadRefused kept upload_end.Whole text = ⊥
IsUploadRefused kept (upload_end.Full blobs pack) text = ⊥
IsUploadRefused kept upload_end.Disk text = ⊥
IsUploadRefused kept upload_end.Memory text = ⊥
IsUploadRefused kept (upload_end.Ended end) text = ⊥

abbrev pub IsUploadReply : List Part → UploadEnd → Outcome → List ℕ → Type 0
IsUploadReply parts c Defined text = IsUploadRefused (sizes parts) c text
IsUploadReply parts c Memory text = text ≡ memory_reply
IsUploadReply parts c Disk text = (c ≡ upload_end.Disk) × (text ≡ upload_reply (sizes parts) refusal.Disk)
IsUploadReply parts c (Full blobs pack) text =
    (c ≡ upload_end.Full blobs pack) × (text ≡ upload_reply (sizes parts) (refusal.Full blobs pack))
IsUploadReply parts c (Damaged want is) text = ⊥

-- ---- as a reply is made

-- What is made of how an upload came; none where the connection ends in it. An upload ends with no other ends than
-- these two and a break of its chunks.
abbrev pub UploadMade : Bool → List (List ℕ × ℕ) → UploadEnd → Result ReplyText Ended → Type 0
UploadMade closes kept upload_end.Whole (Ok m) = IsTold Defined (json_reply closes (upload_text kept None)) m
UploadMade closes kept (upload_end.Refused why) (Ok m) = IsTold Defined (upload_reply kept why) m
UploadMade closes kept (upload_end.Full blobs pack) (Ok m) =
    IsTold (Full blobs pack) (upload_reply kept (refusal.Full blobs pack)) m
UploadMade closes kept upload_end.Disk (Ok m) = IsTold Disk (upload_reply kept refusal.Disk) m
UploadMade closes kept upload_end.Memory (Ok m) = IsMemory m
UploadMade closes kept (upload_end.Ended (ends.Cut n)) (Err e) = e ≡ ended.Cut n
UploadMade closes kept (upload_end.Ended ends.ReadFault) (Err e) = e ≡ ended.ReadFault
UploadMade closes kept (upload_end.Ended (ends.BadLength n)) (Ok m) = IsTold Defined
    (upload_reply kept refusal.BadLength) m
UploadMade closes kept (upload_end.Ended ends.Closed) (Ok m) = IsTold Defined (upload_reply kept refusal.BadLength) m
UploadMade closes kept (upload_end.Ended (ends.BadHead n)) (Ok m) = IsTold Defined
    (upload_reply kept refusal.BadLength) m
UploadMade closes kept (upload_end.Ended (ends.TooLong n)) (Ok m) = IsTold Defined
    (upload_reply kept refusal.BadLength) m
UploadMade closes kept upload_end.Whole (Err e) = ⊥
UploadMade closes kept (upload_end.Refused why) (Err e) = ⊥
UploadMade closes kept (upload_end.Full blobs pack) (Err e) = ⊥
UploadMade closes kept upload_end.Disk (Err e) = ⊥
UploadMade closes kept upload_end.Memory (Err e) = ⊥
UploadMade closes kept (upload_end.Ended (ends.Cut n)) (Ok m) = ⊥
UploadMade closes kept (upload_end.Ended ends.ReadFault) (Ok m) = ⊥
UploadMade closes kept (upload_end.Ended (ends.BadLength n)) (Err e) = ⊥
UploadMade closes kept (upload_end.Ended ends.Closed) (Err e) = ⊥
UploadMade closes kept (upload_end.Ended (ends.BadHead n)) (Err e) = ⊥
UploadMade closes kept (upload_end.Ended (ends.TooLong n)) (Err e) = ⊥

-- whether an upload was whole
abbrev pub is_whole : UploadEnd → Bool
is_whole upload_end.Whole = true
is_whole (upload_end.Refused why) = false
is_whole (upload_end.Full blobs pack) = false
is_whole upload_end.Disk = false
is_whole upload_end.Memory = false
is_whole (upload_end.Ended end) = false
