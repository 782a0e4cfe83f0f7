-- What is answered to an operation, over the blobs that arrived and the Inserts.
use Rattle.std.specs.Prelude.{◌≡◌, ℕ, ◌+◌, ◌-◌, List, [], length, take, slice_get, Bool, true, false, nat_lt}
use Rattle.std.specs.Prelude.{if◌then◌else◌, Option, Some, None, Result, Ok, Err}
use Rattle.std.specs.Option.{option_map}
use Rattle.std.specs.List.{filter_map}
use Rattle.blobref.specs.declared.memory.NoMemory.{NoMemory}
use Rattle.edge_base.specs.declared.answers.GetFault.{GetFault}
use Rattle.edge_base.specs.declared.answers.GetFault.TheVariants as unread
use Rattle.claim_verify.specs.Verifier.{Accepts}
use Rattle.search_eval.specs.Answer.{answer}
use Rattle.answer_text.specs.declared.refusal.Refusal.TheVariants as refusal
use Rattle.answer_text.specs.Search.{search_text}
use Rattle.answer_text.specs.Listings.{stat_text, page_text}
use Rattle.histories.specs.Stores.{Blob, bytes_of}
use Rattle.histories.specs.declared.events.Insertion.{Insertion}
use Rattle.histories.specs.Indexes.{HasAllBelow, indexed}
use Rattle.histories.specs.StoreCalls.{IsRead, page, sized, each_once}
use Rattle.blob_routes.specs.declared.routes.Allowed.{Allowed}
use Rattle.blob_routes.specs.Routes.{allowed_text}
use Rattle.blob_http.specs.declared.entries.Outcome.{Outcome}
use Rattle.blob_http.specs.declared.entries.Outcome.TheVariants.{Defined, Memory, Disk, Full, Damaged}
use Rattle.blob_http.specs.declared.operations.Operation.{Operation}
use Rattle.blob_http.specs.declared.operations.Operation.TheVariants as operation
use Rattle.blob_http.specs.declared.replies.ReplyText.{ReplyText}
use Rattle.blob_http.specs.declared.replies.ReplyText.TheVariants as reply_text
use Rattle.http_exchange.specs.Replies.{json_reply, bytes_reply, refused_reply, memory_reply}
use Rattle.http_exchange.specs.Written.{reply_bytes}

-- the methods to tell
abbrev pub allow_text : Option Allowed → List ℕ
allow_text None = []
allow_text (Some allow) = allowed_text allow

-- the reply to a fetch of r, of which `own` are the bytes that were put
abbrev pub IsBlobReply : Bool → List ℕ → Bool → Option (List ℕ) → List ℕ → Type 0
IsBlobReply tells r closes None text = text ≡ refused_reply closes [] (refusal.Absent r)
IsBlobReply tells r closes (Some own) text =
    (bytes : List ℕ) × IsRead tells r own bytes × (text ≡ bytes_reply closes bytes)

-- the last ref of a page
abbrev pub last_ref : List (List ℕ × ℕ) → Option (List ℕ)
last_ref shown = option_map (λ (e : List ℕ × ℕ). e.0) (slice_get shown (length shown - 1))

-- the ref after which to go on, where more than the page is there
abbrev pub more_after : List (List ℕ × ℕ) → List (List ℕ × ℕ) → Option (List ℕ)
more_after shown further = if nat_lt (length shown) (length further) then last_ref shown else None

-- a page of the refs after one; whether further ones follow is told by a page that is longer by one
abbrev pub page_answer : Option (List ℕ) → ℕ → List Blob → List ℕ
page_answer after limit blobs =
    page_text (page after limit blobs) (more_after (page after limit blobs) (page after (limit + 1) blobs))

abbrev pub stat_answer : List (List ℕ) → List Blob → List ℕ
stat_answer refs blobs = stat_text (filter_map (sized blobs) (each_once [] refs))

-- The reply as it is defined. A search has found all of these blobs inserted.
abbrev pub IsDefined : Bool → Accepts → List Blob → List Insertion → Bool → Operation → List ℕ → Type 0
IsDefined tells accepts blobs g closes (operation.Refused why allow) text =
    text ≡ refused_reply closes (allow_text allow) why
IsDefined tells accepts blobs g closes (operation.Blob r) text = IsBlobReply tells r closes (bytes_of r blobs) text
IsDefined tells accepts blobs g closes (operation.Stat refs) text = text ≡ json_reply closes (stat_answer refs blobs)
IsDefined tells accepts blobs g closes (operation.Refs p) text =
    text ≡ json_reply closes (page_answer p.after p.limit blobs)
IsDefined tells accepts blobs g closes (operation.Search query) text =
    HasAllBelow (length blobs) g × (text ≡ json_reply closes (search_text (answer (indexed g) accepts query)))

-- whether the answer needs bytes of blobs
abbrev pub reads_blobs : Operation → Bool
reads_blobs (operation.Refused why allow) = false
reads_blobs (operation.Blob r) = true
reads_blobs (operation.Stat refs) = false
reads_blobs (operation.Refs p) = false
reads_blobs (operation.Search query) = true

-- the reply to what can't be answered as it is defined
abbrev pub IsFailed : Bool → Outcome → List ℕ → Type 0
IsFailed closes Defined text = ⊥
IsFailed closes Memory text = ⊥
IsFailed closes Disk text = text ≡ refused_reply closes [] refusal.Disk
IsFailed closes (Full blobs pack) text = ⊥
IsFailed closes (Damaged want is) text = text ≡ refused_reply closes [] (refusal.Damaged want is)

-- the reply to an operation with this outcome
abbrev pub IsAnswer : Bool → Accepts → List Blob → List Insertion → Bool → Operation → Outcome → List ℕ → Type 0
IsAnswer tells accepts blobs g closes q Defined text = IsDefined tells accepts blobs g closes q text
IsAnswer tells accepts blobs g closes q Memory text = IsFailed closes Memory text
IsAnswer tells accepts blobs g closes q Disk text = (reads_blobs q ≡ true) × IsFailed closes Disk text
IsAnswer tells accepts blobs g closes q (Full n pack) text = IsFailed closes (Full n pack) text
IsAnswer tells accepts blobs g closes q (Damaged want is) text =
    (reads_blobs q ≡ true) × IsFailed closes (Damaged want is) text

-- ---- as a reply is made

abbrev pub outcome_of : ReplyText → Outcome
outcome_of (reply_text.Told outcome reply) = outcome
outcome_of reply_text.Memory = Memory

abbrev pub text_of : ReplyText → List ℕ
text_of (reply_text.Told outcome reply) = reply_bytes reply
text_of reply_text.Memory = memory_reply

abbrev pub IsTold : Outcome → List ℕ → ReplyText → Type 0
IsTold outcome text (reply_text.Told o reply) = (o ≡ outcome) × (reply_bytes reply ≡ text)
IsTold outcome text reply_text.Memory = Unit {0}

abbrev pub IsMemory : ReplyText → Type 0
IsMemory (reply_text.Told o reply) = ⊥
IsMemory reply_text.Memory = Unit {0}

abbrev pub FaultMade : Bool → GetFault → ReplyText → Type 0
FaultMade closes unread.Disk m = IsTold Disk (refused_reply closes [] refusal.Disk) m
FaultMade closes (unread.Damaged want is) m =
    IsTold (Damaged want is) (refused_reply closes [] (refusal.Damaged want is)) m
FaultMade closes unread.NoMemory m = IsMemory m

abbrev pub BlobMade : Bool → List ℕ → Result (Option (List ℕ)) GetFault → ReplyText → Type 0
BlobMade closes r (Ok None) m = IsTold Defined (refused_reply closes [] (refusal.Absent r)) m
BlobMade closes r (Ok (Some bytes)) m = IsTold Defined (bytes_reply closes bytes) m
BlobMade closes r (Err f) m = FaultMade closes f m

-- of what is listed or found, by the text that it has
abbrev pub TextMade : {A : Type 0} → Bool → (A → List ℕ) → Result A NoMemory → ReplyText → Type 0
TextMade closes text (Ok found) m = IsTold Defined (json_reply closes (text found)) m
TextMade closes text (Err e) m = IsMemory m

-- the text of a page, of what was found for one that is longer by one
abbrev pub cut_page : ℕ → List (List ℕ × ℕ) → List ℕ
cut_page limit further = page_text (take limit further) (more_after (take limit further) further)
