-- The replies to questions, and the refs that are fetched for them.
use Rattle.std.specs.Prelude.{◌≡◌, ◌≢◌, ℕ, List, [], ◌∷◌, codes, Bool, Option, Some, None, IfSome, Result, Ok, Err}
use Rattle.std.specs.Option.{ForSome}
use Rattle.std.specs.FinMap.{get}
use Rattle.blobref.specs.Blobref.{IsOwnRef}
use Rattle.edge_base.specs.Shelf.{Blobs}
use Rattle.edge_base.specs.declared.answers.GetFault.{GetFault}
use Rattle.edge_base.specs.declared.answers.GetFault.TheVariants as getting
use Rattle.answer_text.specs.declared.refusal.Refusal.{Refusal}
use Rattle.answer_text.specs.declared.refusal.Refusal.TheVariants as refusal
use Rattle.http_exchange.specs.declared.replies.Kind.TheVariants.{Json}
use Rattle.http_exchange.specs.Replies.{reply_text, bytes_reply, refused_reply, memory_reply}
use Rattle.http_exchange.specs.Written.{reply_bytes}
use Rattle.share_model.specs.declared.verdict.Rule.{Rule}
use Rattle.share_model.specs.declared.verdict.Verdict.{Verdict}
use Rattle.share_model.specs.declared.verdict.Verdict.TheVariants.{Served, Absent, Denied}
use Rattle.share_http.specs.declared.asking.Question.{Question}
use Rattle.share_http.specs.declared.asking.Question.TheVariants as question
use Rattle.share_http.specs.declared.entries.ShareTold.{ShareTold}
use Rattle.share_http.specs.declared.entries.ShareTold.TheVariants.{Defined, Memory, Disk, Damaged}
use Rattle.share_http.specs.declared.replies.ReplyText.{ReplyText}
use Rattle.share_http.specs.declared.replies.ReplyText.TheVariants as made
use Rattle.share_http.specs.Denials.{denied_text}

-- the verdict on a ref, by the refs of `via` before it
abbrev pub Judge : Type 0
Judge = List ℕ → List (List ℕ) → Verdict

-- ---- texts

-- the methods that a refusal lists as allowed
abbrev pub allow_of : Refusal → List ℕ
allow_of refusal.BadHead = []
allow_of refusal.BadLength = []
allow_of refusal.BadVersion = []
allow_of refusal.BadRef = []
allow_of refusal.BadNumber = []
allow_of (refusal.BadMultipart at) = []
allow_of (refusal.BadDigest said is) = []
allow_of (refusal.BadQuery kind at) = []
allow_of refusal.NoRoute = []
allow_of (refusal.Absent r) = []
allow_of refusal.Method = codes "GET"
allow_of (refusal.TooLong limit) = []
allow_of (refusal.Damaged want is) = []
allow_of refusal.Memory = []
allow_of refusal.Disk = []
allow_of (refusal.Full blobs pack) = []

abbrev pub share_refusal : Bool → Refusal → List ℕ
share_refusal closes why = refused_reply closes (allow_of why) why

abbrev pub denied_reply : Bool → Rule → List ℕ
denied_reply closes rule = reply_text 403 Json closes [] (denied_text rule)

-- the reply to a request for a blob that was looked for
abbrev pub found_reply : Bool → List ℕ → Option (List ℕ) → List ℕ
found_reply closes r (Some bytes) = bytes_reply closes bytes
found_reply closes r None = share_refusal closes (refusal.Absent r)

-- ---- the refs that are looked for on the shelf

abbrev pub looks_by : Verdict → List ℕ → List (List ℕ)
looks_by Served r = r ∷ []
looks_by Absent r = []
looks_by (Denied rule) r = []

-- only a blob that is served is looked for
abbrev pub looks_for : Judge → Question → List (List ℕ)
looks_for judge (question.Refused why) = []
looks_for judge (question.Path r via) = looks_by (judge r via) r

-- ---- answers

-- this text, or that there is no memory for it
abbrev pub IsReplied : List ℕ → ShareTold → List ℕ → Type 0
IsReplied this Defined text = text ≡ this
IsReplied this Memory text = text ≡ memory_reply
IsReplied this Disk text = ⊥
IsReplied this (Damaged want is) text = ⊥

-- The reply with the blob of a ref that is served. If the shelf tells its blobs, the reply is by the bytes that it
-- tells. If not, it has bytes with this ref, or says that the blob is absent. The shelf may fail, and if it doesn't
-- tell its blobs, one may be damaged.
abbrev pub IsFetchReply : Option Blobs → Bool → List ℕ → ShareTold → List ℕ → Type 0
IsFetchReply told closes r Defined text =
    (found : Option (List ℕ)) × (ForSome told (λ held. found ≡ get held r)) × (IfSome found (IsOwnRef r))
    × (text ≡ found_reply closes r found)
IsFetchReply told closes r Memory text = text ≡ memory_reply
IsFetchReply told closes r Disk text = text ≡ share_refusal closes refusal.Disk
IsFetchReply told closes r (Damaged want is) text =
    (want ≡ r) × (is ≢ r) × (told ≡ None) × (text ≡ share_refusal closes (refusal.Damaged want is))

abbrev pub IsVerdictReply : Option Blobs → Bool → List ℕ → Verdict → ShareTold → List ℕ → Type 0
IsVerdictReply told closes r (Denied rule) entry text = IsReplied (denied_reply closes rule) entry text
IsVerdictReply told closes r Absent entry text = IsReplied (share_refusal closes (refusal.Absent r)) entry text
IsVerdictReply told closes r Served entry text = IsFetchReply told closes r entry text

abbrev pub IsAnswer : Option Blobs → Judge → Bool → Question → ShareTold → List ℕ → Type 0
IsAnswer told judge closes (question.Refused why) entry text = IsReplied (share_refusal closes why) entry text
IsAnswer told judge closes (question.Path r via) entry text = IsVerdictReply told closes r (judge r via) entry text

-- ---- replies that were made

abbrev pub text_of : ReplyText → List ℕ
text_of (made.Told entry reply) = reply_bytes reply
text_of made.Memory = memory_reply

abbrev pub entry_of : ReplyText → ShareTold
entry_of (made.Told entry reply) = entry
entry_of made.Memory = Memory

-- this reply was made, or there was no memory for it
abbrev pub IsTold : ShareTold → List ℕ → ReplyText → Type 0
IsTold entry text (made.Told was reply) = (was ≡ entry) × (reply_bytes reply ≡ text)
IsTold entry text made.Memory = Unit {0}

-- the reply if a blob can't be read
abbrev pub FaultMade : Bool → GetFault → ReplyText → Type 0
FaultMade closes getting.Disk m = IsTold Disk (share_refusal closes refusal.Disk) m
FaultMade closes (getting.Damaged want is) m =
    IsTold (Damaged want is) (share_refusal closes (refusal.Damaged want is)) m
FaultMade closes getting.NoMemory m = m ≡ made.Memory

-- the reply to the result of a fetch
abbrev pub FetchMade : Bool → List ℕ → Result (Option (List ℕ)) GetFault → ReplyText → Type 0
FetchMade closes r (Ok found) m = IsTold Defined (found_reply closes r found) m
FetchMade closes r (Err fault) m = FaultMade closes fault m
