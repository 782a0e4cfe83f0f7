-- Each refusal's code has a phrase, and the reply for want of memory is a text.
use Rattle.std.proofs.Common.{◌≡◌, codes, IsSome, refl}
use Rattle.std.specs.Fmt.{digits}
use Rattle.http.specs.StatusCode.{reason_phrase}
use Rattle.answer_text.specs.declared.refusal.Refusal.{Refusal}
use Rattle.answer_text.specs.declared.refusal.Refusal.TheVariants.{BadHead, BadLength, BadVersion, BadRef, BadNumber}
use Rattle.answer_text.specs.declared.refusal.Refusal.TheVariants.{BadMultipart, BadDigest, BadQuery, NoRoute, Absent}
use Rattle.answer_text.specs.declared.refusal.Refusal.TheVariants.{Method, TooLong, Damaged, Memory, Disk, Full}
use Rattle.answer_text.specs.Refusals.{code_of}
use Rattle.http_exchange.specs.ReplyHeads.{reply_head_text}
use Rattle.http_exchange.specs.Replies.{memory_reply}

pub has_phrase : (r : Refusal) → IsSome (reason_phrase (code_of r))
has_phrase BadHead = search
has_phrase BadLength = search
has_phrase BadVersion = search
has_phrase BadRef = search
has_phrase BadNumber = search
has_phrase (BadMultipart at) = search
has_phrase (BadDigest said is) = search
has_phrase (BadQuery kind at) = search
has_phrase NoRoute = search
has_phrase (Absent r) = search
has_phrase Method = search
has_phrase (TooLong limit) = search
has_phrase (Damaged want is) = search
has_phrase Memory = search
has_phrase Disk = search
has_phrase (Full blobs pack) = search

-- the reply for want of memory, as it is written
pub memory_is : codes "HTTP/1.1 503 Service Unavailable\r\nContent-Type: application/json\r\nContent-Length: 18\r\nConnection: close\r\n\r\n{\"error\":\"memory\"}" ≡ memory_reply
unfolding reply_head_text digits
memory_is = refl
