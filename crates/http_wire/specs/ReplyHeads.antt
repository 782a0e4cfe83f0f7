-- Heads of replies.
use Rattle.std.specs.Prelude.{◌≡◌, ℕ, ◌<◌, ◌≤◌, List, [], length, map, Some, None, option_map, Result, Ok, Err}
use Rattle.httparse.specs.Grammar.{ResponseHead, ReadsResponse, status_code}
use Rattle.httparse.specs.Spans.{name_and_value, IsResponseAt, IsResponseWithin}
use Rattle.httparse.specs.declared.spans.HeaderSpan.{HeaderSpan}
use Rattle.http_wire.specs.declared.head.Framing.{Framing}
use Rattle.http_wire.specs.declared.head.Framing.TheVariants.{Empty, Length, Chunked, ToEnd}
use Rattle.http_wire.specs.declared.head.HeadFault.{HeadFault}
use Rattle.http_wire.specs.declared.head.HeadFault.TheVariants.{BadHead, BadLength, TooMany}
use Rattle.http_wire.specs.declared.head.ReplyHead.{ReplyHead}
use Rattle.http_wire.specs.declared.reply_judging.ParsedReply.{ParsedReply}
use Rattle.http_wire.specs.declared.reply_judging.ParsedReply.TheVariants as parsed
use Rattle.http_wire.specs.Heads.{framing_of}

abbrev pub reply_headers : ResponseHead → List (List ℕ × List ℕ)
reply_headers h = map name_and_value h.fields

-- as for a request; but where no header says how long the body is, it goes to the end
abbrev pub reply_framing : Framing → Framing
reply_framing Empty = ToEnd
reply_framing (Length n) = Length n
reply_framing Chunked = Chunked
reply_framing ToEnd = ToEnd

-- what a text is as the head of a reply
abbrev pub ReplySpec : List ℕ → Result ReplyHead HeadFault → Type 0
ReplySpec text (Ok head) = (h : ResponseHead) × ReadsResponse text h [] × (length h.fields ≤ 64) × (head.status ≡ status_code h)
    × (option_map reply_framing (framing_of (reply_headers h)) ≡ Some head.framing)
ReplySpec text (Err BadHead) = (h : ResponseHead) → ReadsResponse text h [] → 5462 < length h.fields
ReplySpec text (Err TooMany) = (h : ResponseHead) × ReadsResponse text h [] × (64 < length h.fields)
ReplySpec text (Err BadLength) = (h : ResponseHead) × ReadsResponse text h [] × (length h.fields ≤ 64) × (framing_of (reply_headers h) ≡ None)

-- what was found of a head by where its parts lie
abbrev pub IsParsedReply : List ℕ → ℕ → List HeaderSpan → ParsedReply → Type 0
IsParsedReply text room headers (parsed.Head r) = IsResponseWithin text headers r × ((h : ResponseHead) × ReadsResponse text h [] × (length h.fields ≤ 64) × IsResponseAt text headers r h)
IsParsedReply text room headers parsed.TooMany = (h : ResponseHead) × ReadsResponse text h [] × (64 < length h.fields)
IsParsedReply text room headers parsed.BadHead = (h : ResponseHead) → ReadsResponse text h [] → room < length h.fields
