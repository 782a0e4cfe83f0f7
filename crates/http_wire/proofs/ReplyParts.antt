-- What the head of a reply says, by where its parts lie.
use Rattle.std.proofs.Common.{◌≡◌, ℕ, ◌≤◌, List, [], length, take, map, Some, Ok, sym, ap, ◌∙◌}
use Rattle.std.specs.Option.{option_map}
use Rattle.httparse.specs.Grammar.{ResponseHead, ReadsResponse}
use Rattle.httparse.specs.Spans.{header_bytes, IsResponseAt}
use Rattle.httparse.specs.declared.spans.HeaderSpan.{HeaderSpan}
use Rattle.httparse.specs.declared.spans.ResponseSpans.{ResponseSpans}
use Rattle.http_wire.specs.declared.head.Framing.{Framing}
use Rattle.http_wire.specs.declared.head.ReplyHead.{ReplyHead}
use Rattle.http_wire.specs.Heads.{framing_of}
use Rattle.http_wire.specs.ReplyHeads.{ReplySpec, reply_headers, reply_framing}

pub reply_read : (text : List ℕ) (headers used : List HeaderSpan) (spans : ResponseSpans) (head : ReplyHead) (by : Framing) → used ≡ take spans.headers headers → head.status ≡ spans.code
    → Some by ≡ framing_of (map (header_bytes text) used) → head.framing ≡ reply_framing by
    → (h : ResponseHead) → ReadsResponse text h [] → length h.fields ≤ 64 → IsResponseAt text headers spans h → ReplySpec text (Ok head)
reply_read text headers used spans head by is status framing framed h reads few at =
    let same : map (header_bytes text) used ≡ reply_headers h = ap (map (header_bytes text)) is ∙ at.fields in
    (h, reads, few, status ∙ at.code, ap (option_map reply_framing) (sym (framing ∙ ap framing_of same)) ∙ ap Some (sym framed))
