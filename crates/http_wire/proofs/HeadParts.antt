-- What a head says, by where its parts lie.
use Rattle.std.proofs.Common.{◌≡◌, ℕ, ◌≤◌, List, [], length, take, map, Some, Ok, sym, ap, subst, ◌∙◌}
use Rattle.std.specs.Prelude.{codes}
use Rattle.httparse.specs.Grammar.{RequestHead, ReadsRequest}
use Rattle.httparse.specs.Spans.{header_bytes, span_bytes, IsRequestAt}
use Rattle.httparse.specs.declared.spans.HeaderSpan.{HeaderSpan}
use Rattle.httparse.specs.declared.spans.RequestSpans.{RequestSpans}
use Rattle.http_wire.specs.declared.head.Head.{Head}
use Rattle.http_wire.specs.Heads.{HeadSpec, framing_of, headers_of, values, path_of, query_of, closes_by, IsPieceOf, IsFirstOf}

pub head_read :
    (text : List ℕ) (headers used : List HeaderSpan) (spans : RequestSpans) (head : Head)
    → used ≡ take spans.headers headers
    → IsPieceOf text head.method (span_bytes text spans.method)
    → IsPieceOf text head.path (path_of (span_bytes text spans.path))
    → IsPieceOf text head.query (query_of (span_bytes text spans.path))
    → IsFirstOf text (values (codes "content-type") (map (header_bytes text) used)) head.content_type
    → Some head.framing ≡ framing_of (map (header_bytes text) used)
    → head.closes ≡ closes_by spans.version (map (header_bytes text) used)
    → (h : RequestHead) → ReadsRequest text h [] → length h.fields ≤ 64 → IsRequestAt text headers spans h → HeadSpec text (Ok head)
head_read text headers used spans head is method path query kind framing closes h reads few at =
    let same : map (header_bytes text) used ≡ headers_of h = ap (map (header_bytes text)) is ∙ at.fields in (
      h,
      reads,
      few,
      record {
        method = subst (λ (bs : List ℕ). IsPieceOf text head.method bs) at.method method;
        path = subst (λ (bs : List ℕ). IsPieceOf text head.path (path_of bs)) at.path path;
        query = subst (λ (bs : List ℕ). IsPieceOf text head.query (query_of bs)) at.path query;
        content_type = subst (λ (hs : List (List ℕ × List ℕ)). IsFirstOf text (values (codes "content-type") hs) head.content_type) same kind;
        framing = sym (framing ∙ ap framing_of same);
        closes = closes ∙ ap (closes_by spans.version) same ∙ ap (λ (minor : ℕ). closes_by minor (headers_of h)) at.version;
      },
    )
