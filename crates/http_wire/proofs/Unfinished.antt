-- Where a body isn't read to its end no whole request begins.
use Rattle.std.proofs.Common.{◌≡◌, ℕ, ◌≤◌, List, [], ◌∷◌, ◌++◌, length, All, get_or, Some, Ok, inl, inr, refl, sym, ap, subst, ◌∙◌, ◌⊎◌, ⊎_elim, arith, append_assoc, length-append}
use Rattle.std.specs.List.{flat_map}
use Rattle.std.proofs.lemmas.List.{append_cancel_left, nil_from_length}
use Rattle.httparse.specs.Ascii.{crlf_bytes}
use Rattle.httparse.specs.Grammar.{RequestHead, ReadsChunkLine, ReadsSection}
use Rattle.httparse.proofs.GrammarLemmas.{request_unique}
use Rattle.http_wire.specs.declared.body.Body.{Body}
use Rattle.http_wire.specs.declared.body.Body.TheVariants as body
use Rattle.http_wire.specs.declared.head.Head.{Head}
use Rattle.http_wire.specs.declared.line_state.LineState.TheVariants.{Start, Next, Last}
use Rattle.http_wire.specs.Heads.{HeadSpec, framing_of, headers_of}
use Rattle.http_wire.specs.Bodies.{IsLine, IsChunked, Chunk, print_chunk, IsChunk, RestOf, EndsEarly, IsMalformed, IsBadEnd}
use Rattle.http_wire.specs.Wires.{body_of}
use Rattle.http_wire.specs.Speaking.{HasNoRequest, Begun, IsBegun}
use Rattle.http_wire.proofs.Framings.{request_ends}
use Rattle.http_wire.proofs.Passing.{one_text}
use Rattle.http_wire.proofs.Refusals.{not_lacking}

-- the chunk line with which a chunked body begins
pub record FirstLine (text : List ℕ) : Type 0 where
  pub line : List ℕ
  pub size : ℕ
  pub behind : List ℕ
  pub is : IsLine line size
  pub parts : text ≡ line ++ behind

first_line : (text last trailers : List ℕ) (chunks : List Chunk) → All IsChunk chunks → IsLine last 0 → text ≡ flat_map print_chunk chunks ++ (last ++ trailers) → FirstLine text
first_line text last trailers [] each is e = record { line = last; size = 0; behind = trailers; is = is; parts = e }
first_line text last trailers (c ∷ cs) each is e = record {
  line = c.line;
  size = length c.content;
  behind = c.content ++ (crlf_bytes ++ (flat_map print_chunk cs ++ (last ++ trailers)));
  is = (each 0 c (omega arith)).1;
  parts = e ∙ pieces c.line c.content crlf_bytes (flat_map print_chunk cs) (last ++ trailers);
}
  where
    pieces : (a b c f t : List ℕ) → ((a ++ (b ++ c)) ++ f) ++ t ≡ a ++ (b ++ (c ++ (f ++ t)))
    pieces a b c f t = simp append_assoc

line_of : (text bytes : List ℕ) → IsChunked text bytes → FirstLine text
line_of text bytes is = first_line text is.last is.trailers is.chunks is.each is.last_line is.text_is

line_before : (text after tail : List ℕ) (first : FirstLine text) → text ++ after ≡ tail → tail ≡ first.line ++ (first.behind ++ after)
line_before text after tail first e = sym e ∙ ap (λ (t : List ℕ). t ++ after) first.parts ∙ append_assoc first.line first.behind after

-- a chunk, and what follows it, has two bytes at least
two_bytes : (content rest text after tail : List ℕ) → text ≡ content ++ (crlf_bytes ++ rest) → text ++ after ≡ tail → 2 ≤ length tail
two_bytes content rest text after tail is e =
    omega (arith, ap length e, length-append text after, ap length is, length-append content (crlf_bytes ++ rest), length-append crlf_bytes rest)

few_bytes : (n : ℕ) (tail : List ℕ) → EndsEarly (body.Chunk n) tail → length tail ≤ 1
few_bytes n tail (inl none) = omega (arith, ap length none)
few_bytes n tail (inr (zero_left, inl none)) = omega (arith, ap length none)
few_bytes n tail (inr (zero_left, inr one)) = omega (arith, ap length one)

-- where the stream stops inside a body, it doesn't hold the body's rest
pub stops_short : (at : Body) (rest more after tail : List ℕ) → (at ≡ body.ToEnd → ⊥) → RestOf at rest more → rest ++ after ≡ tail → EndsEarly at tail → ⊥
stops_short body.Done rest more after tail bound r e stops = stops
stops_short (body.Exactly n) rest more after tail bound r e stops =
    omega (arith, stops.0, r.1, ap length r.0, ap length e, ap length stops.1, length-append rest after)
stops_short body.ChunkLine rest more after tail bound r e stops =
    let first = line_of rest more r in
    not_lacking Last 4096 tail first.line (first.behind ++ after) (line_before rest after tail first e) first.is.0 stops.1
stops_short (body.Chunk n) rest more after tail bound r e stops =
    let two = two_bytes r.0 r.1 rest after tail r.5 e in
    let few = few_bytes n tail stops in
    omega (arith, two, few)
stops_short body.Trailers rest more after tail bound r e stops = not_lacking Next 16384 tail rest after (sym e) r.0.0 stops.1
stops_short body.ToEnd rest more after tail bound r e stops = bound refl

not_bad_end : (x rest : List ℕ) → x ≡ 13 ∷ 10 ∷ rest → IsBadEnd x → ⊥
not_bad_end x rest e (first, others, inl (is, differs)) = differs (ap (λ (l : List ℕ). get_or l 0 0) (sym is ∙ e))
not_bad_end x rest e (second, others, inr (is, differs)) = differs (ap (λ (l : List ℕ). get_or l 1 0) (sym is ∙ e))

-- where a body breaks, its rest doesn't stand
pub breaks_short : (at : Body) (rest more after tail : List ℕ) → RestOf at rest more → rest ++ after ≡ tail → IsMalformed at tail → ⊥
breaks_short body.Done rest more after tail r e breaks = breaks
breaks_short (body.Exactly n) rest more after tail r e breaks = breaks
breaks_short body.ChunkLine rest more after tail r e (inl long) =
    let first = line_of rest more r in
    not_lacking Last 4096 tail first.line (first.behind ++ after) (line_before rest after tail first e) first.is.0 long.1
breaks_short body.ChunkLine rest more after tail r e (inr bad) =
    let first = line_of rest more r in
    let same : first.line ≡ bad.0 = one_text Last 4096 tail first.line bad.0 (first.behind ++ after) bad.1 (line_before rest after tail first e) bad.2 first.is.0 bad.3.0 in
    bad.3.1 first.is.1.0 (subst (λ (t : List ℕ). ReadsChunkLine t first.is.1.0 []) same first.is.1.1)
breaks_short (body.Chunk n) rest more after tail r e breaks =
    let none : r.0 ≡ [] = nil_from_length r.0 (r.3 ∙ breaks.0) in
    let begins : tail ≡ 13 ∷ 10 ∷ (r.1 ++ after) = sym e ∙ ap (λ (t : List ℕ). t ++ after) (r.5 ∙ ap (λ (t : List ℕ). t ++ (crlf_bytes ++ r.1)) none) in
    not_bad_end tail (r.1 ++ after) begins breaks.1
breaks_short body.Trailers rest more after tail r e (inl long) = not_lacking Next 16384 tail rest after (sym e) r.0.0 long.1
breaks_short body.Trailers rest more after tail r e (inr bad) =
    let same : rest ≡ bad.0 = one_text Next 16384 tail rest bad.0 after bad.1 (sym e) bad.2 r.0.0 bad.3.0 in
    let reads = r.0.1.2 in
    let many = bad.3.1 r.0.1.0 r.0.1.1 (subst (λ (t : List ℕ). ReadsSection t r.0.1.0 r.0.1.1 []) same reads) in
    omega (arith, many, r.0.1.3)
breaks_short body.ToEnd rest more after tail r e breaks = breaks

-- a head says one framing
one_framing : (text : List ℕ) (a b : Head) → HeadSpec text (Ok a) → HeadSpec text (Ok b) → a.framing ≡ b.framing
one_framing text a b h k =
    let same : h.0 ≡ k.0 = (request_unique text h.0 k.0 [] [] h.1 k.1).0 in
    let framings : Some a.framing ≡ Some b.framing = sym h.3.framing ∙ ap (λ (r : RequestHead). framing_of (headers_of r)) same ∙ k.3.framing in
    cc framings

pub no_whole_request : (x tail : List ℕ) (b : Begun) → IsBegun b → x ≡ b.head ++ (b.framed ++ tail) → EndsEarly b.at tail ⊎ IsMalformed b.at tail → HasNoRequest x
no_whole_request x tail b is e ends = λ r after also f.
    let parts : x ≡ r.head ++ (r.framed ++ after) = f ∙ append_assoc r.head r.framed after in
    let heads : r.head ≡ b.head = one_text Start 16384 x r.head b.head (r.framed ++ after) (b.framed ++ tail) parts e also.lines is.lines in
    let framings : r.says.framing ≡ b.says.framing = one_framing b.head r.says b.says (subst (λ (t : List ℕ). HeadSpec t (Ok r.says)) heads also.read) is.read in
    let bodies : r.framed ++ after ≡ b.framed ++ tail = append_cancel_left b.head (r.framed ++ after) (b.framed ++ tail) (ap (λ (t : List ℕ). t ++ (r.framed ++ after)) (sym heads) ∙ sym parts ∙ e) in
    let bound = request_ends b.head b.says is.read in
    let goes = is.leads.back bound r.framed r.body after tail (ap-rest r.framed r.body r.says b.says framings also.rest) bodies in
    let left : goes.0 ++ after ≡ tail = append_cancel_left b.framed (goes.0 ++ after) tail (sym (append_assoc b.framed goes.0 after) ∙ ap (λ (t : List ℕ). t ++ after) (sym goes.2) ∙ bodies) in
    ⊎_elim (stops_short b.at goes.0 goes.1 after tail (λ to_end. bound (is.leads.only to_end)) goes.4 left) (breaks_short b.at goes.0 goes.1 after tail goes.4 left) ends
  where
    ap-rest : (text bytes : List ℕ) (a b : Head) → a.framing ≡ b.framing → RestOf (body_of a.framing) text bytes → RestOf (body_of b.framing) text bytes
    ap-rest text bytes a b same r = subst (λ f. RestOf (body_of f) text bytes) same r
