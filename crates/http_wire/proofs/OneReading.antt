-- A stream has one reading as requests.
use Rattle.std.proofs.Common.{◌≡◌, ℕ, zero, suc, ◌+◌, ◌<◌, ◌≤◌, List, [], ◌∷◌, ◌++◌, true, false, length, get_or, take, drop, All, Option, Some, None, option_map, Ok, inl, inr, ◌⊎◌, refl, sym, ap, subst, ◌∙◌, arith, append_assoc, length-drop}
use Rattle.std.specs.List.{flat_map}
use Rattle.std.proofs.lemmas.List.{append-nil, append_cancel_left, take_at, get_or_append_left, length-append}
use Rattle.std.proofs.lemmas.List.Elements.{All-head, All-tail}
use Rattle.std.proofs.Math.Seq.{get_or-append_seam}
use Rattle.std.proofs.lemmas.Bool.{cases_lt}
use Rattle.httparse.specs.Ascii.{crlf_bytes}
use Rattle.httparse.specs.Grammar.{RequestHead}
use Rattle.httparse.proofs.GrammarLemmas.{request_unique}
use Rattle.http_wire.specs.declared.body.Body.{Body}
use Rattle.http_wire.specs.declared.body.Body.TheVariants as body
use Rattle.http_wire.specs.declared.head.Head.{Head}
use Rattle.http_wire.specs.declared.head.Piece.{Piece}
use Rattle.http_wire.specs.declared.head.Framing.{Framing}
use Rattle.http_wire.specs.declared.line_state.LineState.TheVariants.{Start}
use Rattle.http_wire.specs.Heads.{HeadSpec, IsHeadOf, IsFirstOf}
use Rattle.http_wire.specs.Bodies.{Chunk, print_chunk, content_of, IsChunk, IsChunked, IsLine, IsTrailers, RestOf, BodyRun}
use Rattle.http_wire.specs.Wires.{body_of}
use Rattle.http_wire.specs.Speaking.{Request, IsRequest, text_of, Speaks, HasNoRequest, Last, Nothing, Refused, Unfinished, IsOpen, ClosesAtLast, GoesOn, place_behind}
use Rattle.http_wire.specs.Readings.{bytes_at, SaysSame, AreFirst, OneReading, IsLongest, IsFinished, SpeaksToNoMore}
use Rattle.http_wire.proofs.Framings.{request_ends}
use Rattle.http_wire.proofs.Passing.{one_text}
use Rattle.http_wire.proofs.Leading.{BodyRun-chain, leads_chunk, leads_end, leads_on, leads_trailers}

-- a chunked body leads to its end
leads_chunks : (chunks : List Chunk) (last trailers : List ℕ) → All IsChunk chunks → IsLine last 0 → IsTrailers trailers
    → BodyRun body.ChunkLine body.Done (flat_map print_chunk chunks ++ (last ++ trailers)) (flat_map content_of chunks)
leads_chunks [] last trailers each last_is are =
    BodyRun-chain body.ChunkLine body.Trailers body.Done last trailers [] []
    (leads_on last 0 body.Trailers last_is (λ e. refl) (λ some. absurd (omega (arith, some)))) (leads_trailers trailers are)
leads_chunks (c ∷ cs) last trailers each last_is are =
    let first : IsChunk c = All-head IsChunk c cs each in
    let size = length c.content in
    let others = flat_map print_chunk cs ++ (last ++ trailers) in
    let more = leads_chunks cs last trailers (All-tail IsChunk c cs each) last_is are in
    let at_end = BodyRun-chain (body.Chunk 0) body.ChunkLine body.Done crlf_bytes others [] (flat_map content_of cs) leads_end more in
    let at_content = BodyRun-chain (body.Chunk size) (body.Chunk 0) body.Done c.content (crlf_bytes ++ others) c.content (flat_map content_of cs) (leads_chunk size 0 c.content (omega arith)) at_end in
    let line = leads_on c.line size (body.Chunk size) first.1 (λ none. absurd (omega (arith, none, first.0))) (λ some. refl) in
    let whole = BodyRun-chain body.ChunkLine (body.Chunk size) body.Done c.line (c.content ++ (crlf_bytes ++ others)) [] (c.content ++ flat_map content_of cs) line at_content in
    subst (λ (t : List ℕ). BodyRun body.ChunkLine body.Done t (c.content ++ flat_map content_of cs)) (pieces c.line c.content crlf_bytes (flat_map print_chunk cs) (last ++ trailers)) whole
  where
    pieces : (a b c f t : List ℕ) → a ++ (b ++ (c ++ (f ++ t))) ≡ ((a ++ (b ++ c)) ++ f) ++ t
    pieces a b c f t = simp append_assoc

leads_chunked : (text bytes : List ℕ) → IsChunked text bytes → BodyRun body.ChunkLine body.Done text bytes
leads_chunked text bytes is =
    subst (λ (t : List ℕ). BodyRun body.ChunkLine body.Done t bytes) (sym is.text_is)
    (subst (λ (b : List ℕ). BodyRun body.ChunkLine body.Done (flat_map print_chunk is.chunks ++ (is.last ++ is.trailers)) b) (sym is.bytes_are)
    (leads_chunks is.chunks is.last is.trailers is.each is.last_line is.rest))

-- the rest of a chunk, and what follows it, lead to the end
leads_rest : (n : ℕ) (text bytes : List ℕ) → RestOf (body.Chunk n) text bytes → BodyRun (body.Chunk n) body.Done text bytes
leads_rest n text bytes is =
    let at_end = BodyRun-chain (body.Chunk 0) body.ChunkLine body.Done crlf_bytes is.1 [] is.2 leads_end (leads_chunked is.1 is.2 is.4) in
    let whole = BodyRun-chain (body.Chunk n) (body.Chunk 0) body.Done is.0 (crlf_bytes ++ is.1) is.0 is.2 (leads_chunk n 0 is.0 (omega (arith, is.3))) at_end in
    subst (λ (t : List ℕ). BodyRun (body.Chunk n) body.Done t bytes) (sym is.5)
    (subst (λ (b : List ℕ). BodyRun (body.Chunk n) body.Done (is.0 ++ (crlf_bytes ++ is.1)) b) (sym is.6) whole)

-- two texts that are the whole of what is to come of a body
one_whole : (at : Body) (s t u v after rest : List ℕ) → (at ≡ body.ToEnd → ⊥) → RestOf at s u → BodyRun at body.Done t v → s ++ after ≡ t ++ rest → (s ≡ t) × (u ≡ v)
one_whole at s t u v after rest other is leads e =
    let on = leads.back other s u after rest is e in
    let text : s ≡ t = on.2 ∙ ap (λ (r : List ℕ). t ++ r) on.4.0 ∙ append-nil t in
    let bytes : u ≡ v = on.3 ∙ ap (λ (r : List ℕ). v ++ r) on.4.1 ∙ append-nil v in
    (text, bytes)

one_body : (f : Framing) (s t u v after rest : List ℕ) → (body_of f ≡ body.ToEnd → ⊥) → RestOf (body_of f) s u → RestOf (body_of f) t v → s ++ after ≡ t ++ rest → (s ≡ t) × (u ≡ v)
one_body f s t u v after rest bound is other e = by (body_of f) bound is other
  where
    by : (at : Body) → (at ≡ body.ToEnd → ⊥) → RestOf at s u → RestOf at t v → (s ≡ t) × (u ≡ v)
    by body.Done bound is other = (is.0 ∙ sym other.0, is.1 ∙ sym other.1)
    by (body.Exactly n) bound is other =
        let len : length t ≡ length s = ap length other.0 ∙ other.1 ∙ sym is.1 ∙ sym (ap length is.0) in
        let same : s ≡ t = sym (take_at s after (length s) refl) ∙ ap (take (length s)) e ∙ take_at t rest (length s) len in
        (same, sym is.0 ∙ same ∙ other.0)
    by body.ChunkLine bound is other = one_whole body.ChunkLine s t u v after rest bound is (leads_chunked t v other) e
    by (body.Chunk n) bound is other = one_whole (body.Chunk n) s t u v after rest bound is (leads_rest n t v other) e
    by body.Trailers bound is other = one_whole body.Trailers s t u v after rest bound is (subst (λ (b : List ℕ). BodyRun body.Trailers body.Done t b) (sym other.1) (leads_trailers t other.0)) e
    by body.ToEnd bound is other = absurd (bound refl)

-- a place of the same bytes
same_first : (text : List ℕ) (found : List (List ℕ)) (a b : Option Piece) → IsFirstOf text found a → IsFirstOf text found b → option_map (bytes_at text) a ≡ option_map (bytes_at text) b
same_first text found None None h k = refl
same_first text found None (Some q) h k = absurd (let clash : [] ≡ k.0 ∷ k.1 = sym h ∙ k.2 in cc clash)
same_first text found (Some p) None h k = absurd (let clash : [] ≡ h.0 ∷ h.1 = sym k ∙ h.2 in cc clash)
same_first text found (Some p) (Some q) h k =
    let both : h.0 ∷ h.1 ≡ k.0 ∷ k.1 = sym h.2 ∙ k.2 in
    let first : h.0 ≡ k.0 = cc both in
    ap (λ (bytes : List ℕ). Some bytes) (h.3.2 ∙ first ∙ sym k.3.2)

one_framing : (a b : Framing) → Some a ≡ Some b → a ≡ b
one_framing a b e = cc e

-- two heads that one text says
says_same : (head : List ℕ) (a b : Head) (framed1 framed2 body1 body2 : List ℕ) → HeadSpec head (Ok a) → HeadSpec head (Ok b) → (a.framing ≡ b.framing → (framed1 ≡ framed2) × (body1 ≡ body2))
    → SaysSame (record { head = head; says = a; framed = framed1; body = body1 }) (record { head = head; says = b; framed = framed2; body = body2 })
says_same head a b framed1 framed2 body1 body2 h k more =
    let tree : h.0 ≡ k.0 = (request_unique head h.0 k.0 [] [] h.1 k.1).0 in
    let there : IsHeadOf head h.0 b = subst (λ (r : RequestHead). IsHeadOf head r b) (sym tree) k.3 in
    let here : IsHeadOf head h.0 a = h.3 in
    let framing : a.framing ≡ b.framing = one_framing a.framing b.framing (sym here.framing ∙ there.framing) in
    let parts = more framing in
    record {
      head = refl;
      method = here.method.2 ∙ sym there.method.2;
      path = here.path.2 ∙ sym there.path.2;
      query = here.query.2 ∙ sym there.query.2;
      content_type = same_first head _ a.content_type b.content_type here.content_type there.content_type;
      framing = framing;
      closes = here.closes ∙ sym there.closes;
      framed = parts.0;
      body = parts.1;
    }

one_request : (x after rest : List ℕ) (a b : Request) → IsRequest a → IsRequest b → x ≡ text_of a ++ after → x ≡ text_of b ++ rest → SaysSame a b
one_request x after rest a b is other e f =
    let ea : x ≡ a.head ++ (a.framed ++ after) = e ∙ append_assoc a.head a.framed after in
    let eb : x ≡ b.head ++ (b.framed ++ rest) = f ∙ append_assoc b.head b.framed rest in
    let head : a.head ≡ b.head = one_text Start 16384 x a.head b.head (a.framed ++ after) (b.framed ++ rest) ea eb is.lines other.lines in
    let behind : a.framed ++ after ≡ b.framed ++ rest =
    append_cancel_left a.head (a.framed ++ after) (b.framed ++ rest) (sym ea ∙ eb ∙ ap (λ (h : List ℕ). h ++ (b.framed ++ rest)) (sym head)) in
    let says : HeadSpec a.head (Ok b.says) = subst (λ (h : List ℕ). HeadSpec h (Ok b.says)) (sym head) other.read in
    let same : SaysSame a (record { head = a.head; says = b.says; framed = b.framed; body = b.body }) =
    says_same a.head a.says b.says a.framed b.framed a.body b.body is.read says
    (λ framing. one_body a.says.framing a.framed b.framed a.body b.body after rest (request_ends a.head a.says is.read) is.rest
    (subst (λ (f : Framing). RestOf (body_of f) b.framed b.body) (sym framing) other.rest) behind) in
    subst (λ (h : List ℕ). SaysSame a (record { head = h; says = b.says; framed = b.framed; body = b.body })) head same

one_text_of : (a b : Request) → SaysSame a b → text_of a ≡ text_of b
one_text_of a b same = ap (λ (h : List ℕ). h ++ a.framed) same.head ∙ ap (λ (f : List ℕ). b.head ++ f) same.framed

pub one_reading : OneReading
one_reading x rest tail [] qs h k few = (tt, subst (λ (y : List ℕ). Speaks y qs tail) h.whole k)
one_reading x rest tail (r ∷ rs) [] h k few = absurd (omega (arith, few))
one_reading x rest tail (r ∷ rs) (q ∷ qs) h k few =
    let here : x ≡ text_of r ++ (flat_map text_of rs ++ rest) = h.whole ∙ append_assoc (text_of r) (flat_map text_of rs) rest in
    let there : x ≡ text_of q ++ (flat_map text_of qs ++ tail) = k.whole ∙ append_assoc (text_of q) (flat_map text_of qs) tail in
    let same = one_request x (flat_map text_of rs ++ rest) (flat_map text_of qs ++ tail) r q (All-head IsRequest r rs h.each) (All-head IsRequest q qs k.each) here there in
    let behind : flat_map text_of rs ++ rest ≡ flat_map text_of qs ++ tail =
    append_cancel_left (text_of r) _ _ (sym here ∙ there ∙ ap (λ (t : List ℕ). t ++ (flat_map text_of qs ++ tail)) (sym (one_text_of r q same))) in
    let more = one_reading (flat_map text_of rs ++ rest) rest tail rs qs
    (record { whole = refl; each = All-tail IsRequest r rs h.each })
    (record { whole = behind; each = All-tail IsRequest q qs k.each }) (omega (arith, few)) in
    ((same, more.0), more.1)

none_longer : (x rest tail : List ℕ) (qs : List Request) → HasNoRequest rest → Speaks rest qs tail → length qs ≡ 0
none_longer x rest tail [] none h = refl
none_longer x rest tail (q ∷ qs) none h =
    absurd (none q (flat_map text_of qs ++ tail) (All-head IsRequest q qs h.each) (h.whole ∙ append_assoc (text_of q) (flat_map text_of qs) tail))

pub longest : IsLongest
longest x rest tail rs qs h none k = by (cases_lt (length rs) (length qs))
  where
    by : (length rs < length qs) ⊎ (length qs ≤ length rs) → length qs ≤ length rs
    by (inl fewer) =
        let more = one_reading x rest tail rs qs h k (omega (arith, fewer)) in
        let left : length (drop (length rs) qs) ≡ 0 = none_longer x rest tail (drop (length rs) qs) none more.1 in
        omega (arith, left, length-drop (length rs) qs)
    by (inr fits) = fits

-- the same request stands at each place of the shorter list
same_at : (rs qs : List Request) → AreFirst rs qs → (i : ℕ) (d : Request) → i < length rs → SaysSame (get_or rs i d) (get_or qs i d)
same_at [] qs h i d within = absurd (omega (arith, within))
same_at (r ∷ rs) [] h i d within = absurd h
same_at (r ∷ rs) (q ∷ qs) h zero d within = h.0
same_at (r ∷ rs) (q ∷ qs) h (suc i) d within = same_at rs qs h.1 i d (omega (arith, within))

-- each request but the last leaves the connection open
open_before : (place : ℕ) (rs : List Request) (last : Last) (rest : List ℕ) → GoesOn place rs last rest → (i : ℕ) (d : Request) → i + 1 < length rs → IsOpen (get_or rs i d)
open_before place rs Nothing rest (inl stands) i d within = stands.0 i d (omega (arith, within))
open_before place rs Nothing rest (inr closes) i d within =
    let few : i < length closes.before = omega (arith, within, ap length closes.parts, length-append closes.before (closes.last ∷ [])) in
    let same : get_or rs i d ≡ get_or closes.before i d = ap (λ (qs : List Request). get_or qs i d) closes.parts ∙ get_or_append_left closes.before (closes.last ∷ []) d i few in
    subst IsOpen (sym same) (closes.stay i d few)
open_before place rs (Refused end) rest h i d within = h.0 i d (omega (arith, within))
open_before place rs (Unfinished b) rest h i d within = h.0 i d (omega (arith, within))

-- behind a request that closes none is answered
closing_ends : (place : ℕ) (rs qs : List Request) (last : Last) (rest : List ℕ) → ClosesAtLast rs → AreFirst rs qs → GoesOn place qs last rest → length rs < length qs → ⊥
closing_ends place rs qs last rest closes first goes fewer =
    let i = length closes.before in
    let count : length rs ≡ i + 1 = ap length closes.parts ∙ length-append closes.before (closes.last ∷ []) in
    let here : get_or rs i closes.last ≡ closes.last = ap (λ (all : List Request). get_or all i closes.last) closes.parts ∙ get_or-append_seam closes.before closes.last [] closes.last in
    let same = same_at rs qs first i closes.last (omega (arith, count)) in
    let stays : IsOpen (get_or qs i closes.last) = open_before place qs last rest goes i closes.last (omega (arith, count, fewer)) in
    let clash : true ≡ false = sym closes.closes ∙ sym (ap (λ (r : Request). r.says.closes) here) ∙ same.closes ∙ stays in
    cc clash

pub answered : SpeaksToNoMore
answered x rs qs last other h finished k = by (cases_lt (length rs) (length qs))
  where
    none_follows : HasNoRequest h.rest → length qs ≤ length rs
    none_follows none = longest x h.rest k.rest rs qs h.speaks none k.speaks

    at_last : (l : Last) → IsFinished l → GoesOn (place_behind rs) rs l h.rest → length rs < length qs → length qs ≤ length rs
    at_last Nothing is (inl stands) fewer = none_follows stands.1
    at_last Nothing is (inr closes) fewer =
        absurd (closing_ends (place_behind qs) rs qs other k.rest closes (one_reading x h.rest k.rest rs qs h.speaks k.speaks (omega (arith, fewer))).0 k.goes_on fewer)
    at_last (Refused end) is goes fewer = none_follows goes.2
    at_last (Unfinished b) is goes fewer = absurd is

    by : (length rs < length qs) ⊎ (length qs ≤ length rs) → length qs ≤ length rs
    by (inl fewer) = at_last last finished h.goes_on fewer
    by (inr fits) = fits
