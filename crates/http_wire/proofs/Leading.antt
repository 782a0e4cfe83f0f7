-- Ways through a body.
use Rattle.std.proofs.Common.{◌≡◌, ℕ, zero, suc, ◌+◌, ◌<◌, ◌≤◌, List, [], ◌∷◌, ◌++◌, length, take, drop, All, Option, Some, None, inl, inr, refl, sym, ap, subst, ◌∙◌, arith, append_assoc, length-append, length-drop, get_or, ◌⊎◌}
use Rattle.std.specs.Option.{IfSome}
use Rattle.std.specs.List.{flat_map}
use Rattle.std.proofs.lemmas.List.{append-nil, append_cancel_left, nil_from_length}
use Rattle.httparse.specs.Ascii.{crlf_bytes}
use Rattle.httparse.specs.Grammar.{ChunkLine, ReadsChunkLine, chunk_size, print_chunk_line, Field, LineEnd, ReadsSection}
use Rattle.httparse.specs.Spans.{IsChunkLineAt}
use Rattle.httparse.proofs.ChunkLemmas.{chunk_line_unique}
use Rattle.http_wire.specs.declared.body.Body.{Body}
use Rattle.http_wire.specs.declared.body.Body.TheVariants as body
use Rattle.http_wire.specs.declared.line_state.LineState.TheVariants.{Last, Next}
use Rattle.http_wire.specs.Lines.{Reaches, Lacks}
use Rattle.http_wire.specs.Stream.{stream, Flow, Begins}
use Rattle.http_wire.specs.Bodies.{IsLine, IsBadLine, IsTrailers, IsBadTrailers, IsChunked, Chunk, print_chunk, content_of, IsChunk, RestOf, BodyRun, Moves, IsBadEnd, IsMalformed}
use Rattle.http_wire.proofs.Passing.{Passed-chain, begins_stream, one_text}

-- a list that begins as another one, and isn't shorter, begins with it
begins_with : (xs ys zs ws : List ℕ) → xs ++ ys ≡ zs ++ ws → length zs ≤ length xs → (rest : List ℕ) × (xs ≡ zs ++ rest)
begins_with xs ys [] ws e fits = (xs, refl)
begins_with [] ys (z ∷ zs) ws e fits = absurd (omega (arith, fits))
begins_with (x ∷ xs) ys (z ∷ zs) ws e fits =
    let tails = begins_with xs ys zs ws (ap (drop 1) e) (omega (arith, fits)) in
    let head : x ≡ z = ap (λ (l : List ℕ). get_or l 0 0) e in
    (tails.0, λ i. head i ∷ tails.1 i)

-- what follows a front of two equal lists
behind_front : (front xs after tail whole : List ℕ) → whole ≡ front ++ xs → whole ++ after ≡ front ++ tail → xs ++ after ≡ tail
behind_front front xs after tail whole is e =
    append_cancel_left front (xs ++ after) tail (sym (append_assoc front xs after) ∙ ap (λ (t : List ℕ). t ++ after) (sym is) ∙ e)

pub BodyRun-none : (b : Body) → BodyRun b b [] []
BodyRun-none b = record {
  on = λ rest bytes h. h;
  back = λ other whole all after tail r e. (whole, all, refl, refl, r);
  to_end = λ is. (refl, subst (λ (at : Body). RestOf at [] []) (sym is) refl);
  only = λ is. is;
}

-- two lists that make none are none
none_both : (xs ys : List ℕ) → [] ≡ xs ++ ys → (xs ≡ []) × (ys ≡ [])
none_both [] ys e = (refl, sym e)
none_both (x ∷ xs) ys e = absurd (cc e)

ended_by : (b c : Body) (t y : List ℕ) → (b ≡ body.ToEnd → ⊥) → RestOf b [] [] → BodyRun b c t y → (t ≡ y) × RestOf c [] []
ended_by b c t y other r k =
    let on = k.back other [] [] t [] r (sym (append-nil t)) in
    let texts = none_both t on.0 on.2 in
    let bytes = none_both y on.1 on.3 in
    (texts.0 ∙ sym bytes.0, subst (λ (more : List ℕ). RestOf c [] more) bytes.1 (subst (λ (rest : List ℕ). RestOf c rest on.1) texts.1 on.4))

-- where a body may end, what leads on gives what it takes, and the body may end there too
ended : (b c : Body) (t y : List ℕ) → RestOf b [] [] → BodyRun b c t y → (t ≡ y) × RestOf c [] []
ended body.ToEnd c t y r k = k.to_end refl
ended body.Done c t y r k = ended_by body.Done c t y (λ is. absurd (cc is)) r k
ended (body.Exactly n) c t y r k = ended_by (body.Exactly n) c t y (λ is. absurd (cc is)) r k
ended body.ChunkLine c t y r k = ended_by body.ChunkLine c t y (λ is. absurd (cc is)) r k
ended (body.Chunk n) c t y r k = ended_by (body.Chunk n) c t y (λ is. absurd (cc is)) r k
ended body.Trailers c t y r k = ended_by body.Trailers c t y (λ is. absurd (cc is)) r k

pub BodyRun-chain : (a b c : Body) (s t x y : List ℕ) → BodyRun a b s x → BodyRun b c t y → BodyRun a c (s ++ t) (x ++ y)
BodyRun-chain a b c s t x y h k = record {
  on = λ rest bytes r.
      let whole = h.on (t ++ rest) (y ++ bytes) (k.on rest bytes r) in
      subst (λ (u : List ℕ). RestOf a u ((x ++ y) ++ bytes)) (sym (append_assoc s t rest)) (subst (λ (u : List ℕ). RestOf a (s ++ (t ++ rest)) u) (sym (append_assoc x y bytes)) whole);
  back = λ other whole all after tail r e.
      let first = h.back other whole all after (t ++ tail) r (e ∙ append_assoc s t tail) in
      let second = k.back (λ is. other (h.only is)) first.0 first.1 after tail first.4 (behind_front s first.0 after (t ++ tail) whole first.2 (e ∙ append_assoc s t tail)) in (
        second.0,
        second.1,
        first.2 ∙ ap (λ (u : List ℕ). s ++ u) second.2 ∙ sym (append_assoc s t second.0),
        first.3 ∙ ap (λ (u : List ℕ). x ++ u) second.3 ∙ sym (append_assoc x y second.1),
        second.4,
      );
  to_end = λ is.
      let first = h.to_end is in
      let second = ended b c t y first.1 k in
      ((λ i. first.0 i ++ second.0 i), second.1);
  only = λ is. h.only (k.only is);
}

pub Moves-chain : (p q r : Option (List ℕ)) (u v w : Flow) (a b c : Body) (x y : List ℕ) → Moves p q u v a b x → Moves q r v w b c y → Moves p r u w a c (x ++ y)
Moves-chain p q r u v w a b c x y h k = (h.0 ++ k.0, Passed-chain p q r u v w h.0 k.0 h.1 k.1, BodyRun-chain a b c h.0 k.0 x y h.2 k.2)

-- bytes of a body of a known length
pub leads_exactly : (m n : ℕ) (text : List ℕ) → n + length text ≡ m → BodyRun (body.Exactly m) (body.Exactly n) text text
leads_exactly m n text len = record {
  on = λ rest bytes h. (ap (λ (u : List ℕ). text ++ u) h.0, length-append text bytes ∙ omega (arith, h.1));
  back = λ other whole all after tail h e.
      let rest = begins_with whole after text tail e (omega (arith, len, h.1, ap length h.0)) in
      let left : length rest.0 ≡ n = omega (arith, len, h.1, ap length h.0, ap length rest.1, length-append text rest.0) in
      (rest.0, rest.0, rest.1, sym h.0 ∙ rest.1, (refl, left));
  to_end = λ is. absurd (cc is);
  only = λ is. absurd (cc is);
}

-- a body of a known length, of which no byte is left
pub leads_none_left : BodyRun (body.Exactly 0) body.Done [] []
leads_none_left = record {
  on = λ rest bytes h. (h.0 ∙ sym h.1, ap length h.1);
  back = λ other whole all after tail h e.
      let none : all ≡ [] = nil_from_length all h.1 in
      ([], [], h.0 ∙ none, none, (refl, refl));
  to_end = λ is. absurd (cc is);
  only = λ is. absurd (cc is);
}

-- bytes of a body that goes to the end
pub leads_to_end : (text : List ℕ) → BodyRun body.ToEnd body.ToEnd text text
leads_to_end text = record {
  on = λ rest bytes h. ap (λ (u : List ℕ). text ++ u) h;
  back = λ other. absurd (other refl);
  to_end = λ is. (refl, refl);
  only = λ is. is;
}

-- and its end
pub leads_at_end : BodyRun body.ToEnd body.Done [] []
leads_at_end = record {
  on = λ rest bytes h. h.0 ∙ sym h.1;
  back = λ other. absurd (other refl);
  to_end = λ is. (refl, (refl, refl));
  only = λ is. absurd (cc is);
}

-- bytes of a chunk
pub leads_chunk : (m n : ℕ) (text : List ℕ) → n + length text ≡ m → BodyRun (body.Chunk m) (body.Chunk n) text text
leads_chunk m n text len = record {
  on = λ rest bytes h. (
    text ++ h.0,
    h.1,
    h.2,
    length-append text h.0 ∙ omega (arith, h.3),
    h.4,
    ap (λ (u : List ℕ). text ++ u) h.5 ∙ sym (append_assoc text h.0 (crlf_bytes ++ h.1)),
    ap (λ (u : List ℕ). text ++ u) h.6 ∙ sym (append_assoc text h.0 h.2),
  );
  back = λ other whole all after tail h e.
      let split : h.0 ++ ((crlf_bytes ++ h.1) ++ after) ≡ text ++ tail = sym (append_assoc h.0 (crlf_bytes ++ h.1) after) ∙ ap (λ (t : List ℕ). t ++ after) (sym h.5) ∙ e in
      let rest = begins_with h.0 ((crlf_bytes ++ h.1) ++ after) text tail split (omega (arith, len, h.3)) in
      let left : length rest.0 ≡ n = omega (arith, len, h.3, ap length rest.1, length-append text rest.0) in (
        rest.0 ++ (crlf_bytes ++ h.1),
        rest.0 ++ h.2,
        h.5 ∙ ap (λ (t : List ℕ). t ++ (crlf_bytes ++ h.1)) rest.1 ∙ append_assoc text rest.0 (crlf_bytes ++ h.1),
        h.6 ∙ ap (λ (t : List ℕ). t ++ h.2) rest.1 ∙ append_assoc text rest.0 h.2,
        (rest.0, h.1, h.2, left, h.4, refl, refl),
      );
  to_end = λ is. absurd (cc is);
  only = λ is. absurd (cc is);
}

-- the end of a chunk
pub leads_end : BodyRun (body.Chunk 0) body.ChunkLine crlf_bytes []
leads_end = record {
  on = λ rest bytes h. ([], rest, bytes, refl, h, refl, refl);
  back = λ other whole all after tail h e.
      let none : h.0 ≡ [] = nil_from_length h.0 h.3 in
      (h.1, h.2, h.5 ∙ ap (λ (t : List ℕ). t ++ (crlf_bytes ++ h.1)) none, h.6 ∙ ap (λ (t : List ℕ). t ++ h.2) none, h.4);
  to_end = λ is. absurd (cc is);
  only = λ is. absurd (cc is);
}

-- a chunk line has one size
one_size : (a b : List ℕ) (m n : ℕ) → a ≡ b → IsLine a m → IsLine b n → m ≡ n
one_size a b m n same is other =
    let there : ReadsChunkLine a other.1.0 [] = subst (λ (t : List ℕ). ReadsChunkLine t other.1.0 []) (sym same) other.1.1 in
    sym is.1.2 ∙ ap chunk_size (chunk_line_unique a is.1.0 other.1.0 [] [] is.1.1 there).0 ∙ other.1.2

-- the text of a chunk line with which some bytes begin
same_line : (line other x after tail : List ℕ) (m n : ℕ) → IsLine line m → IsLine other n → x ≡ line ++ after → x ≡ other ++ tail → line ≡ other
same_line line other x after tail m n is also e f = one_text Last 4096 x line other after tail e f is.0 also.0

-- the first chunk of a body, and what follows it
pub print_first : (c : Chunk) (cs : List Chunk) (end after : List ℕ) → (flat_map print_chunk (c ∷ cs) ++ end) ++ after ≡ c.line ++ ((c.content ++ (crlf_bytes ++ (flat_map print_chunk cs ++ end))) ++ after)
print_first c cs end after = first c.line c.content crlf_bytes (flat_map print_chunk cs) end after
  where
    first : (a b c f t rest : List ℕ) → (((a ++ (b ++ c)) ++ f) ++ t) ++ rest ≡ a ++ ((b ++ (c ++ (f ++ t))) ++ rest)
    first a b c f t rest = simp append_assoc

-- where a body goes on behind the last chunk line
last_goes : (line last trailers after tail whole all : List ℕ) (chunks : List Chunk) → IsLine line 0 → All IsChunk chunks → IsLine last 0 → IsTrailers trailers
    → whole ≡ flat_map print_chunk chunks ++ (last ++ trailers) → all ≡ flat_map content_of chunks → whole ++ after ≡ line ++ tail
    → (rest : List ℕ) × (more : List ℕ) × (whole ≡ line ++ rest) × (all ≡ [] ++ more) × RestOf body.Trailers rest more
last_goes line last trailers after tail whole all [] is each last_is trailers_are text bytes e =
    let parts : whole ++ after ≡ last ++ (trailers ++ after) = ap (λ (t : List ℕ). t ++ after) text ∙ append_assoc last trailers after in
    let same : last ≡ line = same_line last line (whole ++ after) (trailers ++ after) tail 0 0 last_is is parts e in
    (trailers, [], text ∙ ap (λ (t : List ℕ). t ++ trailers) same, bytes, (trailers_are, refl))
last_goes line last trailers after tail whole all (c ∷ cs) is each last_is trailers_are text bytes e =
    let parts = ap (λ (t : List ℕ). t ++ after) text ∙ print_first c cs (last ++ trailers) after in
    let first : IsChunk c = each 0 c (omega arith) in
    let same : c.line ≡ line = same_line c.line line (whole ++ after) ((c.content ++ (crlf_bytes ++ (flat_map print_chunk cs ++ (last ++ trailers)))) ++ after) tail (length c.content) 0 first.1 is parts e in
    let size : length c.content ≡ 0 = one_size c.line line (length c.content) 0 same first.1 is in
    absurd (omega (arith, size, first.0))

-- the last chunk line
pub leads_last : (line : List ℕ) (size : ℕ) → IsLine line size → size ≡ 0 → BodyRun body.ChunkLine body.Trailers line []
leads_last line size is none = record {
  on = λ rest bytes h. record {
    chunks = [];
    last = line;
    trailers = rest;
    each = λ k d small. absurd (omega arith);
    last_line = subst (IsLine line) none is;
    rest = h.0;
    text_is = refl;
    bytes_are = h.1;
  };
  back = λ other whole all after tail h e.
      last_goes line h.last h.trailers after tail whole all h.chunks (subst (IsLine line) none is) h.each h.last_line h.rest h.text_is h.bytes_are e;
  to_end = λ is. absurd (cc is);
  only = λ is. absurd (cc is);
}

all_more : (c : Chunk) (cs : List Chunk) → IsChunk c → All IsChunk cs → All IsChunk (c ∷ cs)
all_more c cs one each zero d small = one
all_more c cs one each (suc k) d small = each k d (omega arith)

all_fewer : (c : Chunk) (cs : List Chunk) → All IsChunk (c ∷ cs) → All IsChunk cs
all_fewer c cs each k d small = each (suc k) d (omega (arith, small))

-- where a body goes on behind another chunk line
line_goes : (line last trailers after tail whole all : List ℕ) (size : ℕ) (chunks : List Chunk) → IsLine line size → 0 < size → All IsChunk chunks → IsLine last 0 → IsTrailers trailers
    → whole ≡ flat_map print_chunk chunks ++ (last ++ trailers) → all ≡ flat_map content_of chunks → whole ++ after ≡ line ++ tail
    → (rest : List ℕ) × (more : List ℕ) × (whole ≡ line ++ rest) × (all ≡ [] ++ more) × RestOf (body.Chunk size) rest more
line_goes line last trailers after tail whole all size [] is some each last_is trailers_are text bytes e =
    let parts : whole ++ after ≡ last ++ (trailers ++ after) = ap (λ (t : List ℕ). t ++ after) text ∙ append_assoc last trailers after in
    let same : last ≡ line = same_line last line (whole ++ after) (trailers ++ after) tail 0 size last_is is parts e in
    let none : 0 ≡ size = one_size last line 0 size same last_is is in
    absurd (omega (arith, none, some))
line_goes line last trailers after tail whole all size (c ∷ cs) is some each last_is trailers_are text bytes e =
    let parts = ap (λ (t : List ℕ). t ++ after) text ∙ print_first c cs (last ++ trailers) after in
    let first : IsChunk c = each 0 c (omega arith) in
    let left : List ℕ = flat_map print_chunk cs ++ (last ++ trailers) in
    let same : c.line ≡ line = same_line c.line line (whole ++ after) ((c.content ++ (crlf_bytes ++ left)) ++ after) tail (length c.content) size first.1 is parts e in
    let sized : length c.content ≡ size = one_size c.line line (length c.content) size same first.1 is in
    let others : IsChunked left (flat_map content_of cs) = record {
      chunks = cs;
      last = last;
      trailers = trailers;
      each = all_fewer c cs each;
      last_line = last_is;
      rest = trailers_are;
      text_is = refl;
      bytes_are = refl;
    } in (
      c.content ++ (crlf_bytes ++ left),
      c.content ++ flat_map content_of cs,
      text ∙ first_of c.line c.content crlf_bytes (flat_map print_chunk cs) (last ++ trailers) ∙ ap (λ (t : List ℕ). t ++ (c.content ++ (crlf_bytes ++ left))) same,
      bytes,
      (c.content, left, flat_map content_of cs, sized, others, refl, refl),
    )
  where
    first_of : (a b c f t : List ℕ) → ((a ++ (b ++ c)) ++ f) ++ t ≡ a ++ (b ++ (c ++ (f ++ t)))
    first_of a b c f t = simp append_assoc

-- another chunk line
pub leads_line : (line : List ℕ) (size : ℕ) → IsLine line size → 0 < size → BodyRun body.ChunkLine (body.Chunk size) line []
leads_line line size is some = record {
  on = λ rest bytes h.
      let c : Chunk = record { line = line; content = h.0 } in
      let some_content : 0 < length h.0 = omega (arith, h.3) in
      let is_sized : IsLine line (length h.0) = subst (IsLine line) (sym h.3) is in
      record {
        chunks = c ∷ h.4.chunks;
        last = h.4.last;
        trailers = h.4.trailers;
        each = all_more c h.4.chunks (some_content, is_sized) h.4.each;
        last_line = h.4.last_line;
        rest = h.4.rest;
        text_is = text_parts line h.0 crlf_bytes h.1 (flat_map print_chunk h.4.chunks) (h.4.last ++ h.4.trailers) rest h.5 h.4.text_is;
        bytes_are = h.6 ∙ ap (λ (u : List ℕ). h.0 ++ u) h.4.bytes_are;
      };
  back = λ other whole all after tail h e.
      line_goes line h.last h.trailers after tail whole all size h.chunks is some h.each h.last_line h.rest h.text_is h.bytes_are e;
  to_end = λ is. absurd (cc is);
  only = λ is. absurd (cc is);
}
  where
    text_parts : (a b c r f t rest : List ℕ) → rest ≡ b ++ (c ++ r) → r ≡ f ++ t → a ++ rest ≡ ((a ++ (b ++ c)) ++ f) ++ t
    text_parts a b c r f t rest e g = ap (λ (u : List ℕ). a ++ u) (e ∙ ap (λ (u : List ℕ). b ++ (c ++ u)) g) ∙ simp append_assoc

-- what a chunk line leads to
pub leads_on : (line : List ℕ) (size : ℕ) (at : Body) → IsLine line size → (size ≡ 0 → at ≡ body.Trailers) → (0 < size → at ≡ body.Chunk size) → BodyRun body.ChunkLine at line []
leads_on line zero at is last more = subst (λ (b : Body). BodyRun body.ChunkLine b line []) (sym (last refl)) (leads_last line zero is refl)
leads_on line (suc n) at is last more = subst (λ (b : Body). BodyRun body.ChunkLine b line []) (sym (more (omega arith))) (leads_line line (suc n) is (omega arith))

-- the trailers
pub leads_trailers : (text : List ℕ) → IsTrailers text → BodyRun body.Trailers body.Done text []
leads_trailers text is = record {
  on = λ rest bytes h.
      (subst IsTrailers (sym (ap (λ (u : List ℕ). text ++ u) h.0 ∙ append-nil text)) is, h.1);
  back = λ other whole all after tail h e.
      let same : whole ≡ text = one_text Next 16384 (whole ++ after) whole text after tail refl e h.0.0 is.0 in
      ([], [], same ∙ sym (append-nil text), h.1, (refl, refl));
  to_end = λ is. absurd (cc is);
  only = λ is. absurd (cc is);
}

-- a text has one chunk line
pub whole_line : (text : List ℕ) (len size : ℕ) (k l : ChunkLine) → IsChunkLineAt text len size k → ReadsChunkLine text l [] → len ≡ length text
whole_line text len size k l at reads =
    let same = chunk_line_unique text k l (drop len text) [] at.reads reads in
    omega (arith, ap length same.1, length-drop len text, ap length at.reads.1, length-append (print_chunk_line k) (drop len text), at.len_is)

some_other : (o : Option (List ℕ)) (P Q : List ℕ → Type 0) → IfSome o Q → IfSome o (λ x. P x ⊎ Q x)
some_other None P Q h = tt
some_other (Some x) P Q h = inr h

-- a line that is no chunk line breaks the body
pub line_breaks : (n : ℕ) (bytes read : List ℕ) (left : Option (List ℕ)) → read ≡ bytes → Reaches Last 4096 (take n bytes) (length (take n bytes)) → ((l : ChunkLine) → ReadsChunkLine (take n read) l [] → ⊥) → IfSome (stream bytes left) (IsMalformed body.ChunkLine)
line_breaks n bytes read left same found none =
    some_other (stream bytes left) (λ x. (4096 ≤ length x) × Lacks Last 4096 x) (λ x. Begins x IsBadLine) (begins_stream IsBadLine n bytes left (found, subst (λ (xs : List ℕ). (l : ChunkLine) → ReadsChunkLine (take n xs) l [] → ⊥) same none))

-- the same of trailers
pub trailers_break : (n : ℕ) (bytes read : List ℕ) (left : Option (List ℕ)) → read ≡ bytes → Reaches Next 16384 (take n bytes) (length (take n bytes)) → ((fields : List Field) (last : LineEnd) → ReadsSection (take n read) fields last [] → 64 < length fields) → IfSome (stream bytes left) (IsMalformed body.Trailers)
trailers_break n bytes read left same found none =
    some_other (stream bytes left) (λ x. (16384 ≤ length x) × Lacks Next 16384 x) (λ x. Begins x IsBadTrailers) (begins_stream IsBadTrailers n bytes left (found, subst (λ (xs : List ℕ). (fields : List Field) (last : LineEnd) → ReadsSection (take n xs) fields last [] → 64 < length fields) same none))

-- bytes that begin wrongly
pub bad_first : (xs : List ℕ) → 0 < length xs → (get_or xs 0 0 ≡ 13 → ⊥) → IsBadEnd xs
bad_first [] some h = absurd (omega arith)
bad_first (x ∷ xs) some h = (x, xs, inl (refl, h))

pub bad_second : (xs : List ℕ) → 1 < length xs → get_or xs 0 0 ≡ 13 → (get_or xs 1 0 ≡ 10 → ⊥) → IsBadEnd xs
bad_second [] some e h = absurd (omega arith)
bad_second (x ∷ []) some e h = absurd (omega arith)
bad_second (x ∷ y ∷ xs) some e h = (y, xs, inr (ap (λ (z : ℕ). z ∷ y ∷ xs) e, h))

pub only_first : (xs : List ℕ) → length xs ≡ 1 → get_or xs 0 0 ≡ 13 → xs ≡ 13 ∷ []
only_first [] some e = absurd (omega arith)
only_first (x ∷ []) some e = ap (λ (z : ℕ). z ∷ []) e
only_first (x ∷ y ∷ xs) some e = absurd (omega arith)

pub both_stand : (xs : List ℕ) → 1 < length xs → get_or xs 0 0 ≡ 13 → get_or xs 1 0 ≡ 10 → xs ≡ 13 ∷ 10 ∷ drop 2 xs
both_stand [] some e h = absurd (omega arith)
both_stand (x ∷ []) some e h = absurd (omega arith)
both_stand (x ∷ y ∷ xs) some e h = λ i. e i ∷ h i ∷ xs

pub bad_stream : (bytes read : List ℕ) (left : Option (List ℕ)) → read ≡ bytes → IsBadEnd read → IfSome (stream bytes left) IsBadEnd
bad_stream bytes read None same h = tt
bad_stream bytes read (Some left) same h = subst (λ (xs : List ℕ). IsBadEnd (xs ++ left)) same (more read left h)
  where
    more : (xs ys : List ℕ) → IsBadEnd xs → IsBadEnd (xs ++ ys)
    more xs ys b = (b.0, b.1 ++ ys, elim b.2 [ inl p ↦ inl (ap (λ (zs : List ℕ). zs ++ ys) p.0, p.1) | inr p ↦ inr (ap (λ (zs : List ℕ). zs ++ ys) p.0, p.1) ])
