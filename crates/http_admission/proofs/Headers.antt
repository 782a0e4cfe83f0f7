-- A test of headers, one header after the other.
use Rattle.std.proofs.Common.{◌≡◌, ℕ, ◌+◌, ◌<◌, Bool, true, false, cond, ◌||◌, List, [], ◌∷◌, length, take, drop, map, get_or, refl, sym, ap, ◌∙◌}
use Rattle.std.specs.Prelude.{codes}
use Rattle.std.specs.List.{list_any}
use Rattle.std.proofs.lemmas.List.{take_more, map-append, at_drop_more}
use Rattle.http_admission.specs.Admissions.{same_text, said_length, number_in}
use Rattle.std.proofs.lemmas.List.Folds.{list_any-append}
use Rattle.httparse.specs.Spans.{header_bytes}
use Rattle.httparse.specs.declared.spans.HeaderSpan.{HeaderSpan}

or_none : (b : Bool) → (b || false) ≡ b
or_none true = refl
or_none false = refl

-- whether one more header passes the test
pub any_more : (test : List ℕ × List ℕ → Bool) (buf : List ℕ) (headers : List HeaderSpan) (i : ℕ) (d : HeaderSpan) (is now : Bool) → i < length headers → is ≡ list_any test (map (header_bytes buf) (take i headers)) → now ≡ test (header_bytes buf (get_or headers i d)) → (is || now) ≡ list_any test (map (header_bytes buf) (take (i + 1) headers))
any_more test buf headers i d is now small so here =
    let before = map (header_bytes buf) (take i headers) in
    let one = header_bytes buf (get_or headers i d) in
    let whole : list_any test (map (header_bytes buf) (take (i + 1) headers)) ≡ (list_any test before || test one) =
    ap (λ (hs : List HeaderSpan). list_any test (map (header_bytes buf) hs)) (take_more headers i d small)
    ∙ ap (list_any test) (map-append (header_bytes buf) (take i headers) (get_or headers i d ∷ []))
    ∙ list_any-append test before (one ∷ [])
    ∙ ap (λ (b : Bool). list_any test before || b) (or_none (test one)) in
    ap (λ (b : Bool). b || now) so ∙ ap (λ (b : Bool). list_any test before || b) here ∙ sym whole

-- a header of another name says nothing of the length
pub length_behind : (headers : List (List ℕ × List ℕ)) (header : List ℕ × List ℕ) → same_text header.0 (codes "content-length") ≡ false → said_length (header ∷ headers) ≡ said_length headers
length_behind headers header other = ap (λ (b : Bool). cond b (number_in header.1) (said_length headers)) other

pub length_more : (buf : List ℕ) (headers : List HeaderSpan) (i : ℕ) (d : HeaderSpan) → i < length headers → same_text (header_bytes buf (get_or headers i d)).0 (codes "content-length") ≡ false → said_length (map (header_bytes buf) (drop i headers)) ≡ said_length (map (header_bytes buf) (drop (i + 1) headers))
length_more buf headers i d small other =
    at_drop_more (λ (hs : List HeaderSpan). said_length (map (header_bytes buf) hs)) headers i d small
    ∙ length_behind (map (header_bytes buf) (drop (i + 1) headers)) (header_bytes buf (get_or headers i d)) other
