-- The values of headers.
use Rattle.std.proofs.Common.{◌≡◌, ℕ, ◌+◌, ◌<◌, Bool, true, false, cond, List, [], ◌∷◌, ◌++◌, length, take, map, get_or, Some, refl, sym, ap, ◌∙◌}
use Rattle.std.specs.Str.{bytes_eq}
use Rattle.std.specs.Char.{to_ascii_lowercase}
use Rattle.std.proofs.lemmas.List.{take_more, map-append, append-nil}
use Rattle.std.proofs.lemmas.List.Concat.{flat_map-append}
use Rattle.std.proofs.lemmas.Slice.Eq.{bytes_eq-Decides}
use Rattle.httparse.specs.Spans.{header_bytes, span_bytes}
use Rattle.httparse.specs.declared.spans.HeaderSpan.{HeaderSpan}
use Rattle.httparse.specs.declared.spans.Span.{Span}
use Rattle.http_wire.specs.declared.fields.Values.{Values}
use Rattle.http_wire.specs.declared.fields.Values.TheVariants as seen
use Rattle.http_wire.specs.declared.head.Piece.{Piece}
use Rattle.http_wire.specs.Heads.{AreValues, values, value_at, IsPieceOf, IsFirstOf}

pub one_then : (buf : List ℕ) (found : Values) (first value : Span) → found ≡ seen.One first → (before : List (List ℕ)) → AreValues buf before found → AreValues buf (before ++ span_bytes buf value ∷ []) (seen.More first)
one_then buf found first value is before h =
    let one = rw is at h in
    (span_bytes buf value, [], ap (λ (vs : List (List ℕ)). vs ++ span_bytes buf value ∷ []) one.0, one.1)

pub more_then : (buf : List ℕ) (found : Values) (first value : Span) → found ≡ seen.More first → (before : List (List ℕ)) → AreValues buf before found → AreValues buf (before ++ span_bytes buf value ∷ []) (seen.More first)
more_then buf found first value is before h =
    let more = rw is at h in
    (more.0, more.1 ++ span_bytes buf value ∷ [], ap (λ (vs : List (List ℕ)). vs ++ span_bytes buf value ∷ []) more.2, more.3)

same_yes : (a b : List ℕ) → a ≡ b → bytes_eq a b ≡ true
same_yes a b e = (bytes_eq-Decides a b).1 e

pub value_yes : (name key value : List ℕ) → map to_ascii_lowercase key ≡ map to_ascii_lowercase name → value_at name (key, value) ≡ value ∷ []
value_yes name key value same = ap (λ (b : Bool). cond b (value ∷ []) []) (same_yes (map to_ascii_lowercase key) (map to_ascii_lowercase name) same)

pub values_more : (name buf : List ℕ) (headers : List HeaderSpan) (i : ℕ) (d : HeaderSpan) → i < length headers → values name (map (header_bytes buf) (take (i + 1) headers)) ≡ values name (map (header_bytes buf) (take i headers)) ++ value_at name (header_bytes buf (get_or headers i d))
values_more name buf headers i d small =
    ap (λ (hs : List HeaderSpan). values name (map (header_bytes buf) hs)) (take_more headers i d small)
    ∙ ap (values name) (map-append (header_bytes buf) (take i headers) (get_or headers i d ∷ []))
    ∙ flat_map-append (value_at name) (map (header_bytes buf) (take i headers)) (header_bytes buf (get_or headers i d) ∷ [])
    ∙ ap (λ (vs : List (List ℕ)). values name (map (header_bytes buf) (take i headers)) ++ vs) (append-nil (value_at name (header_bytes buf (get_or headers i d))))

decided : (r b : Bool) (P : Type 0) → (r ≡ true → P) × (P → r ≡ true) → (b ≡ true → P) × (P → b ≡ true) → r ≡ b
decided true true P h d = refl
decided true false P h d = sym (d.1 (h.0 refl))
decided false true P h d = h.1 (d.0 refl)
decided false false P h d = refl

-- a test for equal texts is the test
pub told_same : (r : Bool) (a b : List ℕ) → (r ≡ true → a ≡ b) × (a ≡ b → r ≡ true) → r ≡ bytes_eq a b
told_same r a b h = decided r (bytes_eq a b) (a ≡ b) h (bytes_eq-Decides a b)

pub first_one : (buf : List ℕ) (found : List (List ℕ)) (span : Span) (p : Piece) → AreValues buf found (seen.One span) → IsPieceOf buf p (span_bytes buf span) → IsFirstOf buf found (Some p)
first_one buf found span p h at = (span_bytes buf span, [], h.0, at)

pub first_more : (buf : List ℕ) (found : List (List ℕ)) (span : Span) (p : Piece) → AreValues buf found (seen.More span) → IsPieceOf buf p (span_bytes buf span) → IsFirstOf buf found (Some p)
first_more buf found span p h at = (span_bytes buf span, h.0 ∷ h.1, h.2, at)
