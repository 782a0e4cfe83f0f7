-- Headers that ask that the connection closes.
use Rattle.std.proofs.Common.{◌≡◌, ℕ, ◌+◌, ◌<◌, Bool, true, false, ◌||◌, List, [], ◌∷◌, length, take, map, get_or, refl, sym, ap, ◌∙◌}
use Rattle.std.specs.List.{list_any}
use Rattle.std.proofs.lemmas.List.{take_more, map-append}
use Rattle.std.proofs.lemmas.List.Folds.{list_any-append}
use Rattle.httparse.specs.Spans.{header_bytes}
use Rattle.httparse.specs.declared.spans.HeaderSpan.{HeaderSpan}
use Rattle.http_wire.specs.Heads.{is_closing}

or_none : (b : Bool) → (b || false) ≡ b
or_none true = refl
or_none false = refl

-- whether one more header closes
pub closing_more : (buf : List ℕ) (headers : List HeaderSpan) (i : ℕ) (d : HeaderSpan) (closes now : Bool) → i < length headers → closes ≡ list_any is_closing (map (header_bytes buf) (take i headers)) → now ≡ is_closing (header_bytes buf (get_or headers i d)) → (closes || now) ≡ list_any is_closing (map (header_bytes buf) (take (i + 1) headers))
closing_more buf headers i d closes now small so here =
    let before = map (header_bytes buf) (take i headers) in
    let one = header_bytes buf (get_or headers i d) in
    let whole : list_any is_closing (map (header_bytes buf) (take (i + 1) headers)) ≡ (list_any is_closing before || is_closing one) =
    ap (λ (hs : List HeaderSpan). list_any is_closing (map (header_bytes buf) hs)) (take_more headers i d small)
    ∙ ap (list_any is_closing) (map-append (header_bytes buf) (take i headers) (get_or headers i d ∷ []))
    ∙ list_any-append is_closing before (one ∷ [])
    ∙ ap (λ (b : Bool). list_any is_closing before || b) (or_none (is_closing one)) in
    ap (λ (b : Bool). b || now) so ∙ ap (λ (b : Bool). list_any is_closing before || b) here ∙ sym whole
