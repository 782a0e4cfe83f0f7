-- Parts of a target.
use Rattle.std.proofs.Common.{◌≡◌, ℕ, ◌+◌, ◌-◌, ◌<◌, ◌≤◌, Bool, true, false, cond, List, length, take, drop, Some, None, refl, sym, ap, ◌∙◌, arith, length-drop}
use Rattle.std.specs.Prelude.{slice_range, nat_lt, not}
use Rattle.std.specs.List.{position, position_or_len}
use Rattle.std.proofs.lemmas.List.{take-take, drop-take, drop-drop, drop_all, nil_from_length, length-take, length-take-le}
use Rattle.std.proofs.lemmas.List.Sums.{prefix_len-le-length}
use Rattle.std.proofs.lemmas.Bool.Decides.{nat_tests}
use Rattle.httparse.specs.Spans.{span_bytes, IsWithin}
use Rattle.httparse.specs.declared.spans.Span.{Span}
use Rattle.http_wire.specs.Heads.{IsPieceOf, is_question, path_of, query_of}

picked : (b : Bool) (m n : ℕ) → Some n ≡ cond b (Some m) None → n ≡ m
picked true m n e = cc e
picked false m n e = absurd (cc e)

passed_over : (b : Bool) (m : ℕ) → None ≡ cond b (Some m) None → b ≡ false
passed_over true m e = absurd (cc e)
passed_over false m e = refl

not_below : (a b : ℕ) → nat_lt a b ≡ false → a ≤ b → b ≡ a
not_below a b e le = grind (arith, nat_tests)

pub at_some : (p : ℕ → Bool) (xs : List ℕ) (n : ℕ) → Some n ≡ position p xs → n ≡ position_or_len p xs
at_some p xs n e = picked (nat_lt (position_or_len p xs) (length xs)) (position_or_len p xs) n e

pub at_none : (p : ℕ → Bool) (xs : List ℕ) → None ≡ position p xs → length xs ≡ position_or_len p xs
at_none p xs e = not_below (position_or_len p xs) (length xs) (passed_over (nat_lt (position_or_len p xs) (length xs)) (position_or_len p xs) e) (prefix_len-le-length (λ x. not (p x)) xs)

pub within_len : (p : ℕ → Bool) (xs : List ℕ) (n : ℕ) → n ≡ position_or_len p xs → n ≤ length xs
within_len p xs n e = let le = prefix_len-le-length (λ x. not (p x)) xs in omega (arith, le, e)

range_len : (text : List ℕ) (s e : ℕ) → e ≤ length text → length (slice_range text s e) ≡ e - s
range_len text s e fits = length-take-le (e - s) (drop s text) (omega (arith, length-drop s text))

front_of : (text : List ℕ) (s e n : ℕ) → s + n ≤ e → slice_range text s (s + n) ≡ take n (slice_range text s e)
front_of text s e n fits =
    let len : (s + n) - s ≡ n = omega arith in
    ap (λ (k : ℕ). take k (drop s text)) len ∙ sym (take-take n (e - s) (drop s text) (omega arith))

rest_of : (text : List ℕ) (s e n m : ℕ) → e - s ≡ (n + 1) + m → e - (s + n + 1) ≡ m → slice_range text (s + n + 1) e ≡ drop (n + 1) (slice_range text s e)
rest_of text s e n m len left =
    let past : drop (n + 1) (drop s text) ≡ drop (s + n + 1) text = drop-drop (n + 1) s text ∙ ap (λ (k : ℕ). drop k text) (omega arith) in
    ap (λ (k : ℕ). take k (drop (s + n + 1) text)) left ∙ ap (take m) (sym past) ∙ sym (drop-take (n + 1) m (drop s text)) ∙ ap (λ (k : ℕ). drop (n + 1) (take k (drop s text))) (sym len)

none_of : (text : List ℕ) (s e n : ℕ) → e - s ≤ n → slice_range text e e ≡ drop (n + 1) (slice_range text s e)
none_of text s e n few =
    nil_from_length (slice_range text e e) (length-take (e - e) (drop e text) ∙ omega arith) ∙ sym (drop_all (n + 1) (slice_range text s e) (omega (arith, length-take (e - s) (drop s text))))

pub path_piece : (text bytes : List ℕ) (span : Span) (len : ℕ) → IsWithin (length text) span → bytes ≡ span_bytes text span → len ≡ position_or_len is_question bytes → len ≤ length bytes → IsPieceOf text (record { start = span.start; end = span.start + len }) (path_of (span_bytes text span))
path_piece text bytes span len inside same is within =
    let size : length bytes ≡ span.end - span.start = ap length same ∙ range_len text span.start span.end inside.1 in
    let here : len ≡ position_or_len is_question (span_bytes text span) = is ∙ ap (position_or_len is_question) same in
    (omega arith, omega (arith, inside.0, inside.1, size), front_of text span.start span.end len (omega (arith, inside.0, size)) ∙ ap (λ (n : ℕ). take n (span_bytes text span)) here)

pub query_piece : (text bytes : List ℕ) (span : Span) (len : ℕ) → IsWithin (length text) span → bytes ≡ span_bytes text span → len ≡ position_or_len is_question bytes → len ≤ length bytes → (len ≡ length bytes → ⊥) → IsPieceOf text (record { start = span.start + len + 1; end = span.end }) (query_of (span_bytes text span))
query_piece text bytes span len inside same is within other =
    let size : length bytes ≡ span.end - span.start = ap length same ∙ range_len text span.start span.end inside.1 in
    let here : len ≡ position_or_len is_question (span_bytes text span) = is ∙ ap (position_or_len is_question) same in
    let some : len < length bytes = omega (arith, within, other) in
    (omega (arith, inside.0, size, some), inside.1, rest_of text span.start span.end len (span.end - (span.start + len + 1)) (omega (arith, inside.0, size, some)) refl ∙ ap (λ (n : ℕ). drop (n + 1) (span_bytes text span)) here)

pub no_query : (text bytes : List ℕ) (span : Span) (len : ℕ) → IsWithin (length text) span → bytes ≡ span_bytes text span → len ≡ position_or_len is_question bytes → len ≡ length bytes → IsPieceOf text (record { start = span.end; end = span.end }) (query_of (span_bytes text span))
no_query text bytes span len inside same is whole =
    let size : length bytes ≡ span.end - span.start = ap length same ∙ range_len text span.start span.end inside.1 in
    let here : len ≡ position_or_len is_question (span_bytes text span) = is ∙ ap (position_or_len is_question) same in
    (omega arith, inside.1, none_of text span.start span.end len (omega (arith, size, whole)) ∙ ap (λ (n : ℕ). drop (n + 1) (span_bytes text span)) here)
