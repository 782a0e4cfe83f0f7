-- Bytes within a line, none of them a line feed.
use Rattle.std.proofs.Common.{◌≡◌, ◌==◌, ℕ, zero, suc, ◌<◌, ◌≤◌, false, if◌then◌else◌, List, [], ◌∷◌, length, drop, get_or, Option, Some, None, sym, ap, ◌∙◌, arith}
use Rattle.std.specs.Option.{unwrap_or}
use Rattle.std.proofs.lemmas.Bool.{false_from_ne_true}
use Rattle.memchr.specs.Find.{IsFirstByte, is_byte}
use Rattle.http_wire.specs.declared.line_state.LineState.TheVariants.{Line, Next}
use Rattle.http_wire.specs.Lines.{further, after_step, scanned}
use Rattle.http_wire.proofs.Seams.{further-zero, further-further}

-- these leave the reader in the line
line_goes_on : (n : ℕ) (xs : List ℕ) → n ≤ length xs → ((k : ℕ) → k < n → (get_or xs k 0 == 10) ≡ false) → further n (scanned Line (drop n xs)) ≡ scanned Line xs
line_goes_on zero xs le none = further-zero (scanned Line xs)
line_goes_on (suc n) [] le none = absurd (omega arith)
line_goes_on (suc n) (x ∷ xs) le none =
    ap (λ (k : ℕ). further k (scanned Line (drop n xs))) (omega arith)
    ∙ sym (further-further 1 n (scanned Line (drop n xs)))
    ∙ ap (further 1) (line_goes_on n xs (omega arith) (λ k less. none (suc k) (omega arith)))
    ∙ sym (ap (λ b. after_step (if b then Some Next else Some Line) (λ next. scanned next xs)) (none zero (omega arith)))

-- the first line feed, or the end
pub line_passed : (xs : List ℕ) (first : Option ℕ) → IsFirstByte (is_byte 10) xs first
    → further (unwrap_or first (length xs)) (scanned Line (drop (unwrap_or first (length xs)) xs)) ≡ scanned Line xs
line_passed xs None none = line_goes_on (length xs) xs (omega arith) (λ k less. false_from_ne_true _ (none k (omega arith) less))
line_passed xs (Some i) first = line_goes_on i xs (omega (arith, first.0.high)) (λ k less. false_from_ne_true _ (first.0.before k (omega arith) less))
