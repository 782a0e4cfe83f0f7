-- Zeros before a number.
use Rattle.std.proofs.Common.{◌≡◌, ℕ, ◌-◌, ◌∷◌, [], ◌++◌, List, take, replicate, arith, ap, ◌∙◌, append_assoc}
use Rattle.std.proofs.lemmas.List.{take-replicate}

zeros_before : (n : ℕ) → take (5 - n) (48 ∷ 48 ∷ 48 ∷ 48 ∷ 48 ∷ []) ≡ replicate {A = ℕ} (5 - n) 48
zeros_before n = take-replicate {X = ℕ} (5 - n) 5 48 (omega arith)

-- zeros, and then the digits
pub padded : (text once twice digits : List ℕ) (n : ℕ) → once ≡ text ++ take (5 - n) (48 ∷ 48 ∷ 48 ∷ 48 ∷ 48 ∷ [])
    → twice ≡ once ++ digits → twice ≡ text ++ (replicate {A = ℕ} (5 - n) 48 ++ digits)
padded text once twice digits n first second = second
    ∙ ap (λ l. l ++ digits) (first ∙ ap (λ l. text ++ l) (zeros_before n))
    ∙ append_assoc text (replicate {A = ℕ} (5 - n) 48) digits
