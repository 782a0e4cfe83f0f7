-- The bytes of a pack's tail, as far as a crash leaves them.
use Rattle.std.proofs.Common.{◌≡◌, ℕ, ◌≤◌, min, List, ◌++◌, length, take, drop, refl, arith, ⊎_elim}
use Rattle.std.proofs.lemmas.List.{take_all, drop_all}
use Rattle.std.proofs.lemmas.Bool.{cases_lt}

-- a text over the front of another, as far as both go
pub over_front : (text bytes : List ℕ) (n : ℕ) → n ≡ min (length text) (length bytes) → take n text ++ drop n bytes ≡ take (length bytes) text ++ drop (length text) bytes
over_front text bytes n is = ⊎_elim
    (λ lt.
    let le : length text ≤ length bytes = omega (arith, lt) in
    let e : n ≡ length text = omega (arith, is, le) in
    rw (e, take_all (length text) text (omega arith), take_all (length bytes) text le) refl)
    (λ ge.
    let e : n ≡ length bytes = omega (arith, is, ge) in
    rw (e, drop_all (length bytes) bytes (omega arith), drop_all (length text) bytes (omega (arith, ge))) refl)
    (cases_lt (length text) (length bytes))
