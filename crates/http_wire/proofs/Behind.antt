-- Bytes that are put behind others.
use Rattle.std.proofs.Common.{◌≡◌, ℕ, ◌+◌, ◌≤◌, List, ◌++◌, length, take, drop, sym, ap, ◌∙◌, arith}
use Rattle.std.proofs.Math.Seq.{take-append-add}
use Rattle.std.proofs.lemmas.List.{length-take-le, drop-append-le, take-append-le}

pub behind : (xs ys post : List ℕ) (from a n : ℕ) → from ≤ a → a ≤ length xs → n ≤ length ys → drop from (take (a + n) (take a xs ++ (ys ++ post))) ≡ drop from (take a xs) ++ take n ys
behind xs ys post from a n small within few =
    let len : length (take a xs) ≡ a = length-take-le a xs within in
    let front : take (a + n) (take a xs ++ (ys ++ post)) ≡ take a xs ++ take n ys =
    ap (λ (k : ℕ). take (k + n) (take a xs ++ (ys ++ post))) (sym len) ∙ take-append-add (take a xs) (ys ++ post) n ∙ ap (λ (r : List ℕ). take a xs ++ r) (take-append-le n ys post few) in
    ap (drop from) front ∙ drop-append-le from (take a xs) (take n ys) (omega (arith, len))
