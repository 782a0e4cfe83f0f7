-- What stands before the first element that passes.
use Rattle.std.proofs.Common.{◌≡◌, ℕ, ◌≤◌, nat_lt, Bool, true, false, cond, not, List, length, take, Some, None}
use Rattle.std.proofs.Common.{refl, sym, ap, arith}
use Rattle.std.specs.List.{position, position_or_len, before_first}
use Rattle.std.proofs.lemmas.List.{take_all}
use Rattle.std.proofs.lemmas.List.Sums.{prefix_len-le-length}
use Rattle.std.proofs.lemmas.Bool.Decides.{nat_tests}

picked : (b : Bool) (m n : ℕ) → Some n ≡ cond b (Some m) None → n ≡ m
picked true m n e = cc e
picked false m n e = absurd (cc e)

passed_over : (b : Bool) (m : ℕ) → None ≡ cond b (Some m) None → b ≡ false
passed_over true m e = absurd (cc e)
passed_over false m e = refl

not_below : (a b : ℕ) → nat_lt a b ≡ false → b ≤ a
not_below a b e = grind (arith, nat_tests)

at_some : {X : Type 0} (p : X → Bool) (xs : List X) (n : ℕ) → Some n ≡ position p xs
    → n ≡ position_or_len p xs
at_some p xs n e = picked (nat_lt (position_or_len p xs) (length xs)) (position_or_len p xs) n e

pub within_len : {X : Type 0} (p : X → Bool) (xs : List X) (n : ℕ) → Some n ≡ position p xs → n ≤ length xs
within_len p xs n e = let le = prefix_len-le-length (λ x. not (p x)) xs in omega (arith, le, at_some p xs n e)

pub before_some : {X : Type 0} (p : X → Bool) (xs : List X) (n : ℕ) → Some n ≡ position p xs
    → take n xs ≡ before_first p xs
before_some p xs n e = ap (λ (k : ℕ). take k xs) (at_some p xs n e)

pub before_none : {X : Type 0} (p : X → Bool) (xs : List X) → None ≡ position p xs → xs ≡ before_first p xs
before_none p xs e =
    let len = position_or_len p xs in
    sym (take_all len xs (not_below len (length xs) (passed_over (nat_lt len (length xs)) len e)))
