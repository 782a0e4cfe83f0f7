-- The number of a name that asks for a ref.
use Rattle.std.proofs.Common.{◌≡◌, ◌<◌, ◌^◌, ℕ, Bool, true, false, cond, List, ◌++◌, take, drop}
use Rattle.std.proofs.Common.{Option, Some, None, refl, sym, ap, ◌∙◌}
use Rattle.std.specs.Prelude.{decimal, codes, bytes_eq, ◌==◌, option_and_then}
use Rattle.std.specs.Bool.{Decides}
use Rattle.std.proofs.lemmas.Bool.{cond-true}
use Rattle.std.proofs.lemmas.Bool.Decides.{Decides-eqb, same_from_decides}
use Rattle.std.proofs.lemmas.List.{take-append-drop}
use Rattle.std.proofs.lemmas.Slice.Eq.{bytes_eq-Decides}
use Rattle.blob_routes.specs.Numbers.{number_in}
use Rattle.blob_routes.specs.Places.{name_of}
use Rattle.blob_routes.specs.Taking.{written_as, number_of}
use Rattle.blob_routes.proofs.Digits.{number_in-decimal}

-- whether a name has this number
abbrev pub is_number : ℕ → Option ℕ → Bool
is_number n None = false
is_number n (Some k) = k == n

some_when : {A : Type 0} (b : Bool) (o : Option A) (x : A) → cond b o None ≡ Some x → (b ≡ true) × (o ≡ Some x)
some_when true o x h = (refl, h)
some_when false o x h = absurd (cc h)

written : (digits : List ℕ) (o : Option ℕ) (k : ℕ) → option_and_then (written_as digits) o ≡ Some k
    → decimal k ≡ digits
written digits None k h = absurd (cc h)
written digits (Some n) k h =
    let found = some_when (bytes_eq (decimal n) digits) (Some n) k h in
    let same : n ≡ k = cc (found.1) in
    ap decimal (sym same) ∙ (bytes_eq-Decides (decimal n) digits).0 found.0

-- a name with a number is the name of that number
number_is : (name : List ℕ) (k : ℕ) → number_of name ≡ Some k → name ≡ name_of k
number_is name k h =
    let found = some_when (bytes_eq (take 4 name) (codes "blob")) _ k h in
    let front : take 4 name ≡ codes "blob" = (bytes_eq-Decides (take 4 name) (codes "blob")).0 found.0 in
    let digits : decimal k ≡ drop 4 name = written (drop 4 name) (number_in (drop 4 name)) k found.1 in
    sym (take-append-drop 4 name)
    ∙ ap (λ (t : List ℕ). t ++ drop 4 name) front
    ∙ ap (λ (t : List ℕ). codes "blob" ++ t) (sym digits)

-- the name of a number has it
numbered : (n : ℕ) → n < 10 ^ 9 → number_of (name_of n) ≡ Some n
numbered n small =
    ap (option_and_then (written_as (decimal n))) (number_in-decimal n small)
    ∙ cond-true _ _ _ ((bytes_eq-Decides (decimal n) (decimal n)).1 refl)

by_number : (name : List ℕ) (n : ℕ) (o : Option ℕ) → number_of name ≡ o → n < 10 ^ 9
    → Decides (is_number n o) (name ≡ name_of n)
by_number name n None h small = (
  (λ e. absurd (cc e)),
  λ e. absurd (cc (sym h ∙ ap number_of e ∙ numbered n small)),
)
by_number name n (Some k) h small = (
  (λ e. number_is name k h ∙ ap name_of ((Decides-eqb k n).0 e)),
  λ e. (Decides-eqb k n).1 (cc (sym h ∙ ap number_of e ∙ numbered n small)),
)

-- so names are told apart by their numbers
pub told_by_number : (name : List ℕ) (n : ℕ) → n < 10 ^ 9
    → bytes_eq name (name_of n) ≡ is_number n (number_of name)
told_by_number name n small =
    same_from_decides (bytes_eq name (name_of n)) (is_number n (number_of name))
    (bytes_eq-Decides name (name_of n)) (by_number name n (number_of name) refl small)
