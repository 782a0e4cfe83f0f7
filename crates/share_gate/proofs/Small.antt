-- Truth values, and refs that are equal.
use Rattle.std.proofs.Common.{◌≡◌, ℕ, ◌&&◌, ◌||◌, Bool, true, false, cond, List, Option, None, refl}
use Rattle.std.specs.Str.{bytes_eq}
use Rattle.std.proofs.lemmas.Slice.Eq.{bytes_eq-Decides}

pub or_true : (b : Bool) → (b || true) ≡ true
or_true true = refl
or_true false = refl

pub or_false : (b : Bool) → (b || false) ≡ b
or_false true = refl
or_false false = refl

pub and_false : (b : Bool) → (b && false) ≡ false
and_false true = refl
and_false false = refl

pub cond_none : {X : Type 0} (b : Bool) → cond {A = Option X} b None None ≡ None
cond_none true = refl
cond_none false = refl

pub same : (p r : List ℕ) → bytes_eq p r ≡ true → p ≡ r
same p r e = (bytes_eq-Decides p r).0 e
