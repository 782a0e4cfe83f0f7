-- A test of the texts behind borrowed ones.
use Rattle.std.proofs.Common.{◌≡◌, ℕ, ◌||◌, Bool, List, [], ◌∷◌, Bor, refl, ap}
use Rattle.std.specs.List.{list_any}
use Rattle.query_read.specs.Faults.{names}

pub any_names : (p : List ℕ → Bool) (ks : List (Bor (List ℕ))) → list_any (λ k. p k.now) ks ≡ list_any p (names ks)
any_names p [] = refl
any_names p (k ∷ ks) = ap (λ b. p k.now || b) (any_names p ks)
