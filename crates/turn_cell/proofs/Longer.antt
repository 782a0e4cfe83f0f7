-- What holds of the longer of two histories.
use Rattle.std.proofs.Common.{◌≡◌, ℕ, ◌≤◌, ⊎_elim, List, max, ap, arith}
use mathlib.Core.List.{IsPrefix}
use Rattle.histories.specs.declared.stamped.Stamped.{Stamped}
use Rattle.histories.specs.History.{IsLonger}

module _ {E : Type 0} where
  -- what holds of both
  pub longer_keeps : (P : List (Stamped E) → Type 0) (x y z : List (Stamped E)) → IsLonger x y z → P x → P y → P z
  longer_keeps P x y z longer p q =
      ⊎_elim (λ (t : (z ≡ x) × IsPrefix y x). rw t.0 p) (λ (t : (z ≡ y) × IsPrefix x y). rw t.0 q) longer

  -- the greater of two counts that grow
  pub longer_counts : (count : List (Stamped E) → ℕ) → ((x y : List (Stamped E)) → IsPrefix x y → count x ≤ count y)
      → (x y z : List (Stamped E)) (m n k : ℕ) → k ≡ max m n → IsLonger x y z → m ≡ count x → n ≡ count y → k ≡ count z
  longer_counts count grows x y z m n k greater longer is other =
      ⊎_elim (λ (t : (z ≡ x) × IsPrefix y x). let le = grows y x t.1 in let e = ap count t.0 in omega (arith, greater, le, e, is, other))
      (λ (t : (z ≡ y) × IsPrefix x y). let le = grows x y t.1 in let e = ap count t.0 in omega (arith, greater, le, e, is, other)) longer
