-- One level of a constraint.
use Rattle.std.proofs.Common.{◌≡◌, ℕ, zero, suc, ◌-◌, refl, sym, ap, arith}
use Rattle.query_read.specs.Grammar.{constraint_fault, parts_fault}
use Rattle.query_read.specs.Values.{constraint_of, parts_of}

less_one : (n : ℕ) → suc n - 1 ≡ n
less_one n = omega arith

pub fault_level : (n : ℕ) → (n ≡ 0 → ⊥) → constraint_fault n ≡ parts_fault (constraint_fault (n - 1))
fault_level zero h = absurd (h refl)
fault_level (suc n) h = ap (λ k. parts_fault (constraint_fault k)) (sym (less_one n))

pub value_level : (n : ℕ) → (n ≡ 0 → ⊥) → constraint_of n ≡ parts_of (constraint_of (n - 1))
value_level zero h = absurd (h refl)
value_level (suc n) h = ap (λ k. parts_of (constraint_of k)) (sym (less_one n))
