-- What a place leaves, where no fact stood under the ref.
use Rattle.std.proofs.Common.{◌≡◌, ℕ, Bool, true, false, ◌||◌, cond, nat_eq, refl, sym, ap, ◌∙◌}
use Rattle.std.specs.FinMap.{contains_key, insert}
use Rattle.index_rows.specs.Loose.{LooseRow, with_row}
use Rattle.claim_index.specs.Indexed.{Indexed, IsPut, IsSame}
use Rattle.claim_index.specs.Numbers.{NumberSet}
use Rattle.work_numbers.proofs.Numbers.{has_given}

or_known : (a b : Bool) → b ≡ true → (a || b) ≡ true
or_known true b e = refl
or_known false b e = e

module _ {V : Type 0} (old new : Indexed V) (made : LooseRow) (put : contains_key old.numbers made.0 ≡ false → IsPut old new made.0 made.1 made.2) where
  pub placed_facts : contains_key old.facts made.1 ≡ false → contains_key old.numbers made.0 ≡ false → new.facts ≡ with_row old.facts made
  placed_facts absent fresh = (put fresh).facts ∙ sym (ap (λ (b : Bool). cond b old.facts (insert old.facts made.1 made.2)) absent)

  pub placed_numbers : (contains_key old.numbers made.0 ≡ true → IsSame old new) → (n : ℕ) → contains_key new.numbers n ≡ true
      → (nat_eq made.0 n || contains_key old.numbers n) ≡ true
  placed_numbers stood n there = by (contains_key old.numbers made.0) refl
    where
      by : (b : Bool) → contains_key old.numbers made.0 ≡ b → (nat_eq made.0 n || contains_key old.numbers n) ≡ true
      by true e = or_known (nat_eq made.0 n) (contains_key old.numbers n)
          (ap (λ (s : NumberSet). contains_key s n) (sym (stood e).numbers) ∙ there)
      by false e = sym (has_given old.numbers made.0 tt n) ∙ ap (λ (s : NumberSet). contains_key s n) (sym (put e).numbers) ∙ there
