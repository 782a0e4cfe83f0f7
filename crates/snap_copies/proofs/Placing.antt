-- What a place leaves, where no fact stood under the ref.
use Rattle.std.proofs.Common.{◌≡◌, Bool, true, false, ◌||◌, cond, refl, sym, ap, ◌∙◌}
use Rattle.std.proofs.lemmas.Bool.{false≢true}
use Rattle.std.specs.FinMap.{contains_key, insert}
use Rattle.index_rows.specs.Loose.{LooseRow}
use Rattle.claim_index.specs.Indexed.{Indexed, IsPut, IsSame}
use Rattle.snap_copies.specs.Copies.{facts_with, numbers_with}

or_absent : (a b : Bool) → a ≡ false → b ≡ (a || b)
or_absent true b e = absurd (false≢true (sym e))
or_absent false b e = refl

module _ {V : Type 0} (old new : Indexed V) (made : LooseRow) (absent : contains_key old.facts made.1 ≡ false)
    (put : contains_key old.numbers made.0 ≡ false → IsPut old new made.0 made.1 made.2)
    (stood : contains_key old.numbers made.0 ≡ true → IsSame old new) where
  pub placed_facts : new.facts ≡ facts_with old.facts old.numbers made
  placed_facts = by (contains_key old.numbers made.0) refl
      ∙ ap (λ (b : Bool). cond b old.facts (insert old.facts made.1 made.2))
      (or_absent (contains_key old.facts made.1) (contains_key old.numbers made.0) absent)
    where
      by : (b : Bool) → contains_key old.numbers made.0 ≡ b → new.facts ≡ cond b old.facts (insert old.facts made.1 made.2)
      by true e = (stood e).facts
      by false e = (put e).facts

  pub placed_numbers : new.numbers ≡ numbers_with old.facts old.numbers made
  placed_numbers = by (contains_key old.numbers made.0) refl
      ∙ ap (λ (b : Bool). cond b old.numbers (insert old.numbers made.0 tt))
      (or_absent (contains_key old.facts made.1) (contains_key old.numbers made.0) absent)
    where
      by : (b : Bool) → contains_key old.numbers made.0 ≡ b → new.numbers ≡ cond b old.numbers (insert old.numbers made.0 tt)
      by true e = (stood e).numbers
      by false e = (put e).numbers
