-- What a contract sees of an index.
use Rattle.std.specs.Prelude.{◌≡◌, ℕ, Bool, true, false, List, [], ◌∷◌}
use Rattle.std.specs.Coded.{Coded, code_by, coded_ℕ, coded_list, coded×, coded_bool}
use base.Stored.{coded_unit}
use Rattle.std.specs.FinMap.{code, contains_key, insert}
use Rattle.edge_base.specs.declared.answers.Inserted.{Inserted}
use Rattle.edge_base.specs.declared.answers.Inserted.TheVariants.{New, Already}
use Rattle.schema_fact.specs.declared.kinds.Fact.{Fact}
use Rattle.schema_fact.specs.contracts.kinds.Fact as fact
use Rattle.claim_model.specs.Facts.{Entry, Facts}
use Rattle.claim_index.specs.Numbers.{NumberSet}

-- the facts that were inserted, their numbers, the keys, and whether the other tables can't be used
pub record Indexed (V : Type 0) : Type 0 where
  pub facts : Facts
  pub numbers : NumberSet
  pub keys : V
  pub stale : Bool

abbrev pub indexed_code : {V : Type 0} → Coded V → Coded (Indexed V)
indexed_code {V} keys =
    code_by ((Facts × NumberSet) × (V × Bool))
    (coded× (coded× (code (coded_list coded_ℕ) fact.the_row.coded) (code coded_ℕ coded_unit)) (coded× keys coded_bool))
    (λ a. ((a.facts, a.numbers), (a.keys, a.stale)))
    (λ p. record { facts = p.0.0; numbers = p.0.1; keys = p.1.0; stale = p.1.1 }) (λ a i. a)

-- the facts and the numbers are unchanged
pub record IsSame {V : Type 0} (old new : Indexed V) : Type 0 where
  pub facts : new.facts ≡ old.facts
  pub numbers : new.numbers ≡ old.numbers

-- a fact was put under a new number and its ref
pub record IsPut {V : Type 0} (old new : Indexed V) (number : ℕ) (r : List ℕ) (fact : Fact) : Type 0 where
  pub fresh : contains_key old.numbers number ≡ false
  pub facts : new.facts ≡ insert old.facts r fact
  pub numbers : new.numbers ≡ insert old.numbers number tt

-- the index after an insert, by its result
abbrev pub Inserts : {V : Type 0} → Indexed V → Indexed V → ℕ → List ℕ → Fact → Inserted → Type 0
Inserts old new number r fact New = IsPut old new number r fact
Inserts old new number r fact Already = IsSame old new × (contains_key old.numbers number ≡ true)

-- facts, with those of a list put among them: of those under the same ref the first one is kept
abbrev pub with_all : Facts → List Entry → Facts
with_all facts [] = facts
with_all facts (e ∷ es) = insert (with_all facts es) e.0 e.1
