-- What a line asks meets the conditions of a query.
use Rattle.std.proofs.Common.{◌≡◌, ◌≢◌, ℕ, suc, Bool, true, false, ◌&&◌, List, [], ◌∷◌, length, nat_lt, refl, Option, Some, None, arith}
use Rattle.std.proofs.lemmas.Bool.{ltb-false}
use Rattle.search_query.specs.declared.query.Op.TheVariants.{And, Or, Not}
use Rattle.search_query.specs.Mirror.{Asked}
use Rattle.search_query.specs.Valid.{operands_fit}
use Rattle.search_words.specs.Asking.{both, either, negation, has_attr, has_value}
use Rattle.search_words.specs.Laws.{AsksValidly}
use Rattle.search_words.specs.Grammar.{IsWord, tag, title, attr, has, ref, childrenof, IsAtom, word, group, IsUnit, atom, minus, IsAnd, unit, and, IsOr, one, or, IsLine, line}

some_length : (k : ℕ) → nat_lt 0 (suc k) ≡ true
some_length k = by (nat_lt 0 (suc k)) refl
  where
    by : (b : Bool) → nat_lt 0 (suc k) ≡ b → b ≡ true
    by true e = refl
    by false e = absurd (omega (arith, ltb-false 0 (suc k) e))

value_valid : (n v : List ℕ) → n ≢ [] → AsksValidly (has_value n v)
value_valid [] v some = absurd (some refl)
value_valid (x ∷ n) v some = (refl, (λ i. some_length (length n) i && true && true && true && true))

name_valid : (n : List ℕ) → n ≢ [] → AsksValidly (has_attr n)
name_valid [] some = absurd (some refl)
name_valid (x ∷ n) some = (refl, (λ i. some_length (length n) i && true && true && true && true))

word_valid : {text : List ℕ} {a : Asked} → IsWord text a → AsksValidly a
word_valid (tag t) = (refl, refl)
word_valid (title t) = (refl, refl)
word_valid (attr {name} {n} {text} {v} r some t) = value_valid n v some
word_valid (has {name} {n} r some) = name_valid n some
word_valid (ref t) = (refl, refl)
word_valid (childrenof r is) = (refl, refl)

both_valid : (a b : Asked) → AsksValidly a → AsksValidly b → AsksValidly (both a b)
both_valid a b (ia, va) (ib, vb) =
    (refl, (λ i. true && (operands_fit (Some And) (ia i) (ib i) && va i && vb i) && true))

either_valid : (a b : Asked) → AsksValidly a → AsksValidly b → AsksValidly (either a b)
either_valid a b (ia, va) (ib, vb) =
    (refl, (λ i. true && (operands_fit (Some Or) (ia i) (ib i) && va i && vb i) && true))

negation_valid : (a : Asked) → AsksValidly a → AsksValidly (negation a)
negation_valid a (ia, va) = (refl, (λ i. true && (operands_fit (Some Not) (ia i) false && va i && true) && true))

mutual
  and_valid : {text : List ℕ} {a : Asked} → IsAnd text a → AsksValidly a
  and_valid (unit r) = unit_valid r
  and_valid (and {left} {right} {a} {b} l n r) = both_valid a b (and_valid l) (unit_valid r)

  unit_valid : {text : List ℕ} {a : Asked} → IsUnit text a → AsksValidly a
  unit_valid (atom r) = atom_valid r
  unit_valid (minus {text} {a} r) = negation_valid a (atom_valid r)

  atom_valid : {text : List ℕ} {a : Asked} → IsAtom text a → AsksValidly a
  atom_valid (word r) = word_valid r
  atom_valid (group n r m) = or_valid r

  or_valid : {text : List ℕ} {a : Asked} → IsOr text a → AsksValidly a
  or_valid (one r) = and_valid r
  or_valid (or {left} {right} {a} {b} l n m r) = either_valid a b (or_valid l) (and_valid r)

pub line_valid : {text : List ℕ} {a : Asked} → IsLine text a → AsksValidly a
line_valid (line n r m) = or_valid r
