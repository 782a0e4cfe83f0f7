-- What a line asks, a line is written for.
use Rattle.std.proofs.Common.{◌≡◌, ◌≢◌, ℕ, Bool, true, false, cond, List, [], ◌∷◌, ◌++◌, codes, refl, ap, Some, None, option_map}
use Rattle.std.specs.Str.{bytes_eq}
use Rattle.blobref.specs.Blobref.{is_blobref}
use Rattle.search_query.specs.Mirror.{Asked}
use Rattle.search_words.specs.Asking.{both, either, negation, has_attr}
use Rattle.search_words.specs.Grammar.{IsWord, tag, title, attr, has, ref, childrenof, IsAtom, word, group, IsUnit, atom, minus, IsAnd, unit, and, IsOr, one, or, IsLine, line}
use Rattle.words_write.specs.Writing.{named, tag_line, attr_line, value_line, Made, made_as, an_atom, or_made, and_made, not_made, made, line_of}
use Rattle.search_words.proofs.Tests.{cond_true}

abbrev IsMade : Asked → Type 0
IsMade a = (m : Made) × (made a ≡ Some m)

some_value : (n v : List ℕ) → n ≢ [] → (w : List ℕ) × (value_line n v ≡ Some w)
some_value [] v some = absurd (some refl)
some_value (x ∷ n) v some = go (bytes_eq (x ∷ n) (codes "tag"))
  where
    go : (b : Bool) → (w : List ℕ) × (cond b (Some (tag_line v)) (named (x ∷ n) (attr_line (x ∷ n) v)) ≡ Some w)
    go true = (tag_line v, refl)
    go false = (attr_line (x ∷ n) v, refl)

some_name : (n : List ℕ) → n ≢ [] → IsMade (has_attr n)
some_name [] some = absurd (some refl)
some_name (x ∷ n) some = (_, refl)

word_made : {text : List ℕ} {a : Asked} → IsWord text a → IsMade a
word_made (tag t) = (_, refl)
word_made (title t) = (_, refl)
word_made (attr {name} {n} {text} {v} r some t) =
    let w = some_value n v some in (made_as an_atom w.0, ap (option_map (made_as an_atom)) w.1)
word_made (has {name} {n} r some) = some_name n some
word_made (ref t) = (_, refl)
word_made (childrenof r is) = (
  made_as an_atom (codes "childrenof:" ++ r),
  ap (option_map (made_as an_atom)) (cond_true (is_blobref r) (Some (codes "childrenof:" ++ r)) None is),
)

both_made : (a b : Asked) → IsMade a → IsMade b → IsMade (both a b)
both_made a b (m, e) (k, h) = (_, (λ i. and_made (e i) (h i)))

either_made : (a b : Asked) → IsMade a → IsMade b → IsMade (either a b)
either_made a b (m, e) (k, h) = (_, (λ i. or_made (e i) (h i)))

negation_made : (a : Asked) → IsMade a → IsMade (negation a)
negation_made a (m, e) = (_, ap not_made e)

mutual
  and_made_of : {text : List ℕ} {a : Asked} → IsAnd text a → IsMade a
  and_made_of (unit r) = unit_made_of r
  and_made_of (and {left} {right} {a} {b} l n r) = both_made a b (and_made_of l) (unit_made_of r)

  unit_made_of : {text : List ℕ} {a : Asked} → IsUnit text a → IsMade a
  unit_made_of (atom r) = atom_made_of r
  unit_made_of (minus {text} {a} r) = negation_made a (atom_made_of r)

  atom_made_of : {text : List ℕ} {a : Asked} → IsAtom text a → IsMade a
  atom_made_of (word r) = word_made r
  atom_made_of (group n r m) = or_made_of r

  or_made_of : {text : List ℕ} {a : Asked} → IsOr text a → IsMade a
  or_made_of (one r) = and_made_of r
  or_made_of (or {left} {right} {a} {b} l n m r) = either_made a b (or_made_of l) (and_made_of r)

pub line_is_written : {text : List ℕ} {a : Asked} → IsLine text a → (w : List ℕ) × (line_of a ≡ Some w)
line_is_written (line n r m) = let k = or_made_of r in (k.0.text, ap (option_map (λ (o : Made). o.text)) k.1)
