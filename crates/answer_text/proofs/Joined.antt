-- Entries joined by commas, from the first one on.
use Rattle.std.proofs.Common.{◌≡◌, ◌≤◌, ℕ, List, [], ◌∷◌, ◌++◌, length, drop, map, sym, ap, ◌∙◌, append_assoc, append-nil}
use Rattle.std.proofs.lemmas.List.{at_drop_all}
use Rattle.std.specs.List.{join_with_byte, flat_map}

module _ {A : Type 0} (entry : A → List ℕ) where
  -- an entry that is not the first
  abbrev pub with_comma : A → List ℕ
  with_comma x = 44 ∷ entry x

  joined : (x : A) (xs : List A) → entry x ++ flat_map with_comma xs ≡ join_with_byte 44 (map entry (x ∷ xs))
  joined x [] = append-nil (entry x)
  joined x (y ∷ xs) = ap (λ (t : List ℕ). entry x ++ (44 ∷ t)) (joined y xs)

  -- after the first entry and the others, all are written
  pub joined_after : (was text now : List ℕ) (items : List A) (x : A) (xs : List A) (i : ℕ)
      → items ≡ x ∷ xs
      → text ≡ was ++ entry x
      → length xs ≤ i
      → now ++ flat_map with_comma (drop i xs) ≡ text ++ flat_map with_comma xs
      → now ≡ was ++ join_with_byte 44 (map entry items)
  joined_after was text now items x xs i whole first ended invariant =
      sym (append-nil now) ∙ sym (at_drop_all (λ (left : List A). now ++ flat_map with_comma left) xs i ended) ∙ invariant
      ∙ ap (λ (t : List ℕ). t ++ flat_map with_comma xs) first ∙ append_assoc was (entry x) (flat_map with_comma xs)
      ∙ ap (λ (t : List ℕ). was ++ t) (joined x xs ∙ ap (λ (all : List A). join_with_byte 44 (map entry all)) (sym whole))
