-- Items of a list, written one after the other.
use Rattle.std.proofs.Common.{◌≡◌, ◌≤◌, ◌<◌, ◌+◌, ℕ, zero, suc, arith, get_or, List, [], ◌∷◌, ◌++◌, length, drop, map, flat_map, codes, refl, sym, ap, subst, ◌∙◌, append_assoc, append-nil}
use Rattle.std.proofs.lemmas.List.{at_drop_all}
use Rattle.std.specs.List.{join_by}
use Rattle.json_laws.specs.Written.{Item}
use Rattle.schema_fact.specs.declared.changes.Change.{Change}
use Rattle.schema_write.specs.Laws.{IsChange, AreChanges, HaveNames}

module _ {X : Type 0} (item : X → Item) where
  -- an item that is not the first
  abbrev pub with_comma : X → List ℕ
  with_comma x = 44 ∷ (item x).text

  with_commas : (xs : List X) → flat_map with_comma xs ≡ flat_map (λ i. codes "," ++ i.text) (map item xs)
  with_commas [] = refl
  with_commas (x ∷ xs) = ap (λ l. with_comma x ++ l) (with_commas xs)

  -- after the first item and the others, all are written
  pub joined_after : (was text now : List ℕ) (all : List X) (x : X) (xs : List X) (i : ℕ)
      → all ≡ x ∷ xs
      → text ≡ was ++ (item x).text
      → length xs ≤ i
      → now ++ flat_map with_comma (drop i xs) ≡ text ++ flat_map with_comma xs
      → now ≡ was ++ join_by (λ i. i.text) (codes ",") (map item all)
  joined_after was text now all x xs i whole first ended invariant =
      sym (append-nil now) ∙ sym (at_drop_all (λ (left : List X). now ++ flat_map with_comma left) xs i ended) ∙ invariant
      ∙ ap (λ (t : List ℕ). t ++ flat_map with_comma xs) first ∙ append_assoc was (item x).text (flat_map with_comma xs)
      ∙ ap (λ (t : List ℕ). was ++ ((item x).text ++ t)) (with_commas xs)
      ∙ ap (λ (ys : List X). was ++ join_by (λ i. i.text) (codes ",") (map item ys)) (sym whole)

  -- the next item is written
  pub next_text : (now comma after all : List ℕ) (xs : List X) (i : ℕ) (x : X)
      → drop i xs ≡ x ∷ drop (i + 1) xs
      → comma ≡ now ++ 44 ∷ []
      → after ≡ comma ++ (item x).text
      → now ++ flat_map with_comma (drop i xs) ≡ all
      → after ++ flat_map with_comma (drop (i + 1) xs) ≡ all
  next_text now comma after all xs i x left then is invariant =
      let rest = flat_map with_comma (drop (i + 1) xs) in
      ap (λ (t : List ℕ). t ++ rest) (is ∙ ap (λ (t : List ℕ). t ++ (item x).text) then ∙ append_assoc now (44 ∷ []) (item x).text)
      ∙ append_assoc now (with_comma x) rest
      ∙ ap (λ (l : List X). now ++ flat_map with_comma l) (sym left)
      ∙ invariant

-- ---- and each change may be said

name_at : (cs : List Change) (i : ℕ) (c : Change) → HaveNames cs → i < length cs → c ≡ get_or cs i c → 0 < length c.attr
name_at [] i c names lt is = absurd (omega arith)
name_at (d ∷ ds) zero c names lt is = subst (λ (e : Change). 0 < length e.attr) (sym is) names.0
name_at (d ∷ ds) (suc i) c names lt is = name_at ds i c names.1 (omega arith) is

pub next_said : (cs : List Change) (i : ℕ) (c : Change) → i < length cs → c ≡ get_or cs i c → drop i cs ≡ c ∷ drop (i + 1) cs
    → (0 < length c.attr → IsChange c.on c.attr c.value) → (HaveNames cs → AreChanges (drop i cs) → AreChanges cs)
    → HaveNames cs → AreChanges (drop (i + 1) cs) → AreChanges cs
next_said cs i c lt is left says invariant names rest =
    invariant names (subst AreChanges (sym left) (says (name_at cs i c names lt is), rest))

pub all_said : (cs : List Change) (c : Change) (ds : List Change) (i : ℕ) → cs ≡ c ∷ ds → (0 < length c.attr → IsChange c.on c.attr c.value)
    → length ds ≤ i → (HaveNames ds → AreChanges (drop i ds) → AreChanges ds) → HaveNames cs → AreChanges cs
all_said cs c ds i whole says ended invariant names =
    let own : HaveNames (c ∷ ds) = subst HaveNames whole names in
    subst AreChanges (sym whole) (says own.0, invariant own.1 (subst AreChanges (sym (at_drop_all (λ (left : List Change). left) ds i ended)) tt))
