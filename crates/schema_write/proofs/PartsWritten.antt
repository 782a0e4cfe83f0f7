-- Parts, written one after the other.
use Rattle.std.proofs.Common.{◌≡◌, ◌≤◌, ◌<◌, ◌+◌, ℕ, suc, arith, get_or, List, [], ◌∷◌, ◌++◌, length, drop, map, flat_map, codes, refl, sym, ap, subst, ◌∙◌, append_assoc, append-nil}
use Rattle.std.proofs.lemmas.List.{at_drop_all}
use Rattle.std.proofs.Math.Seq.{drop-cons}
use Rattle.std.specs.List.{join_by}
use Rattle.json.specs.Print.{escape_byte}
use Rattle.json_laws.specs.Written.{Pair, pair_text, payload_text, object_text}
use Rattle.std.proofs.lemmas.List.Concat.{flat_map-append}
use Rattle.schema_write.specs.Drafts.{ended_by_parts}
use Rattle.schema_fact.specs.declared.parts.Part.{Part}
use Rattle.schema_write.specs.Blobs.{part_pairs, part_item, parts_pair, object_line}
use Rattle.schema_write.specs.Laws.{HasRef, HaveRefs}

abbrev pub part_text : Part → List ℕ
part_text part = object_text (part_pairs part)

-- a part that is not the first
abbrev pub with_comma : Part → List ℕ
with_comma part = 44 ∷ part_text part

with_commas : (parts : List Part) → flat_map with_comma parts ≡ flat_map (λ item. codes "," ++ item.text) (map part_item parts)
with_commas [] = refl
with_commas (part ∷ parts) = ap (λ l. with_comma part ++ l) (with_commas parts)

-- after the first part and the others, all are written
pub joined_after : (was text now : List ℕ) (parts : List Part) (p : Part) (ps : List Part) (i : ℕ)
    → parts ≡ p ∷ ps
    → text ≡ was ++ part_text p
    → length ps ≤ i
    → now ++ flat_map with_comma (drop i ps) ≡ text ++ flat_map with_comma ps
    → now ≡ was ++ join_by (λ item. item.text) (codes ",") (map part_item parts)
joined_after was text now parts p ps i whole first ended invariant =
    sym (append-nil now) ∙ sym (at_drop_all (λ (left : List Part). now ++ flat_map with_comma left) ps i ended) ∙ invariant
    ∙ ap (λ (t : List ℕ). t ++ flat_map with_comma ps) first ∙ append_assoc was (part_text p) (flat_map with_comma ps)
    ∙ ap (λ (t : List ℕ). was ++ (part_text p ++ t)) (with_commas ps)
    ∙ ap (λ (all : List Part). was ++ join_by (λ item. item.text) (codes ",") (map part_item all)) (sym whole)

pub next_left : {X : Type 0} (ps : List X) (i : ℕ) (d : X) → i < length ps → drop i ps ≡ get_or ps i d ∷ drop (i + 1) ps
next_left ps i d h =
    let next : suc i ≡ i + 1 = omega arith in
    drop-cons ps i d h ∙ ap (λ k. get_or ps i d ∷ drop k ps) next

-- the next part is written
pub next_text : (now comma after all : List ℕ) (ps : List Part) (i : ℕ) (p : Part)
    → drop i ps ≡ p ∷ drop (i + 1) ps
    → comma ≡ now ++ 44 ∷ []
    → after ≡ comma ++ part_text p
    → now ++ flat_map with_comma (drop i ps) ≡ all
    → after ++ flat_map with_comma (drop (i + 1) ps) ≡ all
next_text now comma after all ps i p left then is invariant =
    let rest = flat_map with_comma (drop (i + 1) ps) in
    ap (λ (t : List ℕ). t ++ rest) (is ∙ ap (λ (t : List ℕ). t ++ part_text p) then ∙ append_assoc now (44 ∷ []) (part_text p))
    ∙ append_assoc now (with_comma p) rest
    ∙ ap (λ (l : List Part). now ++ flat_map with_comma l) (sym left)
    ∙ invariant

-- and its ref is one
pub next_ref : (ps : List Part) (i : ℕ) (p : Part) (all : Type 0)
    → drop i ps ≡ p ∷ drop (i + 1) ps → HasRef p.origin → (HaveRefs (drop i ps) → all) → HaveRefs (drop (i + 1) ps) → all
next_ref ps i p all left has invariant rest = invariant (subst HaveRefs (sym left) (has, rest))

-- so all are
pub refs_after : (parts : List Part) (p : Part) (ps : List Part) (i : ℕ) → parts ≡ p ∷ ps → HasRef p.origin → length ps ≤ i → (HaveRefs (drop i ps) → HaveRefs ps) → HaveRefs parts
refs_after parts p ps i whole first ended invariant =
    subst HaveRefs (sym whole) (first, invariant (subst HaveRefs (sym (at_drop_all (λ (left : List Part). left) ps i ended)) tt))

-- ---- the object that ends by them

pieces : (a b j : List ℕ)
    → (((123 ∷ (a ++ b)) ++ codes ",\"parts\":[") ++ j) ++ codes "]}\n"
    ≡ ((123 ∷ (a ++ (b ++ (codes ",\"parts\":" ++ (((91 ∷ j) ++ 93 ∷ []) ++ []))))) ++ 125 ∷ []) ++ 10 ∷ []
pieces a b j =
    simp (append_assoc, append-nil) (ap (λ (l : List ℕ). 123 ∷ (a ++ (b ++ (codes ",\"parts\":[" ++ l)))) (sym (append_assoc j (93 ∷ []) (125 ∷ 10 ∷ []))))

pub ended : (p : Pair) (ps : List Pair) (parts : List Part) → ended_by_parts (payload_text (p ∷ ps)) parts ≡ object_line (p ∷ ps ++ parts_pair parts ∷ [])
unfolding escape_byte
ended p ps parts =
    pieces (pair_text p) (flat_map (λ q. codes "," ++ pair_text q) ps) (join_by (λ item. item.text) (codes ",") (map part_item parts))
    ∙ ap (λ (l : List ℕ). ((123 ∷ (pair_text p ++ l)) ++ 125 ∷ []) ++ 10 ∷ []) (sym (flat_map-append (λ q. codes "," ++ pair_text q) ps (parts_pair parts ∷ [])))
