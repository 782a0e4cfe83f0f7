-- A position before which so many others stand has one place at most.
use Rattle.std.proofs.Common.{◌≡◌, ◌+◌, ◌||◌, ℕ, suc, true, false, not, List, [], ◌∷◌, ◌++◌, map, Option, Some, None, unwrap_or, is_some, codes, flat_map, length, drop, arith, refl, ap, sym, ◌∙◌}
use Rattle.std.specs.List.{list_all}
use Rattle.std.proofs.lemmas.Bool.{and_parts, not-true}
use Rattle.std.proofs.lemmas.List.{append_assoc, length-append}
use Rattle.perkeep_words.specs.Words.{begins_with_dash, is_option_name, Item, Apart, Joined, Position, words_of, is_item, ending}
use Rattle.perkeep_words.specs.Parts.{position, part_of, start}
use Rattle.perkeep_words.specs.Forms.{count_at}
use Rattle.perkeep_words.specs.Places.{SaysDir, SaysAddr, IsPlaceBehind, StandsBehind, OnePlaceEach, nth_position}
use Rattle.perkeep_words.proofs.PartReadings.{position_step, name_step, joined_step, value_plain}
use Rattle.perkeep_words.proofs.Placing.{onward}

-- items are passed over, and the positions among them counted
passed : (items : List Item) (left : ℕ) (rest : List (List ℕ)) (place : ℕ) → list_all is_item items ≡ true
    → nth_position (count_at None (map part_of items) + left) start place (flat_map words_of items ++ rest)
    ≡ nth_position left start (place + length (flat_map words_of items)) rest
passed [] left rest place valid =
    ap (λ k. nth_position k start place rest) (let z : 0 + left ≡ left = omega arith in z)
    ∙ ap (λ n. nth_position left start n rest) (let e : place ≡ place + 0 = omega arith in e)
passed (Apart name value ∷ items) left rest place valid =
    let parts = and_parts (is_item (Apart name value)) (list_all is_item items) valid in
    let names = and_parts (is_option_name name) (not (begins_with_dash value)) parts.0 in
    let more = flat_map words_of items ++ rest in
    let count = count_at None (map part_of items) + left in
    onward count start place (codes "--" ++ name) (value ∷ more) _ (name_step name names.0)
    ∙ onward count (Some name, false) (place + 1) value more _ (value_plain name value (not-true _ names.1))
    ∙ passed items left rest (place + 1 + 1) parts.1
    ∙ ap (λ n. nth_position left start n rest) (let e : place + 1 + 1 + length (flat_map words_of items) ≡ place + suc (suc (length (flat_map words_of items))) = omega arith in e)
passed (Joined name value ∷ items) left rest place valid =
    let parts = and_parts (is_item (Joined name value)) (list_all is_item items) valid in
    let more = flat_map words_of items ++ rest in
    let count = count_at None (map part_of items) + left in
    onward count start place (codes "--" ++ name ++ codes "=" ++ value) more _ (joined_step name value parts.0)
    ∙ passed items left rest (place + 1) parts.1
    ∙ ap (λ n. nth_position left start n rest) (let e : place + 1 + length (flat_map words_of items) ≡ place + suc (length (flat_map words_of items)) = omega arith in e)
passed (Position word ∷ items) left rest place valid =
    let parts = and_parts (is_item (Position word)) (list_all is_item items) valid in
    let more = flat_map words_of items ++ rest in
    let count = count_at None (map part_of items) + left in
    let one : count_at None (map part_of (Position word ∷ items)) + left ≡ suc count = omega arith in
    ap (λ n. nth_position n start place (word ∷ more)) one
    ∙ onward (suc count) start place word more _ (position_step word (not-true _ parts.0))
    ∙ passed items left rest (place + 1) parts.1
    ∙ ap (λ n. nth_position left start n rest) (let e : place + 1 + length (flat_map words_of items) ≡ place + suc (length (flat_map words_of items)) = omega arith in e)

-- the positions among items, and behind `--`
counted_all : (items : List Item) (last : List (List ℕ))
    → count_at None (map part_of items ++ map position last) ≡ count_at None (map part_of items) + length last
counted_all [] [] = refl
counted_all [] (word ∷ last) = ap (λ n. suc n) (counted_all [] last) ∙ (let z : suc (0 + length last) ≡ 0 + suc (length last) = omega arith in z)
counted_all (Apart name value ∷ items) last = counted_all items last
counted_all (Joined name value ∷ items) last = counted_all items last
counted_all (Position word ∷ items) last =
    let count = count_at None (map part_of items) in
    ap (λ n. suc n) (counted_all items last) ∙ (let z : suc (count + length last) ≡ suc count + length last = omega arith in z)

-- behind `--` each word is a position
last_reached : (first : List (List ℕ)) (word : List ℕ) (behind : List (List ℕ)) (place : ℕ)
    → nth_position (length first) (None, true) place (first ++ word ∷ behind) ≡ Some (place + length first)
last_reached [] word behind place = ap (λ n. Some n) (let e : place ≡ place + 0 = omega arith in e)
last_reached (other ∷ first) word behind place =
    last_reached first word behind (place + 1)
    ∙ ap (λ n. Some n) (let e : place + 1 + length first ≡ place + suc (length first) = omega arith in e)

-- the word that is looked for stands behind the items
reached : (last : Option (List (List ℕ))) (word : List ℕ) (behind : List (List ℕ)) (place : ℕ)
    → (is_some last || not (begins_with_dash word)) ≡ true
    → nth_position (length (unwrap_or last [])) start place (ending last ++ word ∷ behind) ≡ Some (place + length (ending last))
reached None word behind place closes =
    onward 0 start place word behind _ (position_step word (not-true _ closes))
    ∙ ap (λ n. Some n) (let e : place ≡ place + 0 = omega arith in e)
reached (Some first) word behind place closes =
    last_reached first word behind (place + 1)
    ∙ ap (λ n. Some n) (let e : place + 1 + length first ≡ place + suc (length first) = omega arith in e)

found : (says : List ℕ → Type 0) (count : ℕ) (words : List (List ℕ)) (place : ℕ) → StandsBehind says count words place
    → nth_position count start 1 (drop 1 words) ≡ Some place
found says count words place h =
    let front = flat_map words_of h.items in
    let last = ending h.last in
    let left = length (unwrap_or h.last []) in
    let counts : count ≡ count_at None (map part_of h.items) + left = sym h.before ∙ counted_all h.items (unwrap_or h.last []) in
    let at : 1 + length front + length last ≡ place = omega (arith, h.counted, length-append front last) in
    ap (λ n. nth_position n start 1 (drop 1 words)) counts
    ∙ ap (λ (ws : List (List ℕ)). nth_position (count_at None (map part_of h.items) + left) start 1 ws)
    (ap (drop 1) h.spelled ∙ append_assoc front last (h.word ∷ h.behind))
    ∙ passed h.items left (last ++ h.word ∷ h.behind) 1 h.are_items
    ∙ reached h.last h.word h.behind (1 + length front) h.closes
    ∙ ap (λ n. Some n) at

one_place : (says : List ℕ → Type 0) (count : ℕ) (words : List (List ℕ)) (a b : Option ℕ) → IsPlaceBehind says count words a
    → IsPlaceBehind says count words b → a ≡ b
one_place says count words None None left right = refl
one_place says count words None (Some b) left right = absurd (left right.word right.says)
one_place says count words (Some a) None left right = absurd (right left.word left.says)
one_place says count words (Some a) (Some b) left right = sym (found says count words a left) ∙ found says count words b right

pub one_place_each : OnePlaceEach
one_place_each = record {
  dir = λ words. one_place (SaysDir words) 0 words;
  addr = λ words. one_place (SaysAddr words) 1 words;
}
