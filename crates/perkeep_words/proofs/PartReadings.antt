-- The parts of a line are read in one way.
use Rattle.std.proofs.Common.{◌≡◌, ◌↔◌, if◌then◌else◌, ◌≢◌, ◌⊎◌, inl, inr, ◌<◌, ◌+◌, ◌==◌, ℕ, suc, Bool, true, false, not, List, [], ◌∷◌, ◌++◌, map, Option, Some, None, unwrap_or, option_to_list, nat_eq, bytes_eq, codes, flat_map, length, take, drop, slice_index_or, arith, refl, ap, sym, subst, ◌∙◌, eq-eqb}
use Rattle.std.specs.List.{list_all, starts_with, position_or_len, before_first, after_first}
use Rattle.std.proofs.lemmas.Bool.{and_parts, and_from, both_ways, cases_Bool, cases_eq, not-true, not_from_false, eqb-true, eqb-false, ne_eqb}
use Rattle.std.proofs.lemmas.List.{append_assoc, length-append, length-take-le}
use Rattle.std.proofs.lemmas.List.Sums.{prefix_len-le-length, split_at_first, passes_at_first}
use Rattle.std.proofs.Math.Seq.{take-append_seam, take-length}
use Rattle.std.proofs.lemmas.Slice.Eq.{bytes_eq-Decides, starts_is}
use Rattle.std.proofs.lemmas.Bool.Decides.{Decides-eqb}
use Rattle.perkeep_words.specs.Words.{begins_with_dash, is_option_name, Item, Apart, Joined, Position, words_of, is_item, ending}
use Rattle.perkeep_words.specs.Parts.{Part, position, part_of, HasParts, State, start, Step, is_equals, option_step, value_step, item_step, step, goes_on, with_part, are_parts, parts_from, parts_in}

-- one step, and what follows
pub goes : (state : State) (word : List ℕ) (words : List (List ℕ)) (next : Step) → step state word ≡ Some next → are_parts state (word ∷ words) ≡ are_parts next.0 words
goes state word words next e = ap (λ o. goes_on o (λ after. are_parts after words)) e

pub gives : (state : State) (word : List ℕ) (words : List (List ℕ)) (next : Step) → step state word ≡ Some next → parts_from state (word ∷ words) ≡ option_to_list next.1 ++ parts_from next.0 words
gives state word words next e = ap (λ o. with_part o (λ after. parts_from after words)) e

pub stops : (state : State) (word : List ℕ) (words : List (List ℕ)) → step state word ≡ None → are_parts state (word ∷ words) ≡ false
stops state word words e = ap (λ o. goes_on o (λ after. are_parts after words)) e

-- behind `--` each word is a position
closed_are : (words : List (List ℕ)) → are_parts (None, true) words ≡ true
closed_are [] = refl
closed_are (word ∷ words) = closed_are words

closed_gives : (words : List (List ℕ)) → parts_from (None, true) words ≡ map position words
closed_gives [] = refl
closed_gives (word ∷ words) = ap (λ parts. position word ∷ parts) (closed_gives words)

-- a name ends where `=` stands, or at the end

name_then : (name value : List ℕ) → list_all (λ b. not (b == 61)) name ≡ true → position_or_len is_equals (name ++ 61 ∷ value) ≡ length name
name_then [] value h = refl
name_then (c ∷ name) value h =
    let parts = and_parts (not (c == 61)) (list_all (λ b. not (b == 61)) name) h in
    rw (parts.0, name_then name value parts.1) (omega arith)

name_alone : (name : List ℕ) → list_all (λ b. not (b == 61)) name ≡ true → position_or_len is_equals name ≡ length name
name_alone [] h = refl
name_alone (c ∷ name) h =
    let parts = and_parts (not (c == 61)) (list_all (λ b. not (b == 61)) name) h in
    rw (parts.0, name_alone name parts.1) (omega arith)

drop_seam : (name value : List ℕ) → drop (length name + 1) (name ++ 61 ∷ value) ≡ value
drop_seam [] value = refl
drop_seam (c ∷ name) value = let e : length (c ∷ name) + 1 ≡ suc (length name + 1) = omega arith in rw e (drop_seam name value)

waits_here : (name : List ℕ) → list_all (λ b. not (b == 61)) name ≡ true → 0 < length name → option_step name ≡ Some ((Some name, false), None)
waits_here name all some = rw (name_alone name all, ne_eqb (length name) 0 (λ e. omega arith), eq-eqb (length name) (length name) refl) refl

joins_here : (name value : List ℕ) → list_all (λ b. not (b == 61)) name ≡ true → 0 < length name → option_step (name ++ 61 ∷ value) ≡ Some (start, Some (Some name, value))
joins_here name value all some =
    let longer : length name ≢ length (name ++ 61 ∷ value) = λ e. omega (arith, length-append name (61 ∷ value), e) in
    rw (name_then name value all, ne_eqb (length name) 0 (λ e. omega arith), ne_eqb (length name) (length (name ++ 61 ∷ value)) longer, take-append_seam name (61 ∷ value), drop_seam name value) refl

-- a word that doesn't begin with a dash isn't `--` and begins with no `--`
plain_word : (word : List ℕ) → begins_with_dash word ≡ false → (bytes_eq word (codes "--") ≡ false) × (starts_with nat_eq word (codes "--") ≡ false)
plain_word [] plain = (refl, refl)
plain_word (c ∷ word) plain = by (cases_Bool (nat_eq 45 c))
  where
    by : (nat_eq 45 c ≡ true) ⊎ (nat_eq 45 c ≡ false) → (bytes_eq (c ∷ word) (codes "--") ≡ false) × (starts_with nat_eq (c ∷ word) (codes "--") ≡ false)
    by (inl dash) = absurd (both_ways (begins_with_dash (c ∷ word)) plain (rw dash refl))
    by (inr other) = (let turned : nat_eq c 45 ≡ false = ne_eqb c 45 (λ e. eqb-false 45 c other (sym e)) in rw turned refl, rw other refl)

-- a position, an option that waits for its value, and an option with it
pub position_step : (word : List ℕ) → begins_with_dash word ≡ false → item_step word ≡ Some (start, Some (position word))
position_step word plain = let other = plain_word word plain in rw (other.0, other.1, plain) refl

pub name_step : (name : List ℕ) → is_option_name name ≡ true → item_step (codes "--" ++ name) ≡ Some ((Some name, false), None)
name_step [] named = absurd (cc)
name_step (c ∷ name) named = waits_here (c ∷ name) named (omega arith)

pub joined_step : (name value : List ℕ) → is_option_name name ≡ true → item_step (codes "--" ++ name ++ codes "=" ++ value) ≡ Some (start, Some (Some name, value))
joined_step [] value named = absurd (cc)
joined_step (c ∷ name) value named = ap (λ rest. option_step (c ∷ rest)) (append_assoc name (61 ∷ []) value) ∙ joins_here (c ∷ name) value named (omega arith)

pub value_plain : (name word : List ℕ) → begins_with_dash word ≡ false → value_step name word ≡ Some (start, Some (Some name, word))
value_plain name word plain = rw plain refl

-- the parts of a line are the ones that are read
both : List (List ℕ) → List Part → Type 0
both words parts = (are_parts start words ≡ true) × (parts_from start words ≡ parts)

reads : (items : List Item) (last : Option (List (List ℕ))) → list_all is_item items ≡ true → both (flat_map words_of items ++ ending last) (map part_of items ++ map position (unwrap_or last []))
unfolding both
reads [] None valid = (refl, refl)
reads [] (Some last) valid = (closed_are last, closed_gives last)
reads (Apart name value ∷ items) last valid =
    let parts = and_parts (is_item (Apart name value)) (list_all is_item items) valid in
    let names = and_parts (is_option_name name) (not (begins_with_dash value)) parts.0 in
    let rest = flat_map words_of items ++ ending last in
    let waits = name_step name names.0 in
    let ends = value_plain name value (not-true _ names.1) in
    let more = reads items last parts.1 in (
      goes start (codes "--" ++ name) (value ∷ rest) _ waits ∙ goes (Some name, false) value rest _ ends ∙ more.0,
      gives start (codes "--" ++ name) (value ∷ rest) _ waits ∙ gives (Some name, false) value rest _ ends ∙ ap (λ ps. (Some name, value) ∷ ps) more.1,
    )
reads (Joined name value ∷ items) last valid =
    let parts = and_parts (is_item (Joined name value)) (list_all is_item items) valid in
    let rest = flat_map words_of items ++ ending last in
    let ends = joined_step name value parts.0 in
    let more = reads items last parts.1 in (
      goes start (codes "--" ++ name ++ codes "=" ++ value) rest _ ends ∙ more.0,
      gives start (codes "--" ++ name ++ codes "=" ++ value) rest _ ends ∙ ap (λ ps. (Some name, value) ∷ ps) more.1,
    )
reads (Position word ∷ items) last valid =
    let parts = and_parts (is_item (Position word)) (list_all is_item items) valid in
    let rest = flat_map words_of items ++ ending last in
    let ends = position_step word (not-true _ parts.0) in
    let more = reads items last parts.1 in
    (goes start word rest _ ends ∙ more.0, gives start word rest _ ends ∙ ap (λ ps. position word ∷ ps) more.1)

read_of_parts : (words : List (List ℕ)) (parts : List Part) → HasParts words parts → parts_in words ≡ Some parts
unfolding both
read_of_parts words parts h =
    let found = reads h.items h.last h.valid in
    rw (h.spelled, h.parts_are, found.0, found.1) refl

-- what stands before the first `=` has none
none_before : (text : List ℕ) → list_all (λ b. not (b == 61)) (before_first is_equals text) ≡ true
none_before [] = refl
none_before (c ∷ text) = by (none_before text) (cases_Bool (c == 61))
  where
    by : list_all (λ b. not (b == 61)) (before_first is_equals text) ≡ true → ((c == 61) ≡ true) ⊎ ((c == 61) ≡ false) → list_all (λ b. not (b == 61)) (before_first is_equals (c ∷ text)) ≡ true
    by more (inl ends) = rw ends refl
    by more (inr other) =
        let whole : before_first is_equals (c ∷ text) ≡ c ∷ before_first is_equals text = (rw other (let e : 1 + position_or_len is_equals text ≡ suc (position_or_len is_equals text) = omega arith in rw e refl)) in
        rw whole (rw other more)

is_name : (name : List ℕ) → list_all (λ b. not (b == 61)) name ≡ true → 0 < length name → is_option_name name ≡ true
is_name [] all some = absurd (omega arith)
is_name (c ∷ name) all some = all

-- a word that is no value, and is read before `--`
pub data ItemCase (word : List ℕ) : Type 0 where
  Closes : word ≡ codes "--" → item_step word ≡ Some ((None, true), None) → ItemCase word
  Waits : (name : List ℕ) → is_option_name name ≡ true → word ≡ codes "--" ++ name → item_step word ≡ Some ((Some name, false), None) → ItemCase word
  Whole : (item : Item) → is_item item ≡ true → word ∷ [] ≡ words_of item → item_step word ≡ Some (start, Some (part_of item)) → ItemCase word
  Refused : item_step word ≡ None → ItemCase word

option_case : (word : List ℕ) → bytes_eq word (codes "--") ≡ false → starts_with nat_eq word (codes "--") ≡ true → ItemCase word
option_case word other dashes = by (cases_eq (position_or_len is_equals text) 0) (cases_eq (position_or_len is_equals text) (length text))
  where
    text : List ℕ
    text = drop 2 word

    spelled : word ≡ codes "--" ++ text
    spelled = (starts_is Decides-eqb word (codes "--") (starts_with nat_eq word (codes "--")) refl).0 dashes

    here : item_step word ≡ option_step text
    here = rw (other, dashes) refl

    by : (position_or_len is_equals text ≡ 0) ⊎ (position_or_len is_equals text ≡ 0 → ⊥) → (position_or_len is_equals text ≡ length text) ⊎ (position_or_len is_equals text ≡ length text → ⊥) → ItemCase word
    by (inl nameless) end = Refused (here ∙ rw nameless refl)
    by (inr named) (inl end) =
        let all : list_all (λ b. not (b == 61)) text ≡ true = subst (λ t. list_all (λ b. not (b == 61)) t ≡ true) (ap (λ n. take n text) end ∙ take-length text) (none_before text) in
        let some : 0 < length text = omega (arith, named, end) in
        Waits text (is_name text all some) spelled (here ∙ waits_here text all some)
    by (inr named) (inr inside) =
        let name = before_first is_equals text in
        let value = after_first is_equals text in
        let within : position_or_len is_equals text < length text = omega (arith, prefix_len-le-length (λ b. not (is_equals b)) text, inside) in
        let at : slice_index_or text (position_or_len is_equals text) 0 ≡ 61 = eqb-true _ _ (passes_at_first is_equals text 0 within) in
        let parted : text ≡ name ++ 61 ∷ value = split_at_first is_equals text 0 within ∙ ap (λ c. name ++ c ∷ value) at in
        let some : 0 < length name = omega (arith, length-take-le (position_or_len is_equals text) text (omega arith), named) in
        let all = none_before text in
        Whole (Joined name value) (is_name name all some) (ap (λ w. w ∷ []) (spelled ∙ ap (λ t. codes "--" ++ t) (parted ∙ sym (append_assoc name (61 ∷ []) value)))) (here ∙ ap option_step parted ∙ joins_here name value all some)

pub item_case : (word : List ℕ) → ItemCase word
item_case word = by (cases_Bool (bytes_eq word (codes "--"))) (cases_Bool (starts_with nat_eq word (codes "--"))) (cases_Bool (begins_with_dash word))
  where
    by : (bytes_eq word (codes "--") ≡ true) ⊎ (bytes_eq word (codes "--") ≡ false) → (starts_with nat_eq word (codes "--") ≡ true) ⊎ (starts_with nat_eq word (codes "--") ≡ false) → (begins_with_dash word ≡ true) ⊎ (begins_with_dash word ≡ false) → ItemCase word
    by (inl here) dashes dash = Closes ((bytes_eq-Decides word (codes "--")).0 here) (rw here refl)
    by (inr other) (inl dashes) dash = option_case word other dashes
    by (inr other) (inr none) (inl dash) = Refused (rw (other, none, dash) refl)
    by (inr other) (inr none) (inr plain) = Whole (Position word) (not_from_false _ plain) refl (rw (other, none, plain) refl)

-- one item more in front
in_front : (item : Item) (words : List (List ℕ)) (parts : List Part) → is_item item ≡ true → HasParts words parts → HasParts (words_of item ++ words) (part_of item ∷ parts)
in_front item words parts valid h = record {
  items = item ∷ h.items;
  last = h.last;
  valid = and_from _ _ valid h.valid;
  spelled = ap (λ (ws : List (List ℕ)). words_of item ++ ws) h.spelled ∙ sym (append_assoc (words_of item) (flat_map words_of h.items) (ending h.last));
  parts_are = ap (λ (ps : List Part). part_of item ∷ ps) h.parts_are;
}

only_ending : (last : Option (List (List ℕ))) → HasParts (ending last) (map position (unwrap_or last []))
only_ending last = record {
  items = [];
  last = last;
  valid = refl;
  spelled = refl;
  parts_are = refl;
}

-- what the words are, read on from a state
MeansFrom : Option (List ℕ) → Bool → List (List ℕ) → List Part → Type 0
MeansFrom (Some name) closed words parts = is_option_name name ≡ true → HasParts ((codes "--" ++ name) ∷ words) parts
MeansFrom None true words parts = parts ≡ map position words
MeansFrom None false words parts = HasParts words parts

sound_item : (word : List ℕ) (words : List (List ℕ)) → ItemCase word → are_parts start (word ∷ words) ≡ true
    → ((waiting : Option (List ℕ)) (closed : Bool) → are_parts (waiting, closed) words ≡ true → MeansFrom waiting closed words (parts_from (waiting, closed) words))
    → HasParts (word ∷ words) (parts_from start (word ∷ words))
unfolding MeansFrom
sound_item word words (Closes here steps) h more =
    let are = sym (goes start word words _ steps) ∙ h in
    let parts = gives start word words _ steps ∙ more None true are in
    subst (λ ps. HasParts (word ∷ words) ps) (sym parts) (subst (λ (w : List ℕ). HasParts (w ∷ words) (map position words)) (sym here) (only_ending (Some words)))
sound_item word words (Waits name named spelled steps) h more =
    let are = sym (goes start word words _ steps) ∙ h in
    let parts = gives start word words _ steps in
    subst (λ ps. HasParts (word ∷ words) ps) (sym parts) (subst (λ (w : List ℕ). HasParts (w ∷ words) (parts_from (Some name, false) words)) (sym spelled) (more (Some name) false are named))
sound_item word words (Whole item valid spelled steps) h more =
    let are = sym (goes start word words _ steps) ∙ h in
    let parts = gives start word words _ steps in
    subst (λ ps. HasParts (word ∷ words) ps) (sym parts) (subst (λ (ws : List (List ℕ)). HasParts (ws ++ words) (part_of item ∷ parts_from start words)) (sym spelled) (in_front item words (parts_from start words) valid (more None false are)))
sound_item word words (Refused steps) h more = absurd (both_ways (are_parts start (word ∷ words)) (stops start word words steps) h)

sound_value : (name word : List ℕ) (closed : Bool) (words : List (List ℕ)) → (begins_with_dash word ≡ true) ⊎ (begins_with_dash word ≡ false) → are_parts (Some name, closed) (word ∷ words) ≡ true
    → (are_parts start words ≡ true → HasParts words (parts_from start words)) → is_option_name name ≡ true
    → HasParts ((codes "--" ++ name) ∷ word ∷ words) (parts_from (Some name, closed) (word ∷ words))
sound_value name word closed words (inl dash) h more named =
    let steps : value_step name word ≡ None = rw dash refl in
    absurd (both_ways (are_parts (Some name, closed) (word ∷ words)) (stops (Some name, closed) word words steps) h)
sound_value name word closed words (inr plain) h more named =
    let steps = value_plain name word plain in
    let are = sym (goes (Some name, closed) word words _ steps) ∙ h in
    let parts = gives (Some name, closed) word words _ steps in
    subst (λ ps. HasParts ((codes "--" ++ name) ∷ word ∷ words) ps) (sym parts) (in_front (Apart name word) words (parts_from start words) (and_from _ _ named (not_from_false _ plain)) (more are))

sound : (words : List (List ℕ)) (waiting : Option (List ℕ)) (closed : Bool) → are_parts (waiting, closed) words ≡ true → MeansFrom waiting closed words (parts_from (waiting, closed) words)
unfolding MeansFrom
sound [] (Some name) closed h = absurd (cc)
sound [] None true h = refl
sound [] None false h = only_ending None
sound (word ∷ words) (Some name) closed h = sound_value name word closed words (cases_Bool (begins_with_dash word)) h (sound words None false)
sound (word ∷ words) None true h = ap (λ (ps : List Part). position word ∷ ps) (sound words None true h)
sound (word ∷ words) None false h = sound_item word words (item_case word) h (sound words)

parts_of_read : (words : List (List ℕ)) (parts : List Part) (b : Bool) → are_parts start words ≡ b → (if b then Some (parts_from start words) else None) ≡ Some parts → HasParts words parts
unfolding MeansFrom
parts_of_read words parts true are e = let same : parts_from start words ≡ parts = cc in rw (← same) (sound words None false are)
parts_of_read words parts false are e = absurd (cc)

pub parts_agree : (words : List (List ℕ)) (parts : List Part) → HasParts words parts ↔ (parts_in words ≡ Some parts)
parts_agree words parts = (read_of_parts words parts, parts_of_read words parts (are_parts start words) refl)
