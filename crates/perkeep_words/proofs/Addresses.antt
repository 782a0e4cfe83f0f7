-- Texts that are taken one after the other, and how many a line has.
use Rattle.std.proofs.Common.{◌≡◌, ◌<◌, ◌≤◌, ◌+◌, ◌&&◌, ℕ, zero, suc, true, Option, None, Some, List, [], ◌∷◌, ◌++◌, length, drop, nat_le, unwrap_or, append_assoc, arith, refl, ap, sym, ◌∙◌}
use Rattle.std.specs.List.{slice_get}
use Rattle.std.proofs.lemmas.Bool.{and_parts}
use Rattle.std.proofs.lemmas.Option.{slice_get_within}
use Rattle.perkeep_words.specs.Parts.{Part, start, are_parts, parts_from}
use Rattle.perkeep_words.specs.Forms.{Form, count_at, kind_of, are_of}
use Rattle.perkeep_words.specs.Kinds.{fits_kind}
use Rattle.perkeep_words.specs.Mirroring.{mirror_form, is_mirror_line}
use Rattle.perkeep_words.specs.declared.kinds.TextKind.{TextKind}

next_text : (texts : List (List ℕ)) (k : ℕ) → k < length texts
    → drop k texts ≡ unwrap_or (slice_get texts k) [] ∷ drop (suc k) texts
next_text [] k lt = absurd (omega (arith, lt))
next_text (text ∷ texts) zero lt = refl
next_text (text ∷ texts) (suc k) lt = next_text texts k (omega (arith, lt))

-- those so far and those to come are all, also once the next one was taken
pub one_more : (taken texts all now : List (List ℕ)) (k : ℕ) → k < length texts → taken ++ drop k texts ≡ all
    → now ≡ taken ++ unwrap_or (slice_get texts k) [] ∷ []
    → now ++ drop (k + 1) texts ≡ all
one_more taken texts all now k lt before is =
    let next = unwrap_or (slice_get texts k) [] in
    ap (λ n. now ++ drop n texts) (let e : k + 1 ≡ suc k = omega arith in e)
    ∙ ap (λ (l : List (List ℕ)). l ++ drop (suc k) texts) is
    ∙ append_assoc taken (next ∷ []) (drop (suc k) texts)
    ∙ ap (λ (l : List (List ℕ)). taken ++ l) (sym (next_text texts k lt))
    ∙ before

-- a position that fits is one of the form
fitting : (positions : List TextKind) (place : ℕ) (text : List ℕ) (kind : Option TextKind)
    → slice_get positions place ≡ kind → fits_kind kind text ≡ true → place < length positions
fitting positions place text None is fits = absurd (cc fits)
fitting positions place text (Some kind) is fits = slice_get_within positions place kind is

-- there are no more positions than in the form
few_positions : (form : Form) (place : ℕ) (parts : List Part) → place ≤ length form.positions
    → are_of form place parts ≡ true → place + count_at None parts ≤ length form.positions
few_positions form place [] le are = omega (arith, le)
few_positions form place ((None, text) ∷ parts) le are =
    let both = and_parts (fits_kind (kind_of form place None) text) (are_of form (place + 1) parts) are in
    let lt = fitting form.positions place text (slice_get form.positions place) refl both.0 in
    omega (arith, few_positions form (place + 1) parts (omega (arith, lt)) both.1)
few_positions form place ((Some option, text) ∷ parts) le are =
    few_positions form place parts le
    (and_parts (fits_kind (kind_of form place (Some option)) text) (are_of form place parts) are).1

pub few_addresses : (behind : List (List ℕ)) → is_mirror_line behind ≡ true
    → count_at None (parts_from start behind) ≤ 17
few_addresses behind is =
    let parts = parts_from start behind in
    let front =
    (and_parts (are_parts start behind && are_of mirror_form 0 parts) (nat_le 2 (count_at None parts)) is).0 in
    let least : 0 ≤ length mirror_form.positions = omega arith in
    let most : 0 + count_at None parts ≤ length mirror_form.positions =
    few_positions mirror_form 0 parts least
    (and_parts (are_parts start behind) (are_of mirror_form 0 parts) front).1 in
    let seventeen : length mirror_form.positions ≡ 17 = refl in
    omega (arith, most, seventeen)
