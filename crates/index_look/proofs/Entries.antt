-- The entries of a map of facts, which are in the order of their refs.
use Rattle.std.proofs.Common.{◌≡◌, false, List, [], ◌∷◌, Some, sym, ap, ◌∙◌, subst}
use Rattle.std.specs.declared.cmp.Ordering.TheVariants.{Less}
use Rattle.std.specs.Ordering.{is_eq, eq_by_cmp}
use Rattle.std.specs.List.{AllByRecursion}
use Rattle.std.specs.List.Sorted.{IsStrictlySortedBy}
use Rattle.std.specs.Cmp.{eq_by_cmp_equiv}
use Rattle.std.specs.Cmp.Lexicographic.{nat_list_cmp_total}
use Rattle.std.specs.Map.{keys_of}
use Rattle.std.specs.FinMap.{IsAntisymmetric, get, from_entries, entries, same_map, get-entries, get-from_entries, get-insert, keys, slice_cmp-IsAntisymmetric, nat_cmp-IsAntisymmetric}
use Rattle.std.proofs.lemmas.Bool.{cond-true, cond-false}
use Rattle.std.proofs.lemmas.Map.Keys.{sorted_head, sorted_tail}
use Rattle.blobref.specs.Blobref.{ref_cmp}
use Rattle.claim_model.specs.Facts.{Entry, Facts}
use Rattle.index_look.proofs.Order.{ascending_entries}

pub same_ref : IsAntisymmetric ref_cmp
same_ref = slice_cmp-IsAntisymmetric nat_cmp-IsAntisymmetric

abbrev map_of : List Entry → Facts
map_of es = from_entries es

-- the map has each entry of the list
abbrev IsHad : List Entry → Entry → Type 0
IsHad es e = get (map_of es) e.0 ≡ Some e.1

still_had : (e : Entry) (all es : List Entry) → AllByRecursion (λ y. ref_cmp e.0 y ≡ Less) (keys_of es) → AllByRecursion (IsHad all) es → AllByRecursion (IsHad (e ∷ all)) es
still_had e all [] h had = tt
still_had e all (f ∷ es) h had =
    let other : eq_by_cmp ref_cmp f.0 e.0 ≡ false = (eq_by_cmp_equiv nat_list_cmp_total).symm f.0 e.0 ∙ ap is_eq h.0 in
    (get-insert nat_list_cmp_total (map_of all) e.0 e.1 f.0 ∙ cond-false (eq_by_cmp ref_cmp f.0 e.0) (Some e.1) (get (map_of all) f.0) other ∙ had.0, still_had e all es h.1 had.1)

all_had : (es : List Entry) → IsStrictlySortedBy ref_cmp (keys_of es) → AllByRecursion (IsHad es) es
all_had [] h = tt
all_had (e ∷ es) h = (
  get-insert nat_list_cmp_total (map_of es) e.0 e.1 e.0 ∙ cond-true (eq_by_cmp ref_cmp e.0 e.0) (Some e.1) (get (map_of es) e.0) ((eq_by_cmp_equiv nat_list_cmp_total).refl e.0),
  still_had e es es (sorted_head ref_cmp e.0 (keys_of es) h) (all_had es (sorted_tail ref_cmp e.0 (keys_of es) h)),
)

-- the map of a map's own entries
own_map : (facts : Facts) → map_of (entries facts) ≡ facts
own_map facts = same_map nat_list_cmp_total same_ref (map_of (entries facts)) facts (λ q. get-from_entries nat_list_cmp_total (entries facts) q ∙ sym (get-entries facts q))

pub keys_ascend : (facts : Facts) → IsStrictlySortedBy ref_cmp (keys facts)
keys_ascend facts = ascending_entries ref_cmp facts

pub entries_had : (facts : Facts) → AllByRecursion (λ (e : Entry). get facts e.0 ≡ Some e.1) (entries facts)
entries_had facts =
    let P : Facts → Type 0 = λ m. AllByRecursion (λ (e : Entry). get m e.0 ≡ Some e.1) (entries facts) in
    subst P (own_map facts) (all_had (entries facts) (ascending_entries ref_cmp facts))
