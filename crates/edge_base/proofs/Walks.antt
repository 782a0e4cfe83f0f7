-- The entries of the tree of a map are those of the map.
use Rattle.std.proofs.Common.{◌≡◌, ℕ, true, false, ◌&&◌, Bool, T, List, [], ◌∷◌, sym, subst, ◌∙◌}
use Rattle.std.specs.List.{AllByRecursion}
use Rattle.std.specs.List.Sorted.{IsStrictlySortedBy}
use Rattle.std.specs.Map.{keys_of}
use Rattle.std.specs.Ordering.{is_lt}
use Rattle.std.specs.declared.cmp.Ordering.TheVariants.{Less}
use Rattle.std.specs.Cmp.Lexicographic.{nat_list_cmp_total}
use Rattle.std.specs.FinMap.{entries, entries_sorted, from_entries, get-entries, get-from_entries, is_sorted}
use Rattle.std.specs.FinMap.Entries.{below_all, same_entries}
use Rattle.blobref.specs.Blobref.{ref_cmp}
use Rattle.edge_base.proofs.Racks.{ref_cmp-IsAntisymmetric}

abbrev Entry : Type 0
Entry = List ℕ × List ℕ

both : (a b : Bool) → T a → T b → T (a && b)
both true b p q = q
both false b p q = p

-- keys that rise are sorted
lower_than : (k : List ℕ) (es : List Entry) → AllByRecursion (λ y. ref_cmp k y ≡ Less) (keys_of es) → T (below_all ref_cmp k es)
lower_than k [] h = tt
lower_than k (e ∷ es) h = both _ _ (subst (λ o. T (is_lt o)) (sym h.0) tt) (lower_than k es h.1)

rising : (es : List Entry) → IsStrictlySortedBy ref_cmp (keys_of es) → T (is_sorted ref_cmp es)
unfolding IsStrictlySortedBy
rising [] h = tt
rising (e ∷ es) h = both _ _ (lower_than e.0 es h.0) (rising es h.1)

pub by_tree : (es : List Entry) → IsStrictlySortedBy ref_cmp (keys_of es) → entries (from_entries {R = ref_cmp} es) ≡ es
by_tree es rise = same_entries ref_cmp nat_list_cmp_total ref_cmp-IsAntisymmetric (entries (from_entries {R = ref_cmp} es)) es
    (entries_sorted (from_entries {R = ref_cmp} es)) (rising es rise)
    (λ q. sym (get-entries (from_entries {R = ref_cmp} es) q) ∙ get-from_entries nat_list_cmp_total es q)
