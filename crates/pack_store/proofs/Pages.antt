-- A list of refs by the tree of their numbers.
use Rattle.std.proofs.Common.{◌≡◌, ℕ, zero, suc, ◌-◌, ◌≤◌, ◌<◌, Bool, true, false, cond, ◌&&◌, T, Option, None, Some, List, [], ◌∷◌, ◌++◌, length, map, take, filter, refl, sym, ap, subst, ◌∙◌, arith, nat_eq, append_assoc, length-append}
use Rattle.std.specs.List.{All, AllByRecursion}
use Rattle.std.specs.List.Sorted.{IsStrictlySortedBy}
use Rattle.std.specs.Map.{lookup, keys_of}
use Rattle.std.specs.Option.{option_map, unwrap_or}
use Rattle.std.specs.Ordering.{is_lt, eq_by_cmp}
use Rattle.std.specs.declared.cmp.Ordering.TheVariants.{Less}
use Rattle.std.specs.declared.ops.Bound.{Bound}
use Rattle.std.specs.declared.ops.Bound.TheVariants.{Unbounded}
use Rattle.std.specs.BTreeMap.{is_at}
use Rattle.std.specs.BTreeMap.Range.{entries_between, range_contains}
use Rattle.std.specs.Cmp.Lexicographic.{pointwise, nat_list_cmp_total, texts_ties}
use Rattle.std.specs.FinMap.{entries, entries_sorted, find, from_entries, get-entries, get-from_entries, is_sorted, IsAntisymmetric, slice_cmp-IsAntisymmetric, nat_cmp-IsAntisymmetric}
use Rattle.std.specs.FinMap.Entries.{below_all, same_entries}
use Rattle.std.proofs.lemmas.List.{append-nil}
use Rattle.blobref.specs.Blobref.{ref_cmp, is_after}
use Rattle.pack_store.specs.declared.rows.Row.{Row}
use Rattle.pack_store.specs.Rows.{number_of, sizes_in}
use Rattle.pack_store.specs.Opening.{IsPlaced}
use Rattle.pack_store.specs.Reading.{page, bound_of, page_from, size_at}
use Rattle.pack_store.proofs.Numbers.{get_ref, no_row_of}
use Rattle.pack_store.proofs.Looking.{row_of_number, number_below}

abbrev Entry : Type 0
Entry = List ℕ × ℕ

abbrev pub sized : List Row → Entry → Entry
sized rows e = (e.0, size_at rows e.1)

both : (a b : Bool) → T a → T b → T (a && b)
both true b p q = q
both false b p q = p

-- keys that rise are sorted
lower_than : (k : List ℕ) (es : List Entry) → AllByRecursion (λ y. ref_cmp k y ≡ Less) (keys_of es) → T (below_all ref_cmp k es)
lower_than k [] h = tt
lower_than k (e ∷ es) h = both _ _ (subst (λ o. T (is_lt o)) (sym h.0) tt) (lower_than k es h.1)

rising : (es : List Entry) → IsStrictlySortedBy ref_cmp (keys_of es) → T (is_sorted ref_cmp es)
unfolding IsStrictlySortedBy
rising [] h = tt
rising (e ∷ es) h = both _ _ (lower_than e.0 es h.0) (rising es h.1)

lower_sized : (rows : List Row) (k : List ℕ) (es : List Entry) → below_all ref_cmp k (map (sized rows) es) ≡ below_all ref_cmp k es
lower_sized rows k [] = refl
lower_sized rows k (e ∷ es) = ap (λ b. is_lt (ref_cmp k e.0) && b) (lower_sized rows k es)

sorted_sized : (rows : List Row) (es : List Entry) → is_sorted ref_cmp (map (sized rows) es) ≡ is_sorted ref_cmp es
sorted_sized rows [] = refl
sorted_sized rows (e ∷ es) = λ i. lower_sized rows e.0 es i && sorted_sized rows es i

find_sized : (rows : List Row) (q : List ℕ) (es : List Entry) → find ref_cmp q (map (sized rows) es) ≡ option_map (size_at rows) (find ref_cmp q es)
find_sized rows q [] = refl
find_sized rows q (e ∷ es) = elim (eq_by_cmp ref_cmp q e.0) as (λ b. cond b (Some (size_at rows e.1)) (find ref_cmp q (map (sized rows) es)) ≡ option_map (size_at rows) (cond b (Some e.1) (find ref_cmp q es))) [
  | true ↦ refl
  | false ↦ find_sized rows q es
]

find_lookup : (q : List ℕ) (es : List Entry) → find ref_cmp q es ≡ lookup (pointwise nat_eq q) es
find_lookup q [] = refl
find_lookup q (e ∷ es) = let same = sym (texts_ties q e.0) in (λ i. cond (same i) (Some e.1) (find_lookup q es i))

-- a ref's size is that of the row of its number
size_found : (rows : List Row) (q : List ℕ) (o : Option ℕ) → number_of q rows ≡ o → lookup (pointwise nat_eq q) (sizes_in rows) ≡ option_map (size_at rows) o
size_found rows q None is = no_row_of (λ row. row.size) q rows is
size_found rows q (Some n) is =
    let found = row_of_number (λ row. row.size) q rows n is in
    found.found ∙ ap (λ o. Some (unwrap_or (option_map (λ (row : Row). row.size) o) 0)) (sym found.at)

same_refs : IsAntisymmetric ref_cmp
same_refs = slice_cmp-IsAntisymmetric nat_cmp-IsAntisymmetric

-- the refs in their order with their sizes are the tree's entries with the sizes of the rows of their numbers
pub sizes_by_tree : (rows : List Row) (es : List Entry) → IsStrictlySortedBy ref_cmp (keys_of es) → IsPlaced (from_entries es) rows
    → entries (from_entries {R = ref_cmp} (sizes_in rows)) ≡ map (sized rows) es
sizes_by_tree rows es rise placed = same_entries ref_cmp nat_list_cmp_total same_refs (entries (from_entries {R = ref_cmp} (sizes_in rows))) (map (sized rows) es)
    (entries_sorted (from_entries {R = ref_cmp} (sizes_in rows))) (subst T (sym (sorted_sized rows es)) (rising es rise))
    (λ q. sym (get-entries (from_entries {R = ref_cmp} (sizes_in rows)) q) ∙ get-from_entries nat_list_cmp_total (sizes_in rows) q ∙ find_lookup q (sizes_in rows)
    ∙ size_found rows q (find ref_cmp q es) (sym (placed q) ∙ get-from_entries nat_list_cmp_total es q) ∙ sym (find_sized rows q es))

between_sized : (rows : List Row) (lo hi : Bound (List ℕ)) (es : List Entry) → entries_between ref_cmp lo hi (map (sized rows) es) ≡ map (sized rows) (entries_between ref_cmp lo hi es)
between_sized rows lo hi [] = refl
between_sized rows lo hi (e ∷ es) = elim (range_contains ref_cmp lo hi e.0) as (λ b. cond b (sized rows e ∷ entries_between ref_cmp lo hi (map (sized rows) es)) (entries_between ref_cmp lo hi (map (sized rows) es)) ≡ map (sized rows) (cond b (e ∷ entries_between ref_cmp lo hi es) (entries_between ref_cmp lo hi es))) [
  | true ↦ ap (λ l. sized rows e ∷ l) (between_sized rows lo hi es)
  | false ↦ between_sized rows lo hi es
]

-- before the first entry of a range, the page is what is left
pub page_begins : (rows : List Row) (es : List Entry) (start : Bound (List ℕ)) (limit : ℕ) → IsStrictlySortedBy ref_cmp (keys_of es) → IsPlaced (from_entries es) rows
    → take limit (map (sized rows) (entries_between ref_cmp start Unbounded es)) ≡ page_from start limit rows
page_begins rows es start limit rise placed = ap (take limit) (sym (between_sized rows start Unbounded es) ∙ ap (entries_between ref_cmp start Unbounded) (sym (sizes_by_tree rows es rise placed)))

-- one entry more
pub page_more : (rows : List Row) (done : List Entry) (limit : ℕ) (e : Entry) (left : List Entry) → length done < limit
    → (done ++ sized rows e ∷ []) ++ take (limit - length (done ++ sized rows e ∷ [])) (map (sized rows) left) ≡ done ++ take (limit - length done) (map (sized rows) (e ∷ left))
page_more rows done limit e left lt =
    let step : limit - length done ≡ suc (limit - length (done ++ sized rows e ∷ [])) = omega (arith, lt, length-append done (sized rows e ∷ [])) in
    append_assoc done (sized rows e ∷ []) (take (limit - length (done ++ sized rows e ∷ [])) (map (sized rows) left)) ∙ ap (λ k. done ++ take k (map (sized rows) (e ∷ left))) (sym step)

-- the numbers of some entries of the tree are those of rows
pub all_indexed : (rows : List Row) (es fs : List Entry) (P : List ℕ → Type 0) → IsPlaced (from_entries es) rows → All (λ (e : Entry). P e.0 × (lookup (is_at (ref_cmp e.0)) es ≡ Some e.1)) fs → All (λ (e : Entry). e.1 < length rows) fs
all_indexed rows es fs P placed found k d lt = let here = found k d lt in number_below _ rows _ (sym (placed _) ∙ get_ref es _ ∙ here.1)

pub not_full : (n limit len : ℕ) → n ≤ limit → len ≡ n → (len ≡ limit → ⊥) → n < limit
not_full n limit len le is other = omega (arith, le, is, other)

-- a page that is full, or after which nothing is left
pub page_full : (rows : List Row) (done left : List Entry) (limit : ℕ) → length done ≡ limit → done ++ take (limit - length done) (map (sized rows) left) ≡ done
page_full rows done left limit full = let none : limit - length done ≡ 0 = omega (arith, full) in ap (λ k. done ++ take k (map (sized rows) left)) none ∙ append-nil done

pub page_ends : (rows : List Row) (done : List Entry) (n : ℕ) → done ++ take n (map (sized rows) []) ≡ done
page_ends rows done n = ap (λ l. done ++ l) (take-nil n) ∙ append-nil done
  where
    take-nil : (k : ℕ) → take k (map (sized rows) []) ≡ []
    take-nil zero = refl
    take-nil (suc k) = refl

-- a page by a bound is a page by a ref
between_after : (after : Option (List ℕ)) (es : List Entry) → entries_between ref_cmp (bound_of after) Unbounded es ≡ filter (λ (e : Entry). is_after after e.0) es
between_after after [] = refl
between_after after (e ∷ es) = (λ i. cond (same after i) (e ∷ between_after after es i) (between_after after es i))
  where
    one : (b : Bool) → (b && true) ≡ b
    one true = refl
    one false = refl

    same : (o : Option (List ℕ)) → range_contains ref_cmp (bound_of o) Unbounded e.0 ≡ is_after o e.0
    same None = refl
    same (Some start) = one (is_lt (ref_cmp start e.0))

pub page_after : (after : Option (List ℕ)) (limit : ℕ) (rows : List Row) → page_from (bound_of after) limit rows ≡ page after limit rows
page_after after limit rows = ap (take limit) (between_after after (entries (from_entries {R = ref_cmp} (sizes_in rows))))
