-- How many entries a map has that is made of a list.
use Rattle.std.proofs.Common.{ℕ, suc, ◌≡◌, ◌≤◌, List, [], ◌∷◌, sym, ap, ◌∙◌, arith, length}
use Rattle.std.specs.declared.cmp.Ordering.{Ordering}
use Rattle.std.specs.declared.cmp.Ordering.TheVariants.{Less, Equal, Greater}
use Rattle.std.specs.Cmp.Lexicographic.{nat_list_cmp_total}
use Rattle.std.specs.FinMap.{empty, from_entries, entries, entries-insert, len-entries, len-empty}
use Rattle.std.specs.FinMap.Entries.{put, by_order}
use Rattle.blobref.specs.Blobref.{ref_cmp}
use Rattle.edge_base.specs.Shelf.{Blob}

put_one : (k v : List ℕ) (es : List Blob) → length (put ref_cmp k v es) ≤ suc (length es)
put_one k v [] = omega arith
put_one k v (e ∷ es) = go (ref_cmp k e.0) (put_one k v es)
  where
    go : (o : Ordering) → length (put ref_cmp k v es) ≤ suc (length es) → length (by_order o ((k, v) ∷ e ∷ es) ((e.0, v) ∷ es) (e ∷ put ref_cmp k v es)) ≤ suc (suc (length es))
    go Less le = omega arith
    go Equal le = omega arith
    go Greater le = omega (arith, le)

-- a map has no more entries than it was made of
pub no_more : (es : List Blob) → length (entries (from_entries {R = ref_cmp} es)) ≤ length es
no_more [] = let none : length (entries (empty {X = List ℕ} {R = ref_cmp})) ≡ 0 = sym (len-entries (empty {X = List ℕ} {R = ref_cmp})) ∙ len-empty ref_cmp (List ℕ) in omega (arith, none)
no_more (e ∷ es) =
    let one : length (entries (from_entries {R = ref_cmp} (e ∷ es))) ≡ length (put ref_cmp e.0 e.1 (entries (from_entries {R = ref_cmp} es))) = ap (λ (l : List Blob). length l) (entries-insert nat_list_cmp_total (from_entries {R = ref_cmp} es) e.0 e.1) in
    omega (arith, one, put_one e.0 e.1 (entries (from_entries {R = ref_cmp} es)), no_more es)
