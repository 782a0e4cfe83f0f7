-- Refs are gone through, each once, and their sizes are looked up.
use Rattle.std.proofs.Common.{◌≡◌, ℕ, ◌≤◌, cond, Bool, true, false, ◌||◌, List, [], ◌∷◌, ◌++◌, length, drop, Option, Some, None, refl, sym, ap, ◌∙◌}
use Rattle.std.specs.List.{cons_option, list_any, filter_map}
use Rattle.std.specs.Ordering.{eq_by_cmp}
use Rattle.std.specs.BTreeSet.{BTreeSet, contains}
use Rattle.std.specs.Option.{option_map}
use Rattle.std.specs.Cmp.Lexicographic.{texts_ties}
use Rattle.std.proofs.lemmas.List.{append-nil, drop_all}
use Rattle.std.proofs.lemmas.List.Folds.{list_any-append}
use Rattle.std.proofs.lemmas.Cmp.{nat_list_eq_equiv}
use Rattle.blobref.specs.Blobref.{ref_cmp}
use Rattle.pack_store.specs.declared.rows.Row.{Row}
use Rattle.pack_store.specs.Rows as stood
use Rattle.pack_store.specs.Reading.{entry_of}
use Rattle.histories.specs.Stores.{Blob, is_ref, bytes_of}
use Rattle.histories.specs.StoreCalls.{sizes, sized}
use Rattle.store_history.specs.Once.{HasSame}
use Rattle.store_history.proofs.Rows.{same_entry}

-- a loop that has gone through all has the whole
pub gone_through : {A B : Type 0} (f : List A → List B) (found whole : List B) (items : List A) (at : ℕ) → f [] ≡ [] → length items ≤ at → found ++ f (drop at items) ≡ whole → found ≡ whole
gone_through f found whole items at none end is = sym (append-nil found) ∙ ap (λ ys. found ++ ys) (sym (ap f (drop_all at items end) ∙ none)) ∙ is

-- the entries of the rows are the sizes of the blobs
pub sized_as : (rows : List Row) (blobs : List Blob) → stood.sizes_in rows ≡ sizes blobs → (refs : List (List ℕ)) → filter_map (λ q. entry_of q rows) refs ≡ filter_map (sized blobs) refs
sized_as rows blobs same [] = refl
sized_as rows blobs same (r ∷ refs) = λ i. cons_option ((same_entry rows blobs same r ∙ go (bytes_of r blobs)) i) (sized_as rows blobs same refs i)
  where
    go : (o : Option (List ℕ)) → option_map {U = List ℕ × ℕ} (λ (b : Blob). (b.0, length b.1)) (option_map (λ (bytes : List ℕ). (r, bytes)) o) ≡ option_map (λ (bytes : List ℕ). (r, length bytes)) o
    go None = refl
    go (Some bytes) = refl

-- one ref more in the set and in the list
pub has_more : (seen now : BTreeSet (List ℕ)) (once : List (List ℕ)) (r : List ℕ) → HasSame seen once
    → ((q : List ℕ) → contains ref_cmp now q ≡ cond (eq_by_cmp ref_cmp r q) true (contains ref_cmp seen q)) → HasSame now (once ++ r ∷ [])
has_more seen now once r same added q =
    added q ∙ ap (λ b. cond b true (contains ref_cmp seen q)) (sym (texts_ties r q) ∙ nat_list_eq_equiv.symm r q)
    ∙ ap (cond (is_ref q r) true) (same q) ∙ swapped (is_ref q r) (list_any (is_ref q) once) ∙ sym (list_any-append (is_ref q) once (r ∷ []))
  where
    swapped : (a b : Bool) → cond a true b ≡ (b || (a || false))
    swapped true true = refl
    swapped true false = refl
    swapped false true = refl
    swapped false false = refl
