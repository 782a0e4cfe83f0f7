-- What a store tells as a peer.
use Rattle.std.proofs.Common.{◌≡◌, ℕ, Err, zero, suc, ◌≤◌, ◌<◌, ◌^◌, Bool, true, false, cond, if◌then◌else◌, Option}
use Rattle.std.proofs.Common.{None, Some, Result, Ok, List, [], ◌∷◌, length, map, take, filter, nat_eq, refl, sym, ap}
use Rattle.std.proofs.Common.{subst, ◌∙◌, arith, Ordering, Less, Equal, Greater}
use Rattle.std.proofs.lemmas.List.{length-map}
use Rattle.std.specs.List.{All}
use Rattle.std.specs.Option.{ForSome, option_map}
use Rattle.std.specs.Map.{lookup}
use Rattle.std.specs.Ordering.{is_eq}
use Rattle.std.specs.Cmp.Lexicographic.{pointwise, nat_list_cmp_total, texts_ties}
use Rattle.std.specs.FinMap.{FinMap, get, empty, entries, entries_sorted, from_entries, find, get-from_entries}
use Rattle.std.specs.FinMap.{entries-insert, len-empty, len-entries}
use Rattle.std.specs.FinMap.Entries.{put, by_order, is_sorted-where_key}
use Rattle.blobref.specs.Blobref.{IsOwnRef, is_own_ref, ref_like, ref_cmp, is_after}
use Rattle.edge_base.specs.Shelf.{Blob, Blobs, max_blob}
use Rattle.pack_format.specs.Header.{max_size}
use Rattle.pack_disk.specs.Packs.{Packs}
use Rattle.pack_store.specs.declared.rows.Row.{Row}
use Rattle.pack_store.specs.Rows.{arrivals_in, arrival_of, sizes_in, IsOfBlob}
use Rattle.edge_base.specs.declared.answers.GetFault.{GetFault}
use Rattle.edge_base.specs.declared.answers.GetFault.TheVariants as fault
use Rattle.pack_store.specs.declared.reading.UncheckedBlob.{UncheckedBlob}
use Rattle.pack_store.specs.Finding.{IsFound, checked}
use Rattle.pack_store.specs.Reading.{bytes_of, size_of, entry_of, page}
use Rattle.pack_store.specs.StoreShelf.{map_of, content_of}
use Rattle.pack_store.specs.Archive.{Archive}
use Rattle.pack_disk.specs.declared.disk.Disk.{Ghosts}
use Rattle.peer_base.specs.Blobs.{AreHeld, IsPage, listed, sized, sizes_of}
use Rattle.peer_base.proofs.Pages.{same_refs, sorted_take, short_take, all_beyond}
use Rattle.store_peer.proofs.Counts.{no_more}

-- ---- a page

-- a page of any map is a page
pub page_is_page : (after : Option (List ℕ)) (limit : ℕ) (m : FinMap ref_cmp ℕ) → IsPage after limit
    (take limit (filter (λ (e : List ℕ × ℕ). is_after after e.0) (entries m)))
page_is_page after limit m = record {
  few = short_take limit (filter (λ (e : List ℕ × ℕ). is_after after e.0) (entries m));
  rising = sorted_take limit (filter (λ (e : List ℕ × ℕ). is_after after e.0) (entries m))
      (is_sorted-where_key ref_cmp (is_after after) (entries m) (entries_sorted m));
  later = all_beyond after limit (entries m);
}

put-sized : (k v : List ℕ) (es : List Blob) → map sized (put ref_cmp k v es) ≡ put ref_cmp k (length v) (map sized es)
put-sized k v [] = refl
put-sized k v (e ∷ es) = go (ref_cmp k e.0) (put-sized k v es)
  where
    go : (o : Ordering) → map sized (put ref_cmp k v es) ≡ put ref_cmp k (length v) (map sized es)
        → map sized (by_order o ((k, v) ∷ e ∷ es) ((e.0, v) ∷ es) (e ∷ put ref_cmp k v es))
        ≡ by_order o ((k, length v) ∷ sized e ∷ map sized es) ((e.0, length v) ∷ map sized es)
        (sized e ∷ put ref_cmp k (length v) (map sized es))
    go Less more = refl
    go Equal more = refl
    go Greater more = ap (λ l. sized e ∷ l) more

no_entries : {X : Type 0} (es : List (List ℕ × X)) → length es ≡ 0 → es ≡ []
no_entries [] e = refl
no_entries (e ∷ es) none = absurd (omega (arith, none))

pub none_in_empty : (X : Type 0) → entries {X = X} (empty {R = ref_cmp}) ≡ []
none_in_empty X = no_entries (entries {X = X} (empty {R = ref_cmp})) (sym (len-entries (empty {X = X} {R = ref_cmp}))
    ∙ len-empty ref_cmp X)

entries-sized : (es : List Blob) → entries (from_entries {R = ref_cmp} (map sized es))
    ≡ map sized (entries (from_entries {R = ref_cmp} es))
entries-sized [] = none_in_empty ℕ ∙ ap (map sized) (sym (none_in_empty (List ℕ)))
entries-sized (e ∷ es) =
    entries-insert nat_list_cmp_total (from_entries {R = ref_cmp} (map sized es)) e.0 (length e.1)
    ∙ ap (put ref_cmp e.0 (length e.1)) (entries-sized es)
    ∙ sym (put-sized e.0 e.1 (entries (from_entries {R = ref_cmp} es)))
    ∙ ap (map sized) (sym (entries-insert nat_list_cmp_total (from_entries {R = ref_cmp} es) e.0 e.1))

some_same : {X : Type 0} (a b : X) → Some a ≡ Some b → a ≡ b
some_same a b e = cc e

second_same : (a b : List ℕ × ℕ) → Some a ≡ Some b → a.1 ≡ b.1
second_same a b e = ap (λ (p : List ℕ × ℕ). p.1) (some_same a b e)

first_same : (x y : List ℕ × ℕ) (xs ys : List (List ℕ × ℕ)) → x ∷ xs ≡ y ∷ ys → x ≡ y
first_same x y xs ys e = cc e

ok_same : (a b : List ℕ × List ℕ) → ◌≡◌ {A = Result (List ℕ × List ℕ) GetFault} (Ok a) (Ok b) → a ≡ b
ok_same a b e = cc e

-- the content of told packs
the_map : (told : Option Packs) (rows : List Row) (held : Blobs) → option_map (map_of rows) told ≡ Some held
    → (packs : Packs) × (told ≡ Some packs) × (map_of rows packs ≡ held)
the_map None rows held e = absurd (cc e)
the_map (Some packs) rows held e = (packs, refl, some_same (map_of rows packs) held e)

-- the sizes of the rows are those of the content
pub listed_as : (told : Option Packs) (rows : List Row) (after : Option (List ℕ)) (limit : ℕ)
    (found : List (List ℕ × ℕ))
    → ((packs : Packs) → told ≡ Some packs → map (λ (a : Blob). (a.0, length a.1)) (arrivals_in packs rows)
    ≡ sizes_in rows) → found ≡ page after limit rows
    → ForSome (option_map (map_of rows) told) (λ held. found ≡ listed after limit held)
listed_as told rows after limit found sizes is held e =
    let m = the_map told rows held e in
    is ∙ ap (λ es. take limit (filter (λ (e : List ℕ × ℕ). is_after after e.0) es))
    (ap (λ es. entries (from_entries {R = ref_cmp} es)) (sym (sizes m.0 m.1)) ∙ entries-sized (arrivals_in m.0 rows)
    ∙ ap sizes_of m.2)

-- ---- a blob

find_lookup : (r : List ℕ) (es : List Blob) → find ref_cmp r es ≡ lookup (pointwise nat_eq r) es
find_lookup r [] = refl
find_lookup r (e ∷ es) = let same = sym (texts_ties r e.0) in (λ i. cond (same i) (Some e.1) (find_lookup r es i))

pub found_as : (told : Option Packs) (rows : List Row) (r : List ℕ) (found : Option (List ℕ))
    → ForSome told (λ packs. found ≡ bytes_of r packs rows) → ForSome (option_map (map_of rows) told)
    (λ held. found ≡ get held r)
found_as told rows r found is held e =
    let m = the_map told rows held e in
    is m.0 m.1 ∙ sym (find_lookup r (arrivals_in m.0 rows))
    ∙ sym (get-from_entries nat_list_cmp_total (arrivals_in m.0 rows) r) ∙ ap (λ (h : Blobs). get h r) m.2

-- the size of a row is that of a blob
pub size_small : (rows : List Row) (r : List ℕ) (size : ℕ) → All IsOfBlob rows → lookup (pointwise nat_eq r)
    (sizes_in rows) ≡ Some size → size ≤ max_size
size_small [] r size all e = absurd (cc e)
size_small (row ∷ rows) r size all e = go (pointwise nat_eq r row.r)
    (size_small rows r size (λ k d lt. all (suc k) d (omega (arith, lt)))) e
  where
    go : (b : Bool) → (lookup (pointwise nat_eq r) (sizes_in rows) ≡ Some size → size ≤ max_size)
        → cond b (Some row.size) (lookup (pointwise nat_eq r) (sizes_in rows)) ≡ Some size → size ≤ max_size
    go true more e = let here = all 0 row (omega arith) in let is : row.size ≡ size = some_same row.size size e in
        omega (arith, is, here.long, here.small)
    go false more e = more e

pub entry_small : (rows : List Row) (r q : List ℕ) (size : ℕ) → All IsOfBlob rows → entry_of r rows ≡ Some (q, size)
    → size ≤ max_size
entry_small rows r q size all e = go (size_of r rows) refl e
  where
    go : (o : Option ℕ) → size_of r rows ≡ o → option_map {U = List ℕ × ℕ} (λ (s : ℕ). (r, s)) o ≡ Some (q, size)
        → size ≤ max_size
    go None is e = absurd (cc e)
    go (Some s) is e = let same : s ≡ size = second_same (r, s) (q, size) e in size_small rows r size all
        (is ∙ ap Some same)

-- ---- all of them

found_all : (P : List ℕ → List ℕ → Type 0) (es : List Blob) → All (λ (a : Blob). P a.0 a.1) es → (r bytes : List ℕ)
    → find ref_cmp r es ≡ Some bytes → P r bytes
found_all P [] all r bytes e = absurd (cc e)
found_all P (x ∷ xs) all r bytes e = go (ref_cmp r x.0) refl
    (found_all P xs (λ k d lt. all (suc k) d (omega (arith, lt))) r bytes) e
  where
    go : (o : Ordering) → ref_cmp r x.0 ≡ o → (find ref_cmp r xs ≡ Some bytes → P r bytes) → cond (is_eq o) (Some x.1)
        (find ref_cmp r xs) ≡ Some bytes → P r bytes
    go Less is more e = more e
    go Equal is more e = subst (λ q. P q bytes) (sym (same_refs r x.0 is)) (subst (P x.0) (some_same x.1 bytes e)
        (all 0 x (omega arith)))
    go Greater is more e = more e

small_arrivals : (packs : Packs) (rows : List Row) → All IsOfBlob rows → map (λ (a : Blob). (a.0, length a.1))
    (arrivals_in packs rows) ≡ sizes_in rows → All (λ (a : Blob). length a.1 ≤ max_blob) (arrivals_in packs rows)
small_arrivals packs [] all sizes = none
  where
    none : All (λ (a : Blob). length a.1 ≤ max_blob) []
    none k d lt = absurd (omega (arith, lt))
small_arrivals packs (row ∷ rows) all sizes =
    more (small_arrivals packs rows (λ k d lt. all (suc k) d (omega (arith, lt))) (cc sizes))
  where
    here : length (arrival_of packs row).1 ≡ row.size
    here = ap (λ (p : List ℕ × ℕ). p.1) (first_same ((arrival_of packs row).0, length (arrival_of packs row).1)
        (row.r, row.size) (map (λ (a : Blob). (a.0, length a.1)) (arrivals_in packs rows)) (sizes_in rows) sizes)

    more : All (λ (a : Blob). length a.1 ≤ max_blob) (arrivals_in packs rows)
        → All (λ (a : Blob). length a.1 ≤ max_blob) (arrivals_in packs (row ∷ rows))
    more rest zero d lt = let blob = all 0 row (omega arith) in omega (arith, here, blob.long, blob.small)
    more rest (suc k) d lt = rest k d (omega (arith, lt))

pub held_as : (told : Option Packs) (rows : List Row) → All IsOfBlob rows → ((packs : Packs) → told ≡ Some packs
    → All (λ (a : Blob). IsOwnRef a.0 a.1) (arrivals_in packs rows))
    → ((packs : Packs) → told ≡ Some packs → map (λ (a : Blob). (a.0, length a.1)) (arrivals_in packs rows)
    ≡ sizes_in rows) → length rows < 2 ^ 64
    → ForSome (option_map (map_of rows) told) AreHeld
held_as told rows blobs named sizes few held e =
    let m = the_map told rows held e in
    let es = arrivals_in m.0 rows in
    let len : length es ≡ length rows = length-map rows (arrival_of m.0) in
    subst AreHeld m.2 (record {
      blobs = record {
        own = λ r bytes is. found_all (λ r bytes. IsOwnRef r bytes) es (named m.0 m.1) r bytes
            (sym (get-from_entries nat_list_cmp_total es r) ∙ is);
        small = λ r bytes is. found_all (λ r bytes. length bytes ≤ max_blob) es
            (small_arrivals m.0 rows blobs (sizes m.0 m.1)) r bytes (sym (get-from_entries nat_list_cmp_total es r)
            ∙ is);
      };
      few = omega (arith, len, no_more es, few);
    })

-- ---- of a store that is kept in the peer

pub held_by : {D : Type 0} (g : Ghosts D) (s t : Archive D) → s ≡ t → All IsOfBlob s.rows
    → ((packs : Packs) → g.packs s.disk ≡ Some packs → All (λ (a : Blob). IsOwnRef a.0 a.1) (arrivals_in packs s.rows))
    → ((packs : Packs) → g.packs s.disk ≡ Some packs → map (λ (a : Blob). (a.0, length a.1)) (arrivals_in packs s.rows)
    ≡ sizes_in s.rows) → length s.rows < 2 ^ 64
    → ForSome (content_of g t) AreHeld
held_by {D} g s t is blobs named sizes few = subst (λ (x : Archive D). ForSome (content_of g x) AreHeld) is
    (held_as (g.packs s.disk) s.rows blobs named sizes few)

pub page_by : {D : Type 0} (s t : Archive D) (after : Option (List ℕ)) (limit : ℕ) (found : List (List ℕ × ℕ)) → s ≡ t
    → found ≡ page after limit s.rows → IsPage after limit found
page_by {D} s t after limit found is e = subst (IsPage after limit) (sym e)
    (page_is_page after limit (from_entries {R = ref_cmp} (sizes_in s.rows)))

pub listed_by : {D : Type 0} (g : Ghosts D) (s t : Archive D) (after : Option (List ℕ)) (limit : ℕ)
    (found : List (List ℕ × ℕ)) → s ≡ t
    → ((packs : Packs) → g.packs s.disk ≡ Some packs → map (λ (a : Blob). (a.0, length a.1)) (arrivals_in packs s.rows)
    ≡ sizes_in s.rows) → found ≡ page after limit s.rows
    → ForSome (content_of g t) (λ held. found ≡ listed after limit held)
listed_by {D} g s t after limit found is sizes e =
    subst (λ (x : Archive D). ForSome (content_of g x) (λ held. found ≡ listed after limit held)) is
    (listed_as (g.packs s.disk) s.rows after limit found sizes e)

pub found_by : {D : Type 0} (g : Ghosts D) (s t : Archive D) (r : List ℕ) (found : Option (List ℕ)) → s ≡ t
    → ForSome (g.packs s.disk) (λ packs. found ≡ bytes_of r packs s.rows)
    → ForSome (content_of g t) (λ held. found ≡ get held r)
found_by {D} g s t r found is e = subst (λ (x : Archive D). ForSome (content_of g x) (λ held. found ≡ get held r)) is
    (found_as (g.packs s.disk) s.rows r found e)

pub checked_bytes : (b : UncheckedBlob) (r bytes : List ℕ) → checked b ≡ Ok (r, bytes) → b.bytes ≡ bytes
checked_bytes b r bytes e = go (is_own_ref b.r b.bytes) e
  where
    chosen : Bool → Result (List ℕ × List ℕ) GetFault
    chosen own = if own then Ok (b.r, b.bytes) else Err (fault.Damaged b.r (ref_like b.r b.bytes))

    go : (own : Bool) → chosen own ≡ Ok (r, bytes) → b.bytes ≡ bytes
    go true e = ap (λ (p : List ℕ × List ℕ). p.1) (ok_same (b.r, b.bytes) (r, bytes) e)
    go false e = absurd (cc e)

pub found_small : (rows : List Row) (r : List ℕ) (b : UncheckedBlob) → All IsOfBlob rows → IsFound (entry_of r rows) b
    → length b.bytes ≤ max_blob
found_small rows r b all f = omega (arith, entry_small rows r b.r f.size all f.asked_for, f.within)
