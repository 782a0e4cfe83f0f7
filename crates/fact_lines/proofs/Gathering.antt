-- Facts that are gathered place by place are those of the arrivals.
use Rattle.std.proofs.Common.{◌≡◌, ℕ, zero, suc, ◌+◌, ◌≤◌, ◌&&◌, ◌||◌, Bool, true, false, cond, not, Some, List, []}
use Rattle.std.proofs.Common.{◌∷◌, ◌++◌, drop, length, map, option_map, slice_get, Option, None, refl, sym, ap, subst}
use Rattle.std.proofs.Common.{◌∙◌, nat_eq, arith, append_assoc}
use Rattle.std.proofs.lemmas.List.{append-nil, drop_all, map-append}
use Rattle.std.proofs.lemmas.List.Elements.{All-append, All-cons, All-nil}
use Rattle.std.proofs.lemmas.Map.Keys.{IsDistinct-head, IsDistinct-tail}
use Rattle.std.specs.BTreeSet.{BTreeSet, Updates}
use Rattle.std.specs.Cmp.Lexicographic.{pointwise, nat_list_cmp_total, nat_list_eq_equiv, texts_ties}
use Rattle.std.specs.FinMap.{FinMap, find, get, entries, from_entries, get-entries, get-from_entries, same_map}
use Rattle.std.specs.FinMap.{IsAntisymmetric, slice_cmp-IsAntisymmetric, nat_cmp-IsAntisymmetric}
use Rattle.std.specs.List.{list_any, list_all, position_from, AllByRecursion, IsDistinct}
use Rattle.std.specs.Map.{keys_of}
use Rattle.std.specs.Ordering.{eq_by_cmp}
use Rattle.std.specs.Prelude.{IsTrue}
use Rattle.std.specs.Str.{bytes_eq}
use Rattle.blobref.specs.Blobref.{ref_cmp}
use Rattle.schema_json.specs.Facts.{fact_of}
use Rattle.schema_fact.specs.Validity.{IsValid}
use Rattle.schema_json.proofs.ValidFacts.{IsValidKind-kind_of}
use Rattle.claim_model.specs.Facts.{Entry, AreDistinct, AreValid}
use Rattle.salvage_scan.specs.Arrivals.{arrive, arrivals, content, blob_of}
use Rattle.salvage_scan.specs.Salvage.{salvage}
use Rattle.salvage_scan.proofs.Arriving.{arrivals_are_firsts}
use Rattle.pack_store.specs.declared.rows.Row.{Row}
use Rattle.pack_store.specs.Rows.{AreNew}
use Rattle.fact_lines.specs.Blobs.{Blob, entry_of, facts_of_content, pack_facts, has_fact, with_blob, with_blobs}
use Rattle.fact_lines.specs.Blobs.{HasRefsOf}

-- ---- arrivals, as facts

has-entries : (before : List Blob) (r : List ℕ)
    → has_fact (map entry_of before) r ≡ list_any (λ (a : Blob). pointwise nat_eq a.0 r) before
has-entries [] r = refl
has-entries (a ∷ before) r = λ i. pointwise nat_eq a.0 r || has-entries before r i

entries-push : (before : List Blob) (f : Blob) → map entry_of (before ++ f ∷ []) ≡ map entry_of before
    ++ entry_of f ∷ []
entries-push [] f = refl
entries-push (a ∷ before) f = ap (λ l. entry_of a ∷ l) (entries-push before f)

entries-one : (before : List Blob) (f : Blob)
    → map entry_of (cond (list_any (λ (a : Blob). pointwise nat_eq a.0 f.0) before) before (before ++ f ∷ []))
    ≡ with_blob (map entry_of before) f
entries-one before f =
    go (list_any (λ (a : Blob). pointwise nat_eq a.0 f.0) before)
    ∙ ap (λ b. cond b (map entry_of before) (map entry_of before ++ entry_of f ∷ [])) (sym (has-entries before f.0))
  where
    go : (b : Bool) → map entry_of (cond b before (before ++ f ∷ [])) ≡ cond b (map entry_of before)
        (map entry_of before ++ entry_of f ∷ [])
    go true = refl
    go false = entries-push before f

entries-arrive : (fs before : List Blob) → map entry_of (arrive before fs) ≡ with_blobs (map entry_of before) fs
entries-arrive [] before = refl
entries-arrive (f ∷ fs) before =
    entries-arrive fs (cond (list_any (λ (a : Blob). pointwise nat_eq a.0 f.0) before) before (before ++ f ∷ []))
    ∙ ap (λ es. with_blobs es fs) (entries-one before f)

-- the facts of the findings of a pack
gathered : (pack : List ℕ) → with_blobs [] (map blob_of (salvage pack)) ≡ map entry_of (arrivals ((0, pack) ∷ []))
gathered pack = sym (entries-arrive (map blob_of (salvage pack)) []) ∙ ap (λ fs. map entry_of (arrive [] fs))
    (sym (append-nil (map blob_of (salvage pack))))

-- ---- the same as a map

pub same_ref : IsAntisymmetric ref_cmp
same_ref = slice_cmp-IsAntisymmetric nat_cmp-IsAntisymmetric

find-entries : (q : List ℕ) (es : List Blob) → find ref_cmp q (map entry_of es) ≡ option_map fact_of (find ref_cmp q es)
find-entries q [] = refl
find-entries q (e ∷ es) = go (eq_by_cmp ref_cmp q e.0) (find-entries q es)
  where
    go : (b : Bool) → find ref_cmp q (map entry_of es) ≡ option_map fact_of (find ref_cmp q es)
        → cond b (Some (fact_of e.1)) (find ref_cmp q (map entry_of es))
        ≡ option_map fact_of (cond b (Some e.1) (find ref_cmp q es))
    go true more = refl
    go false more = more

facts-content : (es : List Blob) → from_entries {R = ref_cmp} (map entry_of es) ≡ facts_of_content (from_entries es)
facts-content es = same_map nat_list_cmp_total same_ref _ _ alike
  where
    blobs : FinMap ref_cmp (List ℕ)
    blobs = from_entries es

    alike : (q : List ℕ) → get (from_entries {R = ref_cmp} (map entry_of es)) q ≡ get (facts_of_content blobs) q
    alike q =
        get-from_entries nat_list_cmp_total (map entry_of es) q ∙ find-entries q es
        ∙ ap (option_map fact_of) (sym (get-from_entries nat_list_cmp_total es q) ∙ get-entries blobs q)
        ∙ sym (get-from_entries nat_list_cmp_total (map entry_of (entries blobs)) q ∙ find-entries q (entries blobs))

pub gathered_facts : (pack : List ℕ) (facts : List Entry) → facts ≡ with_blobs [] (map blob_of (salvage pack))
    → from_entries facts ≡ pack_facts pack
gathered_facts pack facts is = ap from_entries (is ∙ gathered pack) ∙ facts-content (arrivals ((0, pack) ∷ []))

-- ---- no ref comes twice

apart : (r : List ℕ) (es : List Blob) → AllByRecursion (λ q. pointwise nat_eq r q ≡ false) (keys_of es)
    → IsTrue (list_all (λ (f : Entry). not (bytes_eq r f.0)) (map entry_of es))
apart r [] h = refl
apart r (e ∷ es) h = go (pointwise nat_eq r e.0) h.0 (apart r es h.1)
  where
    go : (b : Bool) → b ≡ false → IsTrue (list_all (λ (f : Entry). not (bytes_eq r f.0)) (map entry_of es))
        → IsTrue (not b && list_all (λ (f : Entry). not (bytes_eq r f.0)) (map entry_of es))
    go true e more = absurd (cc e)
    go false e more = more

distinct : (es : List Blob) → IsDistinct (pointwise nat_eq) (keys_of es) → AreDistinct (map entry_of es)
distinct [] h = tt
distinct (e ∷ es) h = (
  apart e.0 es (IsDistinct-head (pointwise nat_eq) e.0 (keys_of es) h),
  distinct es
      (IsDistinct-tail (pointwise nat_eq) e.0 (keys_of es) h),
)

pub gathered_distinct : (pack : List ℕ) (facts : List Entry) → facts ≡ with_blobs [] (map blob_of (salvage pack))
    → AreDistinct facts
gathered_distinct pack facts is = subst AreDistinct (sym (is ∙ gathered pack))
    (distinct (arrivals ((0, pack) ∷ [])) (arrivals_are_firsts.distinct ((0, pack) ∷ [])))

-- ---- what is read is valid

valid : (es : List Blob) → AreValid (map entry_of es)
unfolding fact_of
valid [] = All-nil (λ (e : Entry). IsValid e.1)
valid (e ∷ es) = All-cons (λ (f : Entry). IsValid f.1) (entry_of e) (map entry_of es) (IsValidKind-kind_of e.1)
    (valid es)

pub gathered_valid : (pack : List ℕ) (facts : List Entry) → facts ≡ with_blobs [] (map blob_of (salvage pack))
    → AreValid facts
gathered_valid pack facts is = subst AreValid (sym (is ∙ gathered pack)) (valid (arrivals ((0, pack) ∷ [])))

-- ---- one blob more

has-push : (facts : List Entry) (e : Entry) (q : List ℕ)
    → has_fact (facts ++ e ∷ []) q ≡ cond (bytes_eq e.0 q) true (has_fact facts q)
has-push [] e q = go (bytes_eq e.0 q)
  where
    go : (b : Bool) → (b || false) ≡ cond b true false
    go true = refl
    go false = refl
has-push (f ∷ facts) e q = ap (λ b. bytes_eq f.0 q || b) (has-push facts e q) ∙ go (bytes_eq f.0 q) (bytes_eq e.0 q)
  where
    go : (a b : Bool) → (a || cond b true (has_fact facts q)) ≡ cond b true (a || has_fact facts q)
    go true true = refl
    go true false = refl
    go false true = refl
    go false false = refl

pub has_refs_push : (seen next : BTreeSet (List ℕ)) (facts pushed : List Entry) (e : Entry) → HasRefsOf seen facts
    → Updates ref_cmp seen next e.0 true → pushed ≡ facts ++ e ∷ [] → HasRefsOf next pushed
has_refs_push seen next facts pushed e has more is q =
    more.0 q ∙ (λ i. cond (sym (texts_ties e.0 q) i) true (has q i))
    ∙ sym (ap (λ es. has_fact es q) is ∙ has-push facts e q)

-- ---- the arrivals of a store

pub drop_next : {X : Type 0} (all : List X) (number : ℕ) (x : X) → slice_get all number ≡ Some x
    → drop number all ≡ x ∷ drop (number + 1) all
drop_next [] number x at = absurd (cc at)
drop_next {X = X} (a ∷ all) zero x at = let same : a ≡ x = cc at in ap (λ (b : X). b ∷ all) same
drop_next (a ∷ all) (suc n) x at = let e : suc n + 1 ≡ suc (n + 1) = omega arith in rw e (drop_next all n x at)

-- the refs of facts, and of rows
abbrev refs_of : List Entry → List (List ℕ)
refs_of facts = map (λ (e : Entry). e.0) facts

abbrev row_refs : List Row → List (List ℕ)
row_refs rows = map (λ (row : Row). row.r) rows

-- a ref that no row has differs from each one's
differs : (r : List ℕ) (before : List Row) (row : Row) (after : List Row) (n : ℕ)
    → position_from (λ (x : Row). pointwise nat_eq r x.r) n (before ++ row ∷ after) ≡ None → bytes_eq r row.r ≡ false
differs r [] row after n none = go (pointwise nat_eq r row.r) none
  where
    go : (b : Bool) → cond b (Some n) (position_from (λ (x : Row). pointwise nat_eq r x.r) (n + 1) after) ≡ None
        → b ≡ false
    go true e = absurd (cc e)
    go false e = refl
differs r (x ∷ before) row after n none = go (pointwise nat_eq r x.r) none (differs r before row after (n + 1))
  where
    go : (b : Bool) → cond b (Some n)
        (position_from (λ (x : Row). pointwise nat_eq r x.r) (n + 1) (before ++ row ∷ after)) ≡ None
        → (position_from (λ (x : Row). pointwise nat_eq r x.r) (n + 1) (before ++ row ∷ after) ≡ None
        → bytes_eq r row.r ≡ false) → bytes_eq r row.r ≡ false
    go true e more = absurd (cc e)
    go false e more = more e

apart_from : (row : Row) (facts : List Entry) (rows before after : List Row) → refs_of facts ≡ row_refs rows
    → AreNew (before ++ row ∷ after) rows → IsTrue (list_all (λ (f : Entry). not (bytes_eq row.r f.0)) facts)
apart_from row [] rows before after are new = refl
apart_from row (f ∷ facts) [] before after are new = absurd (cc are)
apart_from row (f ∷ facts) (next ∷ rows) before after are new =
    let here : f.0 ≡ next.r = cc are in
    let more : refs_of facts ≡ row_refs rows = cc are in
    let other : bytes_eq row.r f.0 ≡ false = nat_list_eq_equiv.symm row.r f.0 ∙ ap (λ r. bytes_eq r row.r) here
    ∙ differs next.r before row after 0 new.0 in
    go (bytes_eq row.r f.0) other
    (apart_from row facts rows before (after ++ next ∷ []) more
    (subst (λ l. AreNew l rows) (append_assoc before (row ∷ after) (next ∷ [])) new.1))
  where
    go : (b : Bool) → b ≡ false → IsTrue (list_all (λ (g : Entry). not (bytes_eq row.r g.0)) facts)
        → IsTrue (not b && list_all (λ (g : Entry). not (bytes_eq row.r g.0)) facts)
    go true e more = absurd (cc e)
    go false e more = more

-- facts under the refs of rows, none of which has the ref of one before it, are distinct
distinct_behind : (facts : List Entry) (before rows : List Row) → refs_of facts ≡ row_refs rows → AreNew before rows
    → AreDistinct facts
distinct_behind [] before rows are new = tt
distinct_behind (e ∷ facts) before [] are new = absurd (cc are)
distinct_behind (e ∷ facts) before (row ∷ rows) are new =
    let here : row.r ≡ e.0 = cc are in
    let more : refs_of facts ≡ row_refs rows = cc are in (
      subst (λ r. IsTrue (list_all (λ (f : Entry). not (bytes_eq r f.0)) facts)) here
          (apart_from row facts rows before [] more new.1),
      distinct_behind facts (before ++ row ∷ []) rows more new.1,
    )

refs_entries : (blobs : List Blob) → refs_of (map entry_of blobs) ≡ map (λ (blob : Blob). blob.0) blobs
refs_entries [] = refl
refs_entries (blob ∷ blobs) = ap (λ l. blob.0 ∷ l) (refs_entries blobs)

-- the facts of the blobs that were shown as the rows came
pub distinct_shown : (facts : List Entry) (blobs : List Blob) (rows : List Row) → facts ≡ map entry_of blobs
    → row_refs rows ≡ map (λ (blob : Blob). blob.0) blobs → AreNew [] rows → AreDistinct facts
distinct_shown facts blobs rows is refs new = distinct_behind facts [] rows (ap refs_of is ∙ refs_entries blobs
    ∙ sym refs) new

pub valid_shown : (facts : List Entry) (blobs : List Blob) → facts ≡ map entry_of blobs → AreValid facts
valid_shown facts blobs is = subst AreValid (sym is) (valid blobs)

either_false : (a b : Bool) → (a || b) ≡ false → (a ≡ false) × (b ≡ false)
either_false true b e = absurd (cc e)
either_false false b e = (refl, e)

all_push : (r : List ℕ) (es : List Entry) (e : Entry) → IsTrue (list_all (λ (f : Entry). not (bytes_eq r f.0)) es)
    → bytes_eq r e.0 ≡ false → IsTrue (list_all (λ (f : Entry). not (bytes_eq r f.0)) (es ++ e ∷ []))
all_push r [] e all differs = go (bytes_eq r e.0) differs
  where
    go : (b : Bool) → b ≡ false → IsTrue (not b && true)
    go true same = absurd (cc same)
    go false same = refl
all_push r (f ∷ es) e all differs = go (bytes_eq r f.0) all (λ rest. all_push r es e rest differs)
  where
    go : (b : Bool) → IsTrue (not b && list_all (λ (f : Entry). not (bytes_eq r f.0)) es)
        → (IsTrue (list_all (λ (f : Entry). not (bytes_eq r f.0)) es)
        → IsTrue (list_all (λ (f : Entry). not (bytes_eq r f.0)) (es ++ e ∷ [])))
        → IsTrue (not b && list_all (λ (f : Entry). not (bytes_eq r f.0)) (es ++ e ∷ []))
    go true h more = absurd (cc h)
    go false h more = more h

distinct_push : (facts : List Entry) (e : Entry) → has_fact facts e.0 ≡ false → AreDistinct facts
    → AreDistinct (facts ++ e ∷ [])
distinct_push [] e lacking d = (refl, tt)
distinct_push (f ∷ facts) e lacking d =
    let both = either_false (bytes_eq f.0 e.0) (has_fact facts e.0) lacking in
    (all_push f.0 facts e d.0 both.0, distinct_push facts e both.1 d.1)

-- a fact more keeps refs apart
pub distinct_more : (facts pushed : List Entry) (blob : Blob) → pushed ≡ with_blob facts blob → AreDistinct facts
    → AreDistinct pushed
distinct_more facts pushed blob is apart_now = subst AreDistinct (sym is) (go (has_fact facts blob.0) refl)
  where
    go : (b : Bool) → has_fact facts blob.0 ≡ b → AreDistinct (cond b facts (facts ++ entry_of blob ∷ []))
    go true there = apart_now
    go false lacking = distinct_push facts (entry_of blob) lacking apart_now

-- and each is valid
pub valid_push : (facts pushed : List Entry) (blob : Blob) → pushed ≡ facts ++ entry_of blob ∷ [] → AreValid facts
    → AreValid pushed
unfolding fact_of
valid_push facts pushed blob is valid_now =
    subst AreValid (sym is) (All-append (λ (e : Entry). IsValid e.1) facts (entry_of blob ∷ []) valid_now
    (All-cons (λ (e : Entry). IsValid e.1) (entry_of blob) [] (IsValidKind-kind_of blob.1)
    (All-nil (λ (e : Entry). IsValid e.1))))

pub valid_more : (facts pushed : List Entry) (blob : Blob) → pushed ≡ with_blob facts blob → AreValid facts
    → AreValid pushed
valid_more facts pushed blob is valid_now = subst AreValid (sym is) (go (has_fact facts blob.0))
  where
    go : (b : Bool) → AreValid (cond b facts (facts ++ entry_of blob ∷ []))
    go true = valid_now
    go false = valid_push facts (facts ++ entry_of blob ∷ []) blob refl valid_now

-- the facts of arrivals, in their order
pub facts_of_arrivals : (packs : List (ℕ × List ℕ)) → from_entries (map entry_of (arrivals packs))
    ≡ facts_of_content (content packs)
facts_of_arrivals packs = facts-content (arrivals packs)
