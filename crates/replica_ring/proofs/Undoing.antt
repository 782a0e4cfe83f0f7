-- What was kept is taken out again.
use Rattle.std.proofs.Common.{◌≡◌, ℕ, Bool, true, false, cond, ◌||◌, Option, Some, None, List, [], ◌∷◌, ◌++◌, take, fold, refl, sym, ap, ◌∙◌}
use Rattle.std.specs.List.{list_any}
use Rattle.std.specs.Option.{is_some, option_or}
use Rattle.std.specs.Ordering.{eq_by_cmp}
use Rattle.std.specs.Cmp.Lexicographic.{nat_list_cmp_total}
use Rattle.std.specs.FinMap.{get, remove, contains_key, find, get-remove}
use Rattle.std.proofs.lemmas.List.Folds.{list_any-append}
use Rattle.blobref.specs.Blobref.{ref_cmp}
use Rattle.edge_base.specs.Shelf.{Blob, Blobs, with_blob, with_blobs}
use Rattle.replica_ring.specs.Rings.{is_valid, all_uploaded}
use Rattle.replica_ring.specs.Taking.{absent_ref, absent_refs, valid_blobs}
use Rattle.replica_ring.proofs.Maps.{by_bool, same_ref, get_with_blobs, find_take, same_maps}

abbrev pub removed : Blobs → List (List ℕ) → Blobs
removed held refs = fold (λ (h : Blobs) (r : List ℕ). remove h r) held refs

abbrev among : List ℕ → List (List ℕ) → Bool
among q refs = list_any (eq_by_cmp ref_cmp q) refs

or_none : (b : Bool) (c : Bool) (o : Option (List ℕ)) → cond c None (cond b None o) ≡ cond (b || c) None o
or_none true true o = refl
or_none true false o = refl
or_none false c o = refl

get_removed : (held : Blobs) (refs : List (List ℕ)) (q : List ℕ) → get (removed held refs) q ≡ cond (among q refs) None (get held q)
get_removed held [] q = refl
get_removed held (r ∷ refs) q =
    get_removed (remove held r) refs q ∙ ap (cond (among q refs) None) (get-remove nat_list_cmp_total held r q)
    ∙ or_none (eq_by_cmp ref_cmp q r) (among q refs) (get held q)

absent_none : (held : Blobs) (blobs : List Blob) (q : List ℕ) → among q (absent_refs held blobs) ≡ true → get held q ≡ None
absent_none held [] q e = absurd (cc e)
absent_none held (blob ∷ blobs) q e = by_bool (contains_key held blob.0)
    (λ there. absent_none held blobs q (sym (ap (λ b. among q (cond b [] (blob.0 ∷ []) ++ absent_refs held blobs)) there) ∙ e))
    (λ lacks. by_bool (eq_by_cmp ref_cmp q blob.0)
    (λ tied. none (get held q) (ap (contains_key held) (same_ref q blob.0 tied) ∙ lacks))
    (λ other. absent_none held blobs q
    (sym (ap (λ b. among q (cond b [] (blob.0 ∷ []) ++ absent_refs held blobs)) lacks ∙ ap (λ b. b || among q (absent_refs held blobs)) other) ∙ e)))
  where
    none : (o : Option (List ℕ)) → is_some o ≡ false → o ≡ None
    none None e = refl
    none (Some x) e = absurd (cc e)

-- what is found among blobs, and isn't there, is one of the absent
found_absent : (held : Blobs) (blobs : List Blob) (q bytes : List ℕ) → get held q ≡ None → find ref_cmp q blobs ≡ Some bytes → among q (absent_refs held blobs) ≡ true
found_absent held [] q bytes none e = absurd (cc e)
found_absent held (blob ∷ blobs) q bytes none e = by_bool (eq_by_cmp ref_cmp q blob.0)
    (λ tied.
    let lacks : contains_key held blob.0 ≡ false = ap (contains_key held) (sym (same_ref q blob.0 tied)) ∙ ap is_some none in
    ap (λ b. among q (cond b [] (blob.0 ∷ []) ++ absent_refs held blobs)) lacks ∙ ap (λ b. b || among q (absent_refs held blobs)) tied)
    (λ other.
    let rest = found_absent held blobs q bytes none (sym (ap (λ b. cond b (Some blob.1) (find ref_cmp q blobs)) other) ∙ e) in
    list_any-append (eq_by_cmp ref_cmp q) (absent_ref held blob.0) (absent_refs held blobs) ∙ ap (λ b. among q (absent_ref held blob.0) || b) rest ∙ or_true (among q (absent_ref held blob.0)))
  where
    or_true : (b : Bool) → (b || true) ≡ true
    or_true true = refl
    or_true false = refl

-- a front was kept, and then all that weren't there before were taken out
pub undone : (held : Blobs) (blobs : List Blob) (n : ℕ) → removed (with_blobs held (take n blobs)) (absent_refs held blobs) ≡ held
undone held blobs n = same_maps _ _ (λ q.
    get_removed (with_blobs held (take n blobs)) (absent_refs held blobs) q ∙ ap (cond (among q (absent_refs held blobs)) None) (get_with_blobs held (take n blobs) q)
    ∙ at q (among q (absent_refs held blobs)) refl (get held q) refl (find ref_cmp q (take n blobs)) refl)
  where
    at : (q : List ℕ) (b : Bool) → among q (absent_refs held blobs) ≡ b → (o : Option (List ℕ)) → get held q ≡ o → (f : Option (List ℕ)) → find ref_cmp q (take n blobs) ≡ f
        → cond b None (option_or o f) ≡ o
    at q true is None stood f found = refl
    at q true is (Some x) stood f found = absurd (cc (sym stood ∙ absent_none held blobs q is))
    at q false is (Some x) stood f found = refl
    at q false is None stood None found = refl
    at q false is None stood (Some bytes) found =
        absurd (cc (sym is ∙ found_absent held blobs q bytes stood (find_take n blobs q bytes found)))

pub undone_is : (held now after : Blobs) (blobs : List Blob) (refs : List (List ℕ)) (n : ℕ) → now ≡ with_blobs held (take n blobs) → refs ≡ absent_refs held blobs
    → after ≡ removed now refs → after ≡ held
undone_is held now after blobs refs n is those gone = gone ∙ (λ i. removed (is i) (those i)) ∙ undone held blobs n

-- only valid ones are taken
pub valid_taken : (held : Blobs) (blobs : List Blob) → with_blobs held (valid_blobs blobs) ≡ all_uploaded held blobs
valid_taken held [] = refl
valid_taken held (blob ∷ blobs) = by_bool (is_valid blob)
    (λ may. ap (λ b. with_blobs held (cond b (blob ∷ []) [] ++ valid_blobs blobs)) may ∙ valid_taken (with_blob held blob) blobs
    ∙ sym (ap (λ b. all_uploaded (cond b (with_blob held blob) held) blobs) may))
    (λ not_so. ap (λ b. with_blobs held (cond b (blob ∷ []) [] ++ valid_blobs blobs)) not_so ∙ valid_taken held blobs
    ∙ sym (ap (λ b. all_uploaded (cond b (with_blob held blob) held) blobs) not_so))
