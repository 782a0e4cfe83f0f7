-- What has arrived, pack by pack.
use Rattle.std.proofs.Common.{◌≡◌, ℕ, suc, ◌≤◌, ◌||◌, Bool, true, false, cond, Option, None, Some, List, [], ◌∷◌, ◌++◌, length, map, refl, sym, ap, subst, ◌∙◌, append_assoc, arith, nat_eq}
use Rattle.std.proofs.lemmas.Bool.{cond-true, cond-false}
use Rattle.std.proofs.lemmas.List.{append-nil}
use Rattle.std.proofs.lemmas.List.Elements.{All-append, All-map, All-nil}
use Rattle.std.proofs.lemmas.Map.Keys.{IsDistinct-push}
use Rattle.std.specs.Cmp.Lexicographic.{pointwise, same_text, nat_list_eq_equiv, nat_list_cmp_total, texts_ties}
use Rattle.std.specs.FinMap.{find, get-from_entries}
use Rattle.std.specs.List.{list_any, All, IsDistinct}
use Rattle.std.specs.Map.{lookup, keys_of}
use Rattle.std.specs.Option.{option_or}
use Rattle.blobref.specs.Blobref.{IsOwnRef, ref_cmp}
use Rattle.pack_format.specs.Header.{max_size}
use Rattle.salvage_scan.specs.Salvage.{salvage}
use Rattle.salvage_scan.specs.Arrivals.{blob_of, findings, arrive, arrivals, ArrivalsAreFirsts}
use Rattle.salvage_scan.proofs.Slices.{each_lies, All-one}

-- what arrives is taken up in turn
pub arrive-append : (xs ys before : List (List ℕ × List ℕ)) → arrive before (xs ++ ys) ≡ arrive (arrive before xs) ys
arrive-append [] ys before = refl
arrive-append (x ∷ xs) ys before = arrive-append xs ys (cond (list_any (λ (a : List ℕ × List ℕ). pointwise nat_eq a.0 x.0) before) before (before ++ x ∷ []))

pub findings-append : (xs ys : List (ℕ × List ℕ)) → findings (xs ++ ys) ≡ findings xs ++ findings ys
findings-append [] ys = refl
findings-append (x ∷ xs) ys = ap (λ l. map blob_of (salvage x.1) ++ l) (findings-append xs ys) ∙ sym (append_assoc (map blob_of (salvage x.1)) (findings xs) (findings ys))

-- one pack more
pub arrivals-pack : (packs : List (ℕ × List ℕ)) (n : ℕ) (pack : List ℕ) → arrivals (packs ++ (n, pack) ∷ []) ≡ arrive (arrivals packs) (map blob_of (salvage pack))
arrivals-pack packs n pack =
    ap (arrive []) (findings-append packs ((n, pack) ∷ [])) ∙ arrive-append (findings packs) (findings ((n, pack) ∷ [])) []
    ∙ ap (arrive (arrivals packs)) (append-nil (map blob_of (salvage pack)))

-- ---- each ref at its first finding

abbrev Blob : Type 0
Blob = List ℕ × List ℕ

-- whether the ref has arrived
abbrev has : List ℕ → List Blob → Bool
has r before = list_any (λ (a : Blob). pointwise nat_eq a.0 r) before

or_none : {A : Type 0} (o : Option A) → option_or o None ≡ o
or_none None = refl
or_none (Some x) = refl

or_assoc : {A : Type 0} (o p q : Option A) → option_or (option_or o p) q ≡ option_or o (option_or p q)
or_assoc None p q = refl
or_assoc (Some x) p q = refl

lookup-append : (test : List ℕ → Bool) (xs ys : List Blob) → lookup test (xs ++ ys) ≡ option_or (lookup test xs) (lookup test ys)
lookup-append test [] ys = refl
lookup-append test (x ∷ xs) ys = go (test x.0) (lookup-append test xs ys)
  where
    go : (b : Bool) → lookup test (xs ++ ys) ≡ option_or (lookup test xs) (lookup test ys) → cond b (Some x.1) (lookup test (xs ++ ys)) ≡ option_or (cond b (Some x.1) (lookup test xs)) (lookup test ys)
    go true more = refl
    go false more = more

-- what has arrived is found
found_where : (r : List ℕ) (before : List Blob) → has r before ≡ true → (bytes : List ℕ) × (lookup (pointwise nat_eq r) before ≡ Some bytes)
found_where r [] h = absurd (cc h)
found_where r (a ∷ before) h = go (pointwise nat_eq a.0 r) (nat_list_eq_equiv.symm a.0 r) h (found_where r before)
  where
    go : (b : Bool) → b ≡ pointwise nat_eq r a.0 → (b || has r before) ≡ true → (has r before ≡ true → (bytes : List ℕ) × (lookup (pointwise nat_eq r) before ≡ Some bytes))
        → (bytes : List ℕ) × (cond (pointwise nat_eq r a.0) (Some a.1) (lookup (pointwise nat_eq r) before) ≡ Some bytes)
    go true same h more = (a.1, cond-true (pointwise nat_eq r a.0) (Some a.1) (lookup (pointwise nat_eq r) before) (sym same))
    go false same h more = let rest = more h in (rest.0, cond-false (pointwise nat_eq r a.0) (Some a.1) (lookup (pointwise nat_eq r) before) (sym same) ∙ rest.1)

-- a finding whose ref has arrived adds nothing
old_finding : (r : List ℕ) (before fs : List Blob) (f : Blob) → has f.0 before ≡ true → option_or (lookup (pointwise nat_eq r) before) (lookup (pointwise nat_eq r) (f ∷ fs)) ≡ option_or (lookup (pointwise nat_eq r) before) (lookup (pointwise nat_eq r) fs)
old_finding r before fs f old = go (pointwise nat_eq r f.0) refl
  where
    go : (b : Bool) → pointwise nat_eq r f.0 ≡ b → option_or (lookup (pointwise nat_eq r) before) (cond b (Some f.1) (lookup (pointwise nat_eq r) fs)) ≡ option_or (lookup (pointwise nat_eq r) before) (lookup (pointwise nat_eq r) fs)
    go false e = refl
    go true e =
        let same : r ≡ f.0 = same_text r f.0 (sym e) in
        let there = found_where r before (ap (λ q. has q before) same ∙ old) in
        rw there.1 refl

one_more : (b : Bool) (x : List ℕ) (o : Option (List ℕ)) → option_or (cond b (Some x) None) o ≡ cond b (Some x) o
one_more true x o = refl
one_more false x o = refl

pub lookup-arrive : (r : List ℕ) (fs before : List Blob) → lookup (pointwise nat_eq r) (arrive before fs) ≡ option_or (lookup (pointwise nat_eq r) before) (lookup (pointwise nat_eq r) fs)
lookup-arrive r [] before = sym (or_none (lookup (pointwise nat_eq r) before))
lookup-arrive r (f ∷ fs) before = lookup-arrive r fs (cond (has f.0 before) before (before ++ f ∷ [])) ∙ go (has f.0 before) refl
  where
    go : (b : Bool) → has f.0 before ≡ b → option_or (lookup (pointwise nat_eq r) (cond b before (before ++ f ∷ []))) (lookup (pointwise nat_eq r) fs) ≡ option_or (lookup (pointwise nat_eq r) before) (lookup (pointwise nat_eq r) (f ∷ fs))
    go true e = sym (old_finding r before fs f e)
    go false e =
        ap (λ o. option_or o (lookup (pointwise nat_eq r) fs)) (lookup-append (pointwise nat_eq r) before (f ∷ [])) ∙ or_assoc (lookup (pointwise nat_eq r) before) (lookup (pointwise nat_eq r) (f ∷ [])) (lookup (pointwise nat_eq r) fs)
        ∙ ap (option_or (lookup (pointwise nat_eq r) before)) (one_more (pointwise nat_eq r f.0) f.1 (lookup (pointwise nat_eq r) fs))

-- no ref comes twice
has_key : (r : List ℕ) (before : List Blob) → list_any (pointwise nat_eq r) (keys_of before) ≡ has r before
has_key r [] = refl
has_key r (a ∷ before) = λ i. nat_list_eq_equiv.symm r a.0 i || has_key r before i

keys-push : (before : List Blob) (f : Blob) → keys_of (before ++ f ∷ []) ≡ keys_of before ++ f.0 ∷ []
keys-push [] f = refl
keys-push (a ∷ before) f = ap (λ l. a.0 ∷ l) (keys-push before f)

distinct-none : IsDistinct (pointwise nat_eq) []
unfolding IsDistinct
distinct-none = tt

distinct-arrive : (fs before : List Blob) → IsDistinct (pointwise nat_eq) (keys_of before) → IsDistinct (pointwise nat_eq) (keys_of (arrive before fs))
distinct-arrive [] before h = h
distinct-arrive (f ∷ fs) before h = distinct-arrive fs (cond (has f.0 before) before (before ++ f ∷ [])) (go (has f.0 before) refl)
  where
    go : (b : Bool) → has f.0 before ≡ b → IsDistinct (pointwise nat_eq) (keys_of (cond b before (before ++ f ∷ [])))
    go true e = h
    go false e = subst (IsDistinct (pointwise nat_eq)) (sym (keys-push before f)) (IsDistinct-push nat_list_eq_equiv (keys_of before) f.0 h (has_key f.0 before ∙ e))

-- what holds of each finding holds of each arrival
All-arrive : (P : Blob → Type 0) (fs before : List Blob) → All P before → All P fs → All P (arrive before fs)
All-arrive P [] before old new k d lt = old k d lt
All-arrive P (f ∷ fs) before old new k d lt = All-arrive P fs (cond (has f.0 before) before (before ++ f ∷ [])) (go (has f.0 before)) (λ j e less. new (suc j) e (omega arith)) k d lt
  where
    go : (b : Bool) → All P (cond b before (before ++ f ∷ []))
    go true = old
    go false = All-append P before (f ∷ []) old (All-one P f (new 0 f (omega arith)))

All-findings : (P : Blob → Type 0) → ((pack : List ℕ) → All P (map blob_of (salvage pack))) → (packs : List (ℕ × List ℕ)) → All P (findings packs)
All-findings P each [] k d lt = All-nil P k d lt
All-findings P each (pack ∷ packs) k d lt = All-append P (map blob_of (salvage pack.1)) (findings packs) (each pack.1) (All-findings P each packs) k d lt

-- what holds of each blob that a pack is found to have holds of each arrival
each_arrival : (P : Blob → Type 0) → ((pack : List ℕ) → All (λ f. P (blob_of f)) (salvage pack)) → (packs : List (ℕ × List ℕ)) → All P (arrivals packs)
each_arrival P each packs = All-arrive P (findings packs) [] (All-nil P) (All-findings P (λ pack. All-map P blob_of (salvage pack) (each pack)) packs)

find_lookup : (r : List ℕ) (es : List Blob) → find ref_cmp r es ≡ lookup (pointwise nat_eq r) es
find_lookup r [] = refl
find_lookup r (e ∷ es) = let same = sym (texts_ties r e.0) in (λ i. cond (same i) (Some e.1) (find_lookup r es i))

pub arrivals_are_firsts : ArrivalsAreFirsts
arrivals_are_firsts = record {
  distinct = λ packs. distinct-arrive (findings packs) [] distinct-none;
  first = λ packs r. lookup-arrive r (findings packs) [];
  content_first = λ packs r. get-from_entries nat_list_cmp_total (arrivals packs) r ∙ find_lookup r (arrivals packs) ∙ lookup-arrive r (findings packs) [];
  named = λ packs. each_arrival (λ (a : Blob). IsOwnRef a.0 a.1) (λ pack k d lt. (each_lies pack k d lt).named) packs;
  small = λ packs. each_arrival (λ (a : Blob). length a.1 ≤ max_size) (λ pack k d lt. (each_lies pack k d lt).small) packs;
}
