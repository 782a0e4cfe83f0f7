-- Parents that are gathered under refs, by one pass over all permanodes.
use Rattle.std.proofs.Common.{◌≡◌, ℕ, zero, suc, ◌+◌, ◌-◌, ◌<◌, ◌≤◌, Bool, true, false, ◌||◌, cond, List, [], ◌∷◌, ◌++◌, length, filter, take, get_or, Option, Some, None, option_map, refl, sym, ap, ◌∙◌, subst, arith, inl, inr, ◌⊎◌, append_assoc, append-nil, if◌then◌else◌}
use Rattle.std.proofs.lemmas.Bool.{cases_Bool, cond-true, cond-false, false≢true}
use Rattle.std.proofs.lemmas.List.{take_all, take_more}
use Rattle.std.proofs.lemmas.List.Folds.{list_any_more}
use Rattle.std.proofs.lemmas.Map.Keys.{sorted_head, sorted_tail}
use Rattle.std.proofs.lemmas.Map.Text.{is_eq-slice_cmp}
use Rattle.std.proofs.lemmas.Option.{same_Some}
use Rattle.std.specs.Prelude.{slice_get}
use Rattle.std.specs.Option.{IsSome}
use Rattle.std.specs.Result.{OnOk}
use Rattle.std.specs.declared.result.Result.{Result}
use Rattle.std.specs.declared.result.Result.TheVariants.{Ok, Err}
use Rattle.std.specs.BTreeMap.{BTreeMap, get, is_at}
use Rattle.std.specs.Cmp.{eq_by_cmp_equiv}
use Rattle.std.specs.Cmp.Lexicographic.{nat_list_cmp_total}
use Rattle.std.specs.List.{AllByRecursion, find, list_any}
use Rattle.std.specs.Ordering.{is_eq}
use Rattle.std.specs.Str.{bytes_eq}
use Rattle.std.specs.declared.cmp.Ordering.TheVariants.{Less}
use Rattle.blobref.specs.Blobref.{ref_cmp, is_after}
use Rattle.claim_model.specs.Facts.{passes}
use Rattle.index_look.proofs.Entries.{same_ref}
use Rattle.index_look.proofs.Order.{is_Equal}
use Rattle.search_meets.specs.Computed.{is_last, with_last, with_parent}
use Rattle.search_meets.proofs.Walk.{Ascends, all_after, filter_joined, last, step}

-- ---- the permanodes that aren't deleted

module _ (t : List ℕ → Bool) (xs : List (List ℕ)) where
  pub begins : (live : List (List ℕ)) → live ≡ [] → live ++ filter t (filter (is_after None) xs) ≡ filter t xs
  begins live e = λ i. e i ++ filter t (all_after xs i)

  pub goes_on : (o : Option (List ℕ)) (p : List ℕ) (live now all : List (List ℕ)) → Ascends xs → Some p ≡ find (is_after o) xs
      → now ≡ live ++ filter t (p ∷ []) → live ++ filter t (filter (is_after o) xs) ≡ all → now ++ filter t (filter (is_after (Some p)) xs) ≡ all
  goes_on o p live now all up e is so_far =
      let rest = filter (is_after (Some p)) xs in
      ap (λ zs. zs ++ filter t rest) is ∙ append_assoc live (filter t (p ∷ [])) (filter t rest) ∙ ap (λ zs. live ++ zs) (sym (filter_joined t (p ∷ []) rest))
      ∙ ap (λ zs. live ++ filter t zs) (sym (step o p xs up (sym e))) ∙ so_far

  pub ends : (o : Option (List ℕ)) (live all : List (List ℕ)) → None ≡ find (is_after o) xs → live ++ filter t (filter (is_after o) xs) ≡ all → live ≡ all
  ends o live all e so_far = sym (append-nil live) ∙ ap (λ zs. live ++ filter t zs) (sym (last o xs (sym e))) ∙ so_far

-- ---- refs that are equal

same_bytes : (a b : List ℕ) → bytes_eq a b ≡ true → a ≡ b
same_bytes a b e = same_ref a b (is_Equal (ref_cmp a b) (is_eq-slice_cmp a b ∙ e))

turned : (a b : List ℕ) → bytes_eq a b ≡ bytes_eq b a
turned a b = sym (is_eq-slice_cmp a b) ∙ (eq_by_cmp_equiv nat_list_cmp_total).symm a b ∙ is_eq-slice_cmp b a

itself : (a : List ℕ) → bytes_eq a a ≡ true
itself a = sym (is_eq-slice_cmp a a) ∙ (eq_by_cmp_equiv nat_list_cmp_total).refl a

apart : (a b : List ℕ) → ref_cmp a b ≡ Less → bytes_eq b a ≡ false
apart a b e = turned b a ∙ sym (is_eq-slice_cmp a b) ∙ ap is_eq e

-- ---- a permanode behind others

end_of : (p : List ℕ) (ps : List (List ℕ)) → slice_get (ps ++ p ∷ []) (length ps) ≡ Some p
end_of p [] = refl
end_of p (q ∷ ps) = end_of p ps

pushed_last : (p : List ℕ) (ps : List (List ℕ)) → is_last p (ps ++ p ∷ []) ≡ true
pushed_last p ps = ap (passes (bytes_eq p)) (ap (slice_get (ps ++ p ∷ [])) (one_less ps) ∙ end_of p ps) ∙ itself p
  where
    one_less : (xs : List (List ℕ)) → length (xs ++ p ∷ []) - 1 ≡ length xs
    one_less [] = refl
    one_less (x ∷ xs) = omega (arith, longer xs)
      where
        longer : (ys : List (List ℕ)) → length (ys ++ p ∷ []) ≡ suc (length ys)
        longer [] = refl
        longer (y ∷ ys) = ap suc (longer ys)

once : (p : List ℕ) (ps : List (List ℕ)) → with_last p (with_last p ps) ≡ with_last p ps
once p ps = by (cases_Bool (is_last p ps))
  where
    by : (is_last p ps ≡ true) ⊎ (is_last p ps ≡ false) → with_last p (with_last p ps) ≡ with_last p ps
    by (inl e) = ap (with_last p) (cond-true (is_last p ps) ps (ps ++ p ∷ []) e)
    by (inr e) =
        let is : with_last p ps ≡ ps ++ p ∷ [] = cond-false (is_last p ps) ps (ps ++ p ∷ []) e in
        ap (with_last p) is ∙ cond-true (is_last p (ps ++ p ∷ [])) (ps ++ p ∷ []) ((ps ++ p ∷ []) ++ p ∷ []) (pushed_last p ps) ∙ sym is

twice : (a b : Bool) (p : List ℕ) (o : Option (List (List ℕ))) → option_map (with_parent b p) (option_map (with_parent a p) o) ≡ option_map (with_parent (a || b) p) o
twice a b p None = refl
twice true true p (Some ps) = ap Some (once p ps)
twice true false p (Some ps) = refl
twice false true p (Some ps) = refl
twice false false p (Some ps) = refl

no_parent : (p : List ℕ) (o : Option (List (List ℕ))) → option_map (with_parent false p) o ≡ o
no_parent p None = refl
no_parent p (Some ps) = refl

abbrev Found : Type 0
Found = BTreeMap (List ℕ) (List (List ℕ))

-- ---- a permanode that is put under one of its members

pub put_under : (child member p : List ℕ) (old new : Found) (ps now : List (List ℕ)) → child ≡ member → Some ps ≡ get ref_cmp old child → now ≡ with_last p ps
    → ((q : List ℕ) → get ref_cmp new q ≡ cond (is_at (ref_cmp child) q) (Some now) (get ref_cmp old q))
    → (q : List ℕ) → get ref_cmp new q ≡ option_map (with_parent (bytes_eq q member) p) (get ref_cmp old q)
put_under child member p old new ps now same was is wrote q = by (cases_Bool (bytes_eq q member))
  where
    at : is_at (ref_cmp child) q ≡ bytes_eq q member
    at = is_eq-slice_cmp child q ∙ turned child q ∙ ap (bytes_eq q) same

    by : (bytes_eq q member ≡ true) ⊎ (bytes_eq q member ≡ false) → get ref_cmp new q ≡ option_map (with_parent (bytes_eq q member) p) (get ref_cmp old q)
    by (inl e) =
        let here : child ≡ q = same ∙ sym (same_bytes q member e) in
        wrote q ∙ cond-true (is_at (ref_cmp child) q) (Some now) (get ref_cmp old q) (at ∙ e) ∙ ap Some is
        ∙ (λ i. option_map (with_parent (sym e i) p) ((was ∙ ap (get ref_cmp old) here) i))
    by (inr e) =
        wrote q ∙ cond-false (is_at (ref_cmp child) q) (Some now) (get ref_cmp old q) (at ∙ e) ∙ sym (no_parent p (get ref_cmp old q))
        ∙ (λ i. option_map (with_parent (sym e i) p) (get ref_cmp old q))

-- a member that isn't one of the refs
pub none_under : (child member p : List ℕ) (old : Found) → child ≡ member → None ≡ get ref_cmp old child
    → (q : List ℕ) → get ref_cmp old q ≡ option_map (with_parent (bytes_eq q member) p) (get ref_cmp old q)
none_under child member p old same was q = by (cases_Bool (bytes_eq q member))
  where
    by : (bytes_eq q member ≡ true) ⊎ (bytes_eq q member ≡ false) → get ref_cmp old q ≡ option_map (with_parent (bytes_eq q member) p) (get ref_cmp old q)
    by (inl e) =
        let no : get ref_cmp old q ≡ None = ap (get ref_cmp old) (same_bytes q member e ∙ sym same) ∙ sym was in
        no ∙ ap (option_map (with_parent (bytes_eq q member) p)) (sym no)
    by (inr e) = sym (no_parent p (get ref_cmp old q)) ∙ (λ i. option_map (with_parent (sym e i) p) (get ref_cmp old q))

-- a member that is no ref
pub no_ref_under : (f : List ℕ → Bool) (member p : List ℕ) (old : Found) → f member ≡ false
    → (q : List ℕ) → f q ≡ true → get ref_cmp old q ≡ option_map (with_parent (bytes_eq q member) p) (get ref_cmp old q)
no_ref_under f member p old isnt q is = by (cases_Bool (bytes_eq q member))
  where
    by : (bytes_eq q member ≡ true) ⊎ (bytes_eq q member ≡ false) → get ref_cmp old q ≡ option_map (with_parent (bytes_eq q member) p) (get ref_cmp old q)
    by (inl e) = absurd (false≢true (sym isnt ∙ ap f (sym (same_bytes q member e)) ∙ is))
    by (inr e) = sym (no_parent p (get ref_cmp old q)) ∙ (λ i. option_map (with_parent (sym e i) p) (get ref_cmp old q))

-- one more of the members
pub one_more : (ms : List (List ℕ)) (k : ℕ) (m p q : List ℕ) (first old new : Option (List (List ℕ))) → k < length ms → m ≡ get_or ms k m
    → new ≡ option_map (with_parent (bytes_eq q m) p) old → old ≡ option_map (with_parent (list_any (bytes_eq q) (take k ms)) p) first
    → new ≡ option_map (with_parent (list_any (bytes_eq q) (take (k + 1) ms)) p) first
one_more ms k m p q first old new lt item is so_far =
    is ∙ ap (option_map (with_parent (bytes_eq q m) p)) so_far ∙ twice (list_any (bytes_eq q) (take k ms)) (bytes_eq q m) p first
    ∙ (λ i. option_map (with_parent (list_any (bytes_eq q) (take k ms) || bytes_eq q (item i)) p) first) ∙ (λ i. option_map (with_parent (sym (list_any_more (bytes_eq q) ms k m lt) i) p) first)

-- all of the members
pub all_members : (ms vs : List (List ℕ)) (k : ℕ) (p q : List ℕ) (first new : Option (List (List ℕ))) → length ms ≤ k → ms ≡ vs
    → new ≡ option_map (with_parent (list_any (bytes_eq q) (take k ms)) p) first → new ≡ option_map (with_parent (list_any (bytes_eq q) vs) p) first
all_members ms vs k p q first new le same so_far = so_far ∙ ap (λ zs. option_map (with_parent (list_any (bytes_eq q) zs) p) first) (take_all k ms le ∙ same)

-- ---- a permanode that is put under all of its members

abbrev AreBelow : List ℕ → List (List ℕ) → Type 0
AreBelow p ps = AllByRecursion (λ y. ref_cmp y p ≡ Less) ps

above : (x : List ℕ) (xs : List (List ℕ)) (k : ℕ) (d : List ℕ) → AllByRecursion (λ y. ref_cmp x y ≡ Less) xs → k < length xs → ref_cmp x (get_or xs k d) ≡ Less
above x [] k d h lt = absurd (omega arith)
above x (y ∷ ys) zero d h lt = h.0
above x (y ∷ ys) (suc k) d h lt = above x ys k d h.1 (omega arith)

below : (xs : List (List ℕ)) (k : ℕ) (d : List ℕ) → Ascends xs → k < length xs → AreBelow (get_or xs k d) (take k xs)
below [] k d up lt = absurd (omega arith)
below (x ∷ xs) zero d up lt = tt
below (x ∷ xs) (suc k) d up lt = (above x xs k d (sorted_head ref_cmp x xs up) (omega arith), below xs k d (sorted_tail ref_cmp x xs up) (omega arith))

below_kept : (p : List ℕ) (t : List ℕ → Bool) (xs : List (List ℕ)) → AreBelow p xs → AreBelow p (filter t xs)
below_kept p t [] h = tt
below_kept p t (x ∷ xs) h =
    elim (t x) as (λ b. AreBelow p (cond b (x ∷ filter t xs) (filter t xs))) [ true ↦ (h.0, below_kept p t xs h.1) | false ↦ below_kept p t xs h.1 ]

no_last : (p : List ℕ) (xs : List (List ℕ)) (k : ℕ) → AreBelow p xs → passes (bytes_eq p) (slice_get xs k) ≡ false
no_last p [] k h = refl
no_last p (x ∷ xs) zero h = apart x p h.0
no_last p (x ∷ xs) (suc k) h = no_last p xs k h.1

-- those that have a ref among their members, and a permanode above them
pub one_parent_more : (t : List ℕ → Bool) (live : List (List ℕ)) (k : ℕ) (p : List ℕ) (any : Bool) (old new : Option (List (List ℕ))) → Ascends live → k < length live
    → p ≡ get_or live k p → new ≡ option_map (with_parent (t p) p) old → old ≡ (if any then Some (filter t (take k live)) else None)
    → new ≡ (if any then Some (filter t (take (k + 1) live)) else None)
one_parent_more t live k p any old new up lt item is so_far = is ∙ ap (option_map (with_parent (t p) p)) so_far ∙ by any
  where
    front : List (List ℕ)
    front = filter t (take k live)

    entered : (b : Bool) → with_parent b p front ≡ front ++ cond b (p ∷ []) []
    entered true = cond-false (is_last p front) front (front ++ p ∷ []) (no_last p front (length front - 1) (below_kept p t (take k live) (subst (λ x. AreBelow x (take k live)) (sym item) (below live k p up lt))))
    entered false = sym (append-nil front)

    by : (b : Bool) → option_map (with_parent (t p) p) (if b then Some front else None) ≡ (if b then Some (filter t (take (k + 1) live)) else None)
    by true = ap Some (entered (t p) ∙ sym (filter_joined t (take k live) (p ∷ [])) ∙ (λ i. filter t (take k live ++ item i ∷ [])) ∙ ap (filter t) (sym (take_more live k p lt)))
    by false = refl

-- ---- what is found at the end

at_place : (refs : List (List ℕ)) (k : ℕ) (d : List ℕ) → k < length refs → list_any (bytes_eq (get_or refs k d)) refs ≡ true
at_place [] k d lt = absurd (omega arith)
at_place (r ∷ rs) zero d lt = ap (λ b. b || list_any (bytes_eq r) rs) (itself r)
at_place (r ∷ rs) (suc k) d lt = by (bytes_eq (get_or rs k d) r) (at_place rs k d (omega arith))
  where
    by : (b : Bool) → list_any (bytes_eq (get_or rs k d)) rs ≡ true → (b || list_any (bytes_eq (get_or rs k d)) rs) ≡ true
    by true h = refl
    by false h = h

pub is_item : (refs : List (List ℕ)) (k : ℕ) (r : List ℕ) → k < length refs → r ≡ get_or refs k r → list_any (bytes_eq r) refs ≡ true
is_item refs k r lt item = ap (λ x. list_any (bytes_eq x) refs) item ∙ at_place refs k r lt

pub found_at : (any : Bool) (o : Option (List (List ℕ))) (parents : List (List ℕ)) → any ≡ true → o ≡ (if any then Some parents else None) → o ≡ Some parents
found_at any o parents has is = is ∙ cond-true any (Some parents) None has

-- ---- the refs under which parents are gathered

-- one more of the refs
pub one_ref_more : (refs : List (List ℕ)) (k : ℕ) (r : List ℕ) (none : List (List ℕ)) (old new : Found) → k < length refs → r ≡ get_or refs k r → none ≡ []
    → ((q : List ℕ) → get ref_cmp new q ≡ cond (is_at (ref_cmp r) q) (Some none) (get ref_cmp old q))
    → ((q : List ℕ) → get ref_cmp old q ≡ (if list_any (bytes_eq q) (take k refs) then Some [] else None))
    → (q : List ℕ) → get ref_cmp new q ≡ (if list_any (bytes_eq q) (take (k + 1) refs) then Some [] else None)
one_ref_more refs k r none old new lt item empty wrote so_far q =
    wrote q ∙ (λ i. cond ((is_eq-slice_cmp r q ∙ turned r q) i) (Some (empty i)) (so_far q i)) ∙ by (list_any (bytes_eq q) (take k refs)) (bytes_eq q r)
    ∙ (λ i. known (list_any (bytes_eq q) (take k refs) || bytes_eq q (item i))) ∙ ap known (sym (list_any_more (bytes_eq q) refs k r lt))
  where
    known : Bool → Option (List (List ℕ))
    known any = if any then Some [] else None

    by : (a b : Bool) → cond b (Some []) (known a) ≡ known (a || b)
    by true true = refl
    by true false = refl
    by false true = refl
    by false false = refl

pub is_found : (any : Bool) (o : Option (List (List ℕ))) (parents : List (List ℕ)) → any ≡ true → o ≡ (if any then Some parents else None) → IsSome o
is_found any o parents has is = subst IsSome (sym (found_at any o parents has is)) refl

-- ---- what a member is read as

pub child_is : (b : Bool) (member child : List ℕ) → Some child ≡ (if b then Some member else None) → child ≡ member
child_is true member child e = same_Some child member e
child_is false member child e = absurd (let f : Some child ≡ None = e in cc f)

pub some_is : {A : Type 0} (o : Option A) (x : A) → Some x ≡ o → IsSome o
some_is o x e = subst IsSome e refl

pub on_ok : {T E P Q : Type 0} (r : Result T E) → (P → Q) → OnOk r P → OnOk r Q
on_ok (Ok x) f p = f p
on_ok (Err e) f p = tt
