-- What holds a ref goes on holding it, as bytes are added behind what is clean.
use Rattle.std.proofs.Common.{◌≡◌, ◌≢◌, ⊎_elim, ℕ, List, [], ◌∷◌, ◌++◌, Bool, true, false, cond, nat_eq, length, ◌≤◌, T, Some, None, refl, sym, ◌∙◌, ap, subst, arith}
use Rattle.std.specs.List.{list_any}
use Rattle.std.specs.Cmp.Lexicographic.{pointwise, nat_list_eq_equiv}
use Rattle.std.specs.Option.{is_some}
use Rattle.std.specs.Ordering.{nat_cmp, eq_by_cmp, is_lt}
use Rattle.std.specs.FinMap.{entries, entries_sorted, find, get, get-entries, get-insert, insert, is_sorted}
use Rattle.std.specs.FinMap.Entries.{below_all}
use Rattle.std.specs.Cmp.{nat_cmp_total}
use Rattle.std.proofs.lemmas.Bool.{cases_eq, or_cases, or_left, or_right, and_parts}
use Rattle.std.proofs.lemmas.Bool.Decides.{nat_tests}
use Rattle.std.proofs.lemmas.List.Folds.{list_any-append}
use Rattle.std.proofs.lemmas.List.{append-nil}
use Rattle.blobref.specs.Blobref.{IsOwnRef}
use Rattle.pack_format.specs.Header.{max_size, record_under}
use Rattle.salvage_scan.specs.Salvage.{salvage, broken_past, IsClean}
use Rattle.salvage_scan.proofs.Cuts.{salvage-append, salvage-append_record_under}
use Rattle.pack_disk.specs.Packs.{Packs}
use Rattle.pack_disk.specs.Disk.{Extends, Makes}
use Rattle.pack_store.specs.Packs.{finds, holds}

pub true_from_T : (b : Bool) → T b → b ≡ true
true_from_T true t = refl
true_from_T false t = absurd t

pub T_from_true : (b : Bool) → b ≡ true → T b
T_from_true true e = tt
T_from_true false e = absurd (cc e)

pub lt_apart : (a b : ℕ) → is_lt (nat_cmp a b) ≡ true → a ≢ b
lt_apart a b e same = grind (arith, nat_tests)

pub tied : (a b : ℕ) → a ≡ b → eq_by_cmp nat_cmp a b ≡ true
tied a b e = grind (arith, nat_tests)

pub untied : (a b : ℕ) → a ≢ b → eq_by_cmp nat_cmp a b ≡ false
untied a b ne = grind (arith, nat_tests)

tied_same : (a b : ℕ) → eq_by_cmp nat_cmp a b ≡ true → a ≡ b
tied_same a b e = grind (arith, nat_tests)

pub some_same : {A : Type 0} (x y : A) → Some x ≡ Some y → x ≡ y
some_same x y e = cc e

-- ---- by the list of the entries

in_list : (r : List ℕ) (n : ℕ) (x : List ℕ) (es : List (ℕ × List ℕ)) → find nat_cmp n es ≡ Some x → finds r x ≡ true → list_any (λ (e : ℕ × List ℕ). finds r e.1) es ≡ true
in_list r n x [] is found = absurd (cc is)
in_list r n x (e ∷ es) is found = elim (eq_by_cmp nat_cmp n e.0) as (λ b. cond b (Some e.1) (find nat_cmp n es) ≡ Some x → list_any (λ (e : ℕ × List ℕ). finds r e.1) (e ∷ es) ≡ true) [
  | true ↦ λ here. or_left (finds r e.1) _ (ap (finds r) (some_same e.1 x here) ∙ found)
  | false ↦ λ later. or_right (finds r e.1) _ (in_list r n x es later found)
] is

-- a key below all of them isn't found
pub not_below : (k : ℕ) (x : List ℕ) (es : List (ℕ × List ℕ)) → T (below_all nat_cmp k es) → find nat_cmp k es ≡ Some x → ⊥
not_below k x [] below is = cc is
not_below k x (e ∷ es) below is =
    let parts = and_parts _ _ (true_from_T _ below) in
    let ne : k ≢ e.0 = λ same. lt_apart k e.0 parts.0 same in
    let later : find nat_cmp k es ≡ Some x = ap (λ b. cond b (Some e.1) (find nat_cmp k es)) (sym (untied k e.0 ne)) ∙ is in
    not_below k x es (T_from_true _ parts.1) later

abbrev pub Where : List ℕ → List (ℕ × List ℕ) → Type 0
Where r es = (n : ℕ) × (x : List ℕ) × (find nat_cmp n es ≡ Some x) × (finds r x ≡ true)

where_in : (r : List ℕ) (es : List (ℕ × List ℕ)) → T (is_sorted nat_cmp es) → list_any (λ (e : ℕ × List ℕ). finds r e.1) es ≡ true → Where r es
where_in r [] sorted is = absurd (cc is)
where_in r (e ∷ es) sorted is =
    let parts = and_parts _ _ (true_from_T _ sorted) in
    ⊎_elim
    (λ here. (e.0, e.1, ap (λ b. cond b (Some e.1) (find nat_cmp e.0 es)) (tied e.0 e.0 refl), here))
    (λ later.
    let w = where_in r es (T_from_true _ parts.1) later in
    let ne : w.0 ≢ e.0 = λ same. not_below e.0 w.1 es (T_from_true _ parts.0) (ap (λ k. find nat_cmp k es) (sym same) ∙ w.2) in
    (w.0, w.1, ap (λ b. cond b (Some e.1) (find nat_cmp w.0 es)) (untied w.0 e.0 ne) ∙ w.2, w.3))
    (or_cases _ _ is)

-- ---- by number

pub holds_at : (r : List ℕ) (c : Packs) (n : ℕ) (x : List ℕ) → get c n ≡ Some x → finds r x ≡ true → holds r c ≡ true
holds_at r c n x is found = in_list r n x (entries c) (sym (get-entries c n) ∙ is) found

pub holds_where : (r : List ℕ) (c : Packs) → holds r c ≡ true → (n : ℕ) × (x : List ℕ) × (get c n ≡ Some x) × (finds r x ≡ true)
holds_where r c is =
    let w = where_in r (entries c) (entries_sorted c) is in
    (w.0, w.1, get-entries c w.0 ∙ w.2, w.3)

-- ---- a clean pack, and what is added to it

pub finds-append : (r : List ℕ) (x y : List ℕ) → IsClean x → finds r x ≡ true → finds r (x ++ y) ≡ true
finds-append r x y clean is =
    ap (list_any (λ f. pointwise nat_eq r f.r)) (salvage-append x y clean) ∙ list_any-append _ (salvage x) _ ∙ or_left _ _ is

pub same_ref : (r : List ℕ) → pointwise nat_eq r r ≡ true
same_ref r = nat_list_eq_equiv.refl r

pub finds-record : (x r bytes : List ℕ) → IsOwnRef r bytes → length bytes ≤ max_size → IsClean x → finds r (x ++ record_under r bytes) ≡ true
finds-record x r bytes own small clean =
    let e : x ++ record_under r bytes ≡ x ++ record_under r bytes ++ [] = sym (append-nil (x ++ record_under r bytes)) in
    let s = salvage-append_record_under x r bytes [] own small clean in
    ap (finds r) e ∙ ap (list_any (λ f. pointwise nat_eq r f.r)) s ∙ list_any-append _ (salvage x) _ ∙ or_right _ _ (or_left (pointwise nat_eq r r) _ (same_ref r))

-- what was held stays held where bytes are added to a pack that is clean
pub extends_keeps : (r : List ℕ) (n : ℕ) (d c : Packs) → Extends n d c → ((x : List ℕ) → get d n ≡ Some x → IsClean x) → holds r d ≡ true → holds r c ≡ true
extends_keeps r n d c more clean is =
    let w = holds_where r d is in
    ⊎_elim
    (λ same.
    let here : get d n ≡ Some w.1 = ap (get d) (sym same) ∙ w.2 in
    let m = more.more w.1 here in
    holds_at r c n (w.1 ++ m.0) m.1 (finds-append r w.1 m.0 (clean w.1 here) w.3))
    (λ other. holds_at r c w.0 w.1 (more.others w.0 other ∙ w.2) w.3)
    (cases_eq w.0 n)

pub makes_keeps : (r : List ℕ) (n : ℕ) (d c : Packs) → Makes n d c → holds r d ≡ true → holds r c ≡ true
makes_keeps r n d c made is = ⊎_elim
    (λ same. ap (holds r) same ∙ is)
    (λ new.
    let w = holds_where r d is in
    let other : w.0 ≢ n = λ same. (let e : None ≡ Some w.1 = sym made.absent ∙ ap (get d) (sym same) ∙ w.2 in cc e) in
    let kept : get c w.0 ≡ Some w.1 = ap (λ m. get m w.0) new ∙ get-insert nat_cmp_total d n [] w.0 ∙ ap (λ b. cond b (Some []) (get d w.0)) (untied w.0 n other) ∙ w.2 in
    holds_at r c w.0 w.1 kept w.3)
    made.either

nothing_broken : IsClean []
unfolding broken_past
nothing_broken = refl

-- a pack that was made is empty, if it is there
pub makes_clean : (n : ℕ) (d c : Packs) → Makes n d c → (x : List ℕ) → get c n ≡ Some x → IsClean x
makes_clean n d c made x is = ⊎_elim
    (λ same. absurd (let e : None ≡ Some x = sym made.absent ∙ ap (λ m. get m n) (sym same) ∙ is in cc e))
    (λ new.
    let e : Some [] ≡ Some x = sym (ap (λ m. get m n) new ∙ get-insert nat_cmp_total d n [] n ∙ ap (λ b. cond b (Some []) (get d n)) (tied n n refl)) ∙ is in
    subst IsClean (some_same [] x e) nothing_broken)
    made.either

pub made_there : (n : ℕ) (ps qs : Packs) → qs ≡ insert ps n [] → is_some (get qs n) ≡ true
made_there n ps qs is = ap (λ m. is_some (get m n)) is ∙ ap is_some (get-insert nat_cmp_total ps n [] n) ∙ ap (λ b. is_some (cond b (Some []) (get ps n))) (tied n n refl)
