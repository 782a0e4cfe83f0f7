-- The refs that aren't on a page, where both are in order.
use Rattle.std.proofs.Common.{◌≡◌, ℕ, zero, suc, ◌≤◌, Bool, true, false, cond, if◌then◌else◌, not, ◌||◌, T, Less, List}
use Rattle.std.proofs.Common.{[], ◌∷◌, ◌++◌, length, drop, filter, nat_eq, refl, sym, ap, subst, ◌∙◌, arith}
use Rattle.std.proofs.Common.{append_assoc}
use Rattle.std.specs.List.{take_while, AllByRecursion}
use Rattle.std.specs.List.Sorted.{IsStrictlySortedBy}
use Rattle.std.specs.Ordering.{is_lt}
use Rattle.std.specs.Cmp.Lexicographic.{pointwise, nat_list_cmp_total, same_text}
use Rattle.std.specs.FinMap.{is_sorted}
use Rattle.std.specs.FinMap.Entries.{below_all}
use Rattle.std.proofs.lemmas.List.{append-nil}
use Rattle.std.proofs.lemmas.List.Sums.{take_while-cons}
use Rattle.std.proofs.lemmas.List.Kept.{IsStrictlySortedBy-filter}
use Rattle.blobref.specs.Blobref.{ref_cmp}
use Rattle.peer_base.specs.Order.{refs_of, is_among}
use Rattle.peer_base.proofs.Pages.{first, second, yes, less, not_before_itself}
use Rattle.listed_pages.specs.Pages.{IsPartOf}
use Rattle.listed_pages.specs.Merging.{is_before, unless_first}
use Rattle.listed_pages.proofs.Lacks.{lack}

abbrev Page : Type 0
Page = List (List ℕ × ℕ)

-- a ref that is less is another one
apart : (q r : List ℕ) → ref_cmp q r ≡ Less → pointwise nat_eq r q ≡ false
apart q r e = go (pointwise nat_eq r q) refl
  where
    go : (b : Bool) → pointwise nat_eq r q ≡ b → pointwise nat_eq r q ≡ false
    go true is = absurd (cc (ap is_lt (sym (ap (ref_cmp q) (same_text r q (sym is))) ∙ e), not_before_itself q))
    go false is = is

abbrev AreAbove : List ℕ → List (List ℕ) → Type 0
AreAbove q refs = AllByRecursion (λ y. ref_cmp q y ≡ Less) refs

above_more : (q r : List ℕ) (refs : List (List ℕ)) → ref_cmp q r ≡ Less → AreAbove r refs → AreAbove q refs
above_more q r [] lt all = tt
above_more q r (y ∷ ys) lt all = (nat_list_cmp_total.trans q r y lt all.0, above_more q r ys lt all.1)

-- an entry that is less than all refs leaves out none
skipped : (e : List ℕ × ℕ) (es : Page) (refs : List (List ℕ)) → AreAbove e.0 refs → filter (lack (refs_of (e ∷ es)))
    refs ≡ filter (lack (refs_of es)) refs
skipped e es [] all = refl
skipped e es (r ∷ refs) all =
    let same = ap (λ b. not (b || is_among (refs_of es) r)) (apart e.0 r all.0) in
    let more = skipped e es refs all.1 in
    (λ i. cond (same i) (r ∷ more i) (more i))

-- a ref that isn't greater than the entry before some is none of these
none_of : (r e : List ℕ) (es : Page) → is_lt (ref_cmp e r) ≡ false → T (below_all ref_cmp e es)
    → is_among (refs_of es) r ≡ false
none_of r e [] low h = refl
none_of r e (x ∷ xs) low h = ap (λ b. b || is_among (refs_of xs) r) (other (pointwise nat_eq r x.0) refl)
    ∙ none_of r e xs low (second (is_lt (ref_cmp e x.0)) _ h)
  where
    other : (b : Bool) → pointwise nat_eq r x.0 ≡ b → pointwise nat_eq r x.0 ≡ false
    other true is = absurd (cc (
      low,
      ap (λ q. is_lt (ref_cmp e q)) (same_text r x.0 (sym is)),
      yes
          (is_lt (ref_cmp e x.0)) (first (is_lt (ref_cmp e x.0)) _ h),
    ))
    other false is = is

-- the page from the first entry on that isn't less
abbrev rest_of : List ℕ → Page → Page
rest_of r page = drop (length (take_while (is_before r) page)) page

rest_more : (r : List ℕ) (e : List ℕ × ℕ) (es : Page) → rest_of r (e ∷ es) ≡ cond (is_before r e) (rest_of r es)
    (e ∷ es)
rest_more r e es = ap (λ l. drop (length l) (e ∷ es)) (take_while-cons (is_before r) e es) ∙ chosen (is_before r e)
  where
    chosen : (b : Bool) → drop (length (cond b (e ∷ take_while (is_before r) es) [])) (e ∷ es) ≡ cond b (rest_of r es)
        (e ∷ es)
    chosen true = refl
    chosen false = refl

-- one step: the entries that are less are gone through, and the ref is left out where the next one is it
merged : (page : Page) (r : List ℕ) (refs : List (List ℕ)) → T (is_sorted ref_cmp page) → AreAbove r refs
    → filter (lack (refs_of page)) (r ∷ refs) ≡ unless_first (rest_of r page) r
    ++ filter (lack (refs_of (rest_of r page))) refs
merged [] r refs h all = refl
merged (e ∷ es) r refs h all = elim (is_before r e) as (λ b. is_before r e ≡ b → filter (lack (refs_of (e ∷ es)))
    (r ∷ refs)
    ≡ unless_first (cond b (rest_of r es) (e ∷ es)) r ++ filter (lack (refs_of (cond b (rest_of r es) (e ∷ es)))) refs) [
      | true ↦ λ is.
          let lt : ref_cmp e.0 r ≡ Less = less (ref_cmp e.0 r) (subst T (sym is) tt) in
          skipped e es (r ∷ refs) (lt, above_more e.0 r refs lt all) ∙ merged es r refs
          (second (below_all ref_cmp e.0 es) _ h) all
      | false ↦ λ is. here (pointwise nat_eq r e.0) (none_of r e.0 es is (first (below_all ref_cmp e.0 es) _ h))
    ] refl ∙ ap (λ (p : Page). unless_first p r ++ filter (lack (refs_of p)) refs) (sym (rest_more r e es))
  where
    left : List (List ℕ)
    left = filter (lack (refs_of (e ∷ es))) refs

    chosen : (b : Bool) → cond (not (b || false)) (r ∷ left) left ≡ (if b then [] else r ∷ []) ++ left
    chosen true = refl
    chosen false = refl

    here : (b : Bool) → is_among (refs_of es) r ≡ false → cond (not (b || is_among (refs_of es) r)) (r ∷ left) left
        ≡ (if b then [] else r ∷ []) ++ left
    here b none = ap (λ q. cond (not (b || q)) (r ∷ left) left) none ∙ chosen b

-- ---- order

pub sorted_drop : (n : ℕ) (page : Page) → T (is_sorted ref_cmp page) → T (is_sorted ref_cmp (drop n page))
sorted_drop zero page h = h
sorted_drop (suc n) [] h = tt
sorted_drop (suc n) (x ∷ xs) h = sorted_drop n xs (second (below_all ref_cmp x.0 xs) _ h)

rising_drop : (n : ℕ) (refs : List (List ℕ)) → IsStrictlySortedBy ref_cmp refs → IsStrictlySortedBy ref_cmp
    (drop n refs)
unfolding IsStrictlySortedBy
rising_drop zero refs h = h
rising_drop (suc n) [] h = tt
rising_drop (suc n) (x ∷ xs) h = rising_drop n xs h.1

above_first : (r : List ℕ) (refs : List (List ℕ)) → IsStrictlySortedBy ref_cmp (r ∷ refs) → AreAbove r refs
unfolding IsStrictlySortedBy
above_first r refs h = h.0

-- the refs behind one in a list that rises
pub above_at : (refs more : List (List ℕ)) (n : ℕ) (r : List ℕ) → IsStrictlySortedBy ref_cmp refs → drop n refs
    ≡ r ∷ more → AreAbove r more
above_at refs more n r h is = above_first r more (subst (IsStrictlySortedBy ref_cmp) is (rising_drop n refs h))

lower : (k : List ℕ) (page : Page) → T (below_all ref_cmp k page) → AreAbove k (refs_of page)
lower k [] h = tt
lower k (x ∷ xs) h = (
  less (ref_cmp k x.0) (first (is_lt (ref_cmp k x.0)) _ h),
  lower k xs
      (second (is_lt (ref_cmp k x.0)) _ h),
)

rising_page : (page : Page) → T (is_sorted ref_cmp page) → IsStrictlySortedBy ref_cmp (refs_of page)
unfolding IsStrictlySortedBy
rising_page [] h = tt
rising_page (x ∷ xs) h = (
  lower x.0 xs (first (below_all ref_cmp x.0 xs) _ h),
  rising_page xs
      (second (below_all ref_cmp x.0 xs) _ h),
)

-- some refs of a page rise
pub part_rises : (page : Page) (some : List (List ℕ)) → T (is_sorted ref_cmp page) → IsPartOf (refs_of page) some
    → IsStrictlySortedBy ref_cmp some
part_rises page some h part = subst (IsStrictlySortedBy ref_cmp) (sym part.1) (IsStrictlySortedBy-filter ref_cmp part.0
    (refs_of page) (rising_page page h))

-- ---- the loop

pub merge_step : (done before now : List (List ℕ)) (page rest : Page) (r : List ℕ) (refs : List (List ℕ))
    → T (is_sorted ref_cmp page) → AreAbove r refs → rest ≡ drop (length (take_while (is_before r) page)) page
    → now ≡ done ++ unless_first rest r → before ≡ r ∷ refs → now ++ filter (lack (refs_of rest)) refs ≡ done
    ++ filter (lack (refs_of page)) before
merge_step done before now page rest r refs h all is step begins =
    ap (λ l. l ++ filter (lack (refs_of rest)) refs) step ∙ append_assoc done (unless_first rest r)
    (filter (lack (refs_of rest)) refs)
    ∙ ap (λ l. done ++ l) (ap (λ (p : Page). unless_first p r ++ filter (lack (refs_of p)) refs) is
    ∙ sym (merged page r refs h all) ∙ ap (filter (lack (refs_of page))) (sym begins))

nothing_left : (n : ℕ) (refs : List (List ℕ)) → length refs ≤ n → drop n refs ≡ []
nothing_left zero [] le = refl
nothing_left zero (x ∷ xs) le = absurd (omega (arith, le))
nothing_left (suc n) [] le = refl
nothing_left (suc n) (x ∷ xs) le = nothing_left n xs (omega (arith, le))

pub merge_ends : (done : List (List ℕ)) (page : Page) (n : ℕ) (refs all : List (List ℕ)) → length refs ≤ n → done
    ++ filter (lack (refs_of page)) (drop n refs) ≡ all → done ≡ all
merge_ends done page n refs all le is = sym (append-nil done) ∙ ap (λ l. done ++ filter (lack (refs_of page)) l)
    (sym (nothing_left n refs le)) ∙ is
