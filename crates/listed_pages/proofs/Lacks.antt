-- Which refs of a page are lacking, found by the pages of what is there.
use Rattle.std.proofs.Common.{◌≡◌, ◌⊎◌, inl, inr, ℕ, suc, ◌≤◌, Bool, true, false, cond, not, ◌&&◌, ◌||◌, T, Less}
use Rattle.std.proofs.Common.{Option, None, Some, List, [], ◌∷◌, ◌++◌, take, filter, nat_eq, refl, sym, ap, subst, ◌∙◌}
use Rattle.std.proofs.Common.{arith}
use Rattle.std.proofs.lemmas.List.{map-append}
use Rattle.std.proofs.lemmas.List.Folds.{list_any-append}
use Rattle.std.specs.List.{All, list_any}
use Rattle.std.specs.Ordering.{is_lt, eq_by_cmp}
use Rattle.std.specs.Cmp.Lexicographic.{pointwise, nat_list_cmp_total, same_text, texts_ties}
use Rattle.std.specs.FinMap.{entries, entries_sorted, contains_key, contains_key-keys, is_sorted}
use Rattle.std.specs.FinMap.Entries.{below_all}
use Rattle.blobref.specs.Blobref.{ref_cmp, is_after}
use Rattle.edge_base.specs.Shelf.{Blobs}
use Rattle.peer_base.specs.Blobs.{listed, IsPage}
use Rattle.peer_base.specs.Order.{last_of, refs_of, last_ref, is_among, beyond, up_to}
use Rattle.peer_base.proofs.Pages.{first, second, less, last_more, below_last, listed_refs, page_more, page_none}

-- ---- filters

pub filter_same : {X : Type 0} (p q : X → Bool) (xs : List X) → ((x : X) → p x ≡ q x) → filter p xs ≡ filter q xs
filter_same p q [] same = refl
filter_same p q (x ∷ xs) same = (λ i. cond (same x i) (x ∷ filter_same p q xs same i) (filter_same p q xs same i))

pub filter_twice : {X : Type 0} (p q : X → Bool) (xs : List X) → filter q (filter p xs) ≡ filter (λ x. p x && q x) xs
filter_twice p q [] = refl
filter_twice p q (x ∷ xs) = elim (p x) as (λ b. filter q (cond b (x ∷ filter p xs) (filter p xs)) ≡ cond (b && q x)
    (x ∷ filter (λ x. p x && q x) xs) (filter (λ x. p x && q x) xs)) [
      | true ↦ ap (λ l. cond (q x) (x ∷ l) l) (filter_twice p q xs)
      | false ↦ filter_twice p q xs
    ]

pub not_or : (a b : Bool) → (not a && not b) ≡ not (a || b)
not_or true b = refl
not_or false b = refl

-- ---- a ref among others

abbrev pub lack : List (List ℕ) → List ℕ → Bool
lack refs r = not (is_among refs r)

-- one that is after a ref is not among those up to it
not_up_to : {X : Type 0} (after : Option (List ℕ)) (r : List ℕ) (es : List (List ℕ × X)) → is_after after r ≡ true
    → is_among (refs_of (up_to after es)) r ≡ false
not_up_to after r [] is = refl
not_up_to after r (x ∷ xs) is = elim (is_after after x.0) as (λ b. is_after after x.0 ≡ b
    → is_among (refs_of (cond (not b) (x ∷ up_to after xs) (up_to after xs))) r ≡ false) [
      | true ↦ λ e. not_up_to after r xs is
      | false ↦ λ e. ap (λ b. b || is_among (refs_of (up_to after xs)) r) (other (pointwise nat_eq r x.0) refl e)
          ∙ not_up_to after r xs is
    ] refl
  where
    other : (b : Bool) → pointwise nat_eq r x.0 ≡ b → is_after after x.0 ≡ false → pointwise nat_eq r x.0 ≡ false
    other true e low = absurd (cc (is, low, ap (is_after after) (same_text r x.0 (sym e))))
    other false e low = e

-- one that isn't is among those exactly where it is among all
among_up_to : {X : Type 0} (after : Option (List ℕ)) (r : List ℕ) (es : List (List ℕ × X)) → is_after after r ≡ false
    → is_among (refs_of (up_to after es)) r ≡ is_among (refs_of es) r
among_up_to after r [] is = refl
among_up_to after r (x ∷ xs) is = elim (is_after after x.0) as (λ b. is_after after x.0 ≡ b
    → is_among (refs_of (cond (not b) (x ∷ up_to after xs) (up_to after xs))) r
    ≡ (pointwise nat_eq r x.0 || is_among (refs_of xs) r)) [
      | true ↦ λ e. among_up_to after r xs is ∙ ap (λ b. b || is_among (refs_of xs) r)
          (sym (other (pointwise nat_eq r x.0) refl e))
      | false ↦ λ e. ap (λ b. pointwise nat_eq r x.0 || b) (among_up_to after r xs is)
    ] refl
  where
    other : (b : Bool) → pointwise nat_eq r x.0 ≡ b → is_after after x.0 ≡ true → pointwise nat_eq r x.0 ≡ false
    other true e above = absurd (cc (is, above, ap (is_after after) (same_text r x.0 (sym e))))
    other false e above = e

any_ties : (r : List ℕ) (refs : List (List ℕ)) → is_among refs r ≡ list_any (eq_by_cmp ref_cmp r) refs
any_ties r [] = refl
any_ties r (x ∷ xs) = (λ i. texts_ties r x i || any_ties r xs i)

pub among_map : (held : Blobs) (r : List ℕ) → is_among (refs_of (entries held)) r ≡ contains_key held r
among_map held r = any_ties r (refs_of (entries held)) ∙ sym (contains_key-keys held r)

-- ---- from page to page

-- before the first page nothing is left out
pub lacks_start : {X : Type 0} (after : Option (List ℕ)) (limit : ℕ) (page : List (List ℕ × ℕ)) (es : List (List ℕ × X))
    → IsPage after limit page
    → refs_of page ≡ filter (lack (refs_of (up_to after es))) (refs_of page)
lacks_start after limit page es shape = go page shape.later
  where
    go : (page : List (List ℕ × ℕ)) → All (λ (e : List ℕ × ℕ). is_after after e.0 ≡ true) page → refs_of page
        ≡ filter (lack (refs_of (up_to after es))) (refs_of page)
    go [] all = refl
    go (x ∷ xs) all =
        ap (λ l. x.0 ∷ l) (go xs (λ k d lt. all (suc k) d (omega (arith, lt))))
        ∙ ap (λ b. cond (not b) (x.0 ∷ filter (lack (refs_of (up_to after es))) (refs_of xs))
        (filter (lack (refs_of (up_to after es))) (refs_of xs)))
        (sym (not_up_to after x.0 es (all 0 x (omega arith))))

-- a page leaves out what is on it
pub lacks_more : (cursor : Option (List ℕ)) (limit : ℕ) (held : Blobs) (page : List (List ℕ × ℕ)) (r : List ℕ)
    (all before now : List (List ℕ)) → page ≡ listed cursor limit held → last_ref page ≡ Some r
    → before ≡ filter (lack (refs_of (up_to cursor (entries held)))) all → now ≡ filter (lack (refs_of page)) before
    → now ≡ filter (lack (refs_of (up_to (Some r) (entries held)))) all
lacks_more cursor limit held page r all before now is last was step =
    let es = entries held in
    let named : refs_of page ≡ refs_of (take limit (beyond cursor es)) = ap refs_of is
    ∙ listed_refs cursor limit held in
    let more : up_to (Some r) es ≡ up_to cursor es ++ take limit (beyond cursor es) = page_more cursor limit es r
    (entries_sorted held) (ap last_of (sym named) ∙ last) in
    step ∙ ap (filter (lack (refs_of page))) was ∙ filter_twice (lack (refs_of (up_to cursor es))) (lack (refs_of page))
    all
    ∙ filter_same (λ q. lack (refs_of (up_to cursor es)) q && lack (refs_of page) q)
    (lack (refs_of (up_to (Some r) es))) all (λ q.
    not_or (is_among (refs_of (up_to cursor es)) q) (is_among (refs_of page) q)
    ∙ ap not (ap (λ l. is_among (refs_of (up_to cursor es)) q || is_among l q) named
    ∙ sym (list_any-append (pointwise nat_eq q) (refs_of (up_to cursor es))
    (refs_of (take limit (beyond cursor es))))
    ∙ ap (λ l. is_among l q) (sym (map-append (λ e. e.0) (up_to cursor es) (take limit (beyond cursor es)))
    ∙ ap refs_of (sym more))))

-- behind an empty page nothing is there
pub lacks_end : (cursor : Option (List ℕ)) (limit : ℕ) (held : Blobs) (page : List (List ℕ × ℕ))
    (all now : List (List ℕ)) → 1 ≤ limit → page ≡ listed cursor limit held → None ≡ last_ref page
    → now ≡ filter (lack (refs_of (up_to cursor (entries held)))) all → now ≡ filter (λ q. not (contains_key held q))
    all
lacks_end cursor limit held page all now some is last was =
    let es = entries held in
    let named : refs_of page ≡ refs_of (take limit (beyond cursor es)) = ap refs_of is
    ∙ listed_refs cursor limit held in
    let whole : up_to cursor es ≡ es = page_none cursor limit es some (none_left (take limit (beyond cursor es))
    (no_last (refs_of (take limit (beyond cursor es))) (last ∙ ap last_of named))) in
    was ∙ filter_same (lack (refs_of (up_to cursor es))) (λ q. not (contains_key held q)) all
    (λ q. ap not (ap (λ l. is_among (refs_of l) q) whole ∙ among_map held q))
  where
    no_last : (l : List (List ℕ)) → None ≡ last_of l → l ≡ []
    no_last [] e = refl
    no_last (x ∷ []) e = absurd (cc e)
    no_last (x ∷ y ∷ ys) e = absurd (nothing (no_last (y ∷ ys) e))
      where
        nothing : y ∷ ys ≡ [] → ⊥
        nothing e = absurd (cc e)

    none_left : (l : List (List ℕ × List ℕ)) → refs_of l ≡ [] → l ≡ []
    none_left [] e = refl
    none_left (y ∷ ys) e = absurd (cc e)

-- all refs of a page up to a ref are before what that one reaches
pub lacks_reached : (r last : List ℕ) (after : Option (List ℕ)) (limit : ℕ) (held : Blobs) (page : List (List ℕ × ℕ))
    (now : List (List ℕ)) → IsPage after limit page → last_ref page ≡ Some last
    → is_lt (ref_cmp r last) ≡ false → now ≡ filter (lack (refs_of (up_to (Some r) (entries held)))) (refs_of page)
    → now ≡ filter (λ q. not (contains_key held q)) (refs_of page)
lacks_reached r last after limit held page now shape is_last low was = was ∙ go page shape.rising is_last
  where
    few : List ℕ → Bool
    few q = lack (refs_of (up_to (Some r) (entries held))) q

    whole : List ℕ → Bool
    whole q = not (contains_key held q)

    same : (q : List ℕ) → is_lt (ref_cmp r q) ≡ false → few q ≡ whole q
    same q low = ap not (among_up_to (Some r) q (entries held) low ∙ among_map held q)

    below : (q : List ℕ) → ref_cmp q last ≡ Less → is_lt (ref_cmp r q) ≡ false
    below q lt = case (is_lt (ref_cmp r q)) refl
      where
        case : (b : Bool) → is_lt (ref_cmp r q) ≡ b → is_lt (ref_cmp r q) ≡ false
        case true e = absurd (cc (
          low,
          ap is_lt (nat_list_cmp_total.trans r q last
              (less (ref_cmp r q) (subst T (sym e) tt)) lt),
        ))
        case false e = e

    go : (page : List (List ℕ × ℕ)) → T (is_sorted ref_cmp page) → last_ref page ≡ Some last → filter few (refs_of page)
        ≡ filter whole (refs_of page)
    go [] h e = absurd (cc e)
    go (x ∷ xs) h e = part (last_more x.0 (refs_of xs) last e) (go xs (second (below_all ref_cmp x.0 xs) _ h))
      where
        part : ((refs_of xs ≡ []) × (x.0 ≡ last)) ⊎ (last_of (refs_of xs) ≡ Some last)
            → (last_ref xs ≡ Some last → filter few (refs_of xs) ≡ filter whole (refs_of xs))
            → filter few (x.0 ∷ refs_of xs) ≡ filter whole (x.0 ∷ refs_of xs)
        part (inl p) more = subst (λ l. filter few (x.0 ∷ l) ≡ filter whole (x.0 ∷ l)) (sym p.0)
            (ap (λ b. cond b (x.0 ∷ []) []) (same x.0 (ap (λ q. is_lt (ref_cmp r q)) p.1 ∙ low)))
        part (inr l) more = (λ i. cond (same x.0
            (below x.0 (below_last x.0 xs last (first (below_all ref_cmp x.0 xs) _ h) l)) i) (x.0 ∷ more l i)
            (more l i))

-- all of them
pub all_of : (refs : List (List ℕ)) → refs ≡ filter (λ (r : List ℕ). true) refs
all_of [] = refl
all_of (r ∷ refs) = ap (λ l. r ∷ l) (all_of refs)

pub not_true : (b r : Bool) → r ≡ true → r ≡ not b → b ≡ false
not_true true r e is = absurd (cc (e, is))
not_true false r e is = refl
