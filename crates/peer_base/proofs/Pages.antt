-- Pages of entries in the order of their refs.
use Rattle.std.proofs.Common.{◌≡◌, ◌⊎◌, inl, inr, ℕ, zero, suc, ◌≤◌, Bool, true, false, cond, not, ◌&&◌, T, Option, None, Some, List, [], ◌∷◌, ◌++◌, length, map, take, filter, refl, sym, ap, subst, ◌∙◌, arith, Ordering, Less, Equal, Greater}
use Rattle.std.specs.List.{All}
use Rattle.std.specs.Ordering.{is_lt, ordering_reverse}
use Rattle.std.specs.Cmp.Lexicographic.{nat_list_cmp_total}
use Rattle.std.specs.FinMap.{entries, entries_sorted, is_sorted, IsAntisymmetric, slice_cmp-IsAntisymmetric, nat_cmp-IsAntisymmetric}
use Rattle.std.specs.FinMap.Entries.{below_all, is_sorted-where_key}
use Rattle.blobref.specs.Blobref.{ref_cmp, is_after}
use Rattle.edge_base.specs.Shelf.{Blobs}
use Rattle.peer_base.specs.Blobs.{sized, sizes_of, listed, IsPage}
use Rattle.peer_base.specs.Order.{last_of, refs_of, last_ref, beyond, up_to}

-- ---- booleans and the order of refs

pub both : (a b : Bool) → T a → T b → T (a && b)
both true b p q = q
both false b p q = p

pub first : (a b : Bool) → T (a && b) → T a
first true b p = tt
first false b p = p

pub second : (a b : Bool) → T (a && b) → T b
second true b p = p
second false b p = absurd p

pub yes : (b : Bool) → T b → b ≡ true
yes true p = refl
yes false p = absurd p

pub less : (o : Ordering) → T (is_lt o) → o ≡ Less
less Less p = refl
less Equal p = absurd p
less Greater p = absurd p

pub same_refs : IsAntisymmetric ref_cmp
same_refs = slice_cmp-IsAntisymmetric nat_cmp-IsAntisymmetric

-- what is less is not greater, and not the same
pub not_back : (a b : List ℕ) → ref_cmp a b ≡ Less → is_lt (ref_cmp b a) ≡ false
not_back a b e = ap is_lt (nat_list_cmp_total.antisymm b a ∙ ap ordering_reverse e)

pub not_before_itself : (a : List ℕ) → is_lt (ref_cmp a a) ≡ false
not_before_itself a = go (ref_cmp a a) (nat_list_cmp_total.antisymm a a)
  where
    go : (o : Ordering) → o ≡ ordering_reverse o → is_lt o ≡ false
    go Less e = absurd (cc e)
    go Equal e = refl
    go Greater e = refl

-- ---- sorted entries

below_take : {X : Type 0} (k : List ℕ) (n : ℕ) (es : List (List ℕ × X)) → T (below_all ref_cmp k es) → T (below_all ref_cmp k (take n es))
below_take k zero es h = tt
below_take k (suc n) [] h = tt
below_take k (suc n) (e ∷ es) h = both (is_lt (ref_cmp k e.0)) _ (first (is_lt (ref_cmp k e.0)) _ h) (below_take k n es (second (is_lt (ref_cmp k e.0)) _ h))

pub sorted_take : {X : Type 0} (n : ℕ) (es : List (List ℕ × X)) → T (is_sorted ref_cmp es) → T (is_sorted ref_cmp (take n es))
sorted_take zero es h = tt
sorted_take (suc n) [] h = tt
sorted_take (suc n) (e ∷ es) h = both (below_all ref_cmp e.0 (take n es)) _ (below_take e.0 n es (first (below_all ref_cmp e.0 es) _ h)) (sorted_take n es (second (below_all ref_cmp e.0 es) _ h))

below_sized : (k : List ℕ) (es : List (List ℕ × List ℕ)) → below_all ref_cmp k (map sized es) ≡ below_all ref_cmp k es
below_sized k [] = refl
below_sized k (e ∷ es) = ap (λ b. is_lt (ref_cmp k e.0) && b) (below_sized k es)

pub sorted_sized : (es : List (List ℕ × List ℕ)) → is_sorted ref_cmp (map sized es) ≡ is_sorted ref_cmp es
sorted_sized [] = refl
sorted_sized (e ∷ es) = λ i. below_sized e.0 es i && sorted_sized es i

-- ---- a page

pub short_take : {X : Type 0} (n : ℕ) (xs : List X) → length (take n xs) ≤ n
short_take zero xs = omega arith
short_take (suc n) [] = omega arith
short_take (suc n) (x ∷ xs) = omega (arith, short_take n xs)

pub all_beyond : (after : Option (List ℕ)) (n : ℕ) (es : List (List ℕ × ℕ)) → All (λ (e : List ℕ × ℕ). is_after after e.0 ≡ true) (take n (filter (λ (e : List ℕ × ℕ). is_after after e.0) es))
all_beyond after n es = go n es
  where
    none : All (λ (e : List ℕ × ℕ). is_after after e.0 ≡ true) []
    none k d lt = absurd (omega (arith, lt))

    more : (e : List ℕ × ℕ) (l : List (List ℕ × ℕ)) → is_after after e.0 ≡ true → All (λ (e : List ℕ × ℕ). is_after after e.0 ≡ true) l → All (λ (e : List ℕ × ℕ). is_after after e.0 ≡ true) (e ∷ l)
    more e l is all zero d lt = is
    more e l is all (suc k) d lt = all k d (omega (arith, lt))

    go : (n : ℕ) (es : List (List ℕ × ℕ)) → All (λ (e : List ℕ × ℕ). is_after after e.0 ≡ true) (take n (filter (λ (e : List ℕ × ℕ). is_after after e.0) es))
    go zero es = none
    go (suc n) [] = none
    go (suc n) (e ∷ es) = elim (is_after after e.0) as (λ b. is_after after e.0 ≡ b → All (λ (e : List ℕ × ℕ). is_after after e.0 ≡ true) (take (suc n) (cond b (e ∷ filter (λ (e : List ℕ × ℕ). is_after after e.0) es) (filter (λ (e : List ℕ × ℕ). is_after after e.0) es)))) [
      | true ↦ λ is. more e (take n (filter (λ (e : List ℕ × ℕ). is_after after e.0) es)) is (go n es)
      | false ↦ λ is. go (suc n) es
    ] refl

-- what is listed of a map is a page
pub listed_is_page : (after : Option (List ℕ)) (limit : ℕ) (held : Blobs) → IsPage after limit (listed after limit held)
listed_is_page after limit held = record {
  few = short_take limit (filter (λ (e : List ℕ × ℕ). is_after after e.0) (sizes_of held));
  rising = sorted_take limit (filter (λ (e : List ℕ × ℕ). is_after after e.0) (sizes_of held))
      (is_sorted-where_key ref_cmp (is_after after) (sizes_of held) (subst T (sym (sorted_sized (entries held))) (entries_sorted held)));
  later = all_beyond after limit (sizes_of held);
}

-- its refs are those of the entries
filter_sized : (after : Option (List ℕ)) (es : List (List ℕ × List ℕ)) → filter (λ (e : List ℕ × ℕ). is_after after e.0) (map sized es) ≡ map sized (beyond after es)
filter_sized after [] = refl
filter_sized after (e ∷ es) = elim (is_after after e.0) as (λ b. cond b (sized e ∷ filter (λ (e : List ℕ × ℕ). is_after after e.0) (map sized es)) (filter (λ (e : List ℕ × ℕ). is_after after e.0) (map sized es)) ≡ map sized (cond b (e ∷ beyond after es) (beyond after es))) [
  | true ↦ ap (λ l. sized e ∷ l) (filter_sized after es)
  | false ↦ filter_sized after es
]

take_sized : (n : ℕ) (es : List (List ℕ × List ℕ)) → take n (map sized es) ≡ map sized (take n es)
take_sized zero es = refl
take_sized (suc n) [] = refl
take_sized (suc n) (e ∷ es) = ap (λ l. sized e ∷ l) (take_sized n es)

refs_sized : (es : List (List ℕ × List ℕ)) → refs_of (map sized es) ≡ refs_of es
refs_sized [] = refl
refs_sized (e ∷ es) = ap (λ l. e.0 ∷ l) (refs_sized es)

pub listed_refs : (after : Option (List ℕ)) (limit : ℕ) (held : Blobs) → refs_of (listed after limit held) ≡ refs_of (take limit (beyond after (entries held)))
listed_refs after limit held = ap refs_of (ap (take limit) (filter_sized after (entries held)) ∙ take_sized limit (beyond after (entries held))) ∙ refs_sized (take limit (beyond after (entries held)))

-- ---- the walk from page to page

-- the last of more than one is the last of the others
pub last_more : (x : List ℕ) (xs : List (List ℕ)) (r : List ℕ) → last_of (x ∷ xs) ≡ Some r → ((xs ≡ []) × (x ≡ r)) ⊎ (last_of xs ≡ Some r)
last_more x [] r e = inl (refl, cc e)
last_more x (y ∷ ys) r e = inr e

module _ {X : Type 0} where
  -- what is below all is below the last of them
  pub below_last : (k : List ℕ) (es : List (List ℕ × X)) (r : List ℕ) → T (below_all ref_cmp k es) → last_ref es ≡ Some r → ref_cmp k r ≡ Less
  below_last k [] r h e = absurd (cc e)
  below_last k (x ∷ []) r h e = ap (ref_cmp k) (sym (some_same x.0 r e)) ∙ less (ref_cmp k x.0) (first (is_lt (ref_cmp k x.0)) _ h)
    where
      some_same : (a b : List ℕ) → Some a ≡ Some b → a ≡ b
      some_same a b e = cc e
  below_last k (x ∷ y ∷ ys) r h e = below_last k (y ∷ ys) r (second (is_lt (ref_cmp k x.0)) _ h) e

  below_filter : (k : List ℕ) (p : List ℕ → Bool) (es : List (List ℕ × X)) → T (below_all ref_cmp k es) → T (below_all ref_cmp k (filter (λ (e : List ℕ × X). p e.0) es))
  below_filter k p [] h = tt
  below_filter k p (x ∷ xs) h = elim (p x.0) as (λ b. T (below_all ref_cmp k (cond b (x ∷ filter (λ (e : List ℕ × X). p e.0) xs) (filter (λ (e : List ℕ × X). p e.0) xs)))) [
    | true ↦ both (is_lt (ref_cmp k x.0)) _ (first (is_lt (ref_cmp k x.0)) _ h) (below_filter k p xs (second (is_lt (ref_cmp k x.0)) _ h))
    | false ↦ below_filter k p xs (second (is_lt (ref_cmp k x.0)) _ h)
  ]

  -- what is above k is after k
  none_up_to : (k : List ℕ) (es : List (List ℕ × X)) → T (below_all ref_cmp k es) → up_to (Some k) es ≡ []
  none_up_to k [] h = refl
  none_up_to k (x ∷ xs) h = ap (λ b. cond (not b) (x ∷ up_to (Some k) xs) (up_to (Some k) xs)) (yes (is_lt (ref_cmp k x.0)) (first (is_lt (ref_cmp k x.0)) _ h)) ∙ none_up_to k xs (second (is_lt (ref_cmp k x.0)) _ h)

  keeps_first : (r : List ℕ) (x : List ℕ × X) (xs : List (List ℕ × X)) → is_lt (ref_cmp r x.0) ≡ false → up_to (Some r) (x ∷ xs) ≡ x ∷ up_to (Some r) xs
  keeps_first r x xs e = ap (λ b. cond (not b) (x ∷ up_to (Some r) xs) (up_to (Some r) xs)) e

  -- a front of sorted entries is what stands up to its last ref
  up_to_last : (n : ℕ) (es : List (List ℕ × X)) (r : List ℕ) → T (is_sorted ref_cmp es) → last_ref (take n es) ≡ Some r → up_to (Some r) es ≡ take n es
  up_to_last zero es r h e = absurd (cc e)
  up_to_last (suc n) [] r h e = absurd (cc e)
  up_to_last (suc n) (x ∷ xs) r h e = go (last_more x.0 (refs_of (take n xs)) r e) (up_to_last n xs r (second (below_all ref_cmp x.0 xs) _ h))
    where
      up : T (below_all ref_cmp x.0 xs)
      up = first (below_all ref_cmp x.0 xs) _ h

      none_left : (l : List (List ℕ × X)) → refs_of l ≡ [] → l ≡ []
      none_left [] e = refl
      none_left (y ∷ ys) e = absurd (cc e)

      go : ((refs_of (take n xs) ≡ []) × (x.0 ≡ r)) ⊎ (last_of (refs_of (take n xs)) ≡ Some r) → (last_ref (take n xs) ≡ Some r → up_to (Some r) xs ≡ take n xs)
          → up_to (Some r) (x ∷ xs) ≡ x ∷ take n xs
      go (inl both) more =
          subst (λ q. up_to (Some q) (x ∷ xs) ≡ x ∷ take n xs) both.1 (keeps_first x.0 x xs (not_before_itself x.0) ∙ ap (λ l. x ∷ l) (none_up_to x.0 xs up ∙ sym (none_left (take n xs) both.0)))
      go (inr last) more =
          keeps_first r x xs (not_back x.0 r (below_last x.0 (take n xs) r (below_take x.0 n xs up) last)) ∙ ap (λ l. x ∷ l) (more last)

  -- where the first of sorted entries is after a ref, all are
  all_after : (a : Option (List ℕ)) (x : List ℕ) (xs : List (List ℕ × X)) → is_after a x ≡ true → T (below_all ref_cmp x xs) → up_to a xs ≡ []
  all_after None x [] is h = refl
  all_after None x (y ∷ ys) is h = all_after None x ys is (second (is_lt (ref_cmp x y.0)) _ h)
  all_after (Some a) x [] is h = refl
  all_after (Some a) x (y ∷ ys) is h =
      ap (λ b. cond (not b) (y ∷ up_to (Some a) ys) (up_to (Some a) ys)) (ap is_lt (nat_list_cmp_total.trans a x y.0 (less (ref_cmp a x) (subst T (sym is) tt)) (less (ref_cmp x y.0) (first (is_lt (ref_cmp x y.0)) _ h))))
      ∙ all_after (Some a) x ys is (second (is_lt (ref_cmp x y.0)) _ h)

  all_beyond_of : (a : Option (List ℕ)) (x : List ℕ) (xs : List (List ℕ × X)) → is_after a x ≡ true → T (below_all ref_cmp x xs) → beyond a xs ≡ xs
  all_beyond_of None x [] is h = refl
  all_beyond_of None x (y ∷ ys) is h = ap (λ l. y ∷ l) (all_beyond_of None x ys is (second (is_lt (ref_cmp x y.0)) _ h))
  all_beyond_of (Some a) x [] is h = refl
  all_beyond_of (Some a) x (y ∷ ys) is h =
      ap (λ b. cond b (y ∷ beyond (Some a) ys) (beyond (Some a) ys)) (ap is_lt (nat_list_cmp_total.trans a x y.0 (less (ref_cmp a x) (subst T (sym is) tt)) (less (ref_cmp x y.0) (first (is_lt (ref_cmp x y.0)) _ h))))
      ∙ ap (λ l. y ∷ l) (all_beyond_of (Some a) x ys is (second (is_lt (ref_cmp x y.0)) _ h))

  -- one page more
  pub page_more : (a : Option (List ℕ)) (n : ℕ) (es : List (List ℕ × X)) (r : List ℕ) → T (is_sorted ref_cmp es) → last_ref (take n (beyond a es)) ≡ Some r
      → up_to (Some r) es ≡ up_to a es ++ take n (beyond a es)
  page_more a zero [] r h e = absurd (cc e)
  page_more a (suc n) [] r h e = absurd (cc e)
  page_more a n (x ∷ xs) r h e = elim (is_after a x.0) as (λ b. is_after a x.0 ≡ b → last_ref (take n (cond b (x ∷ beyond a xs) (beyond a xs))) ≡ Some r
      → up_to (Some r) (x ∷ xs) ≡ cond (not b) (x ∷ up_to a xs) (up_to a xs) ++ take n (cond b (x ∷ beyond a xs) (beyond a xs))) [
        | true ↦ λ is last.
            let all : beyond a xs ≡ xs = all_beyond_of a x.0 xs is up in
            up_to_last n (x ∷ xs) r h (subst (λ l. last_ref (take n (x ∷ l)) ≡ Some r) all last) ∙ ap (λ l. take n (x ∷ l)) (sym all) ∙ ap (λ l. l ++ take n (x ∷ beyond a xs)) (sym (all_after a x.0 xs is up))
        | false ↦ λ is last.
            keeps_first r x xs (not_back x.0 r (below_last x.0 (take n (beyond a xs)) r (below_take x.0 n (beyond a xs) (below_filter x.0 (is_after a) xs up)) last))
            ∙ ap (λ l. x ∷ l) (page_more a n xs r (second (below_all ref_cmp x.0 xs) _ h) last)
      ] refl e
    where
      up : T (below_all ref_cmp x.0 xs)
      up = first (below_all ref_cmp x.0 xs) _ h

  -- no page more
  pub page_none : (a : Option (List ℕ)) (n : ℕ) (es : List (List ℕ × X)) → 1 ≤ n → take n (beyond a es) ≡ [] → up_to a es ≡ es
  page_none a zero es some e = absurd (omega (arith, some))
  page_none a (suc n) es some e = go es (none_taken (beyond a es) e)
    where
      none_taken : (l : List (List ℕ × X)) → take (suc n) l ≡ [] → l ≡ []
      none_taken [] e = refl
      none_taken (y ∷ ys) e = absurd (cc e)

      go : (es : List (List ℕ × X)) → beyond a es ≡ [] → up_to a es ≡ es
      go [] e = refl
      go (x ∷ xs) e = elim (is_after a x.0) as (λ b. cond b (x ∷ beyond a xs) (beyond a xs) ≡ [] → cond (not b) (x ∷ up_to a xs) (up_to a xs) ≡ x ∷ xs) [
        | true ↦ λ e. absurd (cc e)
        | false ↦ λ e. ap (λ l. x ∷ l) (go xs e)
      ] e

  -- entries are those up to a ref, and those beyond it
  pub parted : (a : Option (List ℕ)) (es : List (List ℕ × X)) → T (is_sorted ref_cmp es) → es ≡ up_to a es ++ beyond a es
  parted a [] h = refl
  parted a (x ∷ xs) h = elim (is_after a x.0) as (λ b. is_after a x.0 ≡ b → x ∷ xs ≡ cond (not b) (x ∷ up_to a xs) (up_to a xs) ++ cond b (x ∷ beyond a xs) (beyond a xs)) [
    | true ↦ λ is. ap (λ l. x ∷ l) (sym (all_beyond_of a x.0 xs is (first (below_all ref_cmp x.0 xs) _ h))) ∙ ap (λ l. l ++ (x ∷ beyond a xs)) (sym (all_after a x.0 xs is (first (below_all ref_cmp x.0 xs) _ h)))
    | false ↦ λ is. ap (λ l. x ∷ l) (parted a xs (second (below_all ref_cmp x.0 xs) _ h))
  ] refl
