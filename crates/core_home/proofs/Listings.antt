-- What is read of blobs.
use Rattle.std.proofs.Common.{◌≡◌, ℕ, suc, ◌+◌, ◌-◌, ◌<◌, ◌≤◌, Bool, true, false, not, ◌&&◌, ◌||◌, cond, nat_le, List, [], ◌∷◌, ◌++◌, take, drop, filter, length, length-append, append_assoc, refl, ap, sym, ◌∙◌, arith, Option, None, Result, Ok, Err, IfOk}
use Rattle.std.specs.Ordering.{is_eq, eq_by_cmp}
use Rattle.std.specs.List.{list_any, filter_map, AllByRecursion, IsDistinct}
use Rattle.std.specs.Cmp.{eq_by_cmp_equiv}
use Rattle.std.specs.Cmp.Lexicographic.{nat_list_cmp_total}
use Rattle.std.specs.Map.{keys_of}
use Rattle.std.proofs.lemmas.Bool.{and_parts, not-true}
use Rattle.std.proofs.lemmas.List.{append-nil}
use Rattle.std.proofs.lemmas.List.Elements.{filter_map-append}
use Rattle.std.proofs.lemmas.Map.Text.{is_eq-slice_cmp}
use Rattle.blobref.specs.Blobref.{is_own_ref, ref_cmp}
use Rattle.blobref.specs.declared.memory.NoMemory.{NoMemory}
use Rattle.pack_format.specs.Header.{max_size}
use Rattle.histories.specs.History.{is_legal_after}
use Rattle.histories.specs.Stores.{Blob, is_ref, has_ref, may_arrive, are_arrivals}
use Rattle.histories.specs.StoreCalls.{sizes, sized, each_once, page, StatSpec, ListSpec}

-- ---- refs that are asked

module _ (blobs : List Blob) where
  stat_by : (b : Bool) (asked asked' : List (List ℕ)) (found found' : List (List ℕ × ℕ)) (r : List ℕ) (rest : List (List ℕ))
      → asked' ≡ cond b asked (asked ++ r ∷ []) → found' ≡ cond b found (found ++ filter_map (sized blobs) (r ∷ []))
      → found' ++ filter_map (sized blobs) (each_once asked' rest)
      ≡ found ++ filter_map (sized blobs) (cond b (each_once asked rest) (r ∷ each_once (asked ++ r ∷ []) rest))
  stat_by true asked asked' found found' r rest a f = λ i. f i ++ filter_map (sized blobs) (each_once (a i) rest)
  stat_by false asked asked' found found' r rest a f =
      (λ i. f i ++ filter_map (sized blobs) (each_once (a i) rest))
      ∙ (append_assoc found (filter_map (sized blobs) (r ∷ [])) (filter_map (sized blobs) (each_once (asked ++ r ∷ []) rest))
      ∙ ap (λ (z : List (List ℕ × ℕ)). found ++ z) (sym (filter_map-append (sized blobs) (r ∷ []) (each_once (asked ++ r ∷ []) rest))))

  -- one more of the refs asked
  pub stat_more : (asked asked' : List (List ℕ)) (found found' : List (List ℕ × ℕ)) (r : List ℕ) (rest : List (List ℕ))
      → asked' ≡ cond (list_any (is_ref r) asked) asked (asked ++ r ∷ [])
      → found' ≡ cond (list_any (is_ref r) asked) found (found ++ filter_map (sized blobs) (r ∷ []))
      → found' ++ filter_map (sized blobs) (each_once asked' rest) ≡ found ++ filter_map (sized blobs) (each_once asked (r ∷ rest))
  stat_more asked asked' found found' r rest a f = stat_by (list_any (is_ref r) asked) asked asked' found found' r rest a f

-- ---- refs of arrivals are distinct

not_any_front : {A : Type 0} (p : A → Bool) (xs ys : List A) → list_any p (xs ++ ys) ≡ false → list_any p xs ≡ false
not_any_front p [] ys e = refl
not_any_front p (x ∷ xs) ys e = go (p x) (list_any p (xs ++ ys)) (list_any p xs) (not_any_front p xs ys) e
  where
    go : (a b c : Bool) → (b ≡ false → c ≡ false) → (a || b) ≡ false → (a || c) ≡ false
    go true b c f e = absurd cc
    go false b c f e = f e

not_any_last : {A : Type 0} (p : A → Bool) (xs : List A) (x : A) → list_any p (xs ++ x ∷ []) ≡ false → p x ≡ false
not_any_last p [] x e = go (p x) e
  where
    go : (a : Bool) → (a || false) ≡ false → a ≡ false
    go true e = absurd cc
    go false e = refl
not_any_last p (y ∷ xs) x e = not_any_last p xs x (go (p y) (list_any p (xs ++ x ∷ [])) e)
  where
    go : (a b : Bool) → (a || b) ≡ false → b ≡ false
    go true b e = absurd cc
    go false b e = e

all_apart : (r : List ℕ) (before bs : List Blob) → ((q : List ℕ) → has_ref q before ≡ false → is_ref q r ≡ false) → is_legal_after may_arrive before bs ≡ true
    → AllByRecursion (λ (q : List ℕ). eq_by_cmp ref_cmp r q ≡ false) (keys_of (sizes bs))
all_apart r before [] apart ok = tt
all_apart r before (b ∷ bs) apart ok =
    let p = and_parts (may_arrive before b) (is_legal_after may_arrive (before ++ b ∷ []) bs) ok in
    let q = and_parts (nat_le (length b.1) max_size && is_own_ref b.0 b.1) (not (has_ref b.0 before)) p.0 in (
      (eq_by_cmp_equiv nat_list_cmp_total).symm r b.0 ∙ (is_eq-slice_cmp b.0 r ∙ apart b.0 (not-true (has_ref b.0 before) q.1)),
      all_apart r (before ++ b ∷ []) bs (λ q none. apart q (not_any_front (λ (c : Blob). is_ref q c.0) before (b ∷ []) none)) p.1,
    )

distinct_after : (before bs : List Blob) → is_legal_after may_arrive before bs ≡ true → IsDistinct (eq_by_cmp ref_cmp) (keys_of (sizes bs))
unfolding IsDistinct
distinct_after before [] ok = tt
distinct_after before (b ∷ bs) ok =
    let p = and_parts (may_arrive before b) (is_legal_after may_arrive (before ++ b ∷ []) bs) ok in (
      all_apart b.0 (before ++ b ∷ []) bs (λ q none. not_any_last (λ (c : Blob). is_ref q c.0) before b none) p.1,
      distinct_after (before ++ b ∷ []) bs p.1,
    )

pub refs_distinct : (bs : List Blob) → are_arrivals bs ≡ true → IsDistinct (eq_by_cmp ref_cmp) (keys_of (sizes bs))
refs_distinct bs ok = distinct_after [] bs ok

-- ---- a page

module _ (p : List ℕ × ℕ → Bool) (limit : ℕ) where
  take_none : {A : Type 0} (found xs : List A) (n : ℕ) → n ≡ 0 → found ≡ found ++ take n xs
  take_none found xs n is = sym (append-nil found) ∙ ap (λ (k : ℕ). found ++ take k xs) (sym is)

  -- there is no room for more
  pub page_full : (found whole all : List (List ℕ × ℕ)) (i : ℕ) → length found ≡ limit
      → found ++ take (limit - length found) (filter p (drop i all)) ≡ whole → found ≡ whole
  page_full found whole all i full so_far = take_none found (filter p (drop i all)) (limit - length found) (omega (arith, full)) ∙ so_far

  pub not_full : (n len : ℕ) → n ≤ limit → len ≡ n → (len ≡ limit → ⊥) → n < limit
  not_full n len le is other = omega (arith, le, is, other)

  within_by : (b : Bool) (e : List ℕ × ℕ) (found found' : List (List ℕ × ℕ)) → length found < limit → found' ≡ cond b (found ++ e ∷ []) found → length found' ≤ limit
  within_by true e found found' room f = let longer = length-append found (e ∷ []) in let same = ap length f in omega (arith, longer, same, room)
  within_by false e found found' room f = let same = ap length f in omega (arith, same, room)

  pub page_within : (e : List ℕ × ℕ) (found found' : List (List ℕ × ℕ)) → length found < limit → found' ≡ cond (p e) (found ++ e ∷ []) found → length found' ≤ limit
  page_within e found found' room f = within_by (p e) e found found' room f

  more_by : (b : Bool) (e : List ℕ × ℕ) (rest found found' : List (List ℕ × ℕ)) (left : ℕ) → limit - length found ≡ suc left → found' ≡ cond b (found ++ e ∷ []) found
      → found' ++ take (limit - length found') rest ≡ found ++ take (limit - length found) (cond b (e ∷ rest) rest)
  more_by false e rest found found' left room f = λ i. f i ++ take (limit - length (f i)) rest
  more_by true e rest found found' left room f =
      let longer = length-append found (e ∷ []) in
      let less : limit - length (found ++ e ∷ []) ≡ left = omega (arith, longer, room) in
      (λ i. f i ++ take (limit - length (f i)) rest)
      ∙ (ap (λ (k : ℕ). (found ++ e ∷ []) ++ take k rest) less
      ∙ (append_assoc found (e ∷ []) (take left rest)
      ∙ ap (λ (k : ℕ). found ++ take k (e ∷ rest)) (sym room)))

  -- one more entry, which stands on the page where it passes
  pub page_more : (e : List ℕ × ℕ) (rest found found' : List (List ℕ × ℕ)) → length found < limit → found' ≡ cond (p e) (found ++ e ∷ []) found
      → found' ++ take (limit - length found') (filter p rest) ≡ found ++ take (limit - length found) (filter p (e ∷ rest))
  page_more e rest found found' room f =
      more_by (p e) e (filter p rest) found found' (limit - length found - 1) (omega (arith, room)) f

-- ---- what is told

pub stat_says : (refs : List (List ℕ)) (blobs : List Blob) (result : Result (List (List ℕ × ℕ)) NoMemory)
    → IfOk result (λ found. found ≡ filter_map (sized blobs) (each_once [] refs)) → StatSpec refs blobs result None
stat_says refs blobs (Ok found) is = (is, refl)
stat_says refs blobs (Err e) is = refl

pub list_says : (after : Option (List ℕ)) (limit : ℕ) (blobs : List Blob) (result : Result (List (List ℕ × ℕ)) NoMemory)
    → IfOk result (λ found. found ≡ page after limit blobs) → ListSpec after limit blobs result None
list_says after limit blobs (Ok found) is = (is, refl)
list_says after limit blobs (Err e) is = refl
