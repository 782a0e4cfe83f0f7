-- What is in an answer was asked for.
use Rattle.std.proofs.Common.{zero, suc, take, ◌≡◌, not, ℕ, ℤ, ◌≤◌, Bool, true, false, cond, List, [], ◌∷◌, length, filter, map, Option, Some, None, is_some, ◌||◌, ◌⊎◌, inl, inr, refl, sym, ap, ◌∙◌, subst, Ordering, arith, All}
use Rattle.std.specs.declared.cmp.Ordering.TheVariants.{Less, Equal, Greater}
use Rattle.std.specs.List.{AllByRecursion, list_any}
use Rattle.std.specs.Cmp.{IsTotalOrder}
use Rattle.std.specs.FinMap.Entries.{by_order}
use Rattle.std.proofs.lemmas.Bool.{false≢true, and_parts, or_cases, or_left, or_parts, or_right, not-true}
use Rattle.std.proofs.lemmas.List.{length-take}
use Rattle.std.proofs.lemmas.List.Elements.{All-take, All-from_recursion}
use Rattle.std.specs.FinMap.{keys, get, contains_key-keys, IsAntisymmetric}
use Rattle.std.specs.Str.{bytes_eq}
use Rattle.std.proofs.lemmas.Map.Text.{is_eq-slice_cmp}
use Rattle.std.proofs.lemmas.Slice.Eq.{bytes_eq-Decides}
use Rattle.index_look.proofs.Keys.{key_put, keys_put, keys-from_entries}
use Rattle.std.specs.List.Sorted.{IsStrictlySortedBy}
use Rattle.std.specs.FinMap.{from_entries}
use Rattle.blobref.specs.Blobref.{ref_cmp}
use Rattle.index_look.proofs.Order.{ascending_entries}
use Rattle.search_eval.proofs.Walk.{ascends_taken, found_ascends}
use Rattle.claim_verify.specs.Verifier.{Accepts}
use Rattle.claim_model.specs.Facts.{Facts, passes, is_permanode}
use Rattle.claim_model.specs.Genuine.{is_genuine, is_genuine_permanode, permanodes}
use Rattle.claim_model.specs.Deleted.{is_deleted, live_permanodes}
use Rattle.claim_model.specs.Claims.{last_change}
use Rattle.search_query.specs.declared.query.Sort.{Sort}
use Rattle.search_query.specs.declared.query.Sort.TheVariants.{Ref, Mod, ModDown}
use Rattle.search_query.specs.declared.query.Query.{Query}
use Rattle.search_query.specs.View.{view}
use Rattle.search_meets.specs.Meaning.{meets}
use Rattle.search_eval.specs.Answer.{Dated, rising_cmp, falling_cmp, refs_by, dated, in_order, found, answer}
use Rattle.search_eval.specs.Laws.{IsAsked, IsInOrder, IsBeyond, order_of, AnswersAreAsked}
use Rattle.search_eval.proofs.Orders.{rising_total, falling_total, rising_same, falling_same, keys_are}

module _ (Q : Dated → Type 0) where
  each_put : (R : Dated → Dated → Ordering) (d : Dated) (ds : List Dated) → Q d → AllByRecursion Q ds → AllByRecursion Q (key_put R d ds)
  each_put R d [] p h = (p, tt)
  each_put R d (e ∷ ds) p h = by (R d e) (each_put R d ds p h.1)
    where
      by : (o : Ordering) → AllByRecursion Q (key_put R d ds) → AllByRecursion Q (by_order o (d ∷ e ∷ ds) (e ∷ ds) (e ∷ key_put R d ds))
      by Less rest = (p, h)
      by Equal rest = h
      by Greater rest = (h.0, rest)

  each_kept : (R : Dated → Dated → Ordering) (ds : List Dated) → AllByRecursion Q ds → AllByRecursion Q (keys_put R ds)
  each_kept R [] h = tt
  each_kept R (d ∷ ds) h = each_put R d (keys_put R ds) h.0 (each_kept R ds h.1)

-- the keys that an order by change gives
abbrev sorted_by : (Dated → Dated → Ordering) → List Dated → List Dated
sorted_by R ds = keys (from_entries {R = R} (map (λ (e : Dated). (e, e.1)) ds))

each_sorted : (Q : Dated → Type 0) (R : Dated → Dated → Ordering) → IsTotalOrder R → (ds : List Dated) → AllByRecursion Q ds → AllByRecursion Q (sorted_by R ds)
each_sorted Q R total ds h =
    subst (AllByRecursion Q) (sym (keys-from_entries R total (map (λ (e : Dated). (e, e.1)) ds) ∙ ap (keys_put R) (keys_are ds))) (each_kept Q R ds h)

module _ (P : List ℕ → Type 0) where
  undated : (ds : List Dated) → AllByRecursion (λ (d : Dated). P d.1) ds → AllByRecursion P (map (λ d. d.1) ds)
  undated [] h = tt
  undated (d ∷ ds) h = (h.0, undated ds h.1)

  dates_told : (changed : List ℕ → Option ℤ) (rs : List (List ℕ)) → AllByRecursion P rs → AllByRecursion (λ (d : Dated). P d.1) (dated changed rs)
  dates_told changed [] h = tt
  dates_told changed (r ∷ rs) h = (h.0, dates_told changed rs h.1)

  in_any_order : (R : Dated → Dated → Ordering) → IsTotalOrder R → (changed : List ℕ → Option ℤ) (rs : List (List ℕ)) → AllByRecursion P rs → AllByRecursion P (refs_by R (dated changed rs))
  in_any_order R total changed rs h = undated (sorted_by R (dated changed rs)) (each_sorted (λ (d : Dated). P d.1) R total (dated changed rs) (dates_told changed rs h))

  all_ordered : (sort : Sort) (changed : List ℕ → Option ℤ) (rs : List (List ℕ)) → AllByRecursion P rs → AllByRecursion P (in_order sort changed rs)
  all_ordered Ref changed rs h = h
  all_ordered Mod changed rs h = in_any_order rising_cmp rising_total changed rs h
  all_ordered ModDown changed rs h = in_any_order falling_cmp falling_total changed rs h

-- ---- the order

module _ (changed : List ℕ → Option ℤ) where
  dates_own : (rs : List (List ℕ)) → AllByRecursion (λ (d : Dated). changed d.1 ≡ d.0) (dated changed rs)
  dates_own [] = tt
  dates_own (r ∷ rs) = (refl, dates_own rs)

  dated_again : (ds : List Dated) → AllByRecursion (λ (d : Dated). changed d.1 ≡ d.0) ds → dated changed (map (λ d. d.1) ds) ≡ ds
  dated_again [] h = refl
  dated_again (d ∷ ds) h = λ i. (h.0 i, d.1) ∷ dated_again ds h.1 i

  by_change : (R : Dated → Dated → Ordering) → IsTotalOrder R → (rs : List (List ℕ)) → IsStrictlySortedBy R (dated changed (refs_by R (dated changed rs)))
  by_change R total rs =
      let all = sorted_by R (dated changed rs) in
      subst (IsStrictlySortedBy R)
      (sym (dated_again all (each_sorted (λ (d : Dated). changed d.1 ≡ d.0) R total (dated changed rs) (dates_own rs))))
      (ascending_entries R (from_entries {R = R} (map (λ (e : Dated). (e, e.1)) (dated changed rs))))

  -- refs behind their dates, in the order of these
  above_undated : (R : Dated → Dated → Ordering) (d : Dated) (rs : List (List ℕ)) → AllByRecursion (λ e. R d e ≡ Less) (dated changed rs) → AllByRecursion (λ r. R d (changed r, r) ≡ Less) rs
  above_undated R d [] h = tt
  above_undated R d (r ∷ rs) h = (h.0, above_undated R d rs h.1)

  ascends_undated : (R : Dated → Dated → Ordering) (rs : List (List ℕ)) → IsStrictlySortedBy R (dated changed rs) → IsStrictlySortedBy (λ a b. R (changed a, a) (changed b, b)) rs
  unfolding IsStrictlySortedBy
  ascends_undated R [] h = tt
  ascends_undated R (r ∷ rs) h = (above_undated R (changed r, r) rs h.0, ascends_undated R rs h.1)

  in_its_order : (sort : Sort) (rs : List (List ℕ)) → IsStrictlySortedBy ref_cmp rs → IsInOrder sort changed (in_order sort changed rs)
  in_its_order Ref rs h = h
  in_its_order Mod rs h = ascends_undated rising_cmp _ (by_change rising_cmp rising_total rs)
  in_its_order ModDown rs h = ascends_undated falling_cmp _ (by_change falling_cmp falling_total rs)

-- ---- what is left out

or_second : (a b : Bool) → a ≡ false → (a || b) ≡ true → b ≡ true
or_second true b h t = absurd (false≢true (sym h))
or_second false b h t = t

-- what passes is there
some_passes : {A : Type 0} (test : A → Bool) (o : Option A) → passes test o ≡ true → is_some o ≡ true
some_passes test None t = t
some_passes test (Some x) t = refl

module _ (r : List ℕ) where
  abbrev stands_in : List (List ℕ) → Bool
  stands_in rs = list_any (bytes_eq r) rs

  each_of : (P : List ℕ → Type 0) (rs : List (List ℕ)) → AllByRecursion P rs → stands_in rs ≡ true → P r
  each_of P [] h found = absurd (false≢true found)
  each_of P (x ∷ xs) h found = by (each_of P xs h.1) (or_cases (bytes_eq r x) (stands_in xs) found)
    where
      by : (stands_in xs ≡ true → P r) → (bytes_eq r x ≡ true) ⊎ (stands_in xs ≡ true) → P r
      by more (inl here) = subst P (sym ((bytes_eq-Decides r x).0 here)) h.0
      by more (inr later) = more later

  -- what stands behind the first n stands behind n, and comes after each of them
  behind : (R : List ℕ → List ℕ → Ordering) (n : ℕ) (xs : List (List ℕ)) → IsStrictlySortedBy R xs → stands_in xs ≡ true → stands_in (take n xs) ≡ false
      → (length (take n xs) ≡ n) × AllByRecursion (λ a. R a r ≡ Less) (take n xs)
  unfolding IsStrictlySortedBy
  behind R zero xs up found out = (refl, tt)
  behind R (suc n) [] up found out = absurd (false≢true found)
  behind R (suc n) (x ∷ xs) up found out =
      let parts = or_parts (bytes_eq r x) (stands_in (take n xs)) out in
      let later = or_second (bytes_eq r x) (stands_in xs) parts.0 found in
      let rest = behind R n xs up.1 later parts.1 in
      (ap suc rest.0, (each_of (λ y. R x y ≡ Less) xs up.0 later, rest.1))

  kept : (t : List ℕ → Bool) (rs : List (List ℕ)) → t r ≡ true → stands_in rs ≡ true → stands_in (filter t rs) ≡ true
  kept t [] pass found = found
  kept t (x ∷ xs) pass found = by (t x) refl (or_cases (bytes_eq r x) (stands_in xs) found) (kept t xs pass)
    where
      by : (b : Bool) → t x ≡ b → (bytes_eq r x ≡ true) ⊎ (stands_in xs ≡ true) → (stands_in xs ≡ true → stands_in (filter t xs) ≡ true) → stands_in (cond b (x ∷ filter t xs) (filter t xs)) ≡ true
      by true is (inl here) more = or_left (bytes_eq r x) (stands_in (filter t xs)) here
      by true is (inr later) more = or_right (bytes_eq r x) (stands_in (filter t xs)) (more later)
      by false is (inl here) more = absurd (false≢true (sym is ∙ ap t (sym ((bytes_eq-Decides r x).0 here)) ∙ pass))
      by false is (inr later) more = more later

  -- whether it stands there behind a date
  abbrev is_dated : List Dated → Bool
  is_dated ds = list_any (λ (d : Dated). bytes_eq r d.1) ds

  put_kept : (R : Dated → Dated → Ordering) → IsAntisymmetric R → (d : Dated) (ds : List Dated) → is_dated (d ∷ ds) ≡ true → is_dated (key_put R d ds) ≡ true
  put_kept R same d [] found = found
  put_kept R same d (e ∷ ds) found = by (R d e) refl (put_kept R same d ds)
    where
      own : Bool
      own = bytes_eq r d.1

      by : (o : Ordering) → R d e ≡ o → (is_dated (d ∷ ds) ≡ true → is_dated (key_put R d ds) ≡ true) → is_dated (by_order o (d ∷ e ∷ ds) (e ∷ ds) (e ∷ key_put R d ds)) ≡ true
      by Less is more = found
      by Equal is more = elim (or_cases (bytes_eq r d.1) (is_dated (e ∷ ds)) found) [ inl here ↦ or_left (bytes_eq r e.1) (is_dated ds) (ap (λ (f : Dated). bytes_eq r f.1) (sym (same d e is)) ∙ here) | inr later ↦ later ]
      by Greater is more = elim (or_cases (bytes_eq r d.1) (is_dated (e ∷ ds)) found) [
        | inl here ↦ or_right (bytes_eq r e.1) (is_dated (key_put R d ds)) (more (or_left (bytes_eq r d.1) (is_dated ds) here))
        | inr later ↦ elim (or_cases (bytes_eq r e.1) (is_dated ds) later) [
          | inl here ↦ or_left (bytes_eq r e.1) (is_dated (key_put R d ds)) here
          | inr last ↦ or_right (bytes_eq r e.1) (is_dated (key_put R d ds)) (more (or_right (bytes_eq r d.1) (is_dated ds) last))
        ]
      ]

  all_put : (R : Dated → Dated → Ordering) → IsAntisymmetric R → (ds : List Dated) → is_dated ds ≡ true → is_dated (keys_put R ds) ≡ true
  all_put R same [] found = found
  all_put R same (d ∷ ds) found = put_kept R same d (keys_put R ds) (by (or_cases (bytes_eq r d.1) (is_dated ds) found) (all_put R same ds))
    where
      by : (bytes_eq r d.1 ≡ true) ⊎ (is_dated ds ≡ true) → (is_dated ds ≡ true → is_dated (keys_put R ds) ≡ true) → is_dated (d ∷ keys_put R ds) ≡ true
      by (inl here) more = or_left (bytes_eq r d.1) (is_dated (keys_put R ds)) here
      by (inr later) more = or_right (bytes_eq r d.1) (is_dated (keys_put R ds)) (more later)

  told : (changed : List ℕ → Option ℤ) (rs : List (List ℕ)) → is_dated (dated changed rs) ≡ stands_in rs
  told changed [] = refl
  told changed (x ∷ xs) = λ i. bytes_eq r x || told changed xs i

  untold : (ds : List Dated) → stands_in (map (λ d. d.1) ds) ≡ is_dated ds
  untold [] = refl
  untold (d ∷ ds) = λ i. bytes_eq r d.1 || untold ds i

  by_date : (R : Dated → Dated → Ordering) → IsTotalOrder R → IsAntisymmetric R → (changed : List ℕ → Option ℤ) (rs : List (List ℕ)) → stands_in rs ≡ true → stands_in (refs_by R (dated changed rs)) ≡ true
  by_date R total same changed rs found =
      untold (sorted_by R (dated changed rs))
      ∙ ap is_dated (keys-from_entries R total (map (λ (e : Dated). (e, e.1)) (dated changed rs)) ∙ ap (keys_put R) (keys_are (dated changed rs)))
      ∙ all_put R same (dated changed rs) (told changed rs ∙ found)

  in_each_order : (sort : Sort) (changed : List ℕ → Option ℤ) (rs : List (List ℕ)) → stands_in rs ≡ true → stands_in (in_order sort changed rs) ≡ true
  in_each_order Ref changed rs found = found
  in_each_order Mod changed rs found = by_date rising_cmp rising_total rising_same changed rs found
  in_each_order ModDown changed rs found = by_date falling_cmp falling_total falling_same changed rs found

  -- what has a fact is among the refs of the facts
  has_fact : (facts : Facts) → is_some (get facts r) ≡ true → stands_in (keys facts) ≡ true
  has_fact facts some = (λ i. list_any (λ x. sym (is_eq-slice_cmp r x) i) (keys facts)) ∙ sym (contains_key-keys facts r) ∙ some

module _ (facts : Facts) (accepts : Accepts) (query : Query) where
  abbrev Asked : List (List ℕ) → Type 0
  Asked rs = AllByRecursion (IsAsked facts accepts query) rs

  -- a filter keeps what passes it
  kept_each : {P Q : List ℕ → Type 0} (t : List ℕ → Bool) → ((r : List ℕ) → P r → t r ≡ true → Q r) → (rs : List (List ℕ)) → AllByRecursion P rs → AllByRecursion Q (filter t rs)
  kept_each t f [] h = tt
  kept_each {P} {Q} t f (r ∷ rs) h = by (t r) refl (kept_each t f rs h.1)
    where
      by : (b : Bool) → t r ≡ b → AllByRecursion Q (filter t rs) → AllByRecursion Q (cond b (r ∷ filter t rs) (filter t rs))
      by true is rest = (f r h.0 is, rest)
      by false is rest = rest

  any_each : (rs : List (List ℕ)) → AllByRecursion (λ r. Unit {0}) rs
  any_each [] = tt
  any_each (r ∷ rs) = (tt, any_each rs)

  all_asked : Asked (found facts accepts query)
  all_asked =
      kept_each {P = λ r. (is_genuine_permanode facts accepts r ≡ true) × (is_deleted facts accepts query.at r ≡ false)} (meets facts accepts (view query.constraint) query.at)
      (λ r h met. record { genuine = h.0; live = h.1; met = met }) (live_permanodes facts accepts query.at)
      (kept_each {P = λ r. is_genuine_permanode facts accepts r ≡ true} (λ r. not (is_deleted facts accepts query.at r)) (λ r h live. (h, not-true (is_deleted facts accepts query.at r) live)) (permanodes facts accepts)
      (kept_each {P = λ r. Unit {0}} (is_genuine_permanode facts accepts) (λ r h genuine. genuine) (keys facts) (any_each (keys facts))))

  answer_asked : All (IsAsked facts accepts query) (answer facts accepts query)
  answer_asked =
      let changed = last_change facts accepts query.at in
      let all = in_order query.sort changed (found facts accepts query) in
      All-take (IsAsked facts accepts query) query.limit all
      (All-from_recursion (IsAsked facts accepts query) all (all_ordered (IsAsked facts accepts query) query.sort changed (found facts accepts query) all_asked))

  answer_short : length (answer facts accepts query) ≤ query.limit
  answer_short =
      let all = in_order query.sort (last_change facts accepts query.at) (found facts accepts query) in
      rw (length-take query.limit all) (omega arith)

  all_in_order : IsInOrder query.sort (last_change facts accepts query.at) (in_order query.sort (last_change facts accepts query.at) (found facts accepts query))
  all_in_order = in_its_order (last_change facts accepts query.at) query.sort (found facts accepts query) (found_ascends facts accepts query)

  answer_ordered : IsInOrder query.sort (last_change facts accepts query.at) (answer facts accepts query)
  answer_ordered = ascends_taken (order_of query.sort (last_change facts accepts query.at)) query.limit _ all_in_order

  asked_found : (r : List ℕ) → IsAsked facts accepts query r → list_any (bytes_eq r) (found facts accepts query) ≡ true
  asked_found r is =
      let parts = and_parts (is_genuine facts accepts r) (passes (λ fact. is_permanode fact.kind) (get facts r)) is.genuine in
      kept r (meets facts accepts (view query.constraint) query.at) (live_permanodes facts accepts query.at) is.met
      (kept r (λ q. not (is_deleted facts accepts query.at q)) (permanodes facts accepts) (ap not is.live)
      (kept r (is_genuine_permanode facts accepts) (keys facts) is.genuine (has_fact r facts (some_passes (λ fact. is_permanode fact.kind) (get facts r) parts.1))))

  answer_left_out : (r : List ℕ) → IsAsked facts accepts query r → list_any (bytes_eq r) (answer facts accepts query) ≡ false → IsBeyond facts accepts query r
  answer_left_out r is out =
      let changed = last_change facts accepts query.at in
      let beyond = behind r (order_of query.sort changed) query.limit (in_order query.sort changed (found facts accepts query)) all_in_order (in_each_order r query.sort changed (found facts accepts query) (asked_found r is)) out in
      record { full = beyond.0; later = All-from_recursion (λ a. order_of query.sort changed a r ≡ Less) (answer facts accepts query) beyond.1 }

pub answers_are_asked : AnswersAreAsked
answers_are_asked = record { asked = answer_asked; limit = answer_short; order = answer_ordered; left_out = answer_left_out }
