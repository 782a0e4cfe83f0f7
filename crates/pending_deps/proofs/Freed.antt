-- What waits for the refs that become ready, in terms of the facts.
use Rattle.std.proofs.Common.{◌≡◌, ◌≤◌, ℕ, Bool, true, false, not, ◌&&◌, ◌||◌, cond, List, [], ◌∷◌, ◌++◌, length, filter, map, flat_map, Option, None, Some, refl, sym, ap, ◌∙◌, ◌⊎◌, inl, inr, is_some, arith, length-append}
use Rattle.std.proofs.lemmas.Bool.{false≢true, and_parts}
use Rattle.std.proofs.lemmas.List.Folds.{list_any-append}
use Rattle.std.proofs.lemmas.Slice.Eq.{bytes_eq-Decides}
use Rattle.std.specs.List.{list_any, list_all}
use Rattle.std.specs.Str.{bytes_eq}
use Rattle.std.specs.Ordering.{eq_by_cmp}
use Rattle.std.specs.FinMap.{get, contains_key, entries}
use Rattle.schema_fact.specs.declared.kinds.Fact.{Fact}
use Rattle.schema_fact.specs.Dependencies.{dependencies}
use Rattle.claim_model.specs.Facts.{Facts, Entry, passes}
use Rattle.claim_model.specs.Ready.{is_ready}
use Rattle.claim_model.specs.Least.{IsWithin, AreReached, passes_or_in}
use Rattle.claim_model.proofs.Least.{ready_grows, ready_is_closed, has_all-implies}
use Rattle.claim_model.proofs.Rounds.{ready_is_settled}
use Rattle.index_rows.specs.Once.{AreNew}
use Rattle.index_rows.specs.Pairs.{Pair, pair_cmp, number}
use Rattle.index_rows.specs.Waiting.{Waiters, depends}
use Rattle.index_rows.specs.Touched.{becomes, became, namings}
use Rattle.index_rows.proofs.Orders.{ref_total, ref_same, pair_total, pair_same}
use Rattle.index_rows.proofs.Counting.{bit}
use Rattle.index_rows.proofs.Deleting.{a_value, any_get}
use Rattle.index_rows.proofs.Sums.{once_of, new_not, length_within, rows_within}
use Rattle.pending_deps.proofs.Arrival.{eq_pair}
use Rattle.pending_deps.proofs.Ticks.{waiting_for}

-- ---- what was reached is ready

or_cases : (a b : Bool) → (a || b) ≡ true → (a ≡ true) ⊎ (b ≡ true)
or_cases true b h = inl refl
or_cases false b h = inr h

module _ (before more : Facts) (within : IsWithin before more) where
  reached_ready : (stood order : List (List ℕ)) → ((q : List ℕ) → list_any (bytes_eq q) stood ≡ true → is_ready more q ≡ true) → AreReached more (is_ready before) stood order
      → (r : List ℕ) → list_any (bytes_eq r) order ≡ true → is_ready more r ≡ true
  reached_ready stood [] known reached r h = absurd (false≢true h)
  reached_ready stood (x ∷ order) known reached r h = by (λ known_more. reached_ready (stood ++ x ∷ []) order known_more reached.1 r) (or_cases (bytes_eq r x) (list_any (bytes_eq r) order) h)
    where
      ready_then : (q : List ℕ) → passes_or_in (is_ready before) stood q ≡ true → is_ready more q ≡ true
      ready_then q t = go (or_cases (is_ready before q) (list_any (bytes_eq q) stood) t)
        where
          go : (is_ready before q ≡ true) ⊎ (list_any (bytes_eq q) stood ≡ true) → is_ready more q ≡ true
          go (inl u) = ready_grows before more within q u
          go (inr u) = known q u

      first : is_ready more x ≡ true
      first = ready_is_closed more x (has_all-implies more (passes_or_in (is_ready before) stood) (is_ready more) ready_then x reached.0)

      known_more : (q : List ℕ) → list_any (bytes_eq q) (stood ++ x ∷ []) ≡ true → is_ready more q ≡ true
      known_more q t = go (or_cases (list_any (bytes_eq q) stood) (list_any (bytes_eq q) (x ∷ [])) (sym (list_any-append (bytes_eq q) stood (x ∷ [])) ∙ t))
        where
          go : (list_any (bytes_eq q) stood ≡ true) ⊎ (list_any (bytes_eq q) (x ∷ []) ≡ true) → is_ready more q ≡ true
          go (inl u) = known q u
          go (inr u) = last (or_cases (bytes_eq q x) false u)
            where
              last : (bytes_eq q x ≡ true) ⊎ (false ≡ true) → is_ready more q ≡ true
              last (inl v) = ap (is_ready more) ((bytes_eq-Decides q x).0 v) ∙ first
              last (inr v) = absurd (false≢true v)

      by : (((q : List ℕ) → list_any (bytes_eq q) (stood ++ x ∷ []) ≡ true → is_ready more q ≡ true) → list_any (bytes_eq r) order ≡ true → is_ready more r ≡ true)
          → (bytes_eq r x ≡ true) ⊎ (list_any (bytes_eq r) order ≡ true) → is_ready more r ≡ true
      by later (inl t) = ap (is_ready more) ((bytes_eq-Decides r x).0 t) ∙ first
      by later (inr t) = later known_more t

  module _ (order : List (List ℕ)) (reached : AreReached more (is_ready before) [] order) (once : AreNew (is_ready before) [] order) where
    pub are_freed : (y : List ℕ) → list_any (bytes_eq y) order ≡ true → becomes (is_ready before) more y ≡ true
    are_freed y t = λ i. reached_ready [] order (λ q u. absurd (false≢true u)) reached y t i && not (old i)
      where
        or_false : (b : Bool) → (b || false) ≡ false → b ≡ false
        or_false true e = e
        or_false false e = refl

        old : is_ready before y ≡ false
        old = or_false (is_ready before y) (new_not (is_ready before) [] order once y t)

    pub are_among : (y : List ℕ) → list_any (bytes_eq y) order ≡ true → list_any (bytes_eq y) (became (is_ready before) more) ≡ true
    are_among y t = in_became y (are_freed y t)
      where
        known : (y : List ℕ) → is_ready more y ≡ true → contains_key more y ≡ true
        known y h = go (get more y) refl
          where
            go : (o : Option Fact) → get more y ≡ o → contains_key more y ≡ true
            go (Some fact) e = ap is_some e
            go None e = absurd (false≢true (sym (ready_is_settled more y ∙ ap (passes (λ (fact : Fact). list_all (is_ready more) (dependencies fact))) e) ∙ h))

        in_became : (y : List ℕ) → becomes (is_ready before) more y ≡ true → list_any (bytes_eq y) (became (is_ready before) more) ≡ true
        in_became y h = in_filter (becomes (is_ready before) more) y h (entries more) (in_keys (a_value (get more y) (known y ((and_parts (is_ready more y) (not (is_ready before y)) h).0))))
          where
            in_keys : (fact : Fact) × (get more y ≡ Some fact) → list_any (λ (e : Entry). bytes_eq y e.0) (entries more) ≡ true
            in_keys f = any_get ref_total ref_same (λ (e : Entry). bytes_eq y e.0) more y f.0 f.1 ((bytes_eq-Decides y y).1 refl)

            in_filter : (p : List ℕ → Bool) (y : List ℕ) → p y ≡ true → (es : List Entry) → list_any (λ (e : Entry). bytes_eq y e.0) es ≡ true
                → list_any (bytes_eq y) (filter p (map (λ e. e.0) es)) ≡ true
            in_filter p y is [] h = absurd (false≢true h)
            in_filter p y is (e ∷ es) h = by (p e.0) refl (or_cases (bytes_eq y e.0) (list_any (λ (f : Entry). bytes_eq y f.0) es) h) (in_filter p y is es)
              where
                by : (b : Bool) → p e.0 ≡ b → (bytes_eq y e.0 ≡ true) ⊎ (list_any (λ (f : Entry). bytes_eq y f.0) es ≡ true)
                    → (list_any (λ (f : Entry). bytes_eq y f.0) es ≡ true → list_any (bytes_eq y) (filter p (map (λ e. e.0) es)) ≡ true)
                    → list_any (bytes_eq y) (cond b (e.0 ∷ filter p (map (λ e. e.0) es)) (filter p (map (λ e. e.0) es))) ≡ true
                by true q (inl t) more = ap (λ b. b || list_any (bytes_eq y) (filter p (map (λ e. e.0) es))) t
                by true q (inr t) more = or_right (bytes_eq y e.0) (more t)
                  where
                    or_right : {c : Bool} (b : Bool) → c ≡ true → (b || c) ≡ true
                    or_right true t = refl
                    or_right false t = t
                by false q (inl t) more = absurd (false≢true (sym q ∙ ap p (sym ((bytes_eq-Decides y e.0).0 t)) ∙ is))
                by false q (inr t) more = more t

    pub freed_length : length order ≤ length (became (is_ready before) more)
    freed_length = length_within order (became (is_ready before) more) (once_of (is_ready before) [] order once) are_among

-- ---- rows are of places

number_more : {A : Type 0} (p q : A → Bool) → ((e : A) → p e ≡ true → q e ≡ true) → (es : List A) → number p es ≤ number q es
number_more p q h [] = omega arith
number_more p q h (e ∷ es) = let m = number_more p q h es in let n = one (p e) (q e) (h e) in omega (arith, m, n)
  where
    one : (a b : Bool) → (a ≡ true → b ≡ true) → bit a ≤ bit b
    one true true f = omega arith
    one true false f = absurd (false≢true (f refl))
    one false true f = omega arith
    one false false f = omega arith

any_flat_map : {A B : Type 0} (p : B → Bool) (f : A → List B) (es : List A) → list_any p (flat_map f es) ≡ list_any (λ e. list_any p (f e)) es
any_flat_map p f [] = refl
any_flat_map p f (e ∷ es) = list_any-append p (f e) (flat_map f es) ∙ ap (λ b. list_any p (f e) || b) (any_flat_map p f es)

module _ (facts : Facts) (test : List ℕ → Bool) where
  abbrev pairs_of : Entry → List Pair
  pairs_of e = map (λ d. (d, e.0)) (filter test (dependencies e.1))

  same_length : {A B C : Type 0} (f : A → B) (g : A → C) (xs : List A) → length (map f xs) ≡ length (map g xs)
  same_length f g [] = refl
  same_length f g (x ∷ xs) = let m = same_length f g xs in omega (arith, m)

  as_many : (es : List Entry) → length (flat_map pairs_of es) ≡ length (flat_map (λ e. map (λ d. e.0) (filter test (dependencies e.1))) es)
  as_many [] = refl
  as_many (e ∷ es) =
      let l = length-append (pairs_of e) (flat_map pairs_of es) in
      let r = length-append (map (λ d. e.0) (filter test (dependencies e.1))) (flat_map (λ e. map (λ d. e.0) (filter test (dependencies e.1))) es) in
      let s = same_length {B = Pair} (λ d. (d, e.0)) (λ (d : List ℕ). e.0) (filter test (dependencies e.1)) in
      let m = as_many es in
      omega (arith, l, r, s, m)

  in_pairs : (d y : List ℕ) (ds : List (List ℕ)) → test d ≡ true → list_any (bytes_eq d) ds ≡ true → list_any (eq_by_cmp pair_cmp (d, y)) (map (λ c. (c, y)) (filter test ds)) ≡ true
  in_pairs d y [] is h = absurd (false≢true h)
  in_pairs d y (c ∷ ds) is h = by (test c) refl (or_cases (bytes_eq d c) (list_any (bytes_eq d) ds) h) (in_pairs d y ds is)
    where
      or_right : {c : Bool} (b : Bool) → c ≡ true → (b || c) ≡ true
      or_right true t = refl
      or_right false t = t

      by : (b : Bool) → test c ≡ b → (bytes_eq d c ≡ true) ⊎ (list_any (bytes_eq d) ds ≡ true)
          → (list_any (bytes_eq d) ds ≡ true → list_any (eq_by_cmp pair_cmp (d, y)) (map (λ c. (c, y)) (filter test ds)) ≡ true)
          → list_any (eq_by_cmp pair_cmp (d, y)) (map (λ c. (c, y)) (cond b (c ∷ filter test ds) (filter test ds))) ≡ true
      by true q (inl t) more = ap (λ b. b || list_any (eq_by_cmp pair_cmp (d, y)) (map (λ c. (c, y)) (filter test ds)))
          (eq_pair d y c y ∙ (λ i. (bytes_eq-Decides y y).1 refl i && t i))
      by true q (inr t) more = or_right (eq_by_cmp pair_cmp (d, y) (c, y)) (more t)
      by false q (inl t) more = absurd (false≢true (sym q ∙ ap test (sym ((bytes_eq-Decides d c).0 t)) ∙ is))
      by false q (inr t) more = more t

  -- each row is of a place at which a ref depends on another
  pub rows_named : (waiters : Waiters) → ((d y : List ℕ) → contains_key waiters (d, y) ≡ true → depends facts y d ≡ true) → waiting_for test waiters ≤ length (namings facts test)
  rows_named waiters h =
      let le = rows_within pair_total pair_same waiters (λ (e : Pair × Unit {0}). test e.0.0) (flat_map pairs_of (entries facts)) each in
      let l = as_many (entries facts) in
      omega (arith, le, l)
    where
      each : (k : Pair) (v : Unit {0}) → get waiters k ≡ Some v → test k.0 ≡ true → list_any (eq_by_cmp pair_cmp k) (flat_map pairs_of (entries facts)) ≡ true
      each k v e t = any_flat_map (eq_by_cmp pair_cmp k) pairs_of (entries facts) ∙ at (get facts k.1) refl (h k.0 k.1 (ap is_some e))
        where
          at : (o : Option Fact) → get facts k.1 ≡ o → passes (λ fact. list_any (bytes_eq k.0) (dependencies fact)) (get facts k.1) ≡ true
              → list_any (λ (f : Entry). list_any (eq_by_cmp pair_cmp k) (pairs_of f)) (entries facts) ≡ true
          at None q u = absurd (false≢true (sym (ap (passes (λ (fact : Fact). list_any (bytes_eq k.0) (dependencies fact))) q) ∙ u))
          at (Some fact) q u = any_get ref_total ref_same (λ (f : Entry). list_any (eq_by_cmp pair_cmp k) (pairs_of f)) facts k.1 fact q
              (in_pairs k.0 k.1 (dependencies fact) t (sym (ap (passes (λ (fact : Fact). list_any (bytes_eq k.0) (dependencies fact))) q) ∙ u))

-- rows of what passes a narrower test are fewer
pub waiting_less : (p q : List ℕ → Bool) → ((y : List ℕ) → p y ≡ true → q y ≡ true) → (waiters : Waiters) → waiting_for p waiters ≤ waiting_for q waiters
waiting_less p q h waiters = number_more (λ (e : Pair × Unit {0}). p e.0.0) (λ (e : Pair × Unit {0}). q e.0.0) (λ e t. h e.0.0 t) (entries waiters)
