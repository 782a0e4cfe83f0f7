-- A ref's own rows.
use Rattle.std.proofs.Common.{◌≡◌, ℕ, ◌+◌, Bool, true, false, not, ◌&&◌, ◌||◌, ◌==◌, cond, List, [], ◌∷◌, ◌++◌, length, take, Option, None, Some, refl, sym, ap, subst, ◌∙◌, ◌⊎◌, inl, inr, is_some, arith, slice_get, option_copied, Bor, length-append, Ordering, option_map}
use Rattle.std.proofs.lemmas.Bool.{cases_Bool, false≢true, and_parts}
use Rattle.std.proofs.lemmas.List.{take_more}
use Rattle.std.proofs.lemmas.Option.{same_Some, slice_get_within, get_or_from_slice_get}
use Rattle.std.proofs.lemmas.Slice.Eq.{bytes_eq-Decides}
use Rattle.std.specs.declared.cmp.Ordering.TheVariants.{Less, Equal, Greater}
use Rattle.std.specs.Ordering.{is_eq, eq_by_cmp}
use Rattle.std.specs.List.{list_any, list_all}
use Rattle.std.specs.Cmp.{eq_by_cmp_equiv}
use Rattle.std.specs.Str.{bytes_eq}
use Rattle.std.specs.FinMap.{get, insert, contains_key, entries}
use Rattle.schema_fact.specs.Dependencies.{dependencies}
use Rattle.schema_fact.specs.declared.kinds.Fact.{Fact}
use Rattle.claim_model.specs.Facts.{Facts, passes}
use Rattle.claim_model.specs.Ready.{is_ready}
use Rattle.claim_model.specs.Least.{IsWithin, AreReached, passes_or_in}
use Rattle.std.proofs.lemmas.List.Folds.{list_any-append}
use Rattle.claim_model.proofs.Rounds.{ready_is_settled}
use Rattle.index_rows.specs.declared.rows.StateRow.{StateRow}
use Rattle.index_rows.specs.Pairs.{Pair, pair_cmp, number}
use Rattle.index_rows.proofs.Orders.{pair_total, pair_same}
use Rattle.index_rows.proofs.Counting.{number-insert, contains-insert, number_none}
use Rattle.index_rows.proofs.Deleting.{any_get}
use Rattle.index_rows.specs.Once.{AreNew}
use Rattle.index_rows.specs.States.{States}
use Rattle.index_rows.specs.Waiting.{Waiters, waits, depends, arrived, IsWaiting}
use Rattle.index_rows.specs.Touched.{needs_of, fact_needs}
use Rattle.pending_deps.specs.Settling.{CountsMissing, Settling, KeepsOthers, others}
use Rattle.pending_deps.specs.Arriving.{says_ready, HasPut, IsEnlisted, IsNew, HasArrived, BecameReady}
use Rattle.index_rows.proofs.Puts.{put_at, put_beside}
use Rattle.pending_deps.proofs.Steps.{has_all_where}
use Rattle.index_rows.proofs.Arrived.{get-arrived, arrived_same}
use Rattle.pending_deps.proofs.Rest.{kept_same, number_zero, became_ready, at_rest}

is_some-copied : {X : Type 0} (o : Option (Bor X)) → is_some (option_copied o) ≡ is_some o
is_some-copied None = refl
is_some-copied (Some x) = refl

no_value : {A : Type 0} (o : Option A) → is_some o ≡ false → o ≡ None
no_value None h = refl
no_value (Some x) h = absurd (false≢true (sym h))

pub none_found : {X : Type 0} (o : Option (Bor X)) (p : Option X) → option_copied o ≡ p → false ≡ is_some o → p ≡ None
none_found o p h f = no_value p (ap is_some (sym h) ∙ is_some-copied o ∙ sym f)

pub eq_pair : (e y d r : List ℕ) → eq_by_cmp pair_cmp (e, y) (d, r) ≡ (bytes_eq y r && bytes_eq e d)
eq_pair e y d r = by (cases_Bool (bytes_eq y r)) (cases_Bool (bytes_eq e d))
  where
    apart : (bytes_eq y r ≡ false) ⊎ (bytes_eq e d ≡ false) → eq_by_cmp pair_cmp (e, y) (d, r) ≡ false
    apart h = go (pair_cmp (e, y) (d, r)) refl h
      where
        go : (o : Ordering) → pair_cmp (e, y) (d, r) ≡ o → (bytes_eq y r ≡ false) ⊎ (bytes_eq e d ≡ false) → is_eq (pair_cmp (e, y) (d, r)) ≡ false
        go Less is h = ap is_eq is
        go Equal is (inl f) = absurd (false≢true (sym f ∙ (bytes_eq-Decides y r).1 (ap (λ (p : Pair). p.1) (pair_same (e, y) (d, r) is))))
        go Equal is (inr f) = absurd (false≢true (sym f ∙ (bytes_eq-Decides e d).1 (ap (λ (p : Pair). p.0) (pair_same (e, y) (d, r) is))))
        go Greater is h = ap is_eq is

    itself : (k : Pair) → eq_by_cmp pair_cmp k k ≡ true
    itself k = sym (go (eq_by_cmp pair_cmp k k) refl)
      where
        go : (b : Bool) → eq_by_cmp pair_cmp k k ≡ b → true ≡ eq_by_cmp pair_cmp k k
        go true h = sym h
        go false h = sym (tied k)
          where
            tied : (k : Pair) → eq_by_cmp pair_cmp k k ≡ true
            tied k = (eq_by_cmp_equiv pair_total).refl k

    by : (bytes_eq y r ≡ true) ⊎ (bytes_eq y r ≡ false) → (bytes_eq e d ≡ true) ⊎ (bytes_eq e d ≡ false) → eq_by_cmp pair_cmp (e, y) (d, r) ≡ (bytes_eq y r && bytes_eq e d)
    by (inl a) (inl b) = (λ i. eq_by_cmp pair_cmp ((bytes_eq-Decides e d).0 b i, (bytes_eq-Decides y r).0 a i) (d, r)) ∙ itself (d, r) ∙ sym (λ i. a i && b i)
    by (inl a) (inr b) = apart (inr b) ∙ sym (λ i. a i && b i)
    by (inr a) h = apart (inl a) ∙ sym (ap (λ b. b && bytes_eq e d) a)

module _ (state : States) (old : Waiters) (d r : List ℕ) where
  pub put_one : (new : Waiters) → get old (d, r) ≡ None → false ≡ says_ready state d → new ≡ insert old (d, r) tt → HasPut state old new d r 1
  put_one new none low put = subst (λ w. HasPut state old w d r 1) (sym put) (record {
    rows = λ e y. contains-insert pair_total pair_same old (d, r) tt (e, y) ∙ ap (λ b. b || contains_key old (e, y)) (eq_pair e y d r) ∙ by e y (cases_Bool (bytes_eq e d));
    count = λ y. number-insert pair_total pair_same (waits y) old (d, r) tt none ∙ omega arith;
    one = omega arith;
  })
    where
      swap : (a b : Bool) → (a || b) ≡ (b || a)
      swap true true = refl
      swap true false = refl
      swap false true = refl
      swap false false = refl

      and_true : (a : Bool) → (a && true) ≡ ((a && true) && true)
      and_true true = refl
      and_true false = refl

      and_false : (a b : Bool) → (a && false) ≡ ((a && false) && b)
      and_false true b = refl
      and_false false b = refl

      by : (e y : List ℕ) → (bytes_eq e d ≡ true) ⊎ (bytes_eq e d ≡ false) → ((bytes_eq y r && bytes_eq e d) || contains_key old (e, y)) ≡ (contains_key old (e, y) || (bytes_eq y r && bytes_eq e d && not (says_ready state e)))
      by e y (inl t) =
          swap (bytes_eq y r && bytes_eq e d) (contains_key old (e, y)) ∙ ap (λ b. contains_key old (e, y) || b) (ap (λ b. bytes_eq y r && b) t ∙ and_true (bytes_eq y r)
          ∙ (λ i. (bytes_eq y r && sym t i) && not ((low ∙ ap (says_ready state) (sym ((bytes_eq-Decides e d).0 t))) i)))
      by e y (inr f) =
          swap (bytes_eq y r && bytes_eq e d) (contains_key old (e, y)) ∙ ap (λ b. contains_key old (e, y) || b) (ap (λ b. bytes_eq y r && b) f ∙ and_false (bytes_eq y r) (not (says_ready state e)) ∙ (λ i. (bytes_eq y r && sym f i) && not (says_ready state e)))

module _ (state : States) (old mid new : Waiters) (r d : List ℕ) (needs : List (List ℕ)) (i m n : ℕ) (here : slice_get needs i ≡ Some d) where
  longer : take (i + 1) needs ≡ take i needs ++ d ∷ []
  longer = take_more needs i d (slice_get_within needs i d here) ∙ ap (λ z. take i needs ++ z ∷ []) (get_or_from_slice_get needs i d d here)

  pub enlist_more : IsEnlisted state old mid r (take i needs) m → HasPut state mid new d r n → IsEnlisted state old new r (take (i + 1) needs) (m + n)
  enlist_more a b = record {
    rows = λ e y. b.rows e y ∙ ap (λ c. c || (bytes_eq y r && bytes_eq e d && not (says_ready state e))) (a.rows e y)
        ∙ mix (contains_key old (e, y)) (bytes_eq y r) (list_any (bytes_eq e) (take i needs)) (bytes_eq e d) (not (says_ready state e))
        ∙ ap (λ c. contains_key old (e, y) || (bytes_eq y r && c && not (says_ready state e))) (sym (ap (list_any (bytes_eq e)) longer ∙ list_any-append (bytes_eq e) (take i needs) (d ∷ [])));
    count = λ y. let p = a.count y in let q = b.count y in sums y (bytes_eq y r) p q;
    most = let l : length (take (i + 1) needs) ≡ length (take i needs) + 1 = ap length longer ∙ length-append (take i needs) (d ∷ []) in omega (arith, l, a.most, b.one);
  }
    where
      mix : (o y t e n : Bool) → ((o || (y && t && n)) || (y && e && n)) ≡ (o || (y && (t || (e || false)) && n))
      mix true y t e n = refl
      mix false false t e n = refl
      mix false true true true true = refl
      mix false true true true false = refl
      mix false true true false true = refl
      mix false true true false false = refl
      mix false true false true n = refl
      mix false true false false n = refl

      sums : (y : List ℕ) (c : Bool) → number (waits y) (entries mid) ≡ number (waits y) (entries old) + cond c m 0 → number (waits y) (entries new) ≡ number (waits y) (entries mid) + cond c n 0
          → number (waits y) (entries new) ≡ number (waits y) (entries old) + cond c (m + n) 0
      sums y true p q = omega (arith, p, q)
      sums y false p q = omega (arith, p, q)

or_false : (b : Bool) → (b || false) ≡ b
or_false true = refl
or_false false = refl

and_false : (b : Bool) → (b && false) ≡ false
and_false true = refl
and_false false = refl

module _ (facts : Facts) (state : States) (waiters : Waiters) (r : List ℕ) (waiting : IsWaiting facts state waiters) (fresh : IsNew facts state r) (waiters1 : Waiters) (n : ℕ)
    (enlisted : IsEnlisted state waiters waiters1 r (needs_of facts r) n) where
  abbrev row1 : StateRow
  row1 = record { ready = n == 0; genuine = false; sound = false; missing = n; deleters = 0 }

  abbrev state1 : States
  state1 = insert state r row1

  abbrev A : Facts
  A = arrived facts state

  abbrev A1 : Facts
  A1 = arrived facts state1

  abbrev old : List ℕ → Bool
  old = is_ready A

  get_own : (y : List ℕ) → bytes_eq y r ≡ true → get A1 y ≡ get facts y
  get_own y t = get-arrived facts state1 y ∙ ap (λ b. cond b (get facts y) None) (ap is_some (put_at state r row1 y t))

  get_beside : (y : List ℕ) → bytes_eq y r ≡ false → get A1 y ≡ get A y
  get_beside y f = get-arrived facts state1 y ∙ ap (λ b. cond b (get facts y) None) (ap is_some (put_beside state r row1 y f)) ∙ sym (get-arrived facts state y)

  get_r : get A r ≡ None
  get_r = get-arrived facts state r ∙ ap (λ b. cond b (get facts r) None) (ap is_some fresh.absent)

  not_there : (y : List ℕ) → get A y ≡ None → old y ≡ false
  not_there y h = ready_is_settled A y ∙ ap (passes (λ (fact : Fact). list_all old (dependencies fact))) h

  told_is : (y : List ℕ) → says_ready state y ≡ old y
  told_is y = by (get state y) refl
    where
      by : (o : Option StateRow) → get state y ≡ o → says_ready state y ≡ old y
      by (Some row) e = ap (passes (λ (q : StateRow). q.ready)) e ∙ waiting.ready y row e
      by None e = ap (passes (λ (q : StateRow). q.ready)) e ∙ sym (not_there y (get-arrived facts state y ∙ ap (λ b. cond b (get facts y) None) (ap is_some e)))

  none_yet : (d : List ℕ) → contains_key waiters (d, r) ≡ false
  none_yet d = waiting.rows d r ∙ ap (λ b. b && not (old d)) (ap (passes (λ (fact : Fact). list_any (bytes_eq d) (dependencies fact))) get_r)

  own_count : number (waits r) (entries waiters1) ≡ n
  own_count = enlisted.count r ∙ (λ i. number_zero waiters r none_yet i + cond ((bytes_eq-Decides r r).1 refl i) n 0) ∙ omega arith

  counted1 : CountsMissing state1 waiters1
  counted1 = record { known = λ d y h. known d y h (cases_Bool (bytes_eq y r)); missing = λ y row h. missing y row h (cases_Bool (bytes_eq y r)) }
    where
      known : (d y : List ℕ) → contains_key waiters1 (d, y) ≡ true → (bytes_eq y r ≡ true) ⊎ (bytes_eq y r ≡ false) → contains_key state1 y ≡ true
      known d y h (inl t) = ap is_some (put_at state r row1 y t)
      known d y h (inr f) =
          let was : contains_key waiters (d, y) ≡ true = sym (or_false _) ∙ ap (λ b. contains_key waiters (d, y) || (b && list_any (bytes_eq d) (needs_of facts r) && not (says_ready state d))) (sym f) ∙ sym (enlisted.rows d y) ∙ h in
          let needs : depends A y d ≡ true = (and_parts (depends A y d) (not (old d)) (sym (waiting.rows d y) ∙ was)).0 in
          ap is_some (put_beside state r row1 y f) ∙ there (contains_key state y) refl needs
        where
          there : (b : Bool) → contains_key state y ≡ b → depends A y d ≡ true → contains_key state y ≡ true
          there true e t = e
          there false e t = absurd (false≢true (sym (ap (passes (λ (fact : Fact). list_any (bytes_eq d) (dependencies fact))) (get-arrived facts state y ∙ ap (λ b. cond b (get facts y) None) e)) ∙ t))

      missing : (y : List ℕ) (row : StateRow) → get state1 y ≡ Some row → (bytes_eq y r ≡ true) ⊎ (bytes_eq y r ≡ false) → row.missing ≡ number (waits y) (entries waiters1)
      missing y row h (inl t) =
          ap (λ (q : StateRow). q.missing) (sym (same_Some row1 row (sym (put_at state r row1 y t) ∙ h))) ∙ sym own_count ∙ ap (λ z. number (waits z) (entries waiters1)) (sym ((bytes_eq-Decides y r).0 t))
      missing y row h (inr f) =
          waiting.missing y row (sym (put_beside state r row1 y f) ∙ h) ∙ sym (enlisted.count y ∙ ap (λ b. number (waits y) (entries waiters) + cond b n 0) f ∙ omega arith)

  rows1 : (d y : List ℕ) → contains_key waiters1 (d, y) ≡ (depends A1 y d && not (old d))
  rows1 d y = enlisted.rows d y ∙ by (cases_Bool (bytes_eq y r))
    where
      by : (bytes_eq y r ≡ true) ⊎ (bytes_eq y r ≡ false) → (contains_key waiters (d, y) || (bytes_eq y r && list_any (bytes_eq d) (needs_of facts r) && not (says_ready state d))) ≡ (depends A1 y d && not (old d))
      by (inl t) =
          let is : y ≡ r = (bytes_eq-Decides y r).0 t in
          (λ i. (ap (λ z. contains_key waiters (d, z)) is ∙ none_yet d) i || (t i && list_any (bytes_eq d) (needs_of facts r) && not (told_is d i)))
          ∙ ap (λ b. b && not (old d)) (own (get facts r) refl ∙ sym (ap (passes (λ (fact : Fact). list_any (bytes_eq d) (dependencies fact))) (get_own y t ∙ ap (get facts) is)))
        where
          own : (o : Option Fact) → get facts r ≡ o → list_any (bytes_eq d) (needs_of facts r) ≡ passes (λ (fact : Fact). list_any (bytes_eq d) (dependencies fact)) (get facts r)
          own None e = ap (λ o. list_any (bytes_eq d) (fact_needs o)) e ∙ sym (ap (passes (λ (fact : Fact). list_any (bytes_eq d) (dependencies fact))) e)
          own (Some fact) e = ap (λ o. list_any (bytes_eq d) (fact_needs o)) e ∙ sym (ap (passes (λ (fact : Fact). list_any (bytes_eq d) (dependencies fact))) e)
      by (inr f) =
          ap (λ b. contains_key waiters (d, y) || (b && list_any (bytes_eq d) (needs_of facts r) && not (says_ready state d))) f ∙ or_false _ ∙ waiting.rows d y
          ∙ ap (λ b. b && not (old d)) (sym (ap (passes (λ (fact : Fact). list_any (bytes_eq d) (dependencies fact))) (get_beside y f)))

  module _ (order1 : List (List ℕ)) (is_order : order1 ≡ cond (n == 0) (r ∷ []) []) where
    in_order : (y : List ℕ) → passes_or_in old order1 y ≡ (old y || ((n == 0) && bytes_eq y r))
    in_order y = ap (λ o. passes_or_in old o y) is_order ∙ by (n == 0)
      where
        by : (b : Bool) → (old y || list_any (bytes_eq y) (cond b (r ∷ []) [])) ≡ (old y || (b && bytes_eq y r))
        by true = ap (λ b. old y || b) (or_false (bytes_eq y r))
        by false = refl

    known1 : (y : List ℕ) → contains_key state1 y ≡ true → contains_key facts y ≡ true
    known1 y h = by (cases_Bool (bytes_eq y r))
      where
        by : (bytes_eq y r ≡ true) ⊎ (bytes_eq y r ≡ false) → contains_key facts y ≡ true
        by (inl t) = ap is_some (ap (get facts) ((bytes_eq-Decides y r).0 t) ∙ fresh.found)
        by (inr f) = waiting.known y (sym (ap is_some (put_beside state r row1 y f)) ∙ h)

    settling1 : Settling A1 old state1 waiters1 order1 0
    settling1 = record {
      rows = λ d y. rows1 d y ∙ ap (λ b. depends A1 y d && not b) (sym (or_false (old d)));
      ready = λ y row h. ready y row h (cases_Bool (bytes_eq y r));
      zero = λ y row h. zero_is y row h (cases_Bool (bytes_eq y r));
      reached = subst (AreReached A1 old []) (sym is_order) (reached (cases_Bool (n == 0)));
      once = subst (AreNew old []) (sym is_order) (first_once (n == 0));
      arrived = λ y. sym (ap is_some (get-arrived facts state1 y) ∙ both y (contains_key state1 y) refl);
    }
      where
        ready : (y : List ℕ) (row : StateRow) → get state1 y ≡ Some row → (bytes_eq y r ≡ true) ⊎ (bytes_eq y r ≡ false) → row.ready ≡ passes_or_in old order1 y
        ready y row h (inl t) =
            let is : y ≡ r = (bytes_eq-Decides y r).0 t in
            ap (λ (q : StateRow). q.ready) (sym (same_Some row1 row (sym (put_at state r row1 y t) ∙ h)))
            ∙ sym (in_order y ∙ (λ i. (ap old is ∙ not_there r get_r) i || ((n == 0) && t i)) ∙ and_true (n == 0))
          where
            and_true : (b : Bool) → (b && true) ≡ b
            and_true true = refl
            and_true false = refl
        ready y row h (inr f) =
            waiting.ready y row (sym (put_beside state r row1 y f) ∙ h) ∙ sym (in_order y ∙ ap (λ b. old y || ((n == 0) && b)) f ∙ ap (λ b. old y || b) (and_false (n == 0)) ∙ or_false (old y))

        zero_is : (y : List ℕ) (row : StateRow) → get state1 y ≡ Some row → (bytes_eq y r ≡ true) ⊎ (bytes_eq y r ≡ false) → row.ready ≡ (row.missing == 0)
        zero_is y row h (inl t) = subst (λ (q : StateRow). q.ready ≡ (q.missing == 0)) (same_Some row1 row (sym (put_at state r row1 y t) ∙ h)) refl
        zero_is y row h (inr f) = waiting.zero y row (sym (put_beside state r row1 y f) ∙ h)

        both : (y : List ℕ) (b : Bool) → contains_key state1 y ≡ b → is_some (cond (contains_key state1 y) (get facts y) None) ≡ contains_key state1 y
        both y true e = ap (λ b. is_some (cond b (get facts y) None)) e ∙ known1 y e ∙ sym e
        both y false e = ap (λ b. is_some (cond b (get facts y) None)) e ∙ sym e

        is_zero : (k : ℕ) → (k == 0) ≡ true → k ≡ 0
        is_zero k h = grind arith

        first_once : (b : Bool) → AreNew old [] (cond b (r ∷ []) [])
        first_once true = (or_false (old r) ∙ not_there r get_r, tt)
        first_once false = tt

        reached : ((n == 0) ≡ true) ⊎ ((n == 0) ≡ false) → AreReached A1 old [] (cond (n == 0) (r ∷ []) [])
        reached (inr f) = subst (λ b. AreReached A1 old [] (cond b (r ∷ []) [])) (sym f) tt
        reached (inl t) = subst (λ b. AreReached A1 old [] (cond b (r ∷ []) [])) (sym t) (has_all_where A1 (passes_or_in old []) r here each, tt)
          where
            here : contains_key A1 r ≡ true
            here = ap is_some (get_own r ((bytes_eq-Decides r r).1 refl) ∙ fresh.found)

            each : (d : List ℕ) → depends A1 r d ≡ true → passes_or_in old [] d ≡ true
            each d h = by (cases_Bool (old d))
              where
                by : (old d ≡ true) ⊎ (old d ≡ false) → passes_or_in old [] d ≡ true
                by (inl u) = or_false (old d) ∙ u
                by (inr u) = absurd (false≢true (sym (number_none (waits r) (entries waiters1) (own_count ∙ is_zero n t)) ∙ waiting_row))
                  where
                    row_there : (x : Unit {0}) × (get waiters1 (d, r) ≡ Some x)
                    row_there = go (get waiters1 (d, r)) (rows1 d r ∙ (λ i. h i && not (u i)))
                      where
                        go : (o : Option (Unit {0})) → is_some o ≡ true → (x : Unit {0}) × (o ≡ Some x)
                        go None e = absurd (false≢true e)
                        go (Some x) e = (x, refl)

                    waiting_row : list_any (waits r) (entries waiters1) ≡ true
                    waiting_row = any_get pair_total pair_same (waits r) waiters1 (d, r) row_there.0 row_there.1 ((bytes_eq-Decides r r).1 refl)

    -- `settle` begins here, and ends at rest
    module _ (put : States) (is_put : put ≡ state1) where
      pub counted_put : CountsMissing put waiters1
      counted_put = subst (λ s. CountsMissing s waiters1) (sym is_put) counted1

      pub begun : Settling A1 old put waiters1 order1 0
      begun = subst (λ s. Settling A1 old s waiters1 order1 0) (sym is_put) settling1

      pub within : IsWithin A A1
      within y fact h = by (cases_Bool (bytes_eq y r))
        where
          by : (bytes_eq y r ≡ true) ⊎ (bytes_eq y r ≡ false) → get A1 y ≡ Some fact
          by (inl t) = absurd (let f : None ≡ Some fact = sym get_r ∙ ap (get A) (sym ((bytes_eq-Decides y r).0 t)) ∙ h in cc f)
          by (inr f) = get_beside y f ∙ h

      pub has_arrived : (state2 : States) (waiters2 : Waiters) (order2 : List (List ℕ)) → CountsMissing state2 waiters2 → KeepsOthers put state2
          → ((all : Facts) (ready : List ℕ → Bool) → Settling all ready put waiters1 order1 0 → Settling all ready state2 waiters2 order2 (length order2))
          → HasArrived facts state state2 waiters2 r order2
      has_arrived state2 waiters2 order2 counted2 kept settles =
          let is : Settling A1 old state2 waiters2 order2 (length order2) = settles A1 old begun in
          let same : (y : List ℕ) → contains_key state2 y ≡ contains_key state1 y = λ y. kept_same put state2 kept y ∙ ap (λ s. contains_key s y) is_put in
          let there : A1 ≡ arrived facts state2 = arrived_same facts state1 state2 (λ y. sym (same y)) in
          record {
            waiting = at_rest A1 A state2 waiters2 order2 within counted2 is facts (λ y h. known1 y (sym (same y) ∙ h)) there;
            became = subst (λ f. BecameReady A f order2) there (became_ready A1 A state2 waiters2 order2 within counted2 is);
            once = is.once;
            same = λ y. same y ∙ put_either y;
            kept = λ y f. kept y ∙ ap (λ s. option_map others (get s y)) is_put ∙ ap (option_map others) (put_beside state r row1 y f);
            own = kept r ∙ ap (λ s. option_map others (get s r)) is_put ∙ ap (option_map others) (put_at state r row1 r ((bytes_eq-Decides r r).1 refl));
          }
        where
          put_either : (y : List ℕ) → contains_key state1 y ≡ (bytes_eq y r || contains_key state y)
          put_either y = elim (cases_Bool (bytes_eq y r)) [
            | inl t ↦ ap is_some (put_at state r row1 y t) ∙ sym (ap (λ b. b || contains_key state y) t)
            | inr f ↦ ap is_some (put_beside state r row1 y f) ∙ sym (ap (λ b. b || contains_key state y) f)
          ]

-- the order with which `settle` begins
pub first_order : (n : ℕ) (r : List ℕ) (start order pushed : List (List ℕ)) → n ≡ 0 → start ≡ [] → order ≡ pushed → pushed ≡ start ++ r ∷ [] → order ≡ cond (n == 0) (r ∷ []) []
first_order n r start order pushed nothing none is push =
    is ∙ push ∙ ap (λ s. s ++ r ∷ []) none ∙ ap (λ k. cond (k == 0) (r ∷ []) []) (sym nothing)

pub no_order : (n : ℕ) (r : List ℕ) (start order : List (List ℕ)) → (n ≡ 0 → ⊥) → start ≡ [] → order ≡ start → order ≡ cond (n == 0) (r ∷ []) []
no_order n r start order some none is = is ∙ none ∙ ap (λ b. cond b (r ∷ []) []) (sym (by (n == 0) refl))
  where
    zero_of : (n == 0) ≡ true → n ≡ 0
    zero_of h = grind arith

    by : (b : Bool) → (n == 0) ≡ b → (n == 0) ≡ false
    by true e = absurd (some (zero_of e))
    by false e = e
