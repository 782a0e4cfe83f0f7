-- The steps by which refs become ready.
use Rattle.std.proofs.Common.{◌≡◌, ℕ, zero, suc, ◌+◌, ◌-◌, ◌≤◌, Bool, true, false, not, ◌&&◌, ◌||◌, ◌==◌, cond, List, [], ◌∷◌, ◌++◌, take, None, Some, refl, sym, ap, subst, ◌∙◌, ◌⊎◌, inl, inr, is_some, arith, slice_get, option_map, append_assoc}
use Rattle.std.proofs.lemmas.Bool.{cases_Bool, false≢true, and_parts}
use Rattle.std.proofs.lemmas.List.{take-append-le, take_more}
use Rattle.std.proofs.lemmas.Option.{same_Some, slice_get_within, get_or_from_slice_get}
use Rattle.std.proofs.lemmas.Slice.Eq.{bytes_eq-Decides}
use Rattle.std.specs.List.{list_any, list_all}
use Rattle.std.specs.Str.{bytes_eq}
use Rattle.std.specs.FinMap.{get, insert, remove, contains_key, entries}
use Rattle.schema_fact.specs.declared.kinds.Fact.{Fact}
use Rattle.schema_fact.specs.Dependencies.{dependencies}
use Rattle.claim_model.specs.Facts.{Facts, passes}
use Rattle.claim_model.specs.Least.{has_all, passes_or_in, AreReached}
use Rattle.std.proofs.lemmas.List.Folds.{list_any-append}
use Rattle.index_rows.specs.declared.rows.StateRow.{StateRow}
use Rattle.index_rows.specs.Pairs.{number}
use Rattle.index_rows.proofs.Orders.{pair_total, pair_same}
use Rattle.index_rows.proofs.Counting.{bit, number_none, number-remove, contains-remove}
use Rattle.index_rows.proofs.Deleting.{a_value, any_get}
use Rattle.index_rows.proofs.Once.{new-push}
use Rattle.index_rows.proofs.Puts.{other_pair, put_at, put_beside, put_over}
use Rattle.index_rows.specs.Once.{AreNew}
use Rattle.index_rows.specs.States.{States}
use Rattle.index_rows.specs.Waiting.{Waiters, waits, depends}
use Rattle.pending_deps.specs.Settling.{row_or_empty, one_less, order_with, HasMissing, CountsMissing, others, Settling}

and_true : (b : Bool) → (b && true) ≡ b
and_true true = refl
and_true false = refl

second_true : (a b : Bool) → (a && b) ≡ true → b ≡ true
second_true a b h = (and_parts a b h).1

-- ---- dependencies

pub all_pass : (p : List ℕ → Bool) (ds : List (List ℕ)) → ((d : List ℕ) → list_any (bytes_eq d) ds ≡ true → p d ≡ true) → list_all p ds ≡ true
all_pass p [] h = refl
all_pass p (d ∷ ds) h = λ i. first i && all_pass p ds (λ e t. h e (later e t)) i
  where
    or_right : (a b : Bool) → b ≡ true → (a || b) ≡ true
    or_right true b h = refl
    or_right false b h = h

    later : (e : List ℕ) → list_any (bytes_eq e) ds ≡ true → (bytes_eq e d || list_any (bytes_eq e) ds) ≡ true
    later e t = or_right (bytes_eq e d) (list_any (bytes_eq e) ds) t

    first : p d ≡ true
    first = h d (ap (λ b. b || list_any (bytes_eq d) ds) ((bytes_eq-Decides d d).1 refl))

pub has_all_where : (facts : Facts) (p : List ℕ → Bool) (w : List ℕ) → contains_key facts w ≡ true → ((d : List ℕ) → depends facts w d ≡ true → p d ≡ true) → has_all facts p w ≡ true
has_all_where facts p w known h =
    let f = a_value (get facts w) known in
    ap (passes (λ (fact : Fact). list_all p (dependencies fact))) f.1
    ∙ all_pass p (dependencies f.0) (λ d t. h d (ap (passes (λ (fact : Fact). list_any (bytes_eq d) (dependencies fact))) f.1 ∙ t))

-- ---- orders

pub reached-push : (facts : Facts) (old : List ℕ → Bool) (before order : List (List ℕ)) (w : List ℕ) → AreReached facts old before order → has_all facts (passes_or_in old (before ++ order)) w ≡ true
    → AreReached facts old before (order ++ w ∷ [])
reached-push facts old before [] w h t = (ap (λ b. has_all facts (passes_or_in old b) w) (sym (append_nil before)) ∙ t, tt)
  where
    append_nil : (xs : List (List ℕ)) → xs ++ [] ≡ xs
    append_nil [] = refl
    append_nil (x ∷ xs) = ap (λ ys. x ∷ ys) (append_nil xs)
reached-push facts old before (x ∷ order) w h t =
    (h.0, reached-push facts old (before ++ x ∷ []) order w h.1 (ap (λ b. has_all facts (passes_or_in old b) w) (append_assoc before (x ∷ []) order) ∙ t))

-- what is among the first is among all
among_all : (i : ℕ) (xs : List (List ℕ)) (d : List ℕ) → list_any (bytes_eq d) (take i xs) ≡ true → list_any (bytes_eq d) xs ≡ true
among_all zero xs d h = absurd (false≢true h)
among_all (suc i) [] d h = absurd (false≢true h)
among_all (suc i) (x ∷ xs) d h = by (bytes_eq d x) (among_all i xs d) h
  where
    by : (b : Bool) → (list_any (bytes_eq d) (take i xs) ≡ true → list_any (bytes_eq d) xs ≡ true) → (b || list_any (bytes_eq d) (take i xs)) ≡ true → (b || list_any (bytes_eq d) xs) ≡ true
    by true more t = refl
    by false more t = more t

pub at_place : (xs : List (List ℕ)) (i : ℕ) (x : List ℕ) → slice_get xs i ≡ Some x → list_any (bytes_eq x) xs ≡ true
at_place [] i x h = absurd (let e : None ≡ Some x = h in cc e)
at_place (y ∷ xs) zero x h = ap (λ b. b || list_any (bytes_eq x) xs) ((bytes_eq-Decides x y).1 (sym (same_Some y x h)))
at_place (y ∷ xs) (suc i) x h = by (bytes_eq x y) (at_place xs i x h)
  where
    by : (b : Bool) → list_any (bytes_eq x) xs ≡ true → (b || list_any (bytes_eq x) xs) ≡ true
    by true t = refl
    by false t = t

passes_more : (old : List ℕ → Bool) (i : ℕ) (xs : List (List ℕ)) (d : List ℕ) → passes_or_in old (take i xs) d ≡ true → passes_or_in old xs d ≡ true
passes_more old i xs d h = by (old d) h
  where
    by : (b : Bool) → (b || list_any (bytes_eq d) (take i xs)) ≡ true → (b || list_any (bytes_eq d) xs) ≡ true
    by true t = refl
    by false t = among_all i xs d t

-- ---- counts

module _ (state : States) (waiters : Waiters) (counted : CountsMissing state waiters) (x w : List ℕ) (row : Unit {0}) (there : get waiters (x, w) ≡ Some row) where
  has_row : (s : StateRow) × (get state w ≡ Some s)
  has_row = a_value (get state w) (counted.known x w (ap is_some there))

  one_waits : (y : List ℕ) → number (waits y) (entries waiters) ≡ bit (bytes_eq y w) + number (waits y) (entries (remove waiters (x, w)))
  one_waits y = number-remove pair_total pair_same (waits y) waiters (x, w) row there

  one_for_w : number (waits w) (entries waiters) ≡ 1 + number (waits w) (entries (remove waiters (x, w)))
  one_for_w = one_waits w ∙ ap (λ b. bit b + number (waits w) (entries (remove waiters (x, w)))) ((bytes_eq-Decides w w).1 refl)

  pub has_missing : HasMissing state w
  has_missing = record { row = has_row.0; found = has_row.1; some = omega (arith, one_for_w, counted.missing w has_row.0 has_row.1) }

  abbrev after : States
  after = insert state w (one_less (row_or_empty (get state w)))

  own_row : row_or_empty (get state w) ≡ has_row.0
  own_row = ap row_or_empty has_row.1

  pub still_counted : CountsMissing after (remove waiters (x, w))
  still_counted = record {
    known = λ d y h. put_over state w _ has_row.0 has_row.1 y ∙ counted.known d y (second_true _ _ (sym (contains-remove pair_total pair_same waiters (x, w) (d, y)) ∙ h));
    missing = λ y s h. by y s h (cases_Bool (bytes_eq y w));
  }
    where
      by : (y : List ℕ) (s : StateRow) → get after y ≡ Some s → (bytes_eq y w ≡ true) ⊎ (bytes_eq y w ≡ false) → s.missing ≡ number (waits y) (entries (remove waiters (x, w)))
      by y s h (inl t) =
          let is : one_less (row_or_empty (get state w)) ≡ s = same_Some _ s (sym (put_at state w _ y t) ∙ h) in
          let same : y ≡ w = (bytes_eq-Decides y w).0 t in
          let less : (row_or_empty (get state w)).missing - 1 ≡ number (waits w) (entries (remove waiters (x, w)))
          = ap (λ (r : StateRow). r.missing - 1) own_row ∙ omega (arith, one_for_w, counted.missing w has_row.0 has_row.1) in
          ap (λ (r : StateRow). r.missing) (sym is) ∙ less ∙ ap (λ z. number (waits z) (entries (remove waiters (x, w)))) (sym same)
      by y s h (inr f) =
          let was : s.missing ≡ number (waits y) (entries waiters) = counted.missing y s (sym (put_beside state w _ y f) ∙ h) in
          was ∙ one_waits y ∙ ap (λ b. bit b + number (waits y) (entries (remove waiters (x, w)))) f ∙ omega arith

  pub others_kept : (y : List ℕ) → option_map others (get after y) ≡ option_map others (get state y)
  others_kept y = elim (cases_Bool (bytes_eq y w)) [
    | inl t ↦ ap (option_map others) (put_at state w _ y t) ∙ ap (λ (r : StateRow). Some (others r)) own_row ∙ sym (ap (option_map others) (ap (get state) ((bytes_eq-Decides y w).0 t) ∙ has_row.1))
    | inr f ↦ ap (option_map others) (put_beside state w _ y f)
  ]

-- ---- one ref's group

-- as `Settling`, but that some of those that waited for x are told
pub record Releasing (facts : Facts) (old : List ℕ → Bool) (state : States) (waiters : Waiters) (order : List (List ℕ)) (place : ℕ) (x : List ℕ) : Type 0 where
  pub beside : (d y : List ℕ) → bytes_eq d x ≡ false → contains_key waiters (d, y) ≡ (depends facts y d && not (passes_or_in old (take place order) d))
  pub own : (y : List ℕ) → contains_key waiters (x, y) ≡ true → depends facts y x ≡ true
  pub ready : (y : List ℕ) (row : StateRow) → get state y ≡ Some row → row.ready ≡ passes_or_in old order y
  pub zero : (y : List ℕ) (row : StateRow) → get state y ≡ Some row → row.ready ≡ (row.missing == 0)
  pub reached : AreReached facts old [] order
  pub once : AreNew old [] order
  pub arrived : (y : List ℕ) → contains_key state y ≡ contains_key facts y

module _ (facts : Facts) (old : List ℕ → Bool) where
  pub release : (state : States) (waiters : Waiters) (order : List (List ℕ)) (place : ℕ) (x : List ℕ) → Settling facts old state waiters order place → Releasing facts old state waiters order place x
  release state waiters order place x is = record {
    beside = λ d y f. is.rows d y;
    own = λ y h. (and_parts (depends facts y x) (not (passes_or_in old (take place order) x)) (sym (is.rows x y) ∙ h)).0;
    ready = is.ready;
    zero = is.zero;
    reached = is.reached;
    once = is.once;
    arrived = is.arrived;
  }

  -- all are told
  pub released : (state : States) (waiters : Waiters) (order : List (List ℕ)) (place : ℕ) (x : List ℕ) → slice_get order place ≡ Some x
      → ((y : List ℕ) → contains_key waiters (x, y) ≡ false) → Releasing facts old state waiters order place x → Settling facts old state waiters order (place + 1)
  released state waiters order place x here none is = record {
    rows = λ d y. by d y (cases_Bool (bytes_eq d x));
    ready = is.ready;
    zero = is.zero;
    reached = is.reached;
    once = is.once;
    arrived = is.arrived;
  }
    where
      longer : take (place + 1) order ≡ take place order ++ x ∷ []
      longer = take_more order place x (slice_get_within order place x here) ∙ ap (λ z. take place order ++ z ∷ []) (get_or_from_slice_get order place x x here)

      told : (d : List ℕ) → passes_or_in old (take (place + 1) order) d ≡ (passes_or_in old (take place order) d || bytes_eq d x)
      told d = ap (λ b. old d || b) (ap (list_any (bytes_eq d)) longer ∙ list_any-append (bytes_eq d) (take place order) (x ∷ [])) ∙ assoc (old d) (list_any (bytes_eq d) (take place order)) (bytes_eq d x)
        where
          assoc : (a b c : Bool) → (a || (b || (c || false))) ≡ ((a || b) || c)
          assoc true b c = refl
          assoc false true c = refl
          assoc false false true = refl
          assoc false false false = refl

      or_false : (b : Bool) → (b || false) ≡ b
      or_false true = refl
      or_false false = refl

      or_true : (b : Bool) → (b || true) ≡ true
      or_true true = refl
      or_true false = refl

      and_false : (b : Bool) → (b && false) ≡ false
      and_false true = refl
      and_false false = refl

      by : (d y : List ℕ) → (bytes_eq d x ≡ true) ⊎ (bytes_eq d x ≡ false) → contains_key waiters (d, y) ≡ (depends facts y d && not (passes_or_in old (take (place + 1) order) d))
      by d y (inl t) =
          ap (λ z. contains_key waiters (z, y)) ((bytes_eq-Decides d x).0 t) ∙ none y
          ∙ sym (ap (λ b. depends facts y d && not b) (told d ∙ ap (λ b. passes_or_in old (take place order) d || b) t ∙ or_true _) ∙ and_false (depends facts y d))
      by d y (inr f) =
          is.beside d y f ∙ sym (ap (λ b. depends facts y d && not b) (told d ∙ ap (λ b. passes_or_in old (take place order) d || b) f ∙ or_false _))

  module _ (state : States) (waiters : Waiters) (order : List (List ℕ)) (place : ℕ) (x : List ℕ) (here : slice_get order place ≡ Some x) (counted : CountsMissing state waiters)
      (w : List ℕ) (row : Unit {0}) (there : get waiters (x, w) ≡ Some row) (is : Releasing facts old state waiters order place x) where
    abbrev s : StateRow
    s = row_or_empty (get state w)

    abbrev longer : List (List ℕ)
    longer = order_with order w s

    abbrev next_state : States
    next_state = insert state w (one_less s)

    abbrev fewer : Waiters
    fewer = remove waiters (x, w)

    s_found : get state w ≡ Some s
    s_found = let m = has_missing state waiters counted x w row there in m.found ∙ ap Some (sym (ap row_or_empty m.found))

    s_some : 1 ≤ s.missing
    s_some = let m = has_missing state waiters counted x w row there in
        let e : s.missing ≡ m.row.missing = ap (λ (r : StateRow). r.missing) (ap row_or_empty m.found) in omega (arith, m.some, e)

    -- nothing that w waits for is left, if it was the last
    none_left : s.missing ≡ 1 → (d : List ℕ) → contains_key fewer (d, w) ≡ true → ⊥
    none_left last d h =
        let c = still_counted state waiters counted x w row there in
        let zero : number (waits w) (entries fewer) ≡ 0 = sym (c.missing w (one_less s) (put_at state w (one_less s) w ((bytes_eq-Decides w w).1 refl))) ∙ ap (λ n. n - 1) last ∙ omega arith in
        let v = a_value (get fewer (d, w)) h in
        false≢true (sym (number_none (waits w) (entries fewer) zero) ∙ any_get pair_total pair_same (waits w) fewer (d, w) v.0 v.1 ((bytes_eq-Decides w w).1 refl))

    w_known : contains_key facts w ≡ true
    w_known = sym (is.arrived w) ∙ ap is_some s_found

    last_reached : s.missing ≡ 1 → has_all facts (passes_or_in old order) w ≡ true
    last_reached last = has_all_where facts (passes_or_in old order) w w_known (λ d t. each d t (cases_Bool (bytes_eq d x)))
      where
        in_order : (b : Bool) → (b || list_any (bytes_eq x) order) ≡ true
        in_order true = refl
        in_order false = at_place order place x here

        unless : (d : List ℕ) → (b : Bool) → (b ≡ false → ⊥) → b ≡ true
        unless d true h = refl
        unless d false h = absurd (h refl)

        each : (d : List ℕ) → depends facts w d ≡ true → (bytes_eq d x ≡ true) ⊎ (bytes_eq d x ≡ false) → passes_or_in old order d ≡ true
        each d t (inl e) = ap (passes_or_in old order) ((bytes_eq-Decides d x).0 e) ∙ in_order (old x)
        each d t (inr f) = passes_more old place order d (unless d _ (λ low. none_left last d (still low)))
          where
            still : passes_or_in old (take place order) d ≡ false → contains_key fewer (d, w) ≡ true
            still low = contains-remove pair_total pair_same waiters (x, w) (d, w) ∙ ap (λ b. not b && contains_key waiters (d, w)) (other_pair (d, w) (x, w) f)
                ∙ is.beside d w f ∙ (λ i. t i && not (low i))

    same_take : take place longer ≡ take place order
    same_take = by (s.missing == 1)
      where
        by : (b : Bool) → take place (cond b (order ++ w ∷ []) order) ≡ take place order
        by true = take-append-le place order (w ∷ []) (let lt = slice_get_within order place x here in omega (arith, lt))
        by false = refl

    in_longer : (y : List ℕ) → passes_or_in old longer y ≡ (passes_or_in old order y || ((s.missing == 1) && bytes_eq y w))
    in_longer y = by (s.missing == 1)
      where
        assoc : (a b c : Bool) → (a || (b || (c || false))) ≡ ((a || b) || c)
        assoc true b c = refl
        assoc false true c = refl
        assoc false false true = refl
        assoc false false false = refl

        or_false : (b : Bool) → b ≡ (b || false)
        or_false true = refl
        or_false false = refl

        by : (b : Bool) → passes_or_in old (cond b (order ++ w ∷ []) order) y ≡ (passes_or_in old order y || (b && bytes_eq y w))
        by true = ap (λ b. old y || b) (list_any-append (bytes_eq y) order (w ∷ [])) ∙ assoc (old y) (list_any (bytes_eq y) order) (bytes_eq y w)
        by false = or_false _

    pub step_on : Releasing facts old next_state fewer longer place x
    step_on = record {
      beside = λ d y f. contains-remove pair_total pair_same waiters (x, w) (d, y) ∙ ap (λ b. not b && contains_key waiters (d, y)) (other_pair (d, y) (x, w) f)
          ∙ is.beside d y f ∙ ap (λ o. depends facts y d && not (passes_or_in old o d)) (sym same_take);
      own = λ y h. is.own y (second_true _ _ (sym (contains-remove pair_total pair_same waiters (x, w) (x, y)) ∙ h));
      ready = λ y r h. ready_by y r h (cases_Bool (bytes_eq y w));
      zero = λ y r h. zero_by y r h (cases_Bool (bytes_eq y w));
      reached = reached_by (cases_Bool (s.missing == 1));
      once = once_by (cases_Bool (s.missing == 1));
      arrived = λ y. put_over state w (one_less s) s s_found y ∙ is.arrived y;
    }
      where
        low : passes_or_in old order w ≡ false
        low = sym (is.ready w s s_found) ∙ is.zero w s s_found ∙ above s.missing s_some
          where
            above : (n : ℕ) → 1 ≤ n → (n == 0) ≡ false
            above n h = grind arith

        ready_by : (y : List ℕ) (r : StateRow) → get next_state y ≡ Some r → (bytes_eq y w ≡ true) ⊎ (bytes_eq y w ≡ false) → r.ready ≡ passes_or_in old longer y
        ready_by y r h (inl t) =
            let own : one_less s ≡ r = same_Some (one_less s) r (sym (put_at state w (one_less s) y t) ∙ h) in
            let same : y ≡ w = (bytes_eq-Decides y w).0 t in
            ap (λ (q : StateRow). q.ready) (sym own) ∙ sym (in_longer y ∙ (λ i. passes_or_in old order (same i) || ((s.missing == 1) && t i)) ∙ ap (λ b. b || ((s.missing == 1) && true)) low ∙ and_true (s.missing == 1))
        ready_by y r h (inr f) =
            is.ready y r (sym (put_beside state w (one_less s) y f) ∙ h)
            ∙ sym (in_longer y ∙ ap (λ b. passes_or_in old order y || ((s.missing == 1) && b)) f ∙ ap (λ b. passes_or_in old order y || b) (and_false (s.missing == 1)) ∙ or_false _)
          where
            and_false : (b : Bool) → (b && false) ≡ false
            and_false true = refl
            and_false false = refl

            or_false : (b : Bool) → (b || false) ≡ b
            or_false true = refl
            or_false false = refl

        zero_by : (y : List ℕ) (r : StateRow) → get next_state y ≡ Some r → (bytes_eq y w ≡ true) ⊎ (bytes_eq y w ≡ false) → r.ready ≡ (r.missing == 0)
        zero_by y r h (inl t) =
            let own : one_less s ≡ r = same_Some (one_less s) r (sym (put_at state w (one_less s) y t) ∙ h) in
            subst (λ (q : StateRow). q.ready ≡ (q.missing == 0)) own (one_zero s.missing s_some)
          where
            one_zero : (n : ℕ) → 1 ≤ n → (n == 1) ≡ (n - 1 == 0)
            one_zero n h = grind arith
        zero_by y r h (inr f) = is.zero y r (sym (put_beside state w (one_less s) y f) ∙ h)

        once_by : ((s.missing == 1) ≡ true) ⊎ ((s.missing == 1) ≡ false) → AreNew old [] longer
        once_by (inl t) = subst (AreNew old []) (sym (ap (λ b. cond b (order ++ w ∷ []) order) t)) (new-push old [] order w is.once low)
        once_by (inr f) = subst (AreNew old []) (sym (ap (λ b. cond b (order ++ w ∷ []) order) f)) is.once

        reached_by : ((s.missing == 1) ≡ true) ⊎ ((s.missing == 1) ≡ false) → AreReached facts old [] longer
        reached_by (inl t) = subst (AreReached facts old []) (sym (ap (λ b. cond b (order ++ w ∷ []) order) t)) (reached-push facts old [] order w is.reached (last_reached (is_one s.missing t)))
          where
            is_one : (n : ℕ) → (n == 1) ≡ true → n ≡ 1
            is_one n h = grind arith
        reached_by (inr f) = subst (AreReached facts old []) (sym (ap (λ b. cond b (order ++ w ∷ []) order) f)) is.reached
