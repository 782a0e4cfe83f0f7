-- A flip, and what it does to the counts.
use Rattle.std.proofs.Common.{◌≡◌, ℕ, zero, suc, ◌+◌, ◌-◌, ◌<◌, ◌^◌, Bool, true, false, not, ◌&&◌, ◌||◌, ◌==◌, if◌then◌else◌, List, [], ◌∷◌, ◌++◌, Some, refl, sym, ap, subst, ◌∙◌, ◌⊎◌, inl, inr, is_some, arith, option_map, nat_lt, ℤ}
use Rattle.std.proofs.Math.Bool.{or-false, or-true, not-not}
use Rattle.std.proofs.lemmas.Bool.{cases_Bool, false≢true}
use Rattle.std.proofs.lemmas.Option.{same_Some}
use Rattle.std.proofs.lemmas.Slice.Eq.{bytes_eq-Decides}
use Rattle.std.proofs.lemmas.List.Folds.{list_any-append}
use Rattle.std.specs.List.{list_any}
use Rattle.std.specs.Str.{bytes_eq}
use Rattle.std.specs.Ordering.{eq_by_cmp}
use Rattle.std.specs.Cmp.{eq_by_cmp_equiv}
use Rattle.std.specs.FinMap.{get, insert, entries, len}
use Rattle.claim_model.specs.Facts.{Facts, passes}
use Rattle.claim_model.specs.Ready.{round}
use Rattle.claim_model.proofs.Rounds.{ready_is_settled, round_grows}
use Rattle.index_rows.specs.declared.rows.StateRow.{StateRow}
use Rattle.index_rows.specs.Pairs.{Pair, pair_cmp, number}
use Rattle.index_rows.specs.Deletes.{Deletes, IsDelete, row_stands, target_in, fact_target, kind_target}
use Rattle.index_rows.specs.States.{States}
use Rattle.index_rows.specs.Once.{AreOnce}
use Rattle.index_rows.specs.Counted.{is_deletable, is_gone, live_rows, HaveArrived, IsCounted}
use Rattle.index_rows.proofs.Orders.{pair_total, pair_same}
use Rattle.index_rows.proofs.Counting.{bit, number_same, number_all, number_held, one_apart}
use Rattle.index_rows.proofs.Deleting.{row_of, row_counts}
use Rattle.index_rows.proofs.DeletionWalk.{target_before}
use Rattle.index_rows.proofs.Once.{new-push}
use Rattle.index_rows.proofs.Puts.{put_at, put_beside, put_over}
use Rattle.delete_claims.specs.Flipping.{recounted, flips, CanRecount, turned, beside_count, Flipped, IsOff, Flipping}
use Rattle.delete_claims.proofs.Rounds.{no_round, late, late_less, late_ready}

-- ---- counts at a flip

up_same : (n : ℕ) → (n + 1 == 1) ≡ false → nat_lt 0 (n + 1) ≡ nat_lt 0 n
up_same n h = grind arith

down_same : (n : ℕ) → (n - 1 == 0) ≡ false → nat_lt 0 (n - 1) ≡ nat_lt 0 n
down_same n h = grind arith

up_first : (n : ℕ) → (n + 1 == 1) ≡ true → n ≡ 0
up_first n h = grind arith

down_last : (n : ℕ) → (n - 1 == 0) ≡ true → 0 < n → n ≡ 1
down_last n h p = grind arith

module _ (facts : Facts) (deletes : Deletes) (before state : States) (changed : List (List ℕ)) (at : List ℕ) where
  abbrev live : List ℕ → ℕ
  live y = live_rows deletes (is_gone facts state) y

  module _ (up : Bool) (is : Flipping facts deletes before state changed at up) (row : StateRow)
      (found : get state at ≡ Some row) where
    is_off : (b : Bool) → up ≡ b → IsOff b row.deleters (live at)
    is_off b e = subst (λ u. IsOff u row.deleters (live at)) e (is.here row found)

    pub can_recount : number (λ (e : Pair × ℤ). true) (entries deletes) < 2 ^ 64 → CanRecount state at up
    can_recount room = record {
      row = row;
      found = found;
      more = λ e. let off = is_off true e in
          let some =
          number_all (λ (e : Pair × ℤ). bytes_eq at e.0.0 && not (is_gone facts state e.0.1)) (entries deletes) in
          omega (arith, off, room, some);
      less = λ e. let off = is_off false e in omega (arith, off);
    }

    abbrev next_row : StateRow
    next_row = recounted up row

    abbrev next : States
    next = insert state at next_row

    -- the count is then right for what was gone
    next_counts : next_row.deleters ≡ live at
    next_counts = by up refl
      where
        by : (b : Bool) → up ≡ b → (if b then row.deleters + 1 else row.deleters - 1) ≡ live at
        by true e = is_off true e
        by false e = let off = is_off false e in omega (arith, off)

    gone_beside : (y : List ℕ) → bytes_eq y at ≡ false → is_gone facts next y ≡ is_gone facts state y
    gone_beside y f = ap (λ o. is_deletable facts y && passes (λ (r : StateRow). nat_lt 0 r.deleters) o)
        (put_beside state at next_row y f)

    gone_next : is_gone facts next at ≡ (is_deletable facts at && nat_lt 0 next_row.deleters)
    gone_next = ap (λ o. is_deletable facts at && passes (λ (r : StateRow). nat_lt 0 r.deleters) o)
        (put_at state at next_row at ((bytes_eq-Decides at at).1 refl))

    gone_now : is_gone facts state at ≡ (is_deletable facts at && nat_lt 0 row.deleters)
    gone_now = ap (λ o. is_deletable facts at && passes (λ (r : StateRow). nat_lt 0 r.deleters) o) found

    kept_next : (y : List ℕ) → option_map beside_count (get next y) ≡ option_map beside_count (get before y)
    kept_next y = elim (cases_Bool (bytes_eq y at)) [
      | inl t ↦ ap (option_map beside_count) (put_at state at next_row y t)
          ∙ sym (ap (option_map beside_count) (ap (get state) ((bytes_eq-Decides y at).0 t) ∙ found)) ∙ is.kept y
      | inr f ↦ ap (option_map beside_count) (put_beside state at next_row y f) ∙ is.kept y
    ]

    arrived_next : HaveArrived deletes next
    arrived_next = record {
      target = λ x d h. put_over state at next_row row found x ∙ is.arrived.target x d h;
      claim = λ x d h. put_over state at next_row row found d ∙ is.arrived.claim x d h;
    }

    -- where no row's number of live rows changed
    all_counted : ((y : List ℕ) → live y ≡ live_rows deletes (is_gone facts next) y) → IsCounted facts deletes next
    all_counted same = record {
      ringless = is.ringless;
      arrived = arrived_next;
      counts = λ y r h. by y r h (cases_Bool (bytes_eq y at));
    }
      where
        by : (y : List ℕ) (r : StateRow) → get next y ≡ Some r → (bytes_eq y at ≡ true) ⊎ (bytes_eq y at ≡ false)
            → r.deleters ≡ live_rows deletes (is_gone facts next) y
        by y r h (inl t) =
            ap (λ (s : StateRow). s.deleters) (sym (same_Some next_row r (sym (put_at state at next_row y t) ∙ h)))
            ∙ next_counts
            ∙ ap live (sym ((bytes_eq-Decides y at).0 t)) ∙ same y
        by y r h (inr f) = is.counts y r f (sym (put_beside state at next_row y f) ∙ h) ∙ same y

    -- no flip
    module _ (stays : is_gone facts next at ≡ is_gone facts state at) where
      gone_same : (y : List ℕ) → is_gone facts next y ≡ is_gone facts state y
      gone_same y = elim (cases_Bool (bytes_eq y at)) [
        | inl t ↦ let e = (bytes_eq-Decides y at).0 t in ap (is_gone facts next) e ∙ stays
            ∙ sym (ap (is_gone facts state) e)
        | inr f ↦ gone_beside y f
      ]

      stays_flipped : Flipped facts deletes before next changed
      stays_flipped = record {
        counted = all_counted (λ y. number_same _ _
            (λ (e : Pair × ℤ). λ i. bytes_eq y e.0.0 && not (sym (gone_same e.0.1) i)) (entries deletes));
        kept = kept_next;
        turns = λ y. gone_same y ∙ is.turns y;
        once = is.once;
      }

    no_flip : flips up row ≡ false → is_gone facts next at ≡ is_gone facts state at
    no_flip f = gone_next ∙ ap (λ b. is_deletable facts at && b) (by up f) ∙ sym gone_now
      where
        by : (b : Bool) → flips b row ≡ false → nat_lt 0 (recounted b row).deleters ≡ nat_lt 0 row.deleters
        by true h = up_same row.deleters h
        by false h = down_same row.deleters h

    no_deletion : is_deletable facts at ≡ false → is_gone facts next at ≡ is_gone facts state at
    no_deletion f = gone_next ∙ ap (λ b. b && nat_lt 0 next_row.deleters) f
        ∙ sym (gone_now ∙ ap (λ b. b && nat_lt 0 row.deleters) f)

    pub no_more : (flips up row ≡ false) ⊎ (is_deletable facts at ≡ false) → Flipped facts deletes before next changed
    no_more (inl f) = stays_flipped (no_flip f)
    no_more (inr f) = stays_flipped (no_deletion f)

    -- a flip
    module _ (flip : flips up row ≡ true) (can : is_deletable facts at ≡ true) where
      -- a live row more was the first, and one less the last
      was : is_gone facts state at ≡ not up
      was = gone_now ∙ (λ i. can i && nat_lt 0 row.deleters) ∙ by up refl flip
        where
          by : (b : Bool) → up ≡ b → flips b row ≡ true → nat_lt 0 row.deleters ≡ not b
          by true e h = ap (nat_lt 0) (up_first row.deleters h)
          by false e h = ap (nat_lt 0) (down_last row.deleters h (let off = is_off false e in omega (arith, off)))

      now_is : is_gone facts next at ≡ up
      now_is = gone_next ∙ (λ i. can i && nat_lt 0 next_row.deleters) ∙ by up refl flip
        where
          by : (b : Bool) → up ≡ b → flips b row ≡ true → nat_lt 0 (recounted b row).deleters ≡ b
          by true e h = ap (λ n. nat_lt 0 (n + 1)) (up_first row.deleters h)
          by false e h = ap (λ n. nat_lt 0 (n - 1))
              (down_last row.deleters h (let off = is_off false e in omega (arith, off)))

      fresh : list_any (bytes_eq at) changed ≡ false
      fresh = elim (cases_Bool (list_any (bytes_eq at) changed)) [
        | inl t ↦ absurd (no_round facts at (is.later at t) (len facts) is.ready)
        | inr f ↦ f
      ]

      abbrev more : List (List ℕ)
      more = changed ++ at ∷ []

      in_more : (y : List ℕ) → list_any (bytes_eq y) more ≡ (list_any (bytes_eq y) changed || bytes_eq y at)
      in_more y = list_any-append (bytes_eq y) changed (at ∷ [])
          ∙ ap (λ b. list_any (bytes_eq y) changed || b) (or-false (bytes_eq y at))

      turns_next : (y : List ℕ) → is_gone facts next y ≡ turned (is_gone facts before y) (list_any (bytes_eq y) more)
      turns_next y = by (cases_Bool (bytes_eq y at))
        where
          own : is_gone facts next at ≡ turned (is_gone facts before at) (list_any (bytes_eq at) more)
          own = now_is ∙ sym (not-not up) ∙ ap not (sym was)
              ∙ ap not (is.turns at ∙ ap (turned (is_gone facts before at)) fresh)
              ∙ sym (ap (turned (is_gone facts before at))
              (in_more at ∙ ap (λ b. list_any (bytes_eq at) changed || b) ((bytes_eq-Decides at at).1 refl)
              ∙ or-true (list_any (bytes_eq at) changed)))

          by : (bytes_eq y at ≡ true) ⊎ (bytes_eq y at ≡ false)
              → is_gone facts next y ≡ turned (is_gone facts before y) (list_any (bytes_eq y) more)
          by (inl t) =
              subst (λ z. is_gone facts next z ≡ turned (is_gone facts before z) (list_any (bytes_eq z) more))
              (sym ((bytes_eq-Decides y at).0 t)) own
          by (inr f) = gone_beside y f ∙ is.turns y
              ∙ ap (turned (is_gone facts before y))
              (sym (in_more y ∙ ap (λ b. list_any (bytes_eq y) changed || b) f
              ∙ or-false (list_any (bytes_eq y) changed)))

      once_next : AreOnce more
      once_next = new-push (λ y. false) [] changed at is.once fresh

      -- at's own row doesn't stand
      pub ends_here : row_stands facts deletes at ≡ false → Flipped facts deletes before next more
      ends_here none = record {
        counted = all_counted (λ y. number_held pair_total pair_same deletes _ _ (each y));
        kept = kept_next;
        turns = turns_next;
        once = once_next;
      }
        where
          apart : (e : Pair × ℤ) → get deletes e.0 ≡ Some e.1 → bytes_eq e.0.1 at ≡ false
          apart e h = elim (cases_Bool (bytes_eq e.0.1 at)) [
            | inl t ↦ absurd (false≢true
                (sym none ∙ ap (row_stands facts deletes) (sym ((bytes_eq-Decides e.0.1 at).0 t))
                ∙ row_counts facts deletes is.ringless e.0.0 e.0.1 e.1 h))
            | inr f ↦ f
          ]

          each : (y : List ℕ) (e : Pair × ℤ) → get deletes e.0 ≡ Some e.1
              → (bytes_eq y e.0.0 && not (is_gone facts state e.0.1))
              ≡ (bytes_eq y e.0.0 && not (is_gone facts next e.0.1))
          each y e h = ap (λ b. bytes_eq y e.0.0 && not b) (sym (gone_beside e.0.1 (apart e h)))

      -- it stands, so the number of live rows of its target changes
      module _ (stands : row_stands facts deletes at ≡ true) where
        abbrev own : (x : List ℕ) × (date : ℤ) × (get deletes (x, at) ≡ Some date)
        own = row_of facts deletes at stands

        abbrev t : List ℕ
        t = own.0

        is_delete : IsDelete facts t at own.1
        is_delete = is.ringless t at own.1 own.2

        on_t : (x : List ℕ) (date : ℤ) → IsDelete facts x at date → target_in facts at ≡ x
        on_t x date d = ap (fact_target at) d.found ∙ ap (kind_target at) d.says

        before_t : (j : ℕ) → round facts (suc j) at ≡ true → round facts j t ≡ true
        before_t j h = target_before facts deletes t at own.1 is_delete j h

        other : bytes_eq t at ≡ false
        other = elim (cases_Bool (bytes_eq t at)) [
          | inl e ↦ absurd (no_round facts at
              (λ j h. ap (round facts j) (sym ((bytes_eq-Decides t at).0 e)) ∙ before_t j h) (len facts) is.ready)
          | inr f ↦ f
        ]

        changes : (y : List ℕ) → live y + bit (bytes_eq y t && not (is_gone facts next at))
            ≡ live_rows deletes (is_gone facts next) y + bit (bytes_eq y t && not (is_gone facts state at))
        changes y = one_apart pair_total pair_same deletes (t, at) own.1 own.2
            (λ e. bytes_eq y e.0.0 && not (is_gone facts state e.0.1))
            (λ e. bytes_eq y e.0.0 && not (is_gone facts next e.0.1)) each
          where
            each : (e : Pair × ℤ) → get deletes e.0 ≡ Some e.1 → eq_by_cmp pair_cmp e.0 (t, at) ≡ false
                → (bytes_eq y e.0.0 && not (is_gone facts state e.0.1))
                ≡ (bytes_eq y e.0.0 && not (is_gone facts next e.0.1))
            each e h f = ap (λ b. bytes_eq y e.0.0 && not b)
                (sym (gone_beside e.0.1 (by (cases_Bool (bytes_eq e.0.1 at)))))
              where
                by : (bytes_eq e.0.1 at ≡ true) ⊎ (bytes_eq e.0.1 at ≡ false) → bytes_eq e.0.1 at ≡ false
                by (inl s) =
                    let claim : e.0.1 ≡ at = (bytes_eq-Decides e.0.1 at).0 s in
                    let claimed : IsDelete facts e.0.0 at e.1 =
                    subst (λ z. IsDelete facts e.0.0 z e.1) claim (is.ringless e.0.0 e.0.1 e.1 h) in
                    let same : e.0.0 ≡ t = sym (on_t e.0.0 e.1 claimed) ∙ on_t t own.1 is_delete in
                    let key : e.0 ≡ (t, at) = λ i. (same i, claim i) in
                    absurd (false≢true (sym f ∙ ap (λ k. eq_by_cmp pair_cmp k (t, at)) key
                    ∙ (eq_by_cmp_equiv pair_total).refl (t, at)))
                by (inr g) = g

        unchanged : (y : List ℕ) → bytes_eq y t ≡ false → live y ≡ live_rows deletes (is_gone facts next) y
        unchanged y f =
            let a : bit (bytes_eq y t && not (is_gone facts next at)) ≡ 0 =
            ap (λ b. bit (b && not (is_gone facts next at))) f in
            let b : bit (bytes_eq y t && not (is_gone facts state at)) ≡ 0 =
            ap (λ b. bit (b && not (is_gone facts state at))) f in
            omega (arith, a, b, changes y)

        changed_t : (n : ℕ) → n ≡ live t → IsOff (not up) n (live_rows deletes (is_gone facts next) t)
        changed_t n h = by up was now_is
          where
            here : (g : Bool) → bit (bytes_eq t t && not g) ≡ bit (not g)
            here g = ap (λ b. bit (b && not g)) ((bytes_eq-Decides t t).1 refl)

            by : (b : Bool) → is_gone facts state at ≡ not b → is_gone facts next at ≡ b
                → IsOff (not b) n (live_rows deletes (is_gone facts next) t)
            by true w v =
                let p : bit (bytes_eq t t && not (is_gone facts next at)) ≡ 0 = here (is_gone facts next at)
                ∙ ap (λ b. bit (not b)) v in
                let q : bit (bytes_eq t t && not (is_gone facts state at)) ≡ 1 = here (is_gone facts state at)
                ∙ ap (λ b. bit (not b)) w in
                omega (arith, h, p, q, changes t)
            by false w v =
                let p : bit (bytes_eq t t && not (is_gone facts next at)) ≡ 1 = here (is_gone facts next at)
                ∙ ap (λ b. bit (not b)) v in
                let q : bit (bytes_eq t t && not (is_gone facts state at)) ≡ 0 = here (is_gone facts state at)
                ∙ ap (λ b. bit (not b)) w in
                omega (arith, h, p, q, changes t)

        on_t_next : Flipping facts deletes before next more t (not up)
        on_t_next = record {
          ringless = is.ringless;
          arrived = arrived_next;
          known = put_over state at next_row row found t ∙ is.arrived.target t at (ap is_some own.2);
          ready = before_t (len facts) (sym (ready_is_settled facts at) ∙ is.ready);
          here = λ r h. changed_t r.deleters (is.counts t r other (sym (put_beside state at next_row t other) ∙ h));
          counts = λ y r f h. counts_by y r f h (cases_Bool (bytes_eq y at));
          kept = kept_next;
          turns = turns_next;
          once = once_next;
          later = λ y h j s. later_by y j s (cases_Bool (bytes_eq y at)) h;
        }
          where
            counts_by : (y : List ℕ) (r : StateRow) → bytes_eq y t ≡ false → get next y ≡ Some r
                → (bytes_eq y at ≡ true) ⊎ (bytes_eq y at ≡ false)
                → r.deleters ≡ live_rows deletes (is_gone facts next) y
            counts_by y r f h (inl e) =
                ap (λ (s : StateRow). s.deleters)
                (sym (same_Some next_row r (sym (put_at state at next_row y e) ∙ h))) ∙ next_counts
                ∙ ap live (sym ((bytes_eq-Decides y at).0 e)) ∙ unchanged y f
            counts_by y r f h (inr e) = is.counts y r e (sym (put_beside state at next_row y e) ∙ h) ∙ unchanged y f

            lower : (j : ℕ) → round facts j at ≡ true → round facts j t ≡ true
            lower zero s = absurd (false≢true s)
            lower (suc j) s = round_grows facts j (suc j) t (omega arith) (before_t j s)

            later_by : (y : List ℕ) (j : ℕ) → round facts (suc j) y ≡ true
                → (bytes_eq y at ≡ true) ⊎ (bytes_eq y at ≡ false) → list_any (bytes_eq y) more ≡ true
                → round facts j t ≡ true
            later_by y j s (inl e) h = before_t j (ap (round facts (suc j)) (sym ((bytes_eq-Decides y at).0 e)) ∙ s)
            later_by y j s (inr e) h =
                lower j (is.later y (sym (in_more y ∙ ap (λ b. list_any (bytes_eq y) changed || b) e
                ∙ or-false (list_any (bytes_eq y) changed)) ∙ h) j s)

        next_target : target_in facts at ≡ t
        next_target = on_t t own.1 is_delete

        pub goes_on : Flipping facts deletes before next more (target_in facts at) (not up)
        goes_on = subst (λ z. Flipping facts deletes before next more z (not up)) (sym next_target) on_t_next

        pub falls : late facts (len facts) (target_in facts at) < late facts (len facts) at
        falls = subst (λ z. late facts (len facts) z < late facts (len facts) at) (sym next_target)
            (omega (arith, late_less facts t at before_t (len facts), late_ready facts at is.ready))
