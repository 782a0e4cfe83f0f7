-- The walk of `deleted_at`: what it knows, and why it ends.
use Rattle.std.proofs.Common.{◌≡◌, ℕ, zero, suc, ◌+◌, ◌*◌, ◌≤◌, Bool, true, false, not, ◌&&◌, ◌||◌, if◌then◌else◌, List, [], ◌∷◌, Option, None, Some, refl, sym, ap, subst, ◌∙◌, inl, inr, ℤ, arith, zero-add}
use Rattle.std.proofs.lemmas.Bool.{cases_Bool, cases_lt, false≢true, and_parts}
use Rattle.std.proofs.lemmas.Slice.Eq.{bytes_eq-Decides}
use Rattle.std.specs.List.{list_any, list_all}
use Rattle.std.specs.Str.{bytes_eq}
use Rattle.std.specs.FinMap.{get, len}
use Rattle.schema_date.specs.declared.date.When.{When}
use Rattle.schema_fact.specs.declared.kinds.Fact.{Fact}
use Rattle.schema_fact.specs.Dependencies.{dependencies, kind_dependencies}
use Rattle.schema_fact.specs.declared.kinds.Kind.TheVariants.{Claim}
use Rattle.schema_fact.specs.declared.kinds.What.TheVariants.{Delete}
use Rattle.claim_model.specs.Facts.{Facts, passes}
use Rattle.claim_model.specs.Ready.{round}
use Rattle.claim_model.specs.Deleted.{counts_at, can_be_deleted}
use Rattle.claim_model.proofs.Rounds.{round_grows}
use Rattle.index_rows.specs.Pairs.{Pair, group_after}
use Rattle.index_rows.specs.Deletes.{Deletes, total, rows_under, IsDelete, Ringless, is_live, any_live, row_deleted, target_in, fact_target, kind_target}
use Rattle.index_rows.proofs.Deleting.{row_deleted_is}

module _ (facts : Facts) (rows : Deletes) where
  -- what a delete claim in the next round deletes stands in this one
  pub target_before : (x d : List ℕ) (date : ℤ) → IsDelete facts x d date → (j : ℕ) → round facts (suc j) d ≡ true → round facts j x ≡ true
  target_before x d date is j h =
      let all : list_all (round facts j) (dependencies is.fact) ≡ true = sym (ap (passes (λ fact. list_all (round facts j) (dependencies fact))) is.found) ∙ h in
      let each : list_all (round facts j) (kind_dependencies (Claim is.signed date (Delete x))) ≡ true = ap (λ kind. list_all (round facts j) (kind_dependencies kind)) (sym is.says) ∙ all in
      (and_parts (round facts j x) true (and_parts (round facts j is.signed.signer) (round facts j x && true) each).1).0

  -- the weight of a delete claim: one, and the weights of those on it
  abbrev pub weight : ℕ → List ℕ → ℕ
  weight n d = rows_under rows n d

  abbrev pub weights : ℕ → List ℕ → Option (List ℕ) → ℕ
  weights n y after = total (λ (e : Pair × ℤ). weight n e.0.1) (group_after rows y after)

  -- what is ahead of the walk, up to r
  abbrev pub ahead : List ℕ → ℕ → List ℕ → Option (List ℕ) → ℕ
  ahead r zero y after = 2 * weights (len facts) y after
  ahead r (suc n) y after = 2 * weights (len facts) y after + (if bytes_eq y r then 0 else suc (ahead r n (target_in facts y) (Some y)))

  -- from r on it is what is on r
  pub first_ahead : (r : List ℕ) → ahead r (len facts) r None ≤ 2 * weights (len facts) r None
  first_ahead r = by (len facts)
    where
      by : (n : ℕ) → ahead r n r None ≤ 2 * weights (len facts) r None
      by zero = omega arith
      by (suc n) =
          let e : (if bytes_eq r r then 0 else suc (ahead r n (target_in facts r) (Some r))) ≡ 0
          = ap (λ b. if b then 0 else suc (ahead r n (target_in facts r) (Some r))) ((bytes_eq-Decides r r).1 refl) in
          omega (arith, e)

  module _ (when : When) (r : List ℕ) where
    abbrev pub gone : List ℕ → Bool
    gone = row_deleted facts rows when

    abbrev pub live : List ℕ → Option (List ℕ) → Bool
    live = any_live rows when gone

    -- r stands in a round that is k earlier
    abbrev pub IsFar : ℕ → List ℕ → Type 0
    IsFar k y = (j : ℕ) → round facts (k + j) y ≡ true → round facts j r ≡ true

    -- r is k targets above y, and where y's deletion is v, this is r's
    abbrev pub Ends : ℕ → List ℕ → Bool → Type 0
    Ends zero y v = (bytes_eq y r ≡ true) × (gone r ≡ v)
    Ends (suc k) y v = (bytes_eq y r ≡ false) × IsFar (suc k) y × Ends k (target_in facts y) (not v || live (target_in facts y) (Some y))

    -- what the walk knows
    pub record IsAt (at : List ℕ) (last : Option (List ℕ)) : Type 0 where
      pub depth : ℕ
      pub small : depth ≤ len facts
      pub ends : Ends depth at (live at last)

    module _ (ringless : Ringless facts rows) where
      far : (k : ℕ) (y : List ℕ) (v : Bool) → Ends k y v → IsFar k y
      far zero y v e j h = ap (round facts j) (sym ((bytes_eq-Decides y r).0 e.0)) ∙ ap (λ n. round facts n y) (sym (zero-add j)) ∙ h
      far (suc k) y v e j h = e.1 j h

      ends_same : (k : ℕ) (y : List ℕ) (v w : Bool) → v ≡ w → Ends k y v → Ends k y w
      ends_same k y v w h e = subst (Ends k y) h e

      -- not r itself, for r stands in no earlier round than r
      no_round : (k : ℕ) → ((j : ℕ) → round facts (suc k + j) r ≡ true → round facts j r ≡ true) → (n : ℕ) → round facts n r ≡ true → ⊥
      no_round k h zero t = false≢true t
      no_round k h (suc n) t = no_round k h n (h n (round_grows facts (suc n) (suc k + n) r (omega arith) t))

      pub on_one : (d : List ℕ) (x : List ℕ) (date : ℤ) (is : IsDelete facts x d date) → target_in facts d ≡ x
      on_one d x date is = ap (fact_target d) is.found ∙ ap (kind_target d) is.says

      claim_gone : (d x : List ℕ) (date : ℤ) → IsDelete facts x d date → gone d ≡ live d None
      claim_gone d x date is =
          row_deleted_is facts rows ringless when d
          ∙ ap (λ b. b && live d None) (ap (passes (λ (fact : Fact). can_be_deleted fact.kind)) is.found ∙ ap can_be_deleted is.says)

      pub begins : passes (λ (fact : Fact). can_be_deleted fact.kind) (get facts r) ≡ true → IsAt r None
      begins can = record {
        depth = 0;
        small = omega arith;
        ends = ((bytes_eq-Decides r r).1 refl, row_deleted_is facts rows ringless when r ∙ ap (λ b. b && live r None) can);
      }

      module _ (at : List ℕ) (last : Option (List ℕ)) (d : List ℕ) (date : ℤ) (step : group_after rows at last ≡ ((at, d), date) ∷ group_after rows at (Some d)) (row : get rows (at, d) ≡ Some date) where
        abbrev own : IsDelete facts at d date
        own = ringless at d date row

        unfold_one : live at last ≡ ((counts_at when date && not (gone d)) || live at (Some d))
        unfold_one = ap (list_any (is_live when gone)) step

        pub goes_down : counts_at when date ≡ true → IsAt at last → IsAt d None × (bytes_eq d r ≡ false)
        goes_down counts is = (
          record {
            depth = suc is.depth;
            small = small;
            ends = (apart, farther, ends_same is.depth (target_in facts d) _ _ refl (subst (λ y. Ends is.depth y (not (live d None) || live y (Some d))) (sym (on_one d at date own)) inner));
          },
          apart,
        )
          where
            farther : IsFar (suc is.depth) d
            farther j h = far is.depth at (live at last) is.ends j (target_before at d date own (is.depth + j) (let e : suc is.depth + j ≡ suc (is.depth + j) = omega arith in sym (ap (λ n. round facts n d) e) ∙ h))

            in_last : round facts (len facts) d ≡ true
            in_last = own.ready

            small : suc is.depth ≤ len facts
            small = elim (cases_lt (len facts) (suc is.depth)) [
              | inr le ↦ le
              | inl gt ↦ absurd (false≢true (farther 0 (round_grows facts (len facts) (suc is.depth + 0) d (omega arith) in_last)))
            ]

            apart : bytes_eq d r ≡ false
            apart = elim (cases_Bool (bytes_eq d r)) [
              | inl t ↦ let same : d ≡ r = (bytes_eq-Decides d r).0 t in absurd (no_round is.depth (subst (IsFar (suc is.depth)) same farther) (len facts) (ap (round facts (len facts)) (sym same) ∙ in_last))
              | inr f ↦ f
            ]

            inner : Ends is.depth at (not (live d None) || live at (Some d))
            inner = ends_same is.depth at _ _ (unfold_one ∙ (λ i. (counts i && not (claim_gone d at date own i)) || live at (Some d))) is.ends

        pub goes_on : counts_at when date ≡ false → IsAt at last → IsAt at (Some d)
        goes_on counts is = record {
          depth = is.depth;
          small = is.small;
          ends = ends_same is.depth at _ _ (unfold_one ∙ (λ i. (counts i && not (gone d)) || live at (Some d))) is.ends;
        }

      module _ (at : List ℕ) (last : Option (List ℕ)) (none : group_after rows at last ≡ []) where
        none_live : live at last ≡ false
        none_live = ap (list_any (is_live when gone)) none

        pub stands : bytes_eq at r ≡ true → IsAt at last → gone r ≡ false
        stands here is = by is.depth is.ends
          where
            by : (k : ℕ) → Ends k at (live at last) → gone r ≡ false
            by zero e = e.1 ∙ none_live
            by (suc k) e = absurd (false≢true (sym e.0 ∙ here))

        pub is_gone : bytes_eq at r ≡ false → bytes_eq (target_in facts at) r ≡ true → IsAt at last → gone r ≡ true
        is_gone here there is = by is.depth is.ends
          where
            inner : (k : ℕ) → Ends k (target_in facts at) (not (live at last) || live (target_in facts at) (Some at)) → gone r ≡ true
            inner zero e = e.1 ∙ ap (λ b. not b || live (target_in facts at) (Some at)) none_live
            inner (suc k) e = absurd (false≢true (sym e.0 ∙ there))

            by : (k : ℕ) → Ends k at (live at last) → gone r ≡ true
            by zero e = absurd (false≢true (sym here ∙ e.0))
            by (suc k) e = inner k e.2

        pub goes_up : bytes_eq at r ≡ false → bytes_eq (target_in facts at) r ≡ false → IsAt at last → IsAt (target_in facts (target_in facts at)) (Some (target_in facts at))
        goes_up here there is = by is.depth is.small is.ends
          where
            y : List ℕ
            y = target_in facts at

            inner : (k : ℕ) → k ≤ len facts → Ends k (target_in facts at) (not (live at last) || live (target_in facts at) (Some at)) → IsAt (target_in facts (target_in facts at)) (Some (target_in facts at))
            inner zero le e = absurd (false≢true (sym there ∙ e.0))
            inner (suc k) le e = record {
              depth = k;
              small = omega arith;
              ends = ends_same k _ _ _ (ap (λ b. not (not b || live (target_in facts at) (Some at)) || live (target_in facts (target_in facts at)) (Some (target_in facts at))) none_live) e.2;
            }

            by : (k : ℕ) → k ≤ len facts → Ends k at (live at last) → IsAt (target_in facts (target_in facts at)) (Some (target_in facts at))
            by zero le e = absurd (false≢true (sym here ∙ e.0))
            by (suc k) le e = inner k (omega arith) e.2
