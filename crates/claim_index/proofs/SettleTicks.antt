-- The steps of entering a single delete claim, and what it adds, if the last ref whose deletion changed may be settled.
use Rattle.std.proofs.Common.{◌≡◌, ◌≤◌, ◌+◌, ◌*◌, ◌||◌, ◌++◌, ◌∙◌, inl, inr, ℕ, Bool, true, false, cond, List, []}
use Rattle.std.proofs.Common.{◌∷◌, length, flat_map, map, Option, Some, None, refl, sym, ap, subst, arith}
use Rattle.std.proofs.Common.{length-append}
use Rattle.std.proofs.lemmas.Bool.{false≢true}
use Rattle.std.proofs.lemmas.List.Sums.{sum_by-cons}
use Rattle.std.proofs.lemmas.Slice.Eq.{bytes_eq-Decides}
use Rattle.std.specs.List.{list_any, sum_by}
use Rattle.std.specs.Str.{bytes_eq}
use Rattle.std.specs.FinMap.{get}
use Rattle.claim_verify.specs.Verifier.{Accepts}
use Rattle.schema_fact.specs.Changes.{changes_of}
use Rattle.schema_fact.specs.declared.changes.Change.{Change}
use Rattle.schema_fact.specs.declared.kinds.Fact.{Fact}
use Rattle.schema_fact.specs.declared.kinds.Kind.{Kind}
use Rattle.schema_fact.specs.declared.kinds.Kind.TheVariants.{Plain, Key, File, Bytes, Directory, StaticSet, Permanode}
use Rattle.schema_fact.specs.declared.kinds.Kind.TheVariants.{Claim, Unread}
use Rattle.claim_model.specs.Facts.{Facts}
use Rattle.claim_model.specs.Genuine.{is_genuine}
use Rattle.index_rows.specs.declared.rows.Rows.{Rows}
use Rattle.index_rows.specs.Deletes.{Deletes}
use Rattle.index_rows.specs.Holders.{Holders}
use Rattle.index_rows.specs.States.{States, says_genuine}
use Rattle.index_rows.specs.Touched.{kind_changes, fact_changes}
use Rattle.attr_fold.specs.Refolded.{refold_steps}
use Rattle.delete_claims.specs.Entered.{entered_targets, IsEntered}
use Rattle.delete_claims.specs.Flipping.{IsFront}
use Rattle.index_meaning.specs.Meaning.{IsChangesOf, IsJudged}
use Rattle.index_meaning.specs.Touching.{concerned_by, kind_concerns, fact_concerns}
use Rattle.claim_index.specs.Costs.{all_concerned, enter_steps, finish_steps, refolds_steps, targets_of}
use Rattle.claim_index.specs.Costs.{AddsEntered, AreTaken, EntersWithin, IsCovered}
use Rattle.claim_index.specs.Following.{IsFolded, IsSeen, settled, unsettled}
use Rattle.claim_index.specs.Halfway.{IsHalfway}
use Rattle.claim_index.proofs.EnterOne.{front_in, front_then, one_adds, one_front, one_ticks, one_turned, row_says}
use Rattle.claim_index.proofs.EnterOne.{whole}
use Rattle.claim_index.proofs.OneEntered.{after, same_genuine}
use Rattle.claim_index.proofs.OneFollowed.{changed_here}
use Rattle.claim_index.proofs.OneSettled.{all_told, last_changed}
use Rattle.claim_index.proofs.RefoldSum.{refolds_sum}
use Rattle.claim_index.proofs.SeenAlone.{addition_is_change}

-- a genuine claim concerns each permanode that it changes
module _ (state : States) (x p : List ℕ) (genuine : says_genuine state x ≡ true) where
  kind_concerned : (kind : Kind) → list_any (bytes_eq p) (map (λ (c : Change). c.on) (kind_changes kind)) ≡ true
      → list_any (bytes_eq p) (kind_concerns state x kind) ≡ true
  kind_concerned Plain h = absurd (false≢true h)
  kind_concerned (Key name) h = absurd (false≢true h)
  kind_concerned (File name parts) h = absurd (false≢true h)
  kind_concerned (Bytes parts) h = absurd (false≢true h)
  kind_concerned (Directory name listing) h = absurd (false≢true h)
  kind_concerned (StaticSet members) h = absurd (false≢true h)
  kind_concerned (Permanode signed) h = absurd (false≢true h)
  kind_concerned (Claim signed date what) h =
      ap (λ b. list_any (bytes_eq p) (cond b (map (λ (c : Change). c.on) (changes_of what)) [])) genuine ∙ h
  kind_concerned (Unread name) h = absurd (false≢true h)

  fact_concerned : (o : Option Fact) → list_any (bytes_eq p) (map (λ (c : Change). c.on) (fact_changes o)) ≡ true
      → list_any (bytes_eq p) (fact_concerns state x o) ≡ true
  fact_concerned None h = absurd (false≢true h)
  fact_concerned (Some fact) h = kind_concerned fact.kind h

module _ (accepts : Accepts) (rows : Rows) (d : List ℕ) (heads ps : List (List ℕ)) where
  one_sum : sum_by (enter_steps rows.facts.ordered accepts) (d ∷ []) ≡ enter_steps rows.facts.ordered accepts d
  one_sum = let s = sum_by-cons (enter_steps rows.facts.ordered accepts) d [] in omega (arith, s)

  pub enters_all : (first last : ℕ) → last ≤ first + enter_steps rows.facts.ordered accepts d
      → last ≤ first + finish_steps rows.facts.ordered accepts (d ∷ []) heads ps
  enters_all first last h = let s = one_sum in omega (arith, h, s)

  pub enters_alone : (concerned : List (List ℕ)) (first last : ℕ)
      → last ≤ first + enter_steps rows.facts.ordered accepts d
      → EntersWithin rows.facts.ordered accepts (d ∷ []) concerned heads ps first last
  enters_alone concerned first last h = let s = one_sum in inl (omega (arith, h, s))

module _ (accepts : Accepts) (rows : Rows) (d : List ℕ) (half : IsHalfway accepts [] (d ∷ []) [] rows)
    (all : AreTaken rows) (heads ps : List (List ℕ)) where
  abbrev facts : Facts
  facts = rows.facts.ordered

  abbrev bound : ℕ
  bound = refolds_steps facts accepts heads ps

  module _ (entered : Deletes) (state : States) (changed : List (List ℕ))
      (is : IsEntered facts rows.deletes entered rows.state state d changed)
      (begins : IsFront changed (entered_targets facts rows.deletes d))
      (front : List (List ℕ)) (last : List ℕ) (cut : changed ≡ front ++ last ∷ []) where
    says : (y : List ℕ) → says_genuine state y ≡ true → is_genuine facts accepts y ≡ true
    says y t = row_says facts accepts rows.state
        (subst (λ (f : Facts). IsJudged f accepts [] rows.state) (whole accepts rows [] d [] half all) half.judged) y
        (sym (same_genuine rows entered state d changed is y) ∙ t)

    last_target : list_any (bytes_eq last) (targets_of facts accepts d) ≡ true
    last_target = front_in changed (targets_of facts accepts d)
        (front_then changed (entered_targets facts rows.deletes d) (targets_of facts accepts d) begins
        (one_front accepts rows [] d [] half all)) last
        (last_changed rows entered state d changed is begins front last cut)

    pub folded : IsCovered facts accepts (all_concerned facts accepts (d ∷ []) []) heads ps
        → IsFolded facts state rows.changes last bound
    folded covered p k genuine is_added =
        let here : list_any (bytes_eq p) (concerned_by facts state last) ≡ true
        = fact_concerned state last p genuine (get facts last)
        (changed_here facts last p k (addition_is_change facts last p k is_added)) in
        let among : list_any (bytes_eq p) (all_concerned facts accepts (d ∷ []) []) ≡ true
        = one_turned facts accepts state says d p last last_target here in
        let s = refolds_sum facts accepts state rows.changes
        (subst (λ (f : Facts). IsChangesOf f accepts [] rows.changes) (whole accepts rows [] d [] half all)
        half.changed) (p ∷ []) (p ∷ []) heads ps (refl, tt) (λ q. refl) (covers p among) in
        let one = sum_by-cons (refold_steps facts state rows.changes) p [] in
        omega (arith, s, one)
      where
        sure : (a : Bool) → (a || false) ≡ true → a ≡ true
        sure true t = refl
        sure false t = t

        covers : (p : List ℕ) → list_any (bytes_eq p) (all_concerned facts accepts (d ∷ []) []) ≡ true
            → IsCovered facts accepts (p ∷ []) heads ps
        covers p among = record {
          permanodes = λ q one t. covered.permanodes q one (in_all q t);
          each = λ q t. covered.each q (in_all q t);
        }
          where
            in_all : (q : List ℕ) → list_any (bytes_eq q) (p ∷ []) ≡ true
                → list_any (bytes_eq q) (all_concerned facts accepts (d ∷ []) []) ≡ true
            in_all q t = ap (λ (r : List ℕ). list_any (bytes_eq r) (all_concerned facts accepts (d ∷ []) []))
                ((bytes_eq-Decides q p).0 (sure (bytes_eq q p) t)) ∙ among

    module _ (first entering mid : ℕ) (a : entering ≤ first + 3 + 4 * length (entered_targets facts rows.deletes d))
        (b : mid ≤ entering + 2 * length front) where
      pub seen_within : (end : ℕ) → end ≤ mid + 2 → end ≤ first + enter_steps facts accepts d
      seen_within end few =
          let more : length changed ≡ length front + 1
          = ap (λ (xs : List (List ℕ)). length xs) cut ∙ length-append front (last ∷ []) in
          one_ticks accepts rows [] d [] half all changed changed refl begins first entering end a
          (omega (arith, b, few, more))

      pub seen_ticks : (end : ℕ) → end ≤ mid + 2 + bound → end ≤ first + finish_steps facts accepts (d ∷ []) heads ps
      seen_ticks end h =
          let w = seen_within (mid + 2) (omega arith) in
          let s = one_sum accepts rows d heads ps in
          omega (arith, w, h, s)

      pub seen_enters : (before cs : List (List ℕ)) → before ≡ [] → (holders : Holders) (end : ℕ)
          → IsSeen (after rows entered state d changed is) holders last before cs mid end → end ≤ mid + 2 + bound
          → EntersWithin facts accepts (d ∷ []) cs heads ps first end
      seen_enters before cs none holders end (settled did same) h = inr (same ∙ none, seen_ticks end h)
      seen_enters before cs none holders end (unsettled left few) h =
          enters_alone accepts rows d heads ps cs first end (seen_within end few)

    pub seen_adds : (before cs : List (List ℕ)) → before ≡ flat_map (concerned_by facts state) front → before ≡ []
        → (holders : Holders) (mid end : ℕ)
        → IsSeen (after rows entered state d changed is) holders last before cs mid end
        → AddsEntered facts accepts (d ∷ []) [] cs
    seen_adds before cs told none holders mid end (settled did same) = λ p t.
        absurd (false≢true (sym (ap (list_any (bytes_eq p)) (same ∙ none)) ∙ t))
    seen_adds before cs told none holders mid end (unsettled left few) =
        one_adds accepts rows [] d [] half all (after rows entered state d changed is) refl changed changed is refl
        begins [] cs
        (sym (all_told rows entered state d changed is begins front last cut before cs mid end told left.added))
