-- A single delete claim, from the tables before it to those after what it changed was looked at.
use Rattle.std.proofs.Common.{◌≡◌, ◌≤◌, ◌+◌, ◌*◌, ◌++◌, ◌∙◌, ℕ, List, [], ◌∷◌, length, flat_map, Result}
use Rattle.std.proofs.Common.{Ok, Err, OnOk, refl, sym, ap, subst, arith}
use Rattle.std.proofs.lemmas.List.{append-nil}
use Rattle.std.specs.List.{list_any}
use Rattle.std.specs.Str.{bytes_eq}
use Rattle.claim_verify.specs.Verifier.{Accepts}
use Rattle.claim_model.specs.Facts.{Facts}
use Rattle.claim_model.specs.Genuine.{is_genuine}
use Rattle.index_rows.specs.declared.rows.Rows.{Rows}
use Rattle.index_rows.proofs.LooseFacts.{in_order}
use Rattle.delete_claims.specs.Entered.{entered_targets, IsEntered}
use Rattle.delete_claims.specs.Flipping.{IsFront}
use Rattle.index_meaning.specs.Touching.{concerned_by}
use Rattle.claim_index.specs.Costs.{all_concerned, ends_of, enter_steps, finish_steps, may_concern, refolds_steps}
use Rattle.claim_index.specs.Costs.{AddsEntered, AreTaken, EntersWithin, IsCovered}
use Rattle.claim_index.specs.Following.{CanBeSettled, IsFolded, IsSeen}
use Rattle.claim_index.specs.Halfway.{IsHalfway, CanBeFinished}
use Rattle.claim_index.proofs.EnterOne.{one_failed}
use Rattle.claim_index.proofs.LoopTicks.{left}
use Rattle.claim_index.proofs.Members.{none_long}
use Rattle.claim_index.proofs.OneEntered.{after, can_go_on, goes_on, same_genuine}
use Rattle.claim_index.proofs.OneSettled.{front_concerns, seen_finished, seen_halfway}
use Rattle.claim_index.proofs.Refolds.{IsSameBeside}
use Rattle.claim_index.proofs.SettleTicks.{enters_all, enters_alone, folded, seen_adds, seen_enters, seen_ticks}
use Rattle.claim_index.proofs.SettleTicks.{seen_within}

pub if_ok : {T E P : Type 0} (r : Result T E) → P → OnOk r P
if_ok (Ok x) p = p
if_ok (Err e) p = tt

-- d was entered, and the deletion of these refs changed
pub record IsEnteredBeside (rows mid : Rows) (d : List ℕ) (changed : List (List ℕ)) : Type 0 where
  pub is : IsEntered rows.facts.ordered rows.deletes mid.deletes rows.state mid.state d changed
  pub facts : mid.facts ≡ rows.facts
  pub waiters : mid.waiters ≡ rows.waiters
  pub changes : mid.changes ≡ rows.changes
  pub removals : mid.removals ≡ rows.removals
  pub holders : mid.holders ≡ rows.holders

-- and the last of these refs is taken apart from the others
pub record IsCut (rows mid : Rows) (d : List ℕ) (changed front : List (List ℕ)) (last : List ℕ) : Type 0 where
  pub entered : IsEnteredBeside rows mid d changed
  pub begins : IsFront changed (entered_targets rows.facts.ordered rows.deletes d)
  pub cut : changed ≡ front ++ last ∷ []

pub is_cut : (rows mid : Rows) (d : List ℕ) (changed slice front : List (List ℕ)) (last : List ℕ)
    → IsEnteredBeside rows mid d changed → IsFront changed (entered_targets rows.facts.ordered rows.deletes d)
    → slice ≡ changed → slice ≡ front ++ last ∷ [] → IsCut rows mid d changed front last
is_cut rows mid d changed slice front last entered begins same cut = record {
  entered = entered;
  begins = begins;
  cut = sym same ∙ cut;
}

-- ---- what was entered

module _ (rows mid : Rows) (d : List ℕ) (changed : List (List ℕ)) (e : IsEnteredBeside rows mid d changed) where
  abbrev behind : Rows
  behind = after rows mid.deletes mid.state d changed e.is

  same_mid : behind ≡ mid
  same_mid i = record {
    facts = sym e.facts i;
    state = mid.state;
    waiters = sym e.waiters i;
    deletes = mid.deletes;
    changes = sym e.changes i;
    removals = sym e.removals i;
    holders = sym e.holders i;
  }

  able_here : CanBeSettled rows → CanBeSettled behind
  able_here able = record {
    removals = able.removals;
    there = λ y p k genuine says.
        able.there y p k (sym (same_genuine rows mid.deletes mid.state d changed e.is y) ∙ genuine) says;
  }

  -- what could be settled before can be settled now
  pub still_able : CanBeSettled rows → CanBeSettled mid
  still_able able = subst (λ (r : Rows). CanBeSettled r) same_mid (able_here able)

  pub mid_finished : (concerned : List (List ℕ)) → CanBeFinished (d ∷ []) concerned rows
      → CanBeFinished [] (concerned ++ flat_map (concerned_by mid.facts.ordered mid.state) changed) mid
  mid_finished concerned can =
      can_go_on rows mid d changed e.is e.facts e.waiters e.changes e.removals e.holders changed concerned
      (concerned ++ flat_map (concerned_by mid.facts.ordered mid.state) changed) refl refl [] can

  -- if no deletion changed
  module _ (slice : List (List ℕ)) (same : slice ≡ changed) (empty : length slice ≡ 0) where
    told_none : (concerned : List (List ℕ))
        → concerned ≡ concerned ++ flat_map (concerned_by mid.facts.ordered mid.state) slice
    told_none concerned = sym (append-nil concerned)
        ∙ ap (λ (xs : List (List ℕ)). concerned ++ flat_map (concerned_by mid.facts.ordered mid.state) xs)
        (sym (none_long slice empty))

    pub none_finished : (concerned : List (List ℕ)) → CanBeFinished (d ∷ []) concerned rows
        → CanBeFinished [] concerned mid
    none_finished concerned can =
        can_go_on rows mid d changed e.is e.facts e.waiters e.changes e.removals e.holders slice concerned concerned
        same (told_none concerned) [] can

    pub none_halfway : (concerned : List (List ℕ)) (accepts : Accepts) → IsHalfway accepts [] (d ∷ []) concerned rows
        → IsHalfway accepts [] [] concerned mid
    none_halfway concerned accepts half =
        goes_on rows mid d changed e.is e.facts e.waiters e.changes e.removals e.holders slice concerned concerned
        same (told_none concerned) accepts [] half

-- what was concerned before is still concerned
pub adds_none : (facts : Facts) (accepts : Accepts) (deletes cs : List (List ℕ))
    → AddsEntered facts accepts deletes cs cs
adds_none facts accepts deletes cs = λ p t. left
    (list_any (bytes_eq p) (may_concern facts (is_genuine facts accepts) (ends_of facts accepts deletes))) t

module _ (accepts : Accepts) (rows : Rows) (d : List ℕ) (concerned heads ps : List (List ℕ))
    (half : IsHalfway accepts [] (d ∷ []) concerned rows) (all : AreTaken rows) (first last : ℕ)
    (took : last ≤ first + 3 + 4 * length (entered_targets rows.facts.ordered rows.deletes d)) where
  alone_steps : last ≤ first + enter_steps rows.facts.ordered accepts d
  alone_steps = one_failed accepts rows [] d concerned half all first last took

  -- if there was no memory to enter it, or no deletion changed
  pub entering_ticks : last ≤ first + finish_steps rows.facts.ordered accepts (d ∷ []) heads ps
  entering_ticks = enters_all accepts rows d heads ps first last alone_steps

  pub entering_within : (cs : List (List ℕ))
      → EntersWithin rows.facts.ordered accepts (d ∷ []) cs heads ps first last
  entering_within cs = enters_alone accepts rows d heads ps cs first last alone_steps

-- ---- what was looked at, if nobody was concerned before

module _ (rows mid : Rows) (d : List ℕ) (changed front : List (List ℕ)) (last : List ℕ)
    (a : IsCut rows mid d changed front last) (none : List (List ℕ)) (nobody : none ≡ []) where
  abbrev after_it : Rows
  after_it = after rows mid.deletes mid.state d changed a.entered.is

  to_mid : after_it ≡ mid
  to_mid = same_mid rows mid d changed a.entered

  module _ (accepts : Accepts) (half : IsHalfway accepts [] (d ∷ []) none rows) (all : AreTaken rows)
      (heads ps : List (List ℕ)) where
    half_here : IsHalfway accepts [] (d ∷ []) [] rows
    half_here = subst (λ (refs : List (List ℕ)). IsHalfway accepts [] (d ∷ []) refs rows) nobody half

    pub is_folded : IsCovered rows.facts.ordered accepts (all_concerned rows.facts.ordered accepts (d ∷ []) none) heads
        ps → IsFolded mid.facts.ordered mid.state mid.changes last (refolds_steps rows.facts.ordered accepts heads ps)
    is_folded covered =
        subst (λ (r : Rows). IsFolded r.facts.ordered r.state r.changes last
        (refolds_steps rows.facts.ordered accepts heads ps)) to_mid
        (folded accepts rows d half_here all heads ps mid.deletes mid.state changed a.entered.is a.begins front last
        a.cut
        (subst (λ (refs : List (List ℕ)). IsCovered rows.facts.ordered accepts
        (all_concerned rows.facts.ordered accepts (d ∷ []) refs) heads ps) nobody covered))

    module _ (first entering ready : ℕ)
        (took : entering ≤ first + 3 + 4 * length (entered_targets rows.facts.ordered rows.deletes d))
        (looked : ready ≤ entering + 2 * length front) where
      -- if there was no memory for those whom the front concerns
      pub front_ticks : ready ≤ first + finish_steps rows.facts.ordered accepts (d ∷ []) heads ps
      front_ticks = enters_all accepts rows d heads ps first ready
          (seen_within accepts rows d half_here all heads ps mid.deletes mid.state changed a.entered.is a.begins front
          last a.cut first entering ready took looked ready (omega arith))

      pub alone_ticks : (end : ℕ) → end ≤ ready + 2 + refolds_steps rows.facts.ordered accepts heads ps
          → end ≤ first + finish_steps rows.facts.ordered accepts (d ∷ []) heads ps
      alone_ticks end h =
          seen_ticks accepts rows d half_here all heads ps mid.deletes mid.state changed a.entered.is a.begins front
          last a.cut first entering ready took looked end h

  module _ (before : List (List ℕ))
      (told : before ≡ none ++ flat_map (concerned_by mid.facts.ordered mid.state) front) where
    told_here : before ≡ flat_map (concerned_by rows.facts.ordered mid.state) front
    told_here = told
        ∙ ap (λ (xs : List (List ℕ)). xs ++ flat_map (concerned_by mid.facts.ordered mid.state) front) nobody
        ∙ ap (λ (f : Facts). flat_map (concerned_by f mid.state) front) (in_order a.entered.facts)

    -- the front concerns nobody
    still_nobody : before ≡ []
    still_nobody = told_here
        ∙ front_concerns rows mid.deletes mid.state d changed a.entered.is a.begins front last a.cut

    module _ (new : Rows) (cs : List (List ℕ)) (ready end : ℕ)
        (seen : IsSeen mid new.holders last before cs ready end) where
      seen_here : IsSeen after_it new.holders last before cs ready end
      seen_here = subst (λ (r : Rows). IsSeen r new.holders last before cs ready end) (sym to_mid) seen

      module _ (same : IsSameBeside mid new) where
        same_here : IsSameBeside after_it new
        same_here = subst (λ (r : Rows). IsSameBeside r new) (sym to_mid) same

        pub alone_finished : CanBeFinished (d ∷ []) none rows → CanBeFinished [] cs new
        alone_finished can =
            seen_finished rows mid.deletes mid.state d changed a.entered.is a.begins front last a.cut before cs ready
            end told_here new same_here seen_here
            (subst (λ (refs : List (List ℕ)). CanBeFinished (d ∷ []) refs rows) nobody can)

        pub alone_halfway : (accepts : Accepts) → IsHalfway accepts [] (d ∷ []) none rows
            → IsHalfway accepts [] [] cs new
        alone_halfway accepts half =
            seen_halfway rows mid.deletes mid.state d changed a.entered.is a.begins front last a.cut before cs ready
            end told_here new same_here seen_here accepts
            (subst (λ (refs : List (List ℕ)). IsHalfway accepts [] (d ∷ []) refs rows) nobody half)

      module _ (accepts : Accepts) (half : IsHalfway accepts [] (d ∷ []) none rows) (all : AreTaken rows) where
        pub alone_adds : AddsEntered rows.facts.ordered accepts (d ∷ []) none cs
        alone_adds =
            subst (λ (refs : List (List ℕ)). AddsEntered rows.facts.ordered accepts (d ∷ []) refs cs) (sym nobody)
            (seen_adds accepts rows d (half_here accepts half all [] []) all [] [] mid.deletes mid.state changed
            a.entered.is a.begins front last a.cut before cs told_here still_nobody new.holders ready end seen_here)

        pub alone_within : (heads ps : List (List ℕ)) (first entering : ℕ)
            → entering ≤ first + 3 + 4 * length (entered_targets rows.facts.ordered rows.deletes d)
            → ready ≤ entering + 2 * length front
            → end ≤ ready + 2 + refolds_steps rows.facts.ordered accepts heads ps
            → EntersWithin rows.facts.ordered accepts (d ∷ []) cs heads ps first end
        alone_within heads ps first entering took looked h =
            seen_enters accepts rows d (half_here accepts half all heads ps) all heads ps mid.deletes mid.state changed
            a.entered.is a.begins front last a.cut first entering ready took looked before cs still_nobody new.holders
            end seen_here h
