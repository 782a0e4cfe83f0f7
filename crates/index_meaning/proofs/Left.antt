-- What is left to be judged, and to be entered.
use Rattle.std.proofs.Common.{◌≡◌, ℕ, ℤ, Bool, true, false, not, ◌&&◌, ◌||◌, cond, List, [], ◌∷◌, ◌++◌, Option, None, Some, option_and_then, ◌⊎◌, inl, inr, refl, sym, ap, ◌∙◌, Ordering, is_some}
use Rattle.std.proofs.lemmas.Bool.{false≢true, or_cases, or_parts}
use Rattle.std.proofs.lemmas.Map.Text.{is_eq-slice_cmp}
use Rattle.std.proofs.lemmas.Slice.Eq.{bytes_eq-Decides}
use Rattle.std.specs.declared.cmp.Ordering.TheVariants.{Less, Equal, Greater}
use Rattle.std.specs.List.{list_any}
use Rattle.std.specs.Ordering.{is_eq, ordering_then}
use Rattle.std.specs.Str.{bytes_eq}
use Rattle.std.specs.FinMap.{get, contains_key, insert, get-insert}
use Rattle.blobref.specs.Blobref.{ref_cmp}
use Rattle.claim_verify.specs.Verifier.{Accepts}
use Rattle.schema_fact.specs.declared.kinds.Fact.{Fact}
use Rattle.claim_model.specs.Facts.{Facts, passes}
use Rattle.claim_model.specs.Ready.{is_ready}
use Rattle.claim_model.specs.Genuine.{is_genuine, is_signed}
use Rattle.claim_model.specs.Trees.{is_sound_tree, parts_fit}
use Rattle.claim_model.specs.Claims.{Moment}
use Rattle.claim_model.proofs.Stays.{genuine_stays, soundness_stays}
use Rattle.claim_model.proofs.Soundness.{soundness_is_settled}
use Rattle.index_rows.specs.declared.rows.StateRow.{StateRow}
use Rattle.index_rows.specs.Deletes.{Deletes, IsDelete}
use Rattle.index_rows.specs.States.{States}
use Rattle.index_rows.specs.Once.{AreNew}
use Rattle.index_rows.proofs.Orders.{pair_total}
use Rattle.index_meaning.specs.Meaning.{IsJudged, delete_date, genuine_delete, is_change_on, genuine_change}
use Rattle.index_meaning.specs.Steps.{BecomesReady, IsAsBefore, JudgedIsLeft, LeftSaysNothing, ChangesAreLeft, IsDeletesBut, DeletesAreLeft, FewerAreLeft, OneLessIsLeft, LeftIsNew}
use Rattle.index_meaning.proofs.Said.{and_true, and_false, genuine_said, sound_said}
use Rattle.index_meaning.proofs.Growth.{fact_stays, ready_known, target_known}

or_false : (b : Bool) → (b || false) ≡ b
or_false true = refl
or_false false = refl

unready_genuine : (facts : Facts) (accepts : Accepts) (y : List ℕ) → is_ready facts y ≡ false
    → is_genuine facts accepts y ≡ false
unready_genuine facts accepts y h = ap (λ b. b && passes (is_signed facts accepts) (get facts y)) h

unready_sound : (facts : Facts) (y : List ℕ) → is_ready facts y ≡ false → is_sound_tree facts y ≡ false
unready_sound facts y h = soundness_is_settled facts y
    ∙ ap (λ b. b && passes (parts_fit facts (is_sound_tree facts)) (get facts y)) h

module _ (facts more : Facts) (order : List (List ℕ)) (is : BecomesReady facts more order) where
  -- what became ready wasn't
  fresh : (before rs : List (List ℕ)) → AreNew (is_ready facts) before rs → (y : List ℕ)
      → list_any (bytes_eq y) rs ≡ true → is_ready facts y ≡ false
  fresh before [] new y h = absurd (false≢true h)
  fresh before (r ∷ rs) new y h =
      by (fresh (before ++ r ∷ []) rs new.1 y) (or_cases (bytes_eq y r) (list_any (bytes_eq y) rs) h)
    where
      by : (list_any (bytes_eq y) rs ≡ true → is_ready facts y ≡ false)
          → (bytes_eq y r ≡ true) ⊎ (list_any (bytes_eq y) rs ≡ true) → is_ready facts y ≡ false
      by later (inl here) = ap (is_ready facts) ((bytes_eq-Decides y r).0 here)
          ∙ (or_parts (is_ready facts r) (list_any (bytes_eq r) before) new.0).0
      by later (inr there) = later there

  abbrev in_order : List ℕ → Bool
  in_order y = list_any (bytes_eq y) order

  -- what became ready is left, and of all else a test is as it was, if only what is ready passes it
  module _ {A : Type 0} (none : A) (y : List ℕ) (now then_ : A) (same : is_ready facts y ≡ true → now ≡ then_)
      (never : is_ready facts y ≡ false → then_ ≡ none)
      (never_now : is_ready more y ≡ false → now ≡ none) where
    left : cond (in_order y) none now ≡ then_
    left = by (in_order y) refl
      where
        kept : in_order y ≡ false → (b : Bool) → is_ready facts y ≡ b → now ≡ then_
        kept out true ready = same ready
        kept out false unready =
            never_now (is.ready y ∙ ap (λ b. is_ready facts y || b) out ∙ or_false (is_ready facts y) ∙ unready)
            ∙ sym (never unready)

        by : (b : Bool) → in_order y ≡ b → cond b none now ≡ then_
        by true found = sym (never (fresh [] order is.once y found))
        by false out = kept out (is_ready facts y) refl

  and_not : (b c : Bool) → (b && not c) ≡ cond c false b
  and_not b true = and_false b
  and_not b false = and_true b

  same_fact : (y : List ℕ) → is_ready facts y ≡ true → get more y ≡ get facts y
  same_fact y h = fact_stays facts more is.within y (ready_known facts y h)

  module _ (accepts : Accepts) where
    same_genuine : (y : List ℕ) → is_ready facts y ≡ true → is_genuine more accepts y ≡ is_genuine facts accepts y
    same_genuine = genuine_stays facts more accepts is.within

    left_genuine : (y : List ℕ) → (is_genuine more accepts y && not (in_order y)) ≡ is_genuine facts accepts y
    left_genuine y =
        and_not (is_genuine more accepts y) (in_order y)
        ∙ left false y (is_genuine more accepts y) (is_genuine facts accepts y) (same_genuine y)
        (unready_genuine facts accepts y) (unready_genuine more accepts y)

    left_sound : (y : List ℕ) → (is_sound_tree more y && not (in_order y)) ≡ is_sound_tree facts y
    left_sound y =
        and_not (is_sound_tree more y) (in_order y)
        ∙ left false y (is_sound_tree more y) (is_sound_tree facts y) (soundness_stays facts more is.within y)
        (unready_sound facts y) (unready_sound more y)

    abbrev test : List ℕ → Moment → Option Fact → Bool
    test p k o = passes (λ (fact : Fact). is_change_on p k fact.kind) o

    left_change : (p : List ℕ) (k : Moment)
        → (genuine_change more accepts p k && not (in_order k.1)) ≡ genuine_change facts accepts p k
    left_change p k =
        and_not (genuine_change more accepts p k) (in_order k.1)
        ∙ left false k.1 (genuine_change more accepts p k) (genuine_change facts accepts p k)
        (λ h i. same_genuine k.1 h i && test p k (same_fact k.1 h i))
        (λ h. ap (λ b. b && test p k (get facts k.1)) (unready_genuine facts accepts k.1 h))
        (λ h. ap (λ b. b && test p k (get more k.1)) (unready_genuine more accepts k.1 h))

    abbrev date_of : List ℕ → Option Fact → Option ℤ
    date_of x o = option_and_then (λ (fact : Fact). delete_date x fact.kind) o

    left_delete : (x d : List ℕ) → cond (in_order d) None (genuine_delete more accepts x d)
        ≡ genuine_delete facts accepts x d
    left_delete x d =
        left None d (genuine_delete more accepts x d) (genuine_delete facts accepts x d)
        (λ h i. cond (same_genuine d h i) (date_of x (same_fact d h i)) None)
        (λ h. ap (λ b. cond b (date_of x (get facts d)) None) (unready_genuine facts accepts d h))
        (λ h. ap (λ b. cond b (date_of x (get more d)) None) (unready_genuine more accepts d h))

    module _ (before after : States) (arrived : (y : List ℕ) → contains_key before y ≡ contains_key facts y)
        (judged : IsJudged facts accepts [] before) (says : IsAsBefore before after) where
      judged_left : IsJudged more accepts order after
      judged_left = record {
        genuine = λ y row found. says.genuine y row found ∙ genuine_said facts accepts before arrived judged y
            ∙ sym (left_genuine y);
        sound = λ y row found. says.sound y row found ∙ sound_said facts accepts before arrived judged y
            ∙ sym (left_sound y);
      }

pub judged_is_left : JudgedIsLeft
judged_is_left facts more accepts order before after is arrived judged says =
    judged_left facts more order is accepts before after arrived judged says

pub left_says_nothing : LeftSaysNothing
left_says_nothing judging facts accepts state judged x h = by (get state x) refl
  where
    by : (o : Option StateRow) → get state x ≡ o → passes (λ (row : StateRow). row.genuine) o ≡ false
    by None is = refl
    by (Some row) is =
        judged.genuine x row is ∙ ap (λ b. is_genuine facts accepts x && not b) h
        ∙ and_false (is_genuine facts accepts x)

pub changes_are_left : ChangesAreLeft
changes_are_left facts more accepts order changes is of p k = of p k ∙ and_true (genuine_change facts accepts p k)
    ∙ sym (left_change facts more order is accepts p k)

pub deletes_are_left : DeletesAreLeft
deletes_are_left was_left wider facts more accepts order deletes is both of x d =
    of x d ∙ by (list_any (bytes_eq d) was_left) refl
    ∙ ap (λ b. cond b None (genuine_delete more accepts x d)) (sym (both d))
  where
    by : (b : Bool) → list_any (bytes_eq d) was_left ≡ b
        → cond b None (genuine_delete facts accepts x d)
        ≡ cond (list_any (bytes_eq d) was_left || list_any (bytes_eq d) order) None (genuine_delete more accepts x d)
    by true h = sym (ap (λ b. cond (b || list_any (bytes_eq d) order) None (genuine_delete more accepts x d)) h)
    by false h =
        sym (left_delete facts more order is accepts x d)
        ∙ sym (ap (λ b. cond (b || list_any (bytes_eq d) order) None (genuine_delete more accepts x d)) h)

pub fewer_are_left : FewerAreLeft
fewer_are_left was_left fewer facts accepts deletes of within others x d = of x d
    ∙ by (list_any (bytes_eq d) fewer) refl (list_any (bytes_eq d) was_left) refl
  where
    by : (f : Bool) → list_any (bytes_eq d) fewer ≡ f → (l : Bool) → list_any (bytes_eq d) was_left ≡ l
        → cond l None (genuine_delete facts accepts x d) ≡ cond f None (genuine_delete facts accepts x d)
    by true f true l = refl
    by true f false l = absurd (false≢true (sym l ∙ within d f))
    by false f true l = sym (others x d l f)
    by false f false l = refl

-- ---- a row more

same_pair : (y e x d : List ℕ) → is_eq (ordering_then (ref_cmp y x) (ref_cmp e d)) ≡ (bytes_eq y x && bytes_eq e d)
same_pair y e x d = by (ref_cmp y x) (ref_cmp e d) ∙ (λ i. is_eq-slice_cmp y x i && is_eq-slice_cmp e d i)
  where
    by : (a b : Ordering) → is_eq (ordering_then a b) ≡ (is_eq a && is_eq b)
    by Less b = refl
    by Equal b = refl
    by Greater b = refl

module _ (facts : Facts) (accepts : Accepts) (x d : List ℕ) (date : ℤ) (is : IsDelete facts x d date)
    (genuine : is_genuine facts accepts d ≡ true) where
  -- it deletes x, and nothing else
  own_date : (y : List ℕ) → genuine_delete facts accepts y d ≡ cond (bytes_eq y x) (Some date) None
  own_date y =
      ap (λ b. cond b (option_and_then (λ (fact : Fact). delete_date y fact.kind) (get facts d)) None) genuine
      ∙ ap (option_and_then (λ (fact : Fact). delete_date y fact.kind)) is.found ∙ ap (delete_date y) is.says

  module _ (left fewer : List (List ℕ)) (deletes : Deletes) (of : IsDeletesBut left facts accepts deletes)
      (one : (e : List ℕ) → list_any (bytes_eq e) left ≡ (bytes_eq e d || list_any (bytes_eq e) fewer))
      (once : list_any (bytes_eq d) fewer ≡ false) where
    entered : IsDeletesBut fewer facts accepts (insert deletes (x, d) date)
    entered y e =
        get-insert pair_total deletes (x, d) date (y, e)
        ∙ (λ i. cond (same_pair y e x d i) (Some date) (of y e i))
        ∙ ap (λ l. cond (bytes_eq y x && bytes_eq e d) (Some date) (cond l None (genuine_delete facts accepts y e)))
        (one e)
        ∙ by (bytes_eq e d) refl
      where
        here : (b : Bool) → cond (b && true) (Some date) None ≡ cond b (Some date) None
        here true = refl
        here false = refl

        there : (b : Bool) (o : Option ℤ) → cond (b && false) (Some date) o ≡ o
        there true o = refl
        there false o = refl

        by : (b : Bool) → bytes_eq e d ≡ b
            → cond (bytes_eq y x && b) (Some date) (cond (b || list_any (bytes_eq e) fewer) None
            (genuine_delete facts accepts y e)) ≡ cond (list_any (bytes_eq e) fewer) None
            (genuine_delete facts accepts y e)
        by true same =
            let own : d ≡ e = sym ((bytes_eq-Decides e d).0 same) in
            here (bytes_eq y x) ∙ sym (own_date y) ∙ ap (λ l. cond l None (genuine_delete facts accepts y d)) (sym once)
            ∙ ap (λ r. cond (list_any (bytes_eq r) fewer) None (genuine_delete facts accepts y r)) own
        by false other = there (bytes_eq y x) (cond (list_any (bytes_eq e) fewer) None
            (genuine_delete facts accepts y e))

pub one_less_is_left : OneLessIsLeft
one_less_is_left left fewer facts accepts deletes x d date of one once is genuine =
    entered facts accepts x d date is genuine left fewer deletes of one once

pub left_is_new : LeftIsNew
left_is_new _ facts accepts state deletes x d date of arrived there is = record {
  target = arrived x (target_known facts x d date is);
  claim = arrived d (ap is_some is.found);
  new = of x d ∙ ap (λ b. cond b None (genuine_delete facts accepts x d)) there;
}
