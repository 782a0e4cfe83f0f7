-- What is left is less with each step.
use Rattle.std.proofs.Common.{◌≡◌, ℕ, ℤ, Bool, true, false, not, ◌&&◌, ◌||◌, cond, List, [], Option, None, Some, option_and_then, refl, sym, ap, subst, ◌∙◌, is_some, Ordering}
use Rattle.std.proofs.lemmas.Bool.{false≢true}
use Rattle.std.specs.List.{list_any}
use Rattle.std.specs.Option.{option_map_or}
use Rattle.std.specs.Str.{bytes_eq}
use Rattle.std.specs.FinMap.{get, empty, contains_key, get-empty}
use Rattle.claim_verify.specs.Verifier.{Accepts}
use Rattle.blobref.specs.Blobref.{ref_cmp}
use Rattle.claim_model.specs.Facts.{Facts, passes}
use Rattle.schema_fact.specs.Dependencies.{dependencies}
use Rattle.schema_fact.specs.declared.kinds.Fact.{Fact}
use Rattle.claim_model.specs.Claims.{Moment}
use Rattle.claim_model.specs.Ready.{is_ready}
use Rattle.claim_model.specs.Least.{IsWithin}
use Rattle.claim_model.specs.Genuine.{is_genuine}
use Rattle.index_rows.specs.declared.rows.StateRow.{StateRow}
use Rattle.index_rows.specs.Pairs.{pair_cmp}
use Rattle.index_rows.specs.Changes.{Changes, change_cmp}
use Rattle.index_rows.specs.Deletes.{Deletes}
use Rattle.index_rows.specs.States.{States}
use Rattle.index_rows.specs.Waiting.{Waiters, arrived}
use Rattle.index_rows.proofs.Arrived.{get-arrived, arrived_same}
use Rattle.index_meaning.specs.Meaning.{IsChangesOf, IsJudged, delete_date, genuine_delete, is_change_on, genuine_change}
use Rattle.index_meaning.proofs.Said.{and_false}
use Rattle.index_meaning.specs.Steps.{IsAsBefore, BecomesReady, IsDeletesBut}
use Rattle.index_meaning.specs.Progress.{IsTakingUp, TakingUpIsListed, RestIsTakenUp, TakenUpIsAtRest, NothingIsTakenUp, FactsAreAdded, Arrives, OneArrives, beside_judgement, OneIsJudged, beside_count, Enters, OneIsEntered}
use Rattle.index_meaning.proofs.Keeping.{same_refs, was_row, waiting_kept}
use Rattle.index_meaning.proofs.Arriving.{given, arrived_grows, arrived_stays, arrived_is_known, all_have_arrived, waiting_stays}
use Rattle.index_meaning.proofs.Growth.{rows_stay_listed, rows_are_as_before, one_has_arrived}
use Rattle.index_meaning.proofs.Counts.{counted_stays}
use Rattle.index_meaning.proofs.Listing.{rows_are_listed}
use Rattle.index_meaning.proofs.Left.{judged_is_left, changes_are_left, deletes_are_left, one_less_is_left}

-- what has arrived is part of the facts
within_facts : (facts : Facts) (state : States) → IsWithin (arrived facts state) facts
within_facts facts state r fact h =
    (given (contains_key state r) (get facts r) fact (sym (get-arrived facts state r) ∙ h)).1

pub taking_up_is_listed : TakingUpIsListed
taking_up_is_listed judging entering facts accepts state waiters deletes changes is =
    rows_stay_listed (arrived facts state) facts state state changes (within_facts facts state) (λ y h. h)
    (rows_are_listed (arrived facts state) accepts judging state changes
    (arrived_is_known facts state is.waiting.known) is.judged is.changed)

module _ (judging entering : List (List ℕ)) (facts : Facts) (accepts : Accepts) (state : States) (waiters : Waiters)
    (deletes : Deletes) (changes : Changes) where
  -- what the tables mean, for these facts
  record Means (at : Facts) : Type 0 where
    judged : IsJudged at accepts judging state
    deleted : IsDeletesBut entering at accepts deletes
    changed : IsChangesOf at accepts judging changes

  meaning : IsTakingUp judging entering facts accepts state waiters deletes changes → Means (arrived facts state)
  meaning is = record { judged = is.judged; deleted = is.deleted; changed = is.changed }

pub rest_is_taken_up : RestIsTakenUp
rest_is_taken_up facts accepts state waiters deletes changes holders rest =
    let at_facts : Means [] [] facts accepts state waiters deletes changes facts
    = record { judged = rest.judged; deleted = rest.deleted; changed = rest.changed } in
    let here = subst (Means [] [] facts accepts state waiters deletes changes)
    (sym (all_have_arrived facts state rest.arrived)) at_facts in
    record {
      waiting = rest.waiting;
      judged = here.judged;
      deleted = here.deleted;
      changed = here.changed;
      counted = rest.counted;
    }

pub taken_up_is_at_rest : TakenUpIsAtRest
taken_up_is_at_rest facts accepts state waiters deletes changes holders is all held =
    let there = subst (Means [] [] facts accepts state waiters deletes changes)
    (all_have_arrived facts state all) (meaning [] [] facts accepts state waiters deletes changes is) in
    record {
      arrived = all;
      waiting = is.waiting;
      judged = there.judged;
      deleted = there.deleted;
      changed = there.changed;
      counted = is.counted;
      held = held;
    }

pub facts_are_added : FactsAreAdded
facts_are_added judging entering facts more accepts state waiters deletes changes within is =
    let there = subst (Means judging entering facts accepts state waiters deletes changes)
    (sym (arrived_stays facts more state within is.waiting.known))
    (meaning judging entering facts accepts state waiters deletes changes is) in
    record {
      waiting = waiting_stays facts more state waiters within is.waiting;
      judged = there.judged;
      deleted = there.deleted;
      changed = there.changed;
      counted = counted_stays facts more deletes state state within is.waiting.known (rows_are_as_before state).counts
          is.counted;
    }

-- ---- one arrives

module _ (entering wider : List (List ℕ)) (facts : Facts) (accepts : Accepts) (before after : States)
    (waiters now : Waiters) (deletes : Deletes) (changes : Changes) (r : List ℕ) (order : List (List ℕ))
    (new : Arrives facts before after now r order) where
  as_before : IsAsBefore before after
  as_before = one_has_arrived r before after new.absent new.same new.kept new.own

  becomes : BecomesReady (arrived facts before) (arrived facts after) order
  becomes = record {
    within = arrived_grows facts before after as_before.counts.stays;
    ready = new.ready;
    once = new.once;
  }

  arrives : ((d : List ℕ) → list_any (bytes_eq d) wider
      ≡ (list_any (bytes_eq d) entering || list_any (bytes_eq d) order))
      → IsTakingUp [] entering facts accepts before waiters deletes changes
      → IsTakingUp order wider facts accepts after now deletes changes
  arrives both is = record {
    waiting = new.waiting;
    judged = judged_is_left (arrived facts before) (arrived facts after) accepts order before after becomes
        (arrived_is_known facts before is.waiting.known) is.judged as_before;
    deleted = deletes_are_left entering wider (arrived facts before) (arrived facts after) accepts order deletes becomes
        both is.deleted;
    changed = changes_are_left (arrived facts before) (arrived facts after) accepts order changes becomes is.changed;
    counted = counted_stays facts facts deletes before after (λ y fact h. h) is.waiting.known as_before.counts
        is.counted;
  }

pub one_arrives : OneArrives
one_arrives entering wider facts accepts before after waiters now deletes changes r order new both is =
    arrives entering wider facts accepts before after waiters now deletes changes r order new both is

-- ---- one is judged

pub one_is_judged : OneIsJudged
one_is_judged judging left entering facts accepts before after waiters deletes changes listed kept judged changed is =
    let same = arrived_same facts before after (λ y. sym (same_refs beside_judgement before after kept y)) in
    let here : Means left entering facts accepts after waiters deletes listed (arrived facts before)
    = record { judged = judged; deleted = is.deleted; changed = changed } in
    let there = subst (Means left entering facts accepts after waiters deletes listed) same here in
    record {
      waiting = waiting_kept beside_judgement before after kept facts waiters is.waiting (λ t. t.0) (λ t. t.1)
          (λ row. refl) (λ row. refl);
      judged = there.judged;
      deleted = there.deleted;
      changed = there.changed;
      counted = counted_stays facts facts deletes before after (λ y fact h. h) is.waiting.known
          (record {
            stays = λ y h. same_refs beside_judgement before after kept y ∙ h;
            deleters = λ y row found.
                let old = was_row beside_judgement before after kept y row found in
                ap (λ t. t.2) old.2 ∙ sym (ap (λ o. option_map_or (λ (r : StateRow). r.deleters) o 0) old.1);
          })
          is.counted;
    }

-- ---- one is entered

module _ (judging entering fewer : List (List ℕ)) (facts : Facts) (accepts : Accepts) (before after : States)
    (waiters : Waiters) (deletes entered : Deletes) (changes : Changes) (x d : List ℕ) (date : ℤ)
    (changed : List (List ℕ)) (new : Enters facts before after deletes entered x d date changed)
    (all : (y : List ℕ) → contains_key before y ≡ contains_key facts y) where
  all_after : (y : List ℕ) → contains_key after y ≡ contains_key facts y
  all_after y = same_refs beside_count before after new.kept y ∙ all y

  enters : is_genuine facts accepts d ≡ true
      → ((e : List ℕ) → list_any (bytes_eq e) entering ≡ (bytes_eq e d || list_any (bytes_eq e) fewer))
      → list_any (bytes_eq d) fewer ≡ false
      → IsTakingUp judging entering facts accepts before waiters deletes changes
      → IsTakingUp judging fewer facts accepts after waiters entered changes
  enters genuine one once is =
      let was = subst (Means judging entering facts accepts before waiters deletes changes)
      (all_have_arrived facts before all) (meaning judging entering facts accepts before waiters deletes changes is) in
      let here : Means judging fewer facts accepts after waiters entered changes facts
      = record {
        judged = record {
          genuine = λ y row found.
              let old = was_row beside_count before after new.kept y row found in
              ap (λ t. t.1) old.2 ∙ was.judged.genuine y old.0 old.1;
          sound = λ y row found.
              let old = was_row beside_count before after new.kept y row found in
              ap (λ t. t.2) old.2 ∙ was.judged.sound y old.0 old.1;
        };
        deleted = subst (IsDeletesBut fewer facts accepts) (sym new.row)
            (one_less_is_left entering fewer facts accepts deletes x d date was.deleted one once new.is genuine);
        changed = was.changed;
      } in
      let there = subst (Means judging fewer facts accepts after waiters entered changes)
      (sym (all_have_arrived facts after all_after)) here in
      record {
        waiting = waiting_kept beside_count before after new.kept facts waiters is.waiting (λ t. t.0) (λ t. t.3)
            (λ row. refl) (λ row. refl);
        judged = there.judged;
        deleted = there.deleted;
        changed = there.changed;
        counted = new.counted;
      }

pub one_is_entered : OneIsEntered
one_is_entered judging entering fewer facts accepts before after waiters deletes entered changes x d date changed new all
    genuine one once is =
    enters judging entering fewer facts accepts before after waiters deletes entered changes x d date changed new all
    genuine one once is

-- ---- no rows

no_value : {K X : Type 0} (R : K → K → Ordering) (k : K) (x : X) → get (empty {X = X} {R = R}) k ≡ Some x → ⊥
no_value R k x h = let e : None ≡ Some x = sym (get-empty R k) ∙ h in cc e

no_key : {K : Type 0} (R : K → K → Ordering) (X : Type 0) (k : K) → contains_key (empty {X = X} {R = R}) k ≡ false
no_key R X k = ap is_some (get-empty R k)

module _ (facts : Facts) (accepts : Accepts) where
  abbrev none : Facts
  none = arrived facts empty

  no_fact : (y : List ℕ) → get none y ≡ None
  no_fact y = get-arrived facts empty y ∙ ap (λ b. cond b (get facts y) None) (no_key ref_cmp StateRow y)

  no_delete : (x d : List ℕ) → genuine_delete none accepts x d ≡ None
  no_delete x d = ap (λ o. cond (is_genuine none accepts d)
      (option_and_then (λ (fact : Fact). delete_date x fact.kind) o) None) (no_fact d)
      ∙ neither (is_genuine none accepts d)
    where
      neither : (b : Bool) → ◌≡◌ {A = Option ℤ} (cond b None None) None
      neither true = refl
      neither false = refl

  no_change : (p : List ℕ) (k : Moment) → genuine_change none accepts p k ≡ false
  no_change p k =
      ap (λ o. is_genuine none accepts k.1 && passes (λ (fact : Fact). is_change_on p k fact.kind) o) (no_fact k.1)
      ∙ and_false (is_genuine none accepts k.1)

  nothing : IsTakingUp [] [] facts accepts empty empty empty empty
  nothing = record {
    waiting = record {
      known = λ y h. absurd (false≢true (sym (no_key ref_cmp StateRow y) ∙ h));
      ready = λ y row found. absurd (no_value ref_cmp y row found);
      zero = λ y row found. absurd (no_value ref_cmp y row found);
      missing = λ y row found. absurd (no_value ref_cmp y row found);
      rows = λ d y.
          no_key pair_cmp (Unit {0}) (d, y)
          ∙ sym (ap (λ o. passes (λ (fact : Fact). list_any (bytes_eq d) (dependencies fact)) o
          && not (is_ready none d)) (no_fact y));
    };
    judged = record {
      genuine = λ y row found. absurd (no_value ref_cmp y row found);
      sound = λ y row found. absurd (no_value ref_cmp y row found);
    };
    deleted = λ x d. get-empty pair_cmp (x, d) ∙ sym (no_delete x d);
    changed = λ p k. no_key change_cmp (Unit {0}) (p, k) ∙ sym (ap (λ b. b && true) (no_change p k));
    counted = record {
      ringless = λ x d date found. absurd (no_value pair_cmp (x, d) date found);
      arrived = record {
        target = λ x d h. absurd (false≢true (sym (no_key pair_cmp ℤ (x, d)) ∙ h));
        claim = λ x d h. absurd (false≢true (sym (no_key pair_cmp ℤ (x, d)) ∙ h));
      };
      counts = λ y row found. absurd (no_value ref_cmp y row found);
    };
  }

pub nothing_is_taken_up : NothingIsTakenUp
nothing_is_taken_up = nothing
