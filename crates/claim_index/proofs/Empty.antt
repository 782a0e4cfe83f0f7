-- Tables without rows are right for no facts.
use Rattle.std.proofs.Common.{◌≡◌, ℕ, Bool, true, false, ◌&&◌, not, cond, List, Option, Some, None, is_some, refl, sym, ap, ◌∙◌, Ordering}
use Rattle.std.proofs.lemmas.Bool.{false≢true}
use Rattle.std.specs.Prelude.{option_and_then}
use Rattle.std.specs.List.{list_any}
use Rattle.std.specs.Str.{bytes_eq}
use Rattle.std.specs.FinMap.{FinMap, get, contains_key, empty, get-empty}
use Rattle.claim_verify.specs.Verifier.{Accepts}
use Rattle.schema_fact.specs.declared.kinds.Fact.{Fact}
use Rattle.schema_fact.specs.Dependencies.{dependencies}
use Rattle.schema_date.specs.declared.date.When.TheVariants.{Always}
use Rattle.claim_model.specs.Facts.{Facts, passes, is_permanode}
use Rattle.claim_model.specs.Genuine.{is_signed, is_genuine}
use Rattle.claim_model.specs.Ready.{is_ready}
use Rattle.index_rows.specs.Changes.{Changes}
use Rattle.index_rows.specs.Deletes.{Deletes, row_deleted}
use Rattle.index_rows.specs.States.{States, says_genuine}
use Rattle.index_rows.specs.Values.{row_values}
use Rattle.index_rows.specs.Holders.{Holders}
use Rattle.index_rows.specs.Waiting.{Waiters, IsWaiting, arrived}
use Rattle.index_rows.proofs.Arrived.{get-arrived}
use Rattle.index_rows.specs.Counted.{IsCounted}
use Rattle.index_meaning.specs.Meaning.{IsAtRest, delete_date, is_change_on}

module _ {K X : Type 0} {R : K → K → Ordering} (m : FinMap R X) (is : m ≡ empty) where
  none : (k : K) → get m k ≡ None
  none k = ap (λ (n : FinMap R X). get n k) is ∙ get-empty R k

  lacks : (k : K) → contains_key m k ≡ false
  lacks k = ap is_some (none k)

  no_row : {P : Type 0} (k : K) → contains_key m k ≡ true → P
  no_row k h = absurd (false≢true (sym (lacks k) ∙ h))

  nothing : {P : Type 0} (k : K) (x : X) → get m k ≡ Some x → P
  nothing k x h = absurd (let e : None ≡ Some x = sym (none k) ∙ h in cc e)

and_false : (b : Bool) → (b && false) ≡ false
and_false true = refl
and_false false = refl

no_value : {A : Type 0} (b : Bool) (o : Option A) → b ≡ false → cond b o None ≡ None
no_value true o h = absurd (false≢true (sym h))
no_value false o h = refl

module _ (accepts : Accepts) (facts : Facts) (state : States) (waiters : Waiters) (deletes : Deletes)
    (changes : Changes) (holders : Holders)
    (no_facts : facts ≡ empty) (no_state : state ≡ empty) (no_waiters : waiters ≡ empty)
    (no_deletes : deletes ≡ empty) (no_changes : changes ≡ empty) (no_holders : holders ≡ empty) where
  not_genuine : (r : List ℕ) → is_genuine facts accepts r ≡ false
  not_genuine r = ap (λ b. is_ready facts r && b) (ap (passes (is_signed facts accepts)) (none facts no_facts r))
      ∙ and_false (is_ready facts r)

  none_arrived : (r : List ℕ) → get (arrived facts state) r ≡ None
  none_arrived r = get-arrived facts state r ∙ ap (λ b. cond b (get facts r) None) (lacks state no_state r)

  waiting : IsWaiting facts state waiters
  waiting = record {
    known = λ y h. no_row state no_state y h;
    ready = λ y row h. nothing state no_state y row h;
    zero = λ y row h. nothing state no_state y row h;
    missing = λ y row h. nothing state no_state y row h;
    rows = λ d y. lacks waiters no_waiters (d, y)
        ∙ sym (ap (λ b. b
        && not (is_ready (arrived facts state) d))
        (ap (passes (λ (fact : Fact). list_any (bytes_eq d) (dependencies fact))) (none_arrived y)));
  }

  counted : IsCounted facts deletes state
  counted = record {
    ringless = λ x d date h. nothing deletes no_deletes (x, d) date h;
    arrived = record {
      target = λ x d h. no_row deletes no_deletes (x, d) h;
      claim = λ x d h. no_row deletes no_deletes
          (x, d) h;
    };
    counts = λ y row h. nothing state no_state y row h;
  }

  pub rest_empty : IsAtRest facts accepts state waiters deletes changes holders
  rest_empty = record {
    waiting = waiting;
    counted = counted;
    arrived = λ y. lacks state no_state y ∙ sym (lacks facts no_facts y);
    judged = record { genuine = λ y row h. nothing state no_state y row h; sound = λ y row h. nothing state no_state y row h };
    deleted = λ x d. none deletes no_deletes (x, d)
        ∙ sym (no_value (is_genuine facts accepts d) (option_and_then (λ fact. delete_date x fact.kind) (get facts d))
        (not_genuine d));
    changed = λ p k. lacks changes no_changes (p, k)
        ∙ sym (ap (λ b. (b && passes (λ fact. is_change_on p k fact.kind) (get facts k.1))
        && not false) (not_genuine k.1));
    held = record {
      held = λ name value p h. lacks holders no_holders (name, value, p)
          ∙ sym (ap (λ b. ((b && says_genuine state p) && not (row_deleted facts deletes Always p))
          && list_any (bytes_eq value) (row_values facts deletes changes Always p name))
          (ap (passes (λ (fact : Fact). is_permanode fact.kind)) (none facts no_facts p)));
      times = λ name value p n h e.
          absurd (false≢true (sym (lacks holders no_holders (name, value, p)) ∙ ap is_some e));
      permanode = λ name value p h. no_row holders no_holders (name, value, p) h;
      given = λ name value p h. no_row holders no_holders (name, value, p) h;
    };
  }
