-- The facts of the refs that have arrived, as facts and refs are added.
use Rattle.std.proofs.Common.{◌≡◌, ℕ, Bool, true, false, cond, List, Option, None, Some, refl, sym, ap, ◌∙◌, is_some, ◌&&◌, not}
use Rattle.std.proofs.lemmas.Bool.{cond-true}
use Rattle.std.specs.FinMap.{get, contains_key, same_map}
use Rattle.schema_fact.specs.declared.kinds.Fact.{Fact}
use Rattle.claim_model.specs.Facts.{Facts}
use Rattle.claim_model.specs.Ready.{is_ready}
use Rattle.claim_model.specs.Least.{IsWithin}
use Rattle.index_rows.specs.Waiting.{arrived, depends}
use Rattle.index_rows.proofs.Arrived.{get-arrived}
use Rattle.index_rows.proofs.Orders.{ref_total, ref_same}
use Rattle.index_meaning.specs.Steps.{ArrivedGrows, ArrivedStays, ArrivedIsKnown, AllHaveArrived, WaitingStays}
use Rattle.index_meaning.proofs.Growth.{fact_stays}

pub given : {A : Type 0} (b : Bool) (o : Option A) (x : A) → cond b o None ≡ Some x → (b ≡ true) × (o ≡ Some x)
given true o x h = (refl, h)
given false o x h = absurd (let e : None ≡ Some x = h in cc e)

pub arrived_grows : ArrivedGrows
arrived_grows facts before after stays r fact h =
    let parts = given (contains_key before r) (get facts r) fact (sym (get-arrived facts before r) ∙ h) in
    get-arrived facts after r ∙ cond-true (contains_key after r) (get facts r) None (stays r parts.0) ∙ parts.1

pub arrived_stays : ArrivedStays
arrived_stays facts more state within known =
    same_map ref_total ref_same (arrived more state) (arrived facts state)
    (λ y. get-arrived more state y ∙ by y (contains_key state y) (known y) ∙ sym (get-arrived facts state y))
  where
    by : (y : List ℕ) (b : Bool) → (b ≡ true → contains_key facts y ≡ true)
        → cond b (get more y) None ≡ cond b (get facts y) None
    by y true h = fact_stays facts more within y (h refl)
    by y false h = refl

pub arrived_is_known : ArrivedIsKnown
arrived_is_known facts state known y = by (contains_key state y) (known y)
    ∙ sym (ap is_some (get-arrived facts state y))
  where
    by : (b : Bool) → (b ≡ true → contains_key facts y ≡ true) → b ≡ is_some (cond b (get facts y) None)
    by true h = sym (h refl)
    by false h = refl

pub all_have_arrived : AllHaveArrived
all_have_arrived facts state all =
    same_map ref_total ref_same (arrived facts state) facts
    (λ y. get-arrived facts state y ∙ ap (λ b. cond b (get facts y) None) (all y) ∙ by (get facts y))
  where
    by : (o : Option Fact) → cond (is_some o) o None ≡ o
    by None = refl
    by (Some fact) = refl

fact_there : (facts more : Facts) → IsWithin facts more → (y : List ℕ) → contains_key facts y ≡ true
    → contains_key more y ≡ true
fact_there facts more within y h = ap is_some (fact_stays facts more within y h) ∙ h

pub waiting_stays : WaitingStays
waiting_stays facts more state waiters within waiting =
    let same : arrived facts state ≡ arrived more state = sym (arrived_stays facts more state within waiting.known) in
    record {
      known = λ y h. fact_there facts more within y (waiting.known y h);
      ready = λ y row found. waiting.ready y row found ∙ ap (λ (at : Facts). is_ready at y) same;
      zero = waiting.zero;
      missing = waiting.missing;
      rows = λ d y. waiting.rows d y ∙ ap (λ (at : Facts). depends at y d && not (is_ready at d)) same;
    }
