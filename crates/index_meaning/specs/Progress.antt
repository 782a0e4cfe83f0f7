-- An index that takes up added facts: what its tables mean, while some work is left to do.
use Rattle.std.specs.Prelude.{◌≡◌, ℕ, ℤ, ◌||◌, Bool, true, false, not, List, [], None, Some, option_map, if◌then◌else◌}
use Rattle.std.specs.List.{list_any}
use Rattle.std.specs.Str.{bytes_eq}
use Rattle.std.specs.FinMap.{get, insert, empty, contains_key}
use Rattle.claim_verify.specs.Verifier.{Accepts}
use Rattle.schema_date.specs.declared.date.When.TheVariants.{Always}
use Rattle.claim_model.specs.Facts.{Facts}
use Rattle.claim_model.specs.Ready.{is_ready}
use Rattle.claim_model.specs.Least.{IsWithin, passes_or_in}
use Rattle.claim_model.specs.Genuine.{is_genuine}
use Rattle.index_rows.specs.declared.rows.StateRow.{StateRow}
use Rattle.index_rows.specs.Changes.{Changes}
use Rattle.index_rows.specs.Deletes.{Deletes, IsDelete, row_deleted}
use Rattle.index_rows.specs.States.{States}
use Rattle.index_rows.specs.Waiting.{Waiters, arrived, IsWaiting}
use Rattle.index_rows.specs.Once.{AreNew}
use Rattle.index_rows.specs.Counted.{IsCounted}
use Rattle.index_rows.specs.Values.{IsListed}
use Rattle.index_rows.specs.Holders.{Holders, IsHeldBut}
use Rattle.index_meaning.specs.Meaning.{IsChangesOf, IsJudged, IsAtRest}
use Rattle.index_meaning.specs.Steps.{IsDeletesBut, beside_readiness}

-- the tables other than that of holders, while some refs are left to be judged, and some delete claims to be entered.
-- They represent the facts that have arrived
pub record IsTakingUp (judging entering : List (List ℕ)) (facts : Facts) (accepts : Accepts) (state : States)
    (waiters : Waiters) (deletes : Deletes) (changes : Changes) : Type 0 where
  pub waiting : IsWaiting facts state waiters
  pub judged : IsJudged (arrived facts state) accepts judging state
  pub deleted : IsDeletesBut entering (arrived facts state) accepts deletes
  pub changed : IsChangesOf (arrived facts state) accepts judging changes
  pub counted : IsCounted facts deletes state

-- meanwhile each row of `changes` is that of a change of a genuine claim
abbrev pub TakingUpIsListed : Type 0
TakingUpIsListed = (judging entering : List (List ℕ)) (facts : Facts) (accepts : Accepts) (state : States)
    (waiters : Waiters) (deletes : Deletes) (changes : Changes)
    → IsTakingUp judging entering facts accepts state waiters deletes changes → IsListed facts state changes

-- at rest nothing is left
abbrev pub RestIsTakenUp : Type 0
RestIsTakenUp = (facts : Facts) (accepts : Accepts) (state : States) (waiters : Waiters) (deletes : Deletes)
    (changes : Changes) (holders : Holders) → IsAtRest facts accepts state waiters deletes changes holders
    → IsTakingUp [] [] facts accepts state waiters deletes changes

-- and if all facts have arrived, nothing is left and the rows of holders are right, the tables are at rest
abbrev pub TakenUpIsAtRest : Type 0
TakenUpIsAtRest = (facts : Facts) (accepts : Accepts) (state : States) (waiters : Waiters) (deletes : Deletes)
    (changes : Changes) (holders : Holders) → IsTakingUp [] [] facts accepts state waiters deletes changes
    → ((y : List ℕ) → contains_key state y ≡ contains_key facts y)
    → IsHeldBut [] facts state deletes changes holders
    → IsAtRest facts accepts state waiters deletes changes holders

-- tables without rows have taken up the facts that have arrived, which are none
abbrev pub NothingIsTakenUp : Type 0
NothingIsTakenUp = (facts : Facts) (accepts : Accepts) → IsTakingUp [] [] facts accepts empty empty empty empty

-- facts that are added are left to arrive
abbrev pub FactsAreAdded : Type 0
FactsAreAdded = (judging entering : List (List ℕ)) (facts more : Facts) (accepts : Accepts) (state : States)
    (waiters : Waiters) (deletes : Deletes) (changes : Changes) → IsWithin facts more
    → IsTakingUp judging entering facts accepts state waiters deletes changes
    → IsTakingUp judging entering more accepts state waiters deletes changes

-- r arrives, and the refs of `order` become ready
pub record Arrives (facts : Facts) (before after : States) (waiters : Waiters) (r : List ℕ) (order : List (List ℕ)) :
    Type 0 where
  pub absent : get before r ≡ None
  pub waiting : IsWaiting facts after waiters
  pub ready : (y : List ℕ) → is_ready (arrived facts after) y ≡ passes_or_in (is_ready (arrived facts before)) order y
  pub once : AreNew (is_ready (arrived facts before)) [] order
  pub same : (y : List ℕ) → contains_key after y ≡ (bytes_eq y r || contains_key before y)
  pub kept : (y : List ℕ) → bytes_eq y r ≡ false
      → option_map beside_readiness (get after y) ≡ option_map beside_readiness (get before y)
  pub own : option_map beside_readiness (get after r) ≡ Some (false, false, 0)

-- these are left to be judged, and to be entered
abbrev pub OneArrives : Type 0
OneArrives = (entering wider : List (List ℕ)) (facts : Facts) (accepts : Accepts) (before after : States)
    (waiters now : Waiters) (deletes : Deletes) (changes : Changes) (r : List ℕ) (order : List (List ℕ))
    → Arrives facts before after now r order
    → ((d : List ℕ) → list_any (bytes_eq d) wider ≡ (list_any (bytes_eq d) entering || list_any (bytes_eq d) order))
    → IsTakingUp [] entering facts accepts before waiters deletes changes
    → IsTakingUp order wider facts accepts after now deletes changes

-- the columns of a row that judging doesn't write
abbrev pub beside_judgement : StateRow → Bool × ℕ × ℕ
beside_judgement row = (row.ready, row.missing, row.deleters)

-- if judging writes no other column, the ref is no longer left to be judged
abbrev pub OneIsJudged : Type 0
OneIsJudged = (judging left entering : List (List ℕ)) (facts : Facts) (accepts : Accepts) (before after : States)
    (waiters : Waiters) (deletes : Deletes) (changes listed : Changes)
    → ((y : List ℕ) → option_map beside_judgement (get after y) ≡ option_map beside_judgement (get before y))
    → IsJudged (arrived facts before) accepts left after
    → IsChangesOf (arrived facts before) accepts left listed
    → IsTakingUp judging entering facts accepts before waiters deletes changes
    → IsTakingUp left entering facts accepts after waiters deletes listed

-- the columns of a row other than its count
abbrev pub beside_count : StateRow → Bool × Bool × Bool × ℕ
beside_count row = (row.ready, row.genuine, row.sound, row.missing)

-- d, a delete claim on x, is entered. In `state` only counts change, and by that whether the refs of `changed` are
-- deleted
pub record Enters (facts : Facts) (before after : States) (deletes entered : Deletes) (x d : List ℕ) (date : ℤ)
    (changed : List (List ℕ)) : Type 0 where
  pub is : IsDelete facts x d date
  pub row : entered ≡ insert deletes (x, d) date
  pub counted : IsCounted facts entered after
  pub kept : (y : List ℕ) → option_map beside_count (get after y) ≡ option_map beside_count (get before y)
  pub turns : (y : List ℕ) → row_deleted facts entered Always y
      ≡ (if list_any (bytes_eq y) changed then not (row_deleted facts deletes Always y)
      else row_deleted facts deletes Always y)

-- it is no longer left to be entered
abbrev pub OneIsEntered : Type 0
OneIsEntered = (judging entering fewer : List (List ℕ)) (facts : Facts) (accepts : Accepts) (before after : States)
    (waiters : Waiters) (deletes entered : Deletes) (changes : Changes) (x d : List ℕ) (date : ℤ)
    (changed : List (List ℕ)) → Enters facts before after deletes entered x d date changed
    → ((y : List ℕ) → contains_key before y ≡ contains_key facts y) → is_genuine facts accepts d ≡ true
    → ((e : List ℕ) → list_any (bytes_eq e) entering ≡ (bytes_eq e d || list_any (bytes_eq e) fewer))
    → list_any (bytes_eq d) fewer ≡ false
    → IsTakingUp judging entering facts accepts before waiters deletes changes
    → IsTakingUp judging fewer facts accepts after waiters entered changes
