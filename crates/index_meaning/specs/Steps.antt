-- What the tables still mean while an index takes up added facts. Between the steps some work is left to do.
use Rattle.std.specs.Prelude.{◌≡◌, ℕ, ℤ, ◌||◌, Bool, true, false, List, [], Some, None, option_map, if◌then◌else◌}
use Rattle.std.specs.Option.{option_map_or}
use Rattle.std.specs.List.{list_any}
use Rattle.std.specs.Str.{bytes_eq}
use Rattle.std.specs.FinMap.{get, insert, contains_key}
use Rattle.claim_verify.specs.Verifier.{Accepts}
use Rattle.schema_date.specs.declared.date.When.{When}
use Rattle.claim_model.specs.Facts.{Facts, passes}
use Rattle.claim_model.specs.Ready.{is_ready}
use Rattle.claim_model.specs.Least.{IsWithin, passes_or_in}
use Rattle.claim_model.specs.Genuine.{is_genuine}
use Rattle.claim_model.specs.Claims.{Moment}
use Rattle.index_rows.specs.declared.rows.StateRow.{StateRow}
use Rattle.index_rows.specs.Changes.{Changes}
use Rattle.index_rows.specs.Deletes.{Deletes, IsDelete, Ringless, row_deleted}
use Rattle.index_rows.specs.States.{States, says_genuine}
use Rattle.index_rows.specs.Waiting.{Waiters, arrived, IsWaiting}
use Rattle.index_rows.specs.Once.{AreNew}
use Rattle.index_rows.specs.Counted.{IsCounted}
use Rattle.index_rows.specs.Values.{IsListed}
use Rattle.index_rows.specs.Holders.{Holders, IsHeldBut}
use Rattle.index_meaning.specs.Meaning.{IsChangesOf, IsJudged, genuine_delete}
use Rattle.index_meaning.specs.Laws.{IsUnconcerned}

-- ---- more facts

-- if more refs have arrived, so have more facts
abbrev pub ArrivedGrows : Type 0
ArrivedGrows = (facts : Facts) (before after : States)
    → ((y : List ℕ) → contains_key before y ≡ true → contains_key after y ≡ true)
    → IsWithin (arrived facts before) (arrived facts after)

-- facts that were added haven't arrived
abbrev pub ArrivedStays : Type 0
ArrivedStays = (facts more : Facts) (state : States) → IsWithin facts more
    → ((y : List ℕ) → contains_key state y ≡ true → contains_key facts y ≡ true)
    → arrived more state ≡ arrived facts state

-- each ref that has arrived has a fact that has
abbrev pub ArrivedIsKnown : Type 0
ArrivedIsKnown = (facts : Facts) (state : States)
    → ((y : List ℕ) → contains_key state y ≡ true → contains_key facts y ≡ true)
    → (y : List ℕ) → contains_key state y ≡ contains_key (arrived facts state) y

-- if each ref with a fact has arrived, all facts have
abbrev pub AllHaveArrived : Type 0
AllHaveArrived = (facts : Facts) (state : States) → ((y : List ℕ) → contains_key state y ≡ contains_key facts y)
    → arrived facts state ≡ facts

-- the refs that wait continue to wait
abbrev pub WaitingStays : Type 0
WaitingStays = (facts more : Facts) (state : States) (waiters : Waiters) → IsWithin facts more
    → IsWaiting facts state waiters → IsWaiting more state waiters

-- rows of ready delete claims are still that with more facts
abbrev pub RowsStayRingless : Type 0
RowsStayRingless = (facts more : Facts) (deletes : Deletes) → IsWithin facts more → Ringless facts deletes
    → Ringless more deletes

-- and delete the same refs
abbrev pub RowDeletionStays : Type 0
RowDeletionStays = (facts more : Facts) (deletes : Deletes) → IsWithin facts more → Ringless facts deletes
    → (when : When) (x : List ℕ) → row_deleted more deletes when x ≡ row_deleted facts deletes when x

-- facts and rows of changes were added, and the refs that the rows call genuine are kept
pub record IsGrown (facts more : Facts) (before after : States) (changes listed : Changes) : Type 0 where
  pub within : IsWithin facts more
  pub genuine : (y : List ℕ) → says_genuine before y ≡ true → says_genuine after y ≡ true
  pub rows : (p : List ℕ) (k : Moment) → contains_key changes (p, k) ≡ true → contains_key listed (p, k) ≡ true

-- the rows of holders are as right as before, except for the permanodes that are concerned
abbrev pub HeldStays : Type 0
HeldStays = (but concerned : List (List ℕ)) (facts more : Facts) (before after : States) (deletes entered : Deletes)
    (changes listed : Changes) (holders : Holders)
    → IsHeldBut but facts before deletes changes holders → IsListed facts before changes
    → IsGrown facts more before after changes listed
    → ((q : List ℕ) → list_any (bytes_eq q) concerned ≡ false → list_any (bytes_eq q) but ≡ false)
    → ((q : List ℕ) → list_any (bytes_eq q) concerned ≡ false
    → IsUnconcerned facts more before after deletes entered changes listed q)
    → IsHeldBut concerned more after entered listed holders

-- each row counts what it did before, and a new row nothing
pub record CountsAsBefore (before after : States) : Type 0 where
  pub stays : (y : List ℕ) → contains_key before y ≡ true → contains_key after y ≡ true
  pub deleters : (y : List ℕ) (row : StateRow) → get after y ≡ Some row
      → row.deleters ≡ option_map_or (λ r. r.deleters) (get before y) 0

-- and says of its ref what it did before, and a new row nothing
pub record IsAsBefore (before after : States) : Type 0 where
  pub counts : CountsAsBefore before after
  pub genuine : (y : List ℕ) (row : StateRow) → get after y ≡ Some row
      → row.genuine ≡ passes (λ r. r.genuine) (get before y)
  pub sound : (y : List ℕ) (row : StateRow) → get after y ≡ Some row → row.sound ≡ passes (λ r. r.sound) (get before y)

-- nothing changed
abbrev pub RowsAreAsBefore : Type 0
RowsAreAsBefore = (state : States) → IsAsBefore state state

-- the columns of a row that say nothing of readiness
abbrev pub beside_readiness : StateRow → Bool × Bool × ℕ
beside_readiness row = (row.genuine, row.sound, row.deleters)

-- one ref has arrived
abbrev pub OneHasArrived : Type 0
OneHasArrived = (r : List ℕ) (before after : States) → get before r ≡ None
    → ((y : List ℕ) → contains_key after y ≡ (bytes_eq y r || contains_key before y))
    → ((y : List ℕ) → bytes_eq y r ≡ false
    → option_map beside_readiness (get after y) ≡ option_map beside_readiness (get before y))
    → option_map beside_readiness (get after r) ≡ Some (false, false, 0)
    → IsAsBefore before after

-- the counts stay right
abbrev pub CountedStays : Type 0
CountedStays = (facts more : Facts) (deletes : Deletes) (before after : States) → IsWithin facts more
    → ((y : List ℕ) → contains_key before y ≡ true → contains_key facts y ≡ true) → CountsAsBefore before after
    → IsCounted facts deletes before → IsCounted more deletes after

-- each row of `changes` is still that of a change of a genuine claim
abbrev pub RowsStayListed : Type 0
RowsStayListed = (facts more : Facts) (before after : States) (changes : Changes) → IsWithin facts more
    → ((y : List ℕ) → says_genuine before y ≡ true → says_genuine after y ≡ true)
    → IsListed facts before changes → IsListed more after changes

-- and if nothing else changed, the rows of holders are as right as before
abbrev pub HeldStaysWithFacts : Type 0
HeldStaysWithFacts = (but : List (List ℕ)) (facts more : Facts) (before after : States) (deletes : Deletes)
    (changes : Changes) (holders : Holders) → IsWithin facts more
    → Ringless facts deletes → IsListed facts before changes
    → ((y : List ℕ) → contains_key before y ≡ true → contains_key facts y ≡ true) → IsAsBefore before after
    → IsHeldBut but facts before deletes changes holders → IsHeldBut but more after deletes changes holders

-- ---- the refs that became ready are left to be judged

-- facts were added, and `order` has exactly the refs that became ready, each once
pub record BecomesReady (facts more : Facts) (order : List (List ℕ)) : Type 0 where
  pub within : IsWithin facts more
  pub ready : (y : List ℕ) → is_ready more y ≡ passes_or_in (is_ready facts) order y
  pub once : AreNew (is_ready facts) [] order

abbrev pub JudgedIsLeft : Type 0
JudgedIsLeft = (facts more : Facts) (accepts : Accepts) (order : List (List ℕ)) (before after : States)
    → BecomesReady facts more order
    → ((y : List ℕ) → contains_key before y ≡ contains_key facts y) → IsJudged facts accepts [] before
    → IsAsBefore before after
    → IsJudged more accepts order after

abbrev pub ChangesAreLeft : Type 0
ChangesAreLeft = (facts more : Facts) (accepts : Accepts) (order : List (List ℕ)) (changes : Changes)
    → BecomesReady facts more order
    → IsChangesOf facts accepts [] changes → IsChangesOf more accepts order changes

-- the row of a ref that is left doesn't say that it is genuine
abbrev pub LeftSaysNothing : Type 0
LeftSaysNothing = (judging : List (List ℕ)) (facts : Facts) (accepts : Accepts) (state : States)
    → IsJudged facts accepts judging state
    → (x : List ℕ) → list_any (bytes_eq x) judging ≡ true → says_genuine state x ≡ false

-- ---- delete claims are left to be entered

-- the rows are those of the genuine delete claims, except for some that weren't entered yet. If none of these is left,
-- this is `IsDeletesOf`
abbrev pub IsDeletesBut : List (List ℕ) → Facts → Accepts → Deletes → Type 0
IsDeletesBut left facts accepts deletes = (x d : List ℕ)
    → get deletes (x, d) ≡ (if list_any (bytes_eq d) left then None else genuine_delete facts accepts x d)

-- the refs that became ready are left too
abbrev pub DeletesAreLeft : Type 0
DeletesAreLeft = (left wider : List (List ℕ)) (facts more : Facts) (accepts : Accepts) (order : List (List ℕ))
    (deletes : Deletes) → BecomesReady facts more order
    → ((d : List ℕ) → list_any (bytes_eq d) wider ≡ (list_any (bytes_eq d) left || list_any (bytes_eq d) order))
    → IsDeletesBut left facts accepts deletes → IsDeletesBut wider more accepts deletes

-- a ref that isn't a genuine delete claim needn't be entered
abbrev pub FewerAreLeft : Type 0
FewerAreLeft = (left fewer : List (List ℕ)) (facts : Facts) (accepts : Accepts) (deletes : Deletes)
    → IsDeletesBut left facts accepts deletes
    → ((d : List ℕ) → list_any (bytes_eq d) fewer ≡ true → list_any (bytes_eq d) left ≡ true)
    → ((x d : List ℕ) → list_any (bytes_eq d) left ≡ true → list_any (bytes_eq d) fewer ≡ false
    → genuine_delete facts accepts x d ≡ None)
    → IsDeletesBut fewer facts accepts deletes

-- one that was entered is no longer left
abbrev pub OneLessIsLeft : Type 0
OneLessIsLeft = (left fewer : List (List ℕ)) (facts : Facts) (accepts : Accepts) (deletes : Deletes) (x d : List ℕ)
    (date : ℤ) → IsDeletesBut left facts accepts deletes
    → ((e : List ℕ) → list_any (bytes_eq e) left ≡ (bytes_eq e d || list_any (bytes_eq e) fewer))
    → list_any (bytes_eq d) fewer ≡ false
    → IsDelete facts x d date → is_genuine facts accepts d ≡ true
    → IsDeletesBut fewer facts accepts (insert deletes (x, d) date)

-- one that is left has no row yet, and it and its target have arrived
pub record IsLeftToEnter (deletes : Deletes) (state : States) (x d : List ℕ) : Type 0 where
  pub target : contains_key state x ≡ true
  pub claim : contains_key state d ≡ true
  pub new : get deletes (x, d) ≡ None

abbrev pub LeftIsNew : Type 0
LeftIsNew = (left : List (List ℕ)) (facts : Facts) (accepts : Accepts) (state : States) (deletes : Deletes)
    (x d : List ℕ)
    (date : ℤ) → IsDeletesBut left facts accepts deletes
    → ((y : List ℕ) → contains_key facts y ≡ true → contains_key state y ≡ true)
    → list_any (bytes_eq d) left ≡ true → IsDelete facts x d date → IsLeftToEnter deletes state x d
