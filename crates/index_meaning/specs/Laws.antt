-- What the tables say, by the definitions.
use Rattle.std.specs.Prelude.{◌≡◌, ℕ, true, List, []}
use Rattle.std.specs.List.{list_any}
use Rattle.std.specs.Str.{bytes_eq}
use Rattle.std.specs.FinMap.{get, contains_key}
use Rattle.claim_verify.specs.Verifier.{Accepts}
use Rattle.schema_date.specs.declared.date.When.{When}
use Rattle.schema_date.specs.declared.date.When.TheVariants.{Always}
use Rattle.claim_model.specs.Facts.{Facts, passes}
use Rattle.claim_model.specs.Ready.{is_ready}
use Rattle.claim_model.specs.Trees.{is_sound_tree}
use Rattle.claim_model.specs.Least.{IsWithin}
use Rattle.claim_model.specs.Genuine.{is_genuine, is_genuine_permanode}
use Rattle.claim_model.specs.Deleted.{is_deleted}
use Rattle.claim_model.specs.Claims.{Moment, values, last_change, holders}
use Rattle.index_rows.specs.Changes.{Changes}
use Rattle.index_rows.specs.Deletes.{Deletes, Ringless, row_deleted}
use Rattle.index_rows.specs.States.{States, says_genuine}
use Rattle.index_rows.specs.Waiting.{Waiters}
use Rattle.index_rows.specs.Counted.{is_gone}
use Rattle.index_rows.specs.Values.{IsListed, row_values, row_last_change}
use Rattle.index_rows.specs.Holders.{Holders, rows_holding, says_permanode, row_holds}
use Rattle.index_meaning.specs.Meaning.{IsDeletesOf, IsChangesOf, IsJudged, IsAtRest}

-- the rows of `state` say whether each ref is ready, genuine and sound, and their counts whether it is deleted
pub record TellStates (facts : Facts) (accepts : Accepts) (state : States) : Type 0 where
  pub ready : (y : List ℕ) → passes (λ row. row.ready) (get state y) ≡ is_ready facts y
  pub genuine : (y : List ℕ) → says_genuine state y ≡ is_genuine facts accepts y
  pub sound : (y : List ℕ) → passes (λ row. row.sound) (get state y) ≡ is_sound_tree facts y
  pub deleted : (y : List ℕ) → is_gone facts state y ≡ is_deleted facts accepts Always y

abbrev pub RowsTellStates : Type 0
RowsTellStates = (facts : Facts) (accepts : Accepts) (state : States) (waiters : Waiters) (deletes : Deletes)
    (changes : Changes) (rows : Holders)
    → IsAtRest facts accepts state waiters deletes changes rows → TellStates facts accepts state

-- the rows of genuine delete claims are of ready ones
abbrev pub RowsAreRingless : Type 0
RowsAreRingless = (facts : Facts) (accepts : Accepts) (deletes : Deletes) → IsDeletesOf facts accepts deletes
    → Ringless facts deletes

-- and the refs that they delete are those that are deleted
abbrev pub RowsTellDeletion : Type 0
RowsTellDeletion = (facts : Facts) (accepts : Accepts) (deletes : Deletes) → IsDeletesOf facts accepts deletes
    → (when : When) (x : List ℕ) → row_deleted facts deletes when x ≡ is_deleted facts accepts when x

-- the rows of a genuine permanode give its values
abbrev pub RowsTellValues : Type 0
RowsTellValues = (facts : Facts) (accepts : Accepts) (deletes : Deletes) (changes : Changes)
    → IsDeletesOf facts accepts deletes → IsChangesOf facts accepts [] changes
    → (when : When) (p name : List ℕ) → is_genuine_permanode facts accepts p ≡ true
    → row_values facts deletes changes when p name ≡ values facts accepts when p name

-- and the date of its last change
abbrev pub RowsTellLastChange : Type 0
RowsTellLastChange = (facts : Facts) (accepts : Accepts) (deletes : Deletes) (changes : Changes)
    → IsDeletesOf facts accepts deletes → IsChangesOf facts accepts [] changes
    → (when : When) (p : List ℕ) → is_genuine_permanode facts accepts p ≡ true
    → row_last_change facts deletes changes when p ≡ last_change facts accepts when p

-- the rows of a value of an attribute are those of its holders
abbrev pub RowsTellHolders : Type 0
RowsTellHolders = (facts : Facts) (accepts : Accepts) (state : States) (waiters : Waiters) (deletes : Deletes)
    (changes : Changes) (rows : Holders)
    → IsAtRest facts accepts state waiters deletes changes rows
    → (name value : List ℕ) → rows_holding rows name value ≡ holders facts accepts name value

-- each of these rows is therefore that of a holder, and each holder has one
abbrev pub RowIsOfHolder : Type 0
RowIsOfHolder = (facts : Facts) (accepts : Accepts) (state : States) (waiters : Waiters) (deletes : Deletes)
    (changes : Changes) (rows : Holders)
    → IsAtRest facts accepts state waiters deletes changes rows
    → (name value p : List ℕ) → contains_key rows (name, value, p)
    ≡ list_any (bytes_eq p) (holders facts accepts name value)

-- q is a genuine permanode exactly if it was one before, and then everything that decides its values is unchanged
pub record IsUnconcerned (facts more : Facts) (before after : States) (deletes entered : Deletes)
    (changes listed : Changes) (q : List ℕ) : Type 0 where
  pub permanode : says_permanode more after q ≡ says_permanode facts before q
  pub deleted : says_permanode facts before q ≡ true
      → row_deleted more entered Always q ≡ row_deleted facts deletes Always q
  pub group : says_permanode facts before q ≡ true → (k : Moment)
      → contains_key listed (q, k) ≡ contains_key changes (q, k)
  pub claims : says_permanode facts before q ≡ true → (k : Moment) → contains_key changes (q, k) ≡ true
      → row_deleted more entered Always k.1 ≡ row_deleted facts deletes Always k.1

-- then it has the values that it had
abbrev pub UnconcernedStay : Type 0
UnconcernedStay = (facts more : Facts) (before after : States) (deletes entered : Deletes) (changes listed : Changes)
    (q : List ℕ)
    → IsWithin facts more → IsListed facts before changes
    → IsUnconcerned facts more before after deletes entered changes listed q
    → (name value : List ℕ) → row_holds more after entered listed name value q
    ≡ row_holds facts before deletes changes name value q

-- each of the rows of changes of genuine claims is that of a claim whose row says that it is genuine
abbrev pub RowsAreListed : Type 0
RowsAreListed = (facts : Facts) (accepts : Accepts) (left : List (List ℕ)) (state : States) (changes : Changes)
    → ((y : List ℕ) → contains_key state y ≡ contains_key facts y) → IsJudged facts accepts left state
    → IsChangesOf facts accepts left changes
    → IsListed facts state changes
