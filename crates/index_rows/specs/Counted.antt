-- Deletion by counts: how many delete claims on a ref aren't deleted themselves.
use Rattle.std.specs.Prelude.{◌≡◌, ℕ, ◌&&◌, Bool, true, not, List, Some, nat_lt}
use Rattle.std.specs.Str.{bytes_eq}
use Rattle.std.specs.FinMap.{get, contains_key, entries}
use Rattle.claim_model.specs.Facts.{Facts, passes}
use Rattle.claim_model.specs.Deleted.{can_be_deleted}
use Rattle.index_rows.specs.declared.rows.StateRow.{StateRow}
use Rattle.index_rows.specs.Pairs.{number}
use Rattle.index_rows.specs.Deletes.{Deletes, Ringless}
use Rattle.index_rows.specs.States.{States}

-- whether y is a permanode or a claim
abbrev pub is_deletable : Facts → List ℕ → Bool
is_deletable facts y = passes (λ fact. can_be_deleted fact.kind) (get facts y)

-- whether the row of y counts a delete claim
abbrev pub has_deleters : States → List ℕ → Bool
has_deleters state y = passes (λ row. nat_lt 0 row.deleters) (get state y)

-- whether y is deleted, by its count
abbrev pub is_gone : Facts → States → List ℕ → Bool
is_gone facts state y = is_deletable facts y && has_deleters state y

-- the number of rows of delete claims on y that aren't deleted
abbrev pub live_rows : Deletes → (List ℕ → Bool) → List ℕ → ℕ
live_rows deletes gone y = number (λ e. bytes_eq y e.0.0 && not (gone e.0.1)) (entries deletes)

-- each delete claim that has a row has arrived, and so has its target
pub record HaveArrived (deletes : Deletes) (state : States) : Type 0 where
  pub target : (x d : List ℕ) → contains_key deletes (x, d) ≡ true → contains_key state x ≡ true
  pub claim : (x d : List ℕ) → contains_key deletes (x, d) ≡ true → contains_key state d ≡ true

-- each ref counts the delete claims on it that aren't deleted themselves
pub record IsCounted (facts : Facts) (deletes : Deletes) (state : States) : Type 0 where
  pub ringless : Ringless facts deletes
  pub arrived : HaveArrived deletes state
  pub counts : (y : List ℕ) (row : StateRow) → get state y ≡ Some row
      → row.deleters ≡ live_rows deletes (is_gone facts state) y
