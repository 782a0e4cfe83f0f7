-- What the rows say while refs become ready one after another.
use Rattle.std.specs.Prelude.{◌≡◌, ◌<◌, ◌-◌, ◌==◌, ℕ, ◌&&◌, Bool, true, false, not, List, [], ◌∷◌, ◌++◌, take, Option, Some, None, if◌then◌else◌, option_map}
use Rattle.std.specs.FinMap.{get, contains_key, entries}
use Rattle.claim_model.specs.Facts.{Facts}
use Rattle.claim_model.specs.Least.{passes_or_in, AreReached}
use Rattle.index_rows.specs.declared.rows.StateRow.{StateRow}
use Rattle.index_rows.specs.Pairs.{number}
use Rattle.index_rows.specs.States.{States}
use Rattle.index_rows.specs.Once.{AreNew}
use Rattle.index_rows.specs.Waiting.{Waiters, waits, depends}

abbrev pub row_or_empty : Option StateRow → StateRow
row_or_empty None = record { ready = false; genuine = false; sound = false; missing = 0; deleters = 0 }
row_or_empty (Some row) = row

abbrev pub one_less : StateRow → StateRow
one_less row = record {
  ready = row.missing == 1;
  genuine = row.genuine;
  sound = row.sound;
  missing = row.missing - 1;
  deleters = row.deleters;
}

-- a ref joins the order when its last dependency is removed
abbrev pub order_with : List (List ℕ) → List ℕ → StateRow → List (List ℕ)
order_with order w row = if row.missing == 1 then order ++ w ∷ [] else order

-- w has a row, and a dependency to wait for
pub record HasMissing (state : States) (w : List ℕ) : Type 0 where
  pub row : StateRow
  pub found : get state w ≡ Some row
  pub some : 0 < row.missing

-- each ref that waits has a row, which counts the refs that it waits for
pub record CountsMissing (state : States) (waiters : Waiters) : Type 0 where
  pub known : (d y : List ℕ) → contains_key waiters (d, y) ≡ true → contains_key state y ≡ true
  pub missing : (y : List ℕ) (row : StateRow) → get state y ≡ Some row
      → row.missing ≡ number (waits y) (entries waiters)

-- the other columns of a row, which say nothing of readiness
abbrev pub others : StateRow → Bool × Bool × ℕ
others row = (row.genuine, row.sound, row.deleters)

abbrev pub KeepsOthers : States → States → Type 0
KeepsOthers old new = (y : List ℕ) → option_map others (get new y) ≡ option_map others (get old y)

-- `order` was reached from the refs that were ready before; the waiters of those before the place were updated
pub record Settling (facts : Facts) (old : List ℕ → Bool) (state : States) (waiters : Waiters) (order : List (List ℕ))
    (place : ℕ) : Type 0 where
  pub rows : (d y : List ℕ) → contains_key waiters (d, y)
      ≡ (depends facts y d && not (passes_or_in old (take place order) d))
  pub ready : (y : List ℕ) (row : StateRow) → get state y ≡ Some row → row.ready ≡ passes_or_in old order y
  pub zero : (y : List ℕ) (row : StateRow) → get state y ≡ Some row → row.ready ≡ (row.missing == 0)
  pub reached : AreReached facts old [] order
  pub once : AreNew old [] order
  pub arrived : (y : List ℕ) → contains_key state y ≡ contains_key facts y
