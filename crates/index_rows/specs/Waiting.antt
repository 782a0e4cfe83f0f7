-- Readiness by rows: which refs are ready, and which wait for which.
use Rattle.std.specs.Prelude.{◌≡◌, ◌==◌, ℕ, ◌&&◌, Bool, true, not, List, Some}
use Rattle.std.specs.List.{list_any}
use Rattle.std.specs.Str.{bytes_eq}
use Rattle.std.specs.FinMap.{FinMap, get, contains_key, entries, retain_keys}
use Rattle.schema_fact.specs.Dependencies.{dependencies}
use Rattle.claim_model.specs.Facts.{Facts, passes}
use Rattle.claim_model.specs.Ready.{is_ready}
use Rattle.index_rows.specs.declared.rows.StateRow.{StateRow}
use Rattle.index_rows.specs.Pairs.{Pair, pair_cmp, number}
use Rattle.index_rows.specs.States.{States}

-- a ref, and a ref that waits for it
abbrev pub Waiters : Type 0
Waiters = FinMap pair_cmp (Unit {0})

-- the facts of the refs that have arrived
abbrev pub arrived : Facts → States → Facts
arrived facts state = retain_keys facts (λ x. contains_key state x)

-- whether y has a fact that depends on d
abbrev pub depends : Facts → List ℕ → List ℕ → Bool
depends facts y d = passes (λ fact. list_any (bytes_eq d) (dependencies fact)) (get facts y)

-- whether this is a row of y as the ref that waits
abbrev pub waits : List ℕ → Pair × Unit {0} → Bool
waits y e = bytes_eq y e.0.1

-- `ready` is readiness among the facts that have arrived; a ref that isn't ready waits for exactly its dependencies
-- that aren't
pub record IsWaiting (facts : Facts) (state : States) (waiters : Waiters) : Type 0 where
  pub known : (y : List ℕ) → contains_key state y ≡ true → contains_key facts y ≡ true
  pub ready : (y : List ℕ) (row : StateRow) → get state y ≡ Some row → row.ready ≡ is_ready (arrived facts state) y
  pub zero : (y : List ℕ) (row : StateRow) → get state y ≡ Some row → row.ready ≡ (row.missing == 0)
  pub missing : (y : List ℕ) (row : StateRow) → get state y ≡ Some row
      → row.missing ≡ number (waits y) (entries waiters)
  pub rows : (d y : List ℕ) → contains_key waiters (d, y)
      ≡ (depends (arrived facts state) y d && not (is_ready (arrived facts state) d))
