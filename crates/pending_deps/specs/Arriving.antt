-- A ref that arrives.
use Rattle.std.specs.Prelude.{◌≡◌, ◌+◌, ◌*◌, ◌≤◌, ℕ, ◌&&◌, ◌||◌, Bool, false, not, List, [], length, Some, None, if◌then◌else◌, option_map}
use Rattle.std.specs.List.{list_any}
use Rattle.std.specs.Str.{bytes_eq}
use Rattle.std.specs.FinMap.{get, contains_key, entries, retain_keys}
use Rattle.schema_fact.specs.declared.kinds.Fact.{Fact}
use Rattle.claim_model.specs.Facts.{Facts, passes}
use Rattle.claim_model.specs.Ready.{is_ready}
use Rattle.claim_model.specs.Least.{passes_or_in, AreReached}
use Rattle.index_rows.specs.Pairs.{number}
use Rattle.index_rows.specs.States.{States}
use Rattle.index_rows.specs.Once.{AreNew}
use Rattle.index_rows.specs.Waiting.{Waiters, waits, arrived, IsWaiting}
use Rattle.index_rows.specs.Touched.{becomes, became, needs_of, namings}
use Rattle.pending_deps.specs.Settling.{others}

-- whether the row of d says that it is ready
abbrev pub says_ready : States → List ℕ → Bool
says_ready state d = passes (λ row. row.ready) (get state d)

-- at most one more row: that r waits for d
pub record HasPut (state : States) (old new : Waiters) (d r : List ℕ) (n : ℕ) : Type 0 where
  pub rows : (e y : List ℕ) → contains_key new (e, y)
      ≡ (contains_key old (e, y) || (bytes_eq y r && bytes_eq e d && not (says_ready state e)))
  pub count : (y : List ℕ) → number (waits y) (entries new)
      ≡ number (waits y) (entries old) + (if bytes_eq y r then n else 0)
  pub one : n ≤ 1

-- a row of r for each of `needs` whose row doesn't say that it is ready
pub record IsEnlisted (state : States) (old new : Waiters) (r : List ℕ) (needs : List (List ℕ)) (n : ℕ) : Type 0 where
  pub rows : (e y : List ℕ) → contains_key new (e, y)
      ≡ (contains_key old (e, y) || (bytes_eq y r && list_any (bytes_eq e) needs && not (says_ready state e)))
  pub count : (y : List ℕ) → number (waits y) (entries new)
      ≡ number (waits y) (entries old) + (if bytes_eq y r then n else 0)
  pub most : n ≤ length needs

-- r has a fact, and hasn't arrived
pub record IsNew (facts : Facts) (state : States) (r : List ℕ) : Type 0 where
  pub fact : Fact
  pub found : get facts r ≡ Some fact
  pub absent : get state r ≡ None

-- the refs that became ready, each after its dependencies
pub record BecameReady (before after : Facts) (order : List (List ℕ)) : Type 0 where
  pub ready : (y : List ℕ) → is_ready after y ≡ passes_or_in (is_ready before) order y
  pub reached : AreReached after (is_ready before) [] order

pub record HasArrived (facts : Facts) (before after : States) (waiters : Waiters) (r : List ℕ)
    (order : List (List ℕ)) : Type 0 where
  -- the rows are right again
  pub waiting : IsWaiting facts after waiters
  pub became : BecameReady (arrived facts before) (arrived facts after) order
  -- each once, and none was ready before
  pub once : AreNew (is_ready (arrived facts before)) [] order
  -- the refs that have arrived are r and those that had before
  pub same : (y : List ℕ) → contains_key after y ≡ (bytes_eq y r || contains_key before y)
  -- the columns of other calls are as before, and empty for r
  pub kept : (y : List ℕ) → bytes_eq y r ≡ false → option_map others (get after y) ≡ option_map others (get before y)
  pub own : option_map others (get after r) ≡ Some (false, false, 0)

-- the facts that have arrived once r has
abbrev pub arrived_with : Facts → States → List ℕ → Facts
arrived_with facts state r = retain_keys facts (λ x. bytes_eq x r || contains_key state x)

-- whether y becomes ready as r arrives
abbrev pub is_freed : Facts → States → List ℕ → List ℕ → Bool
is_freed facts state r y = becomes (is_ready (arrived facts state)) (arrived_with facts state r) y

-- two for r, three for each place at which it depends on a ref, one for each ref that becomes ready, and four for each
-- place at which one depends on such a ref
abbrev pub arrival_steps : Facts → States → List ℕ → ℕ
arrival_steps facts state r =
    2 + 3 * length (needs_of facts r)
    + length (became (is_ready (arrived facts state)) (arrived_with facts state r))
    + 4 * length (namings (arrived_with facts state r) (is_freed facts state r))
