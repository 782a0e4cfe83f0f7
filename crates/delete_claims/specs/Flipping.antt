-- The changes that one delete claim more or less on a ref makes, from target to target.
use Rattle.std.specs.Prelude.{◌≡◌, ◌<◌, ◌+◌, ◌-◌, ◌^◌, ◌++◌, ◌==◌, ℕ, suc, Bool, true, false, not, List, Option, Some, None, if◌then◌else◌, option_map}
use Rattle.std.specs.List.{list_any}
use Rattle.std.specs.Str.{bytes_eq}
use Rattle.std.specs.FinMap.{get, insert, contains_key}
use Rattle.schema_fact.specs.declared.kinds.Fact.{Fact}
use Rattle.schema_fact.specs.declared.kinds.Kind.{Kind}
use Rattle.claim_model.specs.Facts.{Facts}
use Rattle.claim_model.specs.Ready.{round, is_ready}
use Rattle.claim_model.specs.Deleted.{can_be_deleted}
use Rattle.index_rows.specs.declared.rows.StateRow.{StateRow}
use Rattle.index_rows.specs.Deletes.{Deletes, Ringless, kind_has_row, kind_target}
use Rattle.index_rows.specs.States.{States}
use Rattle.index_rows.specs.Once.{AreOnce}
use Rattle.index_rows.specs.Counted.{is_gone, live_rows, HaveArrived, IsCounted}

-- the row of a ref with one delete claim more on it that isn't deleted, or one less
abbrev pub recounted : Bool → StateRow → StateRow
recounted up row = record {
  ready = row.ready;
  genuine = row.genuine;
  sound = row.sound;
  missing = row.missing;
  deleters = if up then row.deleters + 1 else row.deleters - 1;
}

-- whether that was the first one, or the last
abbrev pub flips : Bool → StateRow → Bool
flips up row = (recounted up row).deleters == (if up then 1 else 0)

-- the count of a ref can be changed
pub record CanRecount (state : States) (at : List ℕ) (up : Bool) : Type 0 where
  pub row : StateRow
  pub found : get state at ≡ Some row
  pub more : up ≡ true → row.deleters + 1 < 2 ^ 64
  pub less : up ≡ false → 0 < row.deleters

-- the count was changed, and that was the first one, or the last, exactly if `flipped` says so
pub record IsRecounted (old new : States) (at : List ℕ) (up flipped : Bool) : Type 0 where
  pub row : StateRow
  pub found : get old at ≡ Some row
  pub put : new ≡ insert old at (recounted up row)
  pub flips : flipped ≡ flips up row

abbrev pub fact_deletable : Option Fact → Option Kind
fact_deletable None = None
fact_deletable (Some fact) = if can_be_deleted fact.kind then Some fact.kind else None

-- the permanode or the claim under a ref
abbrev pub deletable : Facts → List ℕ → Option Kind
deletable facts y = fact_deletable (get facts y)

-- the target of a delete claim that has a row
abbrev pub row_target : Deletes → List ℕ → Kind → Option (List ℕ)
row_target deletes d kind = if kind_has_row deletes d kind then Some (kind_target d kind) else None

-- the first list is a prefix of the second
abbrev pub IsFront : List (List ℕ) → List (List ℕ) → Type 0
IsFront xs ys = (rest : List (List ℕ)) × (xs ++ rest ≡ ys)

-- `a`, negated if `b`
abbrev pub turned : Bool → Bool → Bool
turned a b = if b then not a else a

-- the columns of a row other than its count
abbrev pub beside_count : StateRow → Bool × Bool × Bool × ℕ
beside_count row = (row.ready, row.genuine, row.sound, row.missing)

-- the counts are right, and `changed` has exactly the refs whose deletion by their counts changed
pub record Flipped (facts : Facts) (deletes : Deletes) (before after : States) (changed : List (List ℕ)) : Type 0 where
  pub counted : IsCounted facts deletes after
  pub kept : (y : List ℕ) → option_map beside_count (get after y) ≡ option_map beside_count (get before y)
  pub turns : (y : List ℕ) → is_gone facts after y ≡ turned (is_gone facts before y) (list_any (bytes_eq y) changed)
  pub once : AreOnce changed

-- a count that is one too low for the delete claims that aren't deleted, or one too high
abbrev pub IsOff : Bool → ℕ → ℕ → Type 0
IsOff true count live = count + 1 ≡ live
IsOff false count live = count ≡ live + 1

-- the counts are right except that of `at`, and `changed` has the refs whose deletion changed on the way there
pub record Flipping (facts : Facts) (deletes : Deletes) (before state : States) (changed : List (List ℕ)) (at : List ℕ)
    (up : Bool) : Type 0 where
  pub ringless : Ringless facts deletes
  pub arrived : HaveArrived deletes state
  pub known : contains_key state at ≡ true
  pub ready : is_ready facts at ≡ true
  pub here : (row : StateRow) → get state at ≡ Some row
      → IsOff up row.deleters (live_rows deletes (is_gone facts state) at)
  pub counts : (y : List ℕ) (row : StateRow) → bytes_eq y at ≡ false → get state y ≡ Some row
      → row.deleters ≡ live_rows deletes (is_gone facts state) y
  pub kept : (y : List ℕ) → option_map beside_count (get state y) ≡ option_map beside_count (get before y)
  pub turns : (y : List ℕ) → is_gone facts state y ≡ turned (is_gone facts before y) (list_any (bytes_eq y) changed)
  pub once : AreOnce changed
  -- each of `changed` is ready in a later round than the ref
  pub later : (y : List ℕ) → list_any (bytes_eq y) changed ≡ true
      → (j : ℕ) → round facts (suc j) y ≡ true → round facts j at ≡ true
