-- A delete claim that is entered.
use Rattle.std.specs.Prelude.{◌≡◌, ℕ, true, List, Option, Some, None, ℤ, option_map}
use Rattle.std.specs.List.{list_any}
use Rattle.std.specs.Str.{bytes_eq}
use Rattle.std.specs.FinMap.{get, insert, contains_key}
use Rattle.schema_date.specs.declared.date.When.TheVariants.{Always}
use Rattle.schema_fact.specs.declared.kinds.Fact.{Fact}
use Rattle.schema_fact.specs.declared.kinds.What.{What}
use Rattle.schema_fact.specs.declared.kinds.What.TheVariants.{Set, Add, Del, Delete, Multi}
use Rattle.schema_fact.specs.declared.kinds.Kind.{Kind}
use Rattle.schema_fact.specs.declared.kinds.Kind.TheVariants.{Plain, Key, File, Bytes, Directory, StaticSet, Permanode, Claim, Unread}
use Rattle.claim_model.specs.Facts.{Facts}
use Rattle.index_rows.specs.Deletes.{Deletes, IsDelete, row_deleted, row_stands, target_in}
use Rattle.index_rows.specs.Touched.{targets_from}
use Rattle.index_rows.specs.States.{States}
use Rattle.index_rows.specs.Once.{AreOnce}
use Rattle.index_rows.specs.Counted.{IsCounted}
use Rattle.delete_claims.specs.Flipping.{beside_count, turned}

abbrev pub what_delete : ℤ → What → Option (List ℕ × ℤ)
what_delete date (Set on attr value) = None
what_delete date (Add on attr value) = None
what_delete date (Del on attr value) = None
what_delete date (Delete target) = Some (target, date)
what_delete date (Multi changes) = None

abbrev pub kind_delete : Kind → Option (List ℕ × ℤ)
kind_delete Plain = None
kind_delete (Key name) = None
kind_delete (File name parts) = None
kind_delete (Bytes parts) = None
kind_delete (Directory name entries) = None
kind_delete (StaticSet members) = None
kind_delete (Permanode signed) = None
kind_delete (Claim signed date what) = what_delete date what
kind_delete (Unread name) = None

abbrev pub fact_delete : Option Fact → Option (List ℕ × ℤ)
fact_delete None = None
fact_delete (Some fact) = kind_delete fact.kind

-- the target and the date of a delete claim
abbrev pub delete_in : Facts → List ℕ → Option (List ℕ × ℤ)
delete_in facts d = fact_delete (get facts d)

abbrev pub put_row : Deletes → List ℕ → Option (List ℕ × ℤ) → Deletes
put_row deletes d None = deletes
put_row deletes d (Some found) = insert deletes (found.0, d) found.1

-- the rows with that of d
abbrev pub with_row : Facts → Deletes → List ℕ → Deletes
with_row facts deletes d = put_row deletes d (delete_in facts d)

-- the target of d, and further targets as long as the last one is a delete claim that has a row, counting that of d
abbrev pub entered_targets : Facts → Deletes → List ℕ → List (List ℕ)
entered_targets facts deletes d =
    targets_from facts (row_stands facts (with_row facts deletes d)) (target_in facts d)

-- d is a ready delete claim that has arrived, its target has, and it has no row
pub record IsNewDelete (facts : Facts) (deletes : Deletes) (state : States) (d : List ℕ) : Type 0 where
  pub target : List ℕ
  pub date : ℤ
  pub is : IsDelete facts target d date
  pub target_arrived : contains_key state target ≡ true
  pub arrived : contains_key state d ≡ true
  pub fresh : get deletes (target, d) ≡ None

-- d is entered: the rows before become the rows after
pub record IsEntered (facts : Facts) (deletes deletes' : Deletes) (state state' : States) (d : List ℕ)
    (changed : List (List ℕ)) : Type 0 where
  pub target : List ℕ
  pub date : ℤ
  pub is : IsDelete facts target d date
  -- one row more
  pub row : deletes' ≡ insert deletes (target, d) date
  -- the counts are right again, and nothing else of `state` changed
  pub counted : IsCounted facts deletes' state'
  pub kept : (y : List ℕ) → option_map beside_count (get state' y) ≡ option_map beside_count (get state y)
  -- `changed` has exactly the refs that are now deleted and weren't, or were and aren't, each once
  pub turns : (y : List ℕ) → row_deleted facts deletes' Always y
      ≡ turned (row_deleted facts deletes Always y) (list_any (bytes_eq y) changed)
  pub once : AreOnce changed
