-- Deletion by rows: by the delete claims that have rows.
use Rattle.std.specs.Prelude.{◌≡◌, ◌+◌, ℕ, zero, suc, ◌&&◌, Bool, true, false, not, List, [], ◌∷◌, Option, Some, None, ℤ}
use Rattle.std.specs.List.{list_any}
use Rattle.std.specs.FinMap.{FinMap, get, contains_key, len}
use Rattle.schema_date.specs.declared.date.When.{When}
use Rattle.schema_fact.specs.declared.kinds.Fact.{Fact}
use Rattle.schema_fact.specs.declared.kinds.Signed.{Signed}
use Rattle.schema_fact.specs.declared.kinds.What.{What}
use Rattle.schema_fact.specs.declared.kinds.What.TheVariants.{Set, Add, Del, Delete, Multi}
use Rattle.schema_fact.specs.declared.kinds.Kind.{Kind}
use Rattle.schema_fact.specs.declared.kinds.Kind.TheVariants.{Plain, Key, File, Bytes, Directory, StaticSet, Permanode, Claim, Unread}
use Rattle.claim_model.specs.Facts.{Facts, passes}
use Rattle.claim_model.specs.Ready.{is_ready}
use Rattle.claim_model.specs.Deleted.{counts_at}
use Rattle.claim_model.specs.DeletedBy.{deleted_by}
use Rattle.index_rows.specs.Pairs.{Pair, pair_cmp, group_after}

-- the dates of delete claims, under target and claim
abbrev pub Deletes : Type 0
Deletes = FinMap pair_cmp ℤ

abbrev pub what_target : List ℕ → What → List ℕ
what_target y (Set on attr value) = y
what_target y (Add on attr value) = y
what_target y (Del on attr value) = y
what_target y (Delete target) = target
what_target y (Multi changes) = y

-- the target of a delete claim; for any other ref, the ref itself
abbrev pub kind_target : List ℕ → Kind → List ℕ
kind_target y Plain = y
kind_target y (Key name) = y
kind_target y (File name parts) = y
kind_target y (Bytes parts) = y
kind_target y (Directory name entries) = y
kind_target y (StaticSet members) = y
kind_target y (Permanode signed) = y
kind_target y (Claim signed date what) = what_target y what
kind_target y (Unread name) = y

abbrev pub fact_target : List ℕ → Option Fact → List ℕ
fact_target y None = y
fact_target y (Some fact) = kind_target y fact.kind

abbrev pub target_in : Facts → List ℕ → List ℕ
target_in facts y = fact_target y (get facts y)

abbrev pub what_has_row : Deletes → List ℕ → What → Bool
what_has_row rows d (Set on attr value) = false
what_has_row rows d (Add on attr value) = false
what_has_row rows d (Del on attr value) = false
what_has_row rows d (Delete target) = contains_key rows (target, d)
what_has_row rows d (Multi changes) = false

abbrev pub kind_has_row : Deletes → List ℕ → Kind → Bool
kind_has_row rows d Plain = false
kind_has_row rows d (Key name) = false
kind_has_row rows d (File name parts) = false
kind_has_row rows d (Bytes parts) = false
kind_has_row rows d (Directory name entries) = false
kind_has_row rows d (StaticSet members) = false
kind_has_row rows d (Permanode signed) = false
kind_has_row rows d (Claim signed date what) = what_has_row rows d what
kind_has_row rows d (Unread name) = false

-- whether this is a delete claim that has a row
abbrev pub row_stands : Facts → Deletes → List ℕ → Bool
row_stands facts rows d = passes (λ fact. kind_has_row rows d fact.kind) (get facts d)

-- d is a ready delete claim of this date on x
pub record IsDelete (facts : Facts) (x d : List ℕ) (date : ℤ) : Type 0 where
  pub fact : Fact
  pub signed : Signed
  pub found : get facts d ≡ Some fact
  pub says : fact.kind ≡ Claim signed date (Delete x)
  pub ready : is_ready facts d ≡ true

-- each row is that of a ready delete claim, so no chain of them is a ring
abbrev pub Ringless : Facts → Deletes → Type 0
Ringless facts rows = (x d : List ℕ) (date : ℤ) → get rows (x, d) ≡ Some date → IsDelete facts x d date

-- whether the row counts at that time, and its claim isn't gone
abbrev pub is_live : When → (List ℕ → Bool) → Pair × ℤ → Bool
is_live when gone e = counts_at when e.1 && not (gone e.0.1)

-- whether the group x has such a row, after a claim
abbrev pub any_live : Deletes → When → (List ℕ → Bool) → List ℕ → Option (List ℕ) → Bool
any_live rows when gone x after = list_any (is_live when gone) (group_after rows x after)

abbrev pub total : {A : Type 0} → (A → ℕ) → List A → ℕ
total f [] = 0
total f (x ∷ xs) = f x + total f xs

-- the number of rows of a delete claim, those on it, those on these, and so on, n deep
abbrev pub rows_under : Deletes → ℕ → List ℕ → ℕ
rows_under rows zero d = 1
rows_under rows (suc n) d = suc (total (λ e. rows_under rows n e.0.1) (group_after rows d None))

-- the number of rows of delete claims on x, on these claims, and so on
abbrev pub tree_rows : Facts → Deletes → List ℕ → ℕ
tree_rows facts rows x = total (λ e. rows_under rows (len facts) e.0.1) (group_after rows x None)

-- whether x is deleted, by the delete claims that have rows
abbrev pub row_deleted : Facts → Deletes → When → List ℕ → Bool
row_deleted facts rows when x = deleted_by facts (row_stands facts rows) when x
