-- The moments of the changes of a permanode, one after another.
use Rattle.std.specs.Prelude.{ℕ, ◌+◌, ◌*◌, List, Option, Some, None, ℤ, if◌then◌else◌}
use Rattle.schema_date.specs.declared.date.When.{When}
use Rattle.schema_fact.specs.declared.kinds.Kind.{Kind}
use Rattle.schema_fact.specs.declared.kinds.Kind.TheVariants.{Plain, Key, File, Bytes, Directory, StaticSet, Permanode}
use Rattle.schema_fact.specs.declared.kinds.Kind.TheVariants.{Claim, Unread}
use Rattle.claim_model.specs.Facts.{Facts}
use Rattle.claim_model.specs.Claims.{Moment}
use Rattle.index_look.specs.Claims.{values_with}
use Rattle.index_rows.specs.Deletes.{Deletes, row_deleted, tree_rows}
use Rattle.index_rows.specs.Values.{change_at}

-- the values after the change of a moment, unless its claim is deleted at that time
abbrev pub moment_values : Facts → Deletes → When → List ℕ → List (List ℕ) → Moment → List (List ℕ)
moment_values facts deletes when name found k =
    if row_deleted facts deletes when k.1 then found else values_with name found (change_at facts k)

-- at most as many steps as a moment takes: one to reach it, one to look up its change, and those to find whether its
-- claim is deleted
abbrev pub moment_steps : Facts → Deletes → Moment → ℕ
moment_steps facts deletes k = 6 + 6 * tree_rows facts deletes k.1

-- the date of a claim
abbrev pub claim_date : Kind → Option ℤ
claim_date Plain = None
claim_date (Key name) = None
claim_date (File name parts) = None
claim_date (Bytes parts) = None
claim_date (Directory name entries) = None
claim_date (StaticSet members) = None
claim_date (Permanode signed) = None
claim_date (Claim signed date what) = Some date
claim_date (Unread name) = None
