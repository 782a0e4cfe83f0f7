-- The values of permanodes, by the rows of changes.
use Rattle.std.specs.Prelude.{◌≡◌, ℕ, ◌&&◌, Bool, true, not, List, map, filter, Option, Some, None, ℤ, slice_get}
use Rattle.std.specs.List.{filter_map, last_or}
use Rattle.std.specs.FinMap.{get, contains_key}
use Rattle.schema_date.specs.declared.date.When.{When}
use Rattle.schema_fact.specs.declared.kinds.Fact.{Fact}
use Rattle.schema_fact.specs.declared.kinds.Signed.{Signed}
use Rattle.schema_fact.specs.declared.kinds.What.{What}
use Rattle.schema_fact.specs.declared.kinds.Kind.TheVariants.{Claim}
use Rattle.claim_model.specs.Facts.{Facts}
use Rattle.schema_fact.specs.declared.changes.Change.{Change}
use Rattle.schema_fact.specs.Changes.{changes_of}
use Rattle.claim_model.specs.Changes.{values_after}
use Rattle.claim_model.specs.Claims.{Moment}
use Rattle.claim_model.specs.Deleted.{counts_at}
use Rattle.index_look.specs.Claims.{change_said}
use Rattle.index_rows.specs.Changes.{Changes, changes_after}
use Rattle.index_rows.specs.Deletes.{Deletes, row_deleted}
use Rattle.index_rows.specs.States.{States, says_genuine}

-- the change of a moment: the one at its place in its claim
abbrev pub change_at : Facts → Moment → Option Change
change_at facts k = change_said facts k.1 k.2

-- whether the claim of a moment counts at that time, and isn't deleted at it
abbrev pub moment_counts : Facts → Deletes → When → Moment → Bool
moment_counts facts deletes when k = counts_at when k.0 && not (row_deleted facts deletes when k.1)

-- the moments of the changes of p that count at that time, in their order
abbrev pub row_moments : Facts → Deletes → Changes → When → List ℕ → List Moment
row_moments facts deletes changes when p =
    filter (moment_counts facts deletes when) (map (λ e. e.0.1) (changes_after changes p None))

-- the values of an attribute of p at that time, by the rows
abbrev pub row_values : Facts → Deletes → Changes → When → List ℕ → List ℕ → List (List ℕ)
row_values facts deletes changes when p name =
    values_after name (filter_map (change_at facts) (row_moments facts deletes changes when p))

-- the date of the last change of p that counts at that time
abbrev pub row_last_change : Facts → Deletes → Changes → When → List ℕ → Option ℤ
row_last_change facts deletes changes when p = last_or None (map (λ k. k.0) (row_moments facts deletes changes when p))

-- p is changed by the claim of that moment, at that place of it, and the claim is genuine
pub record IsChange (facts : Facts) (state : States) (p : List ℕ) (k : Moment) : Type 0 where
  pub fact : Fact
  pub signed : Signed
  pub what : What
  pub change : Change
  pub found : get facts k.1 ≡ Some fact
  pub says : fact.kind ≡ Claim signed k.0 what
  pub place : slice_get (changes_of what) k.2 ≡ Some change
  pub on : change.on ≡ p
  pub genuine : says_genuine state k.1 ≡ true

-- each row is that of a change of a genuine claim
abbrev pub IsListed : Facts → States → Changes → Type 0
IsListed facts state changes =
    (p : List ℕ) (k : Moment) → contains_key changes (p, k) ≡ true → IsChange facts state p k
