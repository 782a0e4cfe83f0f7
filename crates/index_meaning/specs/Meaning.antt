-- What the tables of an index mean, by the facts and by what keys accept.
use Rattle.std.specs.Prelude.{◌≡◌, ℕ, ◌&&◌, Bool, false, not, List, [], Option, Some, None, ℤ, slice_get, option_and_then, if◌then◌else◌}
use Rattle.std.specs.List.{list_any}
use Rattle.std.specs.Str.{bytes_eq}
use Rattle.std.specs.Ordering.{is_eq, int_cmp}
use Rattle.std.specs.FinMap.{get, contains_key}
use Rattle.claim_verify.specs.Verifier.{Accepts}
use Rattle.schema_fact.specs.declared.kinds.Kind.{Kind}
use Rattle.schema_fact.specs.declared.kinds.Kind.TheVariants.{Plain, Key, File, Bytes, Directory, StaticSet, Permanode, Claim, Unread}
use Rattle.claim_model.specs.Facts.{Facts, passes}
use Rattle.claim_model.specs.Genuine.{is_genuine}
use Rattle.claim_model.specs.Deleted.{what_deletes}
use Rattle.claim_model.specs.Trees.{is_sound_tree}
use Rattle.schema_fact.specs.Changes.{changes_of}
use Rattle.claim_model.specs.Claims.{Moment}
use Rattle.index_rows.specs.declared.rows.StateRow.{StateRow}
use Rattle.index_rows.specs.Changes.{Changes}
use Rattle.index_rows.specs.Deletes.{Deletes}
use Rattle.index_rows.specs.States.{States}
use Rattle.index_rows.specs.Waiting.{Waiters, IsWaiting}
use Rattle.index_rows.specs.Counted.{IsCounted}
use Rattle.index_rows.specs.Holders.{Holders, IsHeldBut}

-- the date of a delete claim on x
abbrev pub delete_date : List ℕ → Kind → Option ℤ
delete_date x Plain = None
delete_date x (Key name) = None
delete_date x (File name parts) = None
delete_date x (Bytes parts) = None
delete_date x (Directory name listing) = None
delete_date x (StaticSet members) = None
delete_date x (Permanode signed) = None
delete_date x (Claim signed date what) = if what_deletes x what then Some date else None
delete_date x (Unread name) = None

-- the date of d, if it is a genuine delete claim on x
abbrev pub genuine_delete : Facts → Accepts → List ℕ → List ℕ → Option ℤ
genuine_delete facts accepts x d =
    if is_genuine facts accepts d then option_and_then (λ fact. delete_date x fact.kind) (get facts d) else None

-- the rows are those of the genuine delete claims
abbrev pub IsDeletesOf : Facts → Accepts → Deletes → Type 0
IsDeletesOf facts accepts deletes = (x d : List ℕ) → get deletes (x, d) ≡ genuine_delete facts accepts x d

-- whether this is a claim of the date of the moment, whose change at the place of the moment is on p
abbrev pub is_change_on : List ℕ → Moment → Kind → Bool
is_change_on p k Plain = false
is_change_on p k (Key name) = false
is_change_on p k (File name parts) = false
is_change_on p k (Bytes parts) = false
is_change_on p k (Directory name listing) = false
is_change_on p k (StaticSet members) = false
is_change_on p k (Permanode signed) = false
is_change_on p k (Claim signed date what) =
    is_eq (int_cmp k.0 date) && passes (λ change. bytes_eq p change.on) (slice_get (changes_of what) k.2)
is_change_on p k (Unread name) = false

-- whether the moment is that of a change on p by a genuine claim
abbrev pub genuine_change : Facts → Accepts → List ℕ → Moment → Bool
genuine_change facts accepts p k =
    is_genuine facts accepts k.1 && passes (λ fact. is_change_on p k fact.kind) (get facts k.1)

-- the rows are those of the changes of the genuine claims, except for some claims that weren't judged yet
abbrev pub IsChangesOf : Facts → Accepts → List (List ℕ) → Changes → Type 0
IsChangesOf facts accepts left changes = (p : List ℕ) (k : Moment)
    → contains_key changes (p, k) ≡ (genuine_change facts accepts p k && not (list_any (bytes_eq k.1) left))

-- the rows say which refs are genuine, and which are sound trees, except for some that weren't judged yet
pub record IsJudged (facts : Facts) (accepts : Accepts) (left : List (List ℕ)) (state : States) : Type 0 where
  pub genuine : (y : List ℕ) (row : StateRow) → get state y ≡ Some row
      → row.genuine ≡ (is_genuine facts accepts y && not (list_any (bytes_eq y) left))
  pub sound : (y : List ℕ) (row : StateRow) → get state y ≡ Some row
      → row.sound ≡ (is_sound_tree facts y && not (list_any (bytes_eq y) left))

-- the tables of an index for which nothing is left to do
pub record IsAtRest (facts : Facts) (accepts : Accepts) (state : States) (waiters : Waiters) (deletes : Deletes)
    (changes : Changes) (holders : Holders) : Type 0 where
  pub arrived : (y : List ℕ) → contains_key state y ≡ contains_key facts y
  pub waiting : IsWaiting facts state waiters
  pub judged : IsJudged facts accepts [] state
  pub deleted : IsDeletesOf facts accepts deletes
  pub changed : IsChangesOf facts accepts [] changes
  pub counted : IsCounted facts deletes state
  pub held : IsHeldBut [] facts state deletes changes holders
