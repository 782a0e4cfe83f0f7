-- Which values are there after some changes, and how many times, by turns. The changes are counted from 0, the turns
-- after them from 1.
use Rattle.std.specs.Prelude.{◌≡◌, ◌≤◌, ◌==◌, ℕ, suc, Bool, true, false, not, List, length, map, Option, Some, None, option_map, unwrap_or, nat_lt, if◌then◌else◌}
use Rattle.std.specs.List.{filter_map, list_any}
use Rattle.std.specs.declared.cmp.Ordering.{Ordering}
use Rattle.std.specs.FinMap.{FinMap, get, insert, contains_key}
use Rattle.schema_date.specs.declared.date.When.TheVariants.{Always}
use Rattle.claim_model.specs.Facts.{Facts}
use Rattle.claim_model.specs.Claims.{Moment}
use Rattle.schema_fact.specs.declared.changes.Act.{Act}
use Rattle.schema_fact.specs.declared.changes.Change.{Change}
use Rattle.schema_fact.specs.declared.changes.Act.TheVariants.{Set as sets, Add as adds, Del as removes}
use Rattle.claim_model.specs.Changes.{counting, gives}
use Rattle.index_rows.specs.Changes.{Changes, changes_after}
use Rattle.index_rows.specs.Deletes.{Deletes, row_deleted}
use Rattle.index_rows.specs.States.{States}
use Rattle.index_rows.specs.Values.{change_at}
use Rattle.index_rows.specs.Holders.{HolderKey, holder_cmp, says_permanode}
use Rattle.attr_fold.specs.Times.{times_after}
use Rattle.attr_fold.specs.AttributeTurns.{AttributeTurns}
use Rattle.attr_fold.specs.declared.turns.Turns.{Turns}

-- turns under an attribute, a value and a permanode, each with the number of times that the value was there then
abbrev pub ValueTurns : Type 0
ValueTurns = FinMap holder_cmp (ℕ × ℕ)

-- a turn, and 0 if there is none
abbrev pub turn_at : {K : Type 0} {R : K → K → Ordering} → FinMap R ℕ → K → ℕ
turn_at turns k = unwrap_or (get turns k) 0

-- a turn and a number, both 0 if there is none
abbrev pub given_at : ValueTurns → HolderKey → ℕ × ℕ
given_at turns k = unwrap_or (get turns k) (0, 0)

-- how many times a value is there that was given at this turn, and was there this many times then: 0 if all values of
-- its attribute were removed at no earlier turn
abbrev pub times_by : AttributeTurns → List ℕ → ℕ × ℕ → ℕ
times_by emptied name turn = if nat_lt (turn_at emptied name) turn.0 then turn.1 else 0

abbrev pub times_there : ValueTurns → AttributeTurns → HolderKey → ℕ
times_there given emptied k = times_by emptied k.0 (given_at given k)

-- with the turn 0 at the key, if it has none
abbrev pub known : ValueTurns → HolderKey → ValueTurns
known turns k = if contains_key turns k then turns else insert turns k (0, 0)

-- the turns after a change, which counts or doesn't
abbrev pub noted : Turns → Act → Bool → HolderKey → ℕ → Turns
noted turns sets true k n =
    record { given = insert turns.given k (suc n, 1); emptied = insert turns.emptied k.0 n }
noted turns sets false k n = record { given = known turns.given k; emptied = turns.emptied }
noted turns adds true k n =
    record {
      given = insert turns.given k (suc n, suc (times_there turns.given turns.emptied k));
      emptied = turns.emptied;
    }
noted turns adds false k n = record { given = known turns.given k; emptied = turns.emptied }
noted turns removes true k n =
    if length k.1 == 0 then record { given = turns.given; emptied = insert turns.emptied k.0 n }
    else record { given = insert turns.given k (0, 0); emptied = turns.emptied }
noted turns removes false k n = turns

-- the turns after a change of p, if there is one
abbrev pub change_noted : Turns → List ℕ → Option Change → Bool → ℕ → Turns
change_noted turns p None counts n = turns
change_noted turns p (Some c) counts n = noted turns c.act counts (c.attr, c.value, p) n

-- the turns after the change of a moment, which counts unless its claim is deleted, by claims of every date
abbrev pub moment_noted : Facts → Deletes → List ℕ → Turns → Moment → ℕ → Turns
moment_noted facts deletes p turns k n =
    change_noted turns p (change_at facts k) (not (row_deleted facts deletes Always k.1)) n

-- the changes of some moments, each with whether it counts
abbrev pub told_at : Facts → Deletes → Moment → Option (Change × Bool)
told_at facts deletes k =
    option_map (λ change. (change, not (row_deleted facts deletes Always k.1))) (change_at facts k)

abbrev pub told : Facts → Deletes → List Moment → List (Change × Bool)
told facts deletes ks = filter_map (told_at facts deletes) ks

-- the moments of all changes of p
abbrev pub all_moments : Changes → List ℕ → List Moment
all_moments changes p = map (λ e. e.0.1) (changes_after changes p None)

-- whether p isn't deleted, by claims of every date, if it is a permanode whose row says that it is genuine
abbrev pub standing : Facts → States → Deletes → List ℕ → Option Bool
standing facts state deletes p =
    if says_permanode facts state p then Some (not (row_deleted facts deletes Always p)) else None

-- the turns say how many times each value of p is there after the changes, and have each value that one of these gives
pub record Tells (p : List ℕ) (changes : List (Change × Bool)) (turns : Turns) (n : ℕ) : Type 0 where
  pub there : (name value : List ℕ)
      → times_there turns.given turns.emptied (name, value, p) ≡ times_after name value (counting changes)
  pub known : (name value : List ℕ) → list_any (λ c. gives name value c.0) changes ≡ true
      → contains_key turns.given (name, value, p) ≡ true
  pub own : (k : HolderKey) → contains_key turns.given k ≡ true → k.2 ≡ p
  pub given : (k : HolderKey) → (given_at turns.given k).0 ≤ n
  pub emptied : (name : List ℕ) → turn_at turns.emptied name ≤ n
