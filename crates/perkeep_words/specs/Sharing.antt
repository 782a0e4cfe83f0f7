-- The words that start a server of shares (docs/commands.md).
use Rattle.std.specs.Prelude.{◌&&◌, ◌≤◌, ℕ, Bool, false, not, if◌then◌else◌, List, [], ◌∷◌, Option, None, is_some}
use Rattle.std.specs.Prelude.{option_map, option_and_then, bytes_eq, codes}
use Rattle.perkeep_words.specs.Parts.{Part, start, are_parts, parts_from}
use Rattle.perkeep_words.specs.Kinds.{number_within}
use Rattle.perkeep_words.specs.Forms.{Form, has_form, first_fault, value_of}
use Rattle.perkeep_words.specs.Table.{row, may, must}
use Rattle.perkeep_words.specs.Reading.{number_of}
use Rattle.perkeep_words.specs.Serving.{port_max, endless}
use Rattle.perkeep_words.specs.declared.kinds.TextKind.TheVariants.{Dir, Number}
use Rattle.perkeep_words.specs.declared.sharing.SharePlan.{SharePlan}

abbrev pub share_form : Form
share_form = row (codes "serve-shares") false (Dir ∷ []) 1 None
    (must (codes "port") (Number 1 port_max) ∷ may (codes "connections") (Number 1 endless) ∷ [])

abbrev pub share_plan_with : List Part → ℕ → SharePlan
share_plan_with parts port =
    record { port = port; connections = number_of (codes "connections") 1 endless endless parts }

-- what a line asks for
abbrev pub share_plan_in : List Part → Option SharePlan
share_plan_in parts =
    option_map (share_plan_with parts) (option_and_then (number_within 1 port_max) (value_of (codes "port") parts))

-- the words behind `serve-shares` are a line in which nothing is wrong
abbrev pub is_share_line : List (List ℕ) → Bool
is_share_line behind = are_parts start behind && has_form share_form (parts_from start behind)
    && not (is_some (first_fault share_form (parts_from start behind)))

-- What the words ask for. A number that may not stand there makes them no such line.
abbrev pub share_of : List (List ℕ) → Option SharePlan
share_of [] = None
share_of (word ∷ behind) =
    if bytes_eq word (codes "serve-shares") && is_share_line behind then share_plan_in (parts_from start behind)
    else None

pub record IsSharePlan (plan : SharePlan) : Type 0 where
  pub port : 1 ≤ plan.port
  pub connections : 1 ≤ plan.connections
