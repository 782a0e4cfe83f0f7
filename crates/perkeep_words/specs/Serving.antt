-- The words that start a server (docs/commands.md).
use Rattle.std.specs.Prelude.{◌&&◌, ◌≤◌, ℕ, Bool, true, not, if◌then◌else◌, List, [], ◌∷◌, Option, None, is_some, option_map, option_and_then, bytes_eq, codes}
use Rattle.perkeep_words.specs.Parts.{Part, start, are_parts, parts_from}
use Rattle.perkeep_words.specs.Kinds.{number_within}
use Rattle.perkeep_words.specs.Forms.{Form, has_form, first_fault, value_of}
use Rattle.perkeep_words.specs.Table.{row, may, must}
use Rattle.perkeep_words.specs.Reading.{number_of}
use Rattle.perkeep_words.specs.declared.kinds.TextKind.TheVariants.{Dir, Number}
use Rattle.perkeep_words.specs.declared.serving.ServePlan.{ServePlan}

-- the greatest port, and the most workers and indexers
abbrev pub port_max : ℕ
port_max = 65535

abbrev pub threads_max : ℕ
threads_max = 64

-- connections without end
abbrev pub endless : ℕ
endless = 18446744073709551615

abbrev pub serve_form : Form
serve_form = row (codes "serve") true (Dir ∷ []) 1 None
    (must (codes "port") (Number 1 port_max) ∷ may (codes "workers") (Number 1 threads_max)
    ∷ may (codes "indexers") (Number 1 threads_max) ∷ may (codes "connections") (Number 1 endless) ∷ [])

abbrev pub plan_with : List Part → ℕ → ServePlan
plan_with parts port = record {
  port = port;
  workers = number_of (codes "workers") 1 threads_max 8 parts;
  indexers = number_of (codes "indexers") 1 threads_max 2 parts;
  connections = number_of (codes "connections") 1 endless endless parts;
}

-- what a line asks for
abbrev pub plan_in : List Part → Option ServePlan
plan_in parts = option_map (plan_with parts) (option_and_then (number_within 1 port_max) (value_of (codes "port") parts))

-- the words behind `serve` are a line in which nothing is wrong
abbrev pub is_serve_line : List (List ℕ) → Bool
is_serve_line behind = are_parts start behind && has_form serve_form (parts_from start behind)
    && not (is_some (first_fault serve_form (parts_from start behind)))

-- What the words ask for. A number that may not stand there makes them no such line.
abbrev pub serve_of : List (List ℕ) → Option ServePlan
serve_of [] = None
serve_of (word ∷ behind) =
    if bytes_eq word (codes "serve") && is_serve_line behind then plan_in (parts_from start behind) else None

pub record IsInRange (plan : ServePlan) : Type 0 where
  pub port : 1 ≤ plan.port
  pub workers : (1 ≤ plan.workers) × (plan.workers ≤ threads_max)
  pub indexers : (1 ≤ plan.indexers) × (plan.indexers ≤ threads_max)
  pub connections : 1 ≤ plan.connections
