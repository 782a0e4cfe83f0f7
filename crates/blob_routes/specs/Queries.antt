-- Which query is asked.
use Rattle.std.specs.Prelude.{◌≡◌, ◌≢◌, ⊤, ℕ, List, [], Option, Some, None, Result, Ok, Err}
use Rattle.serde_json.specs.Data.{Data}
use Rattle.json_laws.specs.Json.{json_in}
use Rattle.search_query.specs.View.{Question}
use Rattle.query_read.specs.declared.fault.QueryFault.{QueryFault}
use Rattle.query_read.specs.declared.fault.QueryFault.TheVariants as fault
use Rattle.query_read.specs.Grammar.{query_fault}
use Rattle.query_read.specs.Reading.{deepest}
use Rattle.query_read.specs.Values as values
use Rattle.answer_text.specs.declared.refusal.BadKind.TheVariants as kind
use Rattle.answer_text.specs.declared.refusal.Refusal.{Refusal}
use Rattle.answer_text.specs.declared.refusal.Refusal.TheVariants.{BadQuery, Memory}
use Rattle.blob_routes.specs.declared.faults.AskFault.{AskFault}
use Rattle.blob_routes.specs.declared.faults.AskFault.TheVariants.{Refused, NoMemory}

-- the refusal that a fault of a query is
abbrev pub refusal_of : QueryFault → Refusal
refusal_of fault.NotJson = BadQuery kind.NotJson []
refusal_of (fault.BadKey at) = BadQuery kind.BadKey at
refusal_of (fault.BadValue at) = BadQuery kind.BadValue at
refusal_of (fault.TooDeep at) = BadQuery kind.TooDeep at
refusal_of fault.NoMemory = Memory

-- a question without a fault
abbrev pub without : Option QueryFault → Question → Result Question Refusal
without None question = Ok question
without (Some first) question = Err (refusal_of first)

abbrev pub question_in : Option Data → Result Question Refusal
question_in None = Err (BadQuery kind.NotJson [])
question_in (Some d) = without (query_fault deepest [] d) (values.question_of deepest d)

-- what a text asks, or the refusal
unfoldable pub question_of : List ℕ → Result Question Refusal
question_of text = question_in (json_in text)

-- what is told of a fault is the refusal that it is; want of memory tells nothing
abbrev pub Means : QueryFault → AskFault → Type 0
Means first (Refused refusal) = (refusal ≡ refusal_of first) × (first ≢ fault.NoMemory)
Means first NoMemory = ⊤
