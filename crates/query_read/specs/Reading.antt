-- Reading a query (docs/formats/queries.md): the first fault of a text, and what it asks.
use Rattle.std.specs.Prelude.{ℕ, List, [], Option, Some, None, option_map}
use Rattle.serde_json.specs.Data.{Data}
use Rattle.json_laws.specs.Json.{json_in}
use Rattle.query_read.specs.declared.fault.QueryFault.{QueryFault}
use Rattle.query_read.specs.declared.fault.QueryFault.TheVariants.{NotJson}
use Rattle.query_read.specs.Grammar.{query_fault}
use Rattle.search_query.specs.View.{Question}
use Rattle.query_read.specs.Values.{question_of}

-- how many constraints may stand within one another
abbrev pub deepest : ℕ
deepest = 32

abbrev pub data_fault : Option Data → Option QueryFault
data_fault None = Some NotJson
data_fault (Some d) = query_fault deepest [] d

-- the first fault of a text, if it has one
abbrev pub first_fault : List ℕ → Option QueryFault
first_fault text = data_fault (json_in text)

-- what a text without a fault asks
abbrev pub asks_for : List ℕ → Option Question
asks_for text = option_map (question_of deepest) (json_in text)
