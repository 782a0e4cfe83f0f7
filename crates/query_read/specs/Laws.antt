-- What is read of a text without a fault is valid.
use Rattle.std.specs.Prelude.{◌≡◌, [], None}
use Rattle.serde_json.specs.Data.{Data}
use Rattle.search_query.specs.Valid.{IsValidQuestion}
use Rattle.query_read.specs.Grammar.{query_fault}
use Rattle.query_read.specs.Values.{question_of}
use Rattle.query_read.specs.Reading.{deepest}

abbrev pub WhatIsReadIsValid : Type 0
WhatIsReadIsValid = (d : Data) → query_fault deepest [] d ≡ None → IsValidQuestion (question_of deepest d)
