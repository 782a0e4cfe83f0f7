-- The lines that answer searches (docs/commands.md).
use Rattle.std.specs.Prelude.{ℕ, List, ◌++◌, codes}
use Rattle.claim_model.specs.Facts.{Facts}
use Rattle.claim_verify.specs.Verifier.{Accepts}
use Rattle.schema_date.specs.declared.date.When.{When}
use Rattle.schema_date.specs.declared.date.When.TheVariants.{Always}
use Rattle.search_query.specs.Queries.{value_query}
use Rattle.search_query.specs.declared.query.Query.{Query}
use Rattle.search_eval.specs.Answer.{answer_bytes}
use Rattle.fact_lines.specs.Blobs.{pack_facts}

-- the answer to a query, and a line feed
abbrev pub query_line : Facts → Accepts → Query → List ℕ
query_line facts accepts query = answer_bytes facts accepts query ++ codes "\n"

-- the answer to a search for an attribute's value
abbrev pub search_line : Facts → Accepts → (attr value : List ℕ) → When → List ℕ
search_line facts accepts attr value at = query_line facts accepts (value_query attr value at)

-- the same over the blobs salvaged from a pack
unfoldable pub pack_answer : (attr value : List ℕ) → Accepts → List ℕ → List ℕ
pack_answer attr value accepts pack = search_line (pack_facts pack) accepts attr value Always
