-- The lines of two indexes about the blobs of a generated store (docs/commands.md).
use Rattle.std.specs.Prelude.{ℕ, ◌-◌, List, [], ◌++◌, codes, length, map}
use Rattle.std.specs.FinMap.{from_entries}
use Rattle.blobref.specs.Blobref.{ref_of}
use Rattle.claim_verify.specs.Verifier.{Accepts}
use Rattle.claim_model.specs.Facts.{Facts}
use Rattle.claim_model.specs.Deleted.{live_permanodes}
use Rattle.schema_date.specs.declared.date.When.TheVariants.{Always}
use Rattle.schema_write.specs.Generated.{load_blobs}
use Rattle.search_query.specs.Queries.{value_query}
use Rattle.search_eval.specs.Answer.{answer_bytes}
use Rattle.fact_lines.specs.Blobs.{named, with_blobs}
use Rattle.fact_lines.specs.declared.load.Order.{Order}
use Rattle.fact_lines.specs.declared.load.Order.TheVariants.{Forward, Backward}
use Rattle.perkeep_lines.specs.Outputs.{load_line}

-- the facts of the blobs, each ref at its first blob
abbrev pub load_facts : ℕ → ℕ → Facts
load_facts count start = from_entries (with_blobs [] (map named (load_blobs count start)))

-- the ref of the answer to a search for the tag `t0`
abbrev pub tagged : Facts → Accepts → List ℕ
tagged facts accepts = ref_of (answer_bytes facts accepts (value_query (codes "tag") (codes "t0") Always))

-- the line of an index into which these facts were inserted in that order
abbrev pub order_line : List ℕ → ℕ → Facts → Accepts → List ℕ
order_line order count facts accepts =
    load_line order count (length (live_permanodes facts accepts Always)) (tagged facts accepts)

-- the name of an order
abbrev pub order_name : Order → List ℕ
order_name Forward = codes "forward"
order_name Backward = codes "backward"

-- the place, in a list of so many, of the one that comes at a turn
abbrev pub place_at : Order → ℕ → ℕ → ℕ
place_at Forward count turn = turn
place_at Backward count turn = count - 1 - turn

-- the lines of both orders
unfoldable pub load_text : ℕ → ℕ → Accepts → List ℕ
load_text count start accepts =
    order_line (codes "forward") count (load_facts count start) accepts
    ++ order_line (codes "backward") count (load_facts count start) accepts
