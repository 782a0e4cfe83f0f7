-- The steps that a search takes.
use Rattle.std.specs.Prelude.{ℕ, List, length, ◌+◌, ◌*◌, ◌≤◌}
use Rattle.claim_verify.specs.Verifier.{Accepts}
use Rattle.claim_model.specs.Claims.{holders}
use Rattle.search_query.specs.declared.query.Query.{Query}
use Rattle.search_eval.specs.Held.{AsksForValue}
use Rattle.histories.specs.declared.events.Insertion.{Insertion}
use Rattle.histories.specs.Indexes.{indexed}

-- if the query asks for one value and nothing else: 8, and 8 for each permanode that holds it
abbrev pub TakesFewSteps : Query → List Insertion → Accepts → ℕ → ℕ → Type 0
TakesFewSteps query shown accepts old new = (name value : List ℕ) → AsksForValue query name value
    → new ≤ old + 8 * (1 + length (holders (indexed shown) accepts name value))
