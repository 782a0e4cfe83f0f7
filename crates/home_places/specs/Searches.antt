-- What a search answers over the Inserts that are shown.
use Rattle.std.specs.Prelude.{◌≡◌, ℕ, List, Result, IfOk}
use mathlib.Core.List.{IsPrefix}
use Rattle.claim_verify.specs.Verifier.{Accepts}
use Rattle.blobref.specs.declared.memory.NoMemory.{NoMemory}
use Rattle.search_query.specs.declared.query.Query.{Query}
use Rattle.search_eval.specs.Answer.{answer}
use Rattle.histories.specs.declared.events.Insertion.{Insertion}
use Rattle.histories.specs.Indexes.{indexed}
use Rattle.home_places.specs.Seats.{IndexSight}

-- the refs are the query's answer over the facts that the Inserts have, each ref with its first
abbrev pub SearchSpec : Accepts → Query → List Insertion → Result (List (List ℕ)) NoMemory → Type 0
SearchSpec accepts query shown result = IfOk result (λ refs. refs ≡ answer (indexed shown) accepts query)

-- A search through a seat of an index, which draws no turn: its answer is over the Inserts that are then shown, and these
-- begin with those that were shown before.
pub record IndexSearch (query : Query) (result : Result (List (List ℕ)) NoMemory) (v w : IndexSight) : Type 0 where
  pub history : w.history ≡ v.history
  pub turns : w.turns ≡ v.turns
  pub shown : IsPrefix v.shown w.shown
  pub answer : SearchSpec w.accepts query w.shown result
  pub accepts : w.accepts ≡ v.accepts
