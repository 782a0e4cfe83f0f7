-- What a search finds of what was put before it.
use Rattle.std.specs.Prelude.{◌≡◌, ◌<◌, ℕ, List, take, true, Bool, Some, Contains, slice_get}
use Rattle.claim_verify.specs.Verifier.{Accepts}
use Rattle.search_query.specs.declared.query.Query.{Query}
use Rattle.histories.specs.declared.stamped.Stamped.{Stamped}
use Rattle.histories.specs.declared.events.StoreEvent.{StoreEvent}
use Rattle.histories.specs.declared.events.StoreEvent.TheVariants.{Put}
use Rattle.histories.specs.History.{stamp}
use Rattle.histories.specs.Stores.{Blob, arrivals}
use Rattle.histories.specs.declared.events.Insertion.{Insertion}
use Rattle.histories.specs.Indexes.{has_number}
use Rattle.http_wire.specs.Speaking.{Request}
use Rattle.blob_http.specs.declared.entries.Outcome.TheVariants.{Defined}
use Rattle.blob_http.specs.declared.operations.Operation.TheVariants.{Search}
use Rattle.http_exchange.specs.Asked.{Whole}
use Rattle.blob_http.specs.Operations.{IsAsked}
use Rattle.blob_http.specs.Serving.{IsShown, Answer, AnswerHolds}

-- the blob was put in this turn
abbrev pub IsPutAt : List (Stamped StoreEvent) → ℕ → Blob → Type 0
IsPutAt h turn blob = (number : ℕ) × Contains h (stamp turn (Put number blob.0 blob.1))

-- the blob is among the first so many arrivals, and its number among the Inserts
pub record IsFound (h : List (Stamped StoreEvent)) (g : List Insertion) (count : ℕ) (blob : Blob) : Type 0 where
  pub number : ℕ
  pub within : number < count
  pub arrived : slice_get (arrivals h) number ≡ Some blob
  pub inserted : has_number number g ≡ true

-- The first turn shows a front of the history, and each blob that was put there is found. That is each blob that was
-- put before this turn, by whomever.
pub record FindsShown (h : List (Stamped StoreEvent)) (g : List Insertion) (count : ℕ) (turns : List ℕ) : Type 0 where
  pub shown : IsShown h (take count (arrivals h)) turns
  pub seen : (turn : ℕ) (blob : Blob) → IsPutAt shown.seen turn blob → IsFound h g count blob
  pub earlier : (turn : ℕ) (blob : Blob) → IsPutAt h turn blob → turn < shown.turn → IsFound h g count blob

-- each search that was answered as is defined finds so
abbrev pub SearchesFind : Type 0
SearchesFind = (tells : Bool) (accepts : Accepts) (h : List (Stamped StoreEvent)) (g : List Insertion) (a : Answer)
    (r : Request) (query : Query) → AnswerHolds tells accepts h g a → a.asked ≡ Whole r
    → IsAsked r.head r.says r.body (Search query) → a.entry.outcome ≡ Defined
    → FindsShown h (take a.entry.index_count g) a.entry.store_count a.turns
