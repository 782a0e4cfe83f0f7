-- What a look in a search leaves and answers.
use Rattle.std.proofs.Common.{◌≡◌, ℕ, List, Option, Some, None, Result, Ok, Err, IfOk, length, take}
use Rattle.std.specs.Prelude.{option_map}
use Rattle.blobref.specs.declared.memory.NoMemory.{NoMemory}
use Rattle.claim_verify.specs.Verifier.{Accepts}
use Rattle.histories.specs.declared.events.Insertion.{Insertion}
use Rattle.histories.specs.Indexes.{indexed}
use Rattle.histories.proofs.Prefixes.{prefix_trans}
use Rattle.search_query.specs.declared.query.Query.{Query}
use Rattle.search_eval.specs.Answer.{answer}
use Rattle.home_places.specs.Searches.{SearchSpec}
use Rattle.snap_copies.specs.Steps.{TakesFewSteps}
use Rattle.snap_index.specs.declared.held.About.{About}
use Rattle.snap_copies.specs.declared.watch.Watch.{Watch}
use Rattle.snap_index.specs.Beginnings.{begins, taken}
use Rattle.snap_copies.specs.Watches.{Sees, shown_of, keys_of}
use Rattle.snap_index.specs.SnapSeats.{accepts_of}

module _ {V : Type 0} (v w : Watch V) (s : Sees v w) where
  pub keyed_after : (o : Option (About V)) → Some v.mine.seen.book ≡ option_map (λ a. a.head.book) o → keys_of v ≡ option_map (λ a. a.keys) o → keys_of w ≡ option_map (λ a. a.keys) o
  keyed_after None book keys = absurd (cc book)
  keyed_after (Some a) book keys = s.keys a.keys keys

  pub known_after : (g : List Insertion) → take (length g) (shown_of v) ≡ g → take (length g) (shown_of w) ≡ g
  known_after g is = taken g (shown_of w) (prefix_trans g (shown_of v) (shown_of w) (begins (length g) g (shown_of v) is) s.more)

  pub answered_over : (accepts : V → Accepts) (query : Query) (result : Result (List (List ℕ)) NoMemory) (o : Option (About V))
      → Some v.mine.seen.book ≡ option_map (λ a. a.head.book) o → keys_of v ≡ option_map (λ a. a.keys) o
      → IfOk result (λ refs. (keys : V) → keys_of v ≡ Some keys → refs ≡ answer (indexed (shown_of w)) (accepts keys) query)
      → SearchSpec (accepts_of accepts o) query (shown_of w) result
  answered_over accepts query result None book keys h = absurd (cc book)
  answered_over accepts query (Ok refs) (Some a) book keys h = h a.keys keys
  answered_over accepts query (Err f) (Some a) book keys h = tt

  pub few_steps_over : (accepts : V → Accepts) (query : Query) (old new : ℕ) (o : Option (About V))
      → Some v.mine.seen.book ≡ option_map (λ a. a.head.book) o → keys_of v ≡ option_map (λ a. a.keys) o
      → ((keys : V) → keys_of v ≡ Some keys → TakesFewSteps query (shown_of w) (accepts keys) old new)
      → TakesFewSteps query (shown_of w) (accepts_of accepts o) old new
  few_steps_over accepts query old new None book keys h = absurd (cc book)
  few_steps_over accepts query old new (Some a) book keys h = h a.keys keys
