-- What a pass of a home of one actor is seen as.
use Rattle.std.specs.Prelude.{ℕ, List, Bool}
use Rattle.claim_verify.specs.Verifier.{Accepts}
use Rattle.histories.specs.declared.stamped.Stamped.{Stamped}
use Rattle.histories.specs.declared.events.StoreEvent.{StoreEvent}
use Rattle.histories.specs.declared.events.IndexEvent.{IndexEvent}
use Rattle.home_places.specs.Passes.{Sight}
use Rattle.home_places.specs.Showing.{shown_alone}
use Rattle.core_home.specs.declared.pass.CorePass.{CorePass}
use Rattle.core_home.specs.Keeping.{upto, no_limits, store_of, index_of}

-- one who has a store and an index to himself: he has seen all that happened, and drew every turn
abbrev pub alone : Accepts → List (Stamped StoreEvent) → ℕ → List (Stamped IndexEvent) → ℕ → Bool → Sight
alone accepts h stores g indexes spent = record {
  store = record { history = h; turns = upto stores; limits = no_limits };
  index = shown_alone g (upto indexes) accepts;
  spent = spent;
}

abbrev pub sight_of : {V : Type 0} → (V → Accepts) → CorePass V → Sight
sight_of accepts p =
    alone (accepts p.core.keys) (store_of p.puts.items p.core.state.store) p.stores
    (index_of p.core.state.store p.inserts.items p.core.state.indexed) p.indexes p.spent
