-- What a pass is seen as before its first call.
use Rattle.std.specs.Prelude.{ℕ, suc, List, [], ◌∷◌, map, false}
use Rattle.claim_verify.specs.Verifier.{Accepts}
use Rattle.histories.specs.declared.events.StoreEvent.{StoreEvent}
use Rattle.histories.specs.declared.events.StoreEvent.TheVariants as store
use Rattle.histories.specs.History.{stamp}
use Rattle.histories.specs.Stores.{Blob}
use Rattle.home_core.specs.State.{CoreState}
use Rattle.home_places.specs.Passes.{Sight}
use Rattle.home_places.specs.Showing.{shown_alone}
use Rattle.core_home.specs.Keeping.{no_limits, insert_of}

-- blobs as Puts, from number n on
abbrev pub puts_from : ℕ → List Blob → List StoreEvent
puts_from n [] = []
puts_from n (b ∷ bs) = store.Put n b.0 b.1 ∷ puts_from (suc n) bs

-- a Put for each blob and an Insert for each indexed number, all in turn 0; no turn was drawn
abbrev pub first_sight : Accepts → CoreState → Sight
first_sight accepts s = record {
  store = record { history = map (stamp 0) (puts_from 0 s.store); turns = []; limits = no_limits };
  index = shown_alone (map (stamp 0) (map (insert_of s.store) s.indexed)) [] accepts;
  spent = false;
}
