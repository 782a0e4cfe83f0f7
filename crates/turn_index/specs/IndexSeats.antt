-- What a contract sees of a seat of an index, whether it belongs to a place, and what a turn does.
use Rattle.std.specs.Prelude.{◌≡◌, ℕ, List, false, Option, Some, None, Result}
use Rattle.blobref.specs.declared.memory.NoMemory.{NoMemory}
use Rattle.claim_verify.specs.Verifier.{Accepts}
use Rattle.histories.specs.declared.stamped.Stamped.{Stamped}
use Rattle.histories.specs.declared.events.IndexEvent.{IndexEvent}
use Rattle.histories.specs.History.{Ran}
use Rattle.histories.specs.Indexes.{inserts}
use Rattle.search_query.specs.declared.query.Query.{Query}
use Rattle.turn_cell.specs.Seats.{IsSeatOf, about, seen, turns}
use Rattle.home_places.specs.Seats.{IndexSight, IsIndexSight, IndexTurn}
use Rattle.home_places.specs.Searches.{SearchSpec}
use Rattle.home_places.specs.Showing.{shown_alone, IsIndexSight-shown_alone}
use Rattle.turn_index.specs.declared.index.TurnIndex.{TurnIndex}
use Rattle.turn_index.specs.declared.index.IndexSeat.{IndexSeat}

-- what the keys accept that a seat knows; each seat of a lock knows its keys
abbrev pub accepts_of : {V : Type 0} → (V → Accepts) → Option V → Accepts
accepts_of accepts None = λ name payload sig. false
accepts_of accepts (Some keys) = accepts keys

-- exactly the Inserts of its history are shown to it
abbrev pub index_sight : {V : Type 0} {b : _} → (V → Accepts) → IndexSeat V b → IndexSight
index_sight accepts s = shown_alone (seen s.seat) (turns s.seat) (accepts_of accepts (about s.seat))

-- the seat is one of this place's
abbrev pub IsOfIndex : {V : Type 0} {b : _} → TurnIndex V → IndexSeat V b → Type 0
IsOfIndex p s = IsSeatOf p.turn s.seat

-- one turn, for which this holds with the history before it
pub record IndexRan (says : Accepts → List (Stamped IndexEvent) → Option IndexEvent → Type 0)
    (v w : IndexSight) : Type 0 where
  pub ran : Ran (λ before turn entry. says v.accepts before entry) v.history v.turns w.history w.turns
  pub accepts : w.accepts ≡ v.accepts

-- A search, in one turn that adds nothing: its answer is over the Inserts that are then shown, which are those before
-- the turn.
pub record SearchTurn (query : Query) (result : Result (List (List ℕ)) NoMemory) (v w : IndexSight) : Type 0 where
  pub turn : IndexTurn (λ before entry. entry ≡ None) v w
  pub shown : w.shown ≡ inserts turn.ran.before
  pub answer : SearchSpec w.accepts query w.shown result

-- the history that a seat has seen is legal
pub index_seat_legal : {V : Type 0} {b : _} (accepts : V → Accepts) (s : IndexSeat V b)
    → IsIndexSight (index_sight accepts s)
index_seat_legal accepts s =
    IsIndexSight-shown_alone (seen s.seat) (turns s.seat) (accepts_of accepts (about s.seat)) s.legal s.seat.rising
