-- What a worker asks its gate.
use Rattle.std.specs.Prelude.{◌≡◌, ℕ, List, [], ◌∷◌, ◌++◌, length, Bool, Result}
use Rattle.std.specs.List.{flat_map}
use Rattle.edge_base.specs.declared.answers.GetFault.{GetFault}
use Rattle.home_places.specs.Passes.{Sight}
use Rattle.home_places.specs.Working.{IndexesNext}
use Rattle.home_places.specs.declared.home.Indexed.{Indexed}
use Rattle.index_worker.specs.declared.gate.GatePlace.{GatePlace}
use Rattle.index_worker.specs.declared.gate.GatePlace.TheVariants.{Before}
use Rattle.index_worker.specs.Works.{outcome_of}

-- around a step with this answer
abbrev pub asks_of : Result Indexed GetFault → List GatePlace
asks_of answer = Before ∷ (outcome_of answer).0 ∷ []

-- the gate was asked at these places: behind whatever it told before, it tells them
abbrev pub Notes : {G : Type 0} → (G → List GatePlace → Type 0) → G → G → List GatePlace → Type 0
Notes tells old new places = (before : List GatePlace) → tells old before → tells new (before ++ places)

-- steps with these answers, one after the other
abbrev pub Stepped : Bool → List (Result Indexed GetFault) → Sight → Sight → Type 0
Stepped tells [] v w = w ≡ v
Stepped tells (answer ∷ answers) v w =
    (middle : Sight) × IndexesNext tells answer v middle × Stepped tells answers middle w

-- one step, and what was asked around it
pub record AsksOnce (tells : Bool) (notes : List GatePlace → Type 0) (v w : Sight) : Type 0 where
  pub answer : Result Indexed GetFault
  pub stepped : IndexesNext tells answer v w
  pub asked : notes (asks_of answer)

-- so many steps, and what was asked around them
pub record Asks (tells : Bool) (notes : List GatePlace → Type 0) (steps : ℕ) (v w : Sight) : Type 0 where
  pub answers : List (Result Indexed GetFault)
  pub stepped : Stepped tells answers v w
  pub steps_are : length answers ≡ steps
  pub asked : notes (flat_map asks_of answers)
