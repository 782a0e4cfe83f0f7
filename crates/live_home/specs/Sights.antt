-- What a pass of two seats is seen as.
use Rattle.std.specs.Prelude.{ℕ, Bool, false, Result, Ok, Err}
use Rattle.edge_base.specs.declared.answers.GetFault.{GetFault}
use Rattle.edge_base.specs.declared.answers.Inserted.{Inserted}
use Rattle.home_places.specs.Seats.{StoreSight, IndexSight}
use Rattle.home_places.specs.Passes.{Sight}
use Rattle.home_places.specs.Working.{Indexes, Fails}

-- it is never spent
abbrev pub sight_at : StoreSight → IndexSight → Sight
sight_at store index = record { store = store; index = index; spent = false }

-- the blob of a number is read and its fact inserted
abbrev pub IndexesOne : Bool → ℕ → Result Inserted GetFault → Sight → Sight → Type 0
IndexesOne tells n (Ok answer) v w = Indexes tells n answer v w
IndexesOne tells n (Err fault) v w = Fails fault v w
