-- Desks.
use Rattle.std.specs.Prelude.{List, [], ◌∷◌, Option, Some, None, false}
use Rattle.blob_server.specs.declared.desk_list.Desk.{Desk}

module _ {P L : Type 0} where
  abbrev pub desk : P → Option L → Desk P L
  desk pass listener = record { pass = pass; listener = listener; failed = false }

  -- a desk for each pass, with the listener of its place, where there is one
  abbrev pub desks_of : List P → List L → List (Desk P L)
  desks_of [] listeners = []
  desks_of (p ∷ passes) [] = desk p None ∷ desks_of passes []
  desks_of (p ∷ passes) (l ∷ listeners) = desk p (Some l) ∷ desks_of passes listeners
