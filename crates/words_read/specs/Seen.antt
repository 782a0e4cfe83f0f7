-- The state that a reader is in.
use Rattle.std.specs.Prelude.{◌≡◌, ℕ, Bool, true, false, List, map, reverse, Option, Some, None, option_map, Result, Ok, Err}
use Rattle.search_query.specs.View.{view}
use Rattle.words_read.specs.declared.form.Form.{Form}
use Rattle.words_read.specs.declared.form.Reader.{Reader}
use Rattle.words_read.specs.declared.form.Stop.{Stop}
use Rattle.words_read.specs.declared.form.Stop.TheVariants.{Stuck, NoMemory}
use Rattle.search_words.specs.declared.fault.WordsFault.{WordsFault}
use Rattle.search_words.specs.declared.fault.WordsFault.TheVariants as fault
use Rattle.search_words.specs.Lines as lines
use Rattle.search_words.specs.Lines.{State, stuck, at}
use Rattle.search_words.specs.declared.place.Spot.{Spot}

abbrev pub form_seen : Form → lines.Form
form_seen f = record { ors = option_map view f.ors; ands = option_map view f.ands; negated = f.negated }

-- the last one is the innermost
abbrev pub forms_seen : List Form → List lines.Form
forms_seen fs = map form_seen (reverse fs)

abbrev pub seen : Reader → State
seen r = at r.spot (form_seen r.form) (forms_seen r.outer.items)

-- the reading is then there, in these forms, or the state is stuck; want of memory says nothing
abbrev pub Steps : State → lines.Form → List lines.Form → Result Spot Stop → Type 0
Steps s f fs (Ok spot) = at spot f fs ≡ s
Steps s f fs (Err Stuck) = s ≡ stuck
Steps s f fs (Err NoMemory) = Unit {0}

-- the same of a reader
abbrev pub Goes : State → State → Result (Unit {0}) Stop → Type 0
Goes s t (Ok u) = t ≡ s
Goes s t (Err Stuck) = s ≡ stuck
Goes s t (Err NoMemory) = Unit {0}

-- the form that may end, or there is none
abbrev pub Ends : Option lines.Form → lines.Form → Bool → Type 0
Ends o f true = o ≡ Some f
Ends o f false = o ≡ None

-- a stop after so many bytes
abbrev pub stopped : Stop → ℕ → WordsFault
stopped Stuck n = fault.Bad n
stopped NoMemory n = fault.NoMemory

-- the reader is in the state, or it is stuck, and so many bytes are the longest front; want of memory says nothing
abbrev pub GoesAt : State → State → ℕ → Result (Unit {0}) WordsFault → Type 0
GoesAt s t n (Ok u) = t ≡ s
GoesAt s t n (Err (fault.TooLong len)) = ⊥
GoesAt s t n (Err (fault.Bad k)) = (s ≡ stuck) × (k ≡ n)
GoesAt s t n (Err fault.TooDeep) = ⊥
GoesAt s t n (Err fault.NoMemory) = Unit {0}
