-- Reading a line of search words byte by byte.
use Rattle.std.specs.Prelude.{ℕ, List, [], ◌∷◌, Bool, true, false, Option, Some, None, option_map, if◌then◌else◌, nat_eq}
use Rattle.search_query.specs.Mirror.{Asked}
use Rattle.search_words.specs.Asking.{both, either, negation}
use Rattle.search_words.specs.Words.{Place, begins, word_step, word_asks}
pub use Rattle.search_words.specs.declared.place.Spot.{Spot}
pub use Rattle.search_words.specs.declared.place.Spot.TheVariants.{Between as between, AtMinus as at_minus, InWord as in_word, InO as in_o, InOr as in_or, Closed as closed}

-- the form that is open, with what was read of it
pub record Form : Type 0 where
  pub ors : Option Asked  -- the and-forms before the last `or`
  pub ands : Option Asked  -- the units since then
  pub negated : Bool  -- a `-` stands before the next atom

-- the forms that are open, the innermost first, or none where the text is no front of a line
pub data State : Type 0 where
  stuck : State
  at : Spot → Form → List Form → State

abbrev pub fresh : Form
fresh = record { ors = None; ands = None; negated = false }

abbrev pub start : State
start = at between fresh []

abbrev pub all_of : Option Asked → Asked → Asked
all_of None b = b
all_of (Some a) b = both a b

abbrev pub any_of : Option Asked → Asked → Asked
any_of None b = b
any_of (Some a) b = either a b

abbrev pub signed : Bool → Asked → Asked
signed true a = negation a
signed false a = a

-- the form with one more unit
abbrev pub with_atom : Asked → Form → Form
with_atom a f = record { ors = f.ors; ands = Some (all_of f.ands (signed f.negated a)); negated = false }

-- what the form asks, where it may end
abbrev pub form_asks : Form → Option Asked
form_asks f = option_map (any_of f.ors) f.ands

abbrev pub close : Option Asked → List Form → State
close None fs = stuck
close (Some a) [] = stuck
close (Some a) (f ∷ fs) = at closed (with_atom a f) fs

-- after a unit
abbrev pub after : ℕ → Form → List Form → State
after x f fs =
    if nat_eq x 32 then at between f fs
    else if nat_eq x 41 then close (form_asks f) fs
    else stuck

abbrev pub word_over : Option Asked → ℕ → Form → List Form → State
word_over None x f fs = stuck
word_over (Some a) x f fs = after x (with_atom a f) fs

-- a word goes on, or is over
abbrev pub on_word : Option Place → Option Asked → ℕ → Form → List Form → State
on_word (Some p) a x f fs = at (in_word p) f fs
on_word None a x f fs = word_over a x f fs

abbrev pub in_place : Place → ℕ → Form → List Form → State
in_place p x f fs = on_word (word_step p x) (word_asks p) x f fs

abbrev pub at_o : Option Asked → Form → List Form → State
at_o None f fs = stuck
at_o (Some a) f fs = at in_o f fs

-- an atom begins
abbrev pub at_atom : ℕ → Form → List Form → State
at_atom x f fs = if nat_eq x 40 then at between fresh (f ∷ fs) else in_place begins x f fs

abbrev pub at_between : ℕ → Form → List Form → State
at_between x f fs =
    if nat_eq x 32 then at between f fs
    else if nat_eq x 41 then close (form_asks f) fs
    else if nat_eq x 45 then at at_minus (record { ors = f.ors; ands = f.ands; negated = true }) fs
    else if nat_eq x 111 then at_o f.ands f fs
    else at_atom x f fs

abbrev pub spot_step : Spot → ℕ → Form → List Form → State
spot_step between x f fs = at_between x f fs
spot_step at_minus x f fs = at_atom x f fs
spot_step (in_word p) x f fs = in_place p x f fs
spot_step in_o x f fs = if nat_eq x 114 then at in_or f fs else stuck
spot_step in_or x f fs =
    if nat_eq x 32 then at between (record { ors = form_asks f; ands = None; negated = false }) fs else stuck
spot_step closed x f fs = after x f fs

abbrev pub step : State → ℕ → State
step stuck x = stuck
step (at spot f fs) x = spot_step spot x f fs

abbrev pub run : State → List ℕ → State
run s [] = s
run s (x ∷ xs) = run (step s x) xs

-- the open form, where the text may end here
abbrev pub ends : Spot → Form → Option Form
ends between f = Some f
ends at_minus f = None
ends (in_word p) f = option_map (λ a. with_atom a f) (word_asks p)
ends in_o f = None
ends in_or f = None
ends closed f = Some f

abbrev pub form_over : Option Form → Option Asked
form_over None = None
form_over (Some f) = form_asks f

-- what the line asks, where it is one
abbrev pub line_asks : State → Option Asked
line_asks stuck = None
line_asks (at spot f []) = form_over (ends spot f)
line_asks (at spot f (g ∷ fs)) = None

-- what a text asks as a line
abbrev pub reading : List ℕ → Option Asked
reading text = line_asks (run start text)

abbrev pub is_live : State → Bool
is_live stuck = false
is_live (at spot f fs) = true
