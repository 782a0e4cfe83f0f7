-- The stream that is still to come: what was read ahead, and what is left in the source.
use Rattle.std.specs.Prelude.{◌≡◌, ℕ, ◌+◌, ◌-◌, ◌^◌, List, [], ◌++◌, length, min, max, option_map, Option, IfSome}
use Rattle.edge_base.specs.Edge.{SourceGave}

-- the bytes still to come, where the source tells them
abbrev pub stream : List ℕ → Option (List ℕ) → Option (List ℕ)
stream ahead left = option_map (λ bytes. ahead ++ bytes) left

-- what the source gave went behind what was read ahead
abbrev pub Fetched : Option (List ℕ) → Option (List ℕ) → List ℕ → List ℕ → Type 0
Fetched before now ahead further = (more : List ℕ) × (further ≡ ahead ++ more) × SourceGave before now more

-- nothing is left, where the source tells it
abbrev pub AtEnd : Option (List ℕ) → Type 0
AtEnd left = IfSome left (λ bytes. bytes ≡ [])

-- some text that begins the bytes
abbrev pub Begins : List ℕ → (List ℕ → Type 0) → Type 0
Begins bytes P = (text : List ℕ) × (rest : List ℕ) × (bytes ≡ text ++ rest) × P text

-- a count of bytes and more of them; at the last value of its type it stays
abbrev pub counted : ℕ → ℕ → ℕ
counted count more = max count (min (count + more) (2 ^ 64 - 1))

-- what was read ahead, and how many bytes of the stream were taken
pub record Flow : Type 0 where
  pub bytes : List ℕ
  pub taken : ℕ

-- these bytes of the stream were taken, and counted
pub record Passed (before now : Option (List ℕ)) (old new : Flow) (text : List ℕ) : Type 0 where
  pub gave : SourceGave (stream old.bytes before) (stream new.bytes now) text
  pub taken : new.taken ≡ counted old.taken (length text)
