-- Sets of refs.
use Rattle.std.specs.Prelude.{◌≡◌, ℕ, List}
use Rattle.std.specs.List.{list_any}
use Rattle.std.specs.Str.{bytes_eq}

-- the refs of a list, whatever their order and however often each stands there
abbrev pub HasSameRefs : List (List ℕ) → List (List ℕ) → Type 0
HasSameRefs set list = (r : List ℕ) → list_any (bytes_eq r) set ≡ list_any (bytes_eq r) list
