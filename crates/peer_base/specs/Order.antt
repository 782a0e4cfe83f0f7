-- Entries in the order of their refs.
use Rattle.std.specs.Prelude.{ℕ, Bool, not, List, [], ◌∷◌, map, filter, Option, None, Some, nat_eq}
use Rattle.std.specs.List.{list_any}
use Rattle.std.specs.Cmp.Lexicographic.{pointwise}
use Rattle.blobref.specs.Blobref.{is_after}

-- the last of some items
abbrev pub last_of : {X : Type 0} → List X → Option X
last_of [] = None
last_of (x ∷ []) = Some x
last_of (x ∷ y ∷ ys) = last_of (y ∷ ys)

-- the refs of entries
abbrev pub refs_of : {X : Type 0} → List (List ℕ × X) → List (List ℕ)
refs_of es = map (λ e. e.0) es

-- the last ref of a page
abbrev pub last_ref : {X : Type 0} → List (List ℕ × X) → Option (List ℕ)
last_ref page = last_of (refs_of page)

-- whether a ref is among some
abbrev pub is_among : List (List ℕ) → List ℕ → Bool
is_among refs r = list_any (pointwise nat_eq r) refs

-- the entries whose refs are greater than that one
abbrev pub beyond : {X : Type 0} → Option (List ℕ) → List (List ℕ × X) → List (List ℕ × X)
beyond after es = filter (λ e. is_after after e.0) es

-- the others
abbrev pub up_to : {X : Type 0} → Option (List ℕ) → List (List ℕ × X) → List (List ℕ × X)
up_to after es = filter (λ e. not (is_after after e.0)) es
