-- What threads did together.
use Rattle.std.specs.Prelude.{◌≡◌, ◌+◌, ℕ, List, [], ◌∷◌}

-- both tokens have so many parts
abbrev pub HasParts : ℕ → ℕ → ℕ → Type 0
HasParts n taken dry = (taken ≡ n) × (dry ≡ n)

-- this was done, with so many connections taken, and so often none found left, as the tokens count
abbrev pub Adds : (ℕ → ℕ → Type 0) → ℕ → ℕ → ℕ → ℕ → Type 0
Adds does taken taken' dry dry' = (t s : ℕ) × does t s × (taken' ≡ taken + t) × (dry' ≡ dry + s)

-- both were done
abbrev pub AddsTwice : (ℕ → ℕ → Type 0) → (ℕ → ℕ → Type 0) → ℕ → ℕ → ℕ → ℕ → Type 0
AddsTwice one other taken taken' dry dry' =
    (t s u v : ℕ) × one t s × other u v × (taken' ≡ taken + t + u) × (dry' ≡ dry + s + v)

-- this was done at each desk, with so many connections taken together, and so often none found left
abbrev pub Attended : {D : Type 0} → (D → D → ℕ → ℕ → Type 0) → List D → List D → ℕ → ℕ → Type 0
Attended does [] [] taken dry = (taken ≡ 0) × (dry ≡ 0)
Attended does [] (e ∷ es) taken dry = ⊥
Attended does (d ∷ ds) [] taken dry = ⊥
Attended does (d ∷ ds) (e ∷ es) taken dry = (t s u v : ℕ) × does d e t s × Attended does ds es u v
    × (taken ≡ t + u) × (dry ≡ s + v)
