-- Facts as they are stored: each in a box, all of them valid.
use Rattle.std.specs.Prelude.{◌≡◌, ℕ, List, map, Option, Some, None}
use Rattle.std.specs.FinMap.{get, from_entries}
use Rattle.std.specs.declared.ops.Bound.{Bound}
use Rattle.std.specs.declared.ops.Bound.TheVariants.{Excluded, Unbounded}
use Rattle.std.specs.declared.alloc.Global.{Global}
use Rattle.std.specs.Prelude.{Box}
use Rattle.schema_fact.specs.declared.kinds.Fact.{Fact}
use Rattle.schema_fact.specs.Validity.{IsValid}
use Rattle.claim_model.specs.Facts.{Facts}

abbrev pub Stored : Type 0
Stored = List ℕ × Box Fact Global

abbrev pub stored_facts : List Stored → Facts
stored_facts es = from_entries (map (λ e. (e.0, e.1.value)) es)

abbrev pub AreAllValid : Facts → Type 0
AreAllValid facts = (r : List ℕ) (fact : Fact) → get facts r ≡ Some fact → IsValid fact

-- the bound at which the rows after a ref begin
abbrev pub start_after : Option (List ℕ) → Bound (List ℕ)
start_after None = Unbounded
start_after (Some r) = Excluded r
