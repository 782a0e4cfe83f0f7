-- A walk over the genuine permanodes.
use Rattle.std.specs.Prelude.{ℕ, ◌==◌, ◌&&◌, Bool, false, not, List, length, take, Option, Some, None}
use Rattle.claim_verify.specs.Verifier.{Accepts}
use Rattle.claim_model.specs.Facts.{Facts}
use Rattle.claim_model.specs.Deleted.{is_deleted}
use Rattle.search_query.specs.declared.query.Query.{Query}
use Rattle.search_query.specs.View.{view}
use Rattle.search_meets.specs.Meaning.{meets}

-- whether a genuine permanode is among what the query asks for
abbrev pub is_found : Facts → Accepts → Query → List ℕ → Bool
is_found facts accepts query r = meets facts accepts (view query.constraint) query.at r && not (is_deleted facts accepts query.at r)

-- the first refs, where so many are enough
abbrev pub up_to : Option ℕ → List (List ℕ) → List (List ℕ)
up_to None refs = refs
up_to (Some n) refs = take n refs

-- whether so many are there
abbrev pub has_enough : Option ℕ → List (List ℕ) → Bool
has_enough None refs = false
has_enough (Some n) refs = length refs == n
