-- Rows that are allocated before they are put, each with its number.
use Rattle.std.specs.Prelude.{◌≡◌, ℕ, ◌==◌, Bool, true, ◌&&◌, List, [], ◌∷◌, Option, Some, None, map, if◌then◌else◌}
use Rattle.std.specs.List.{AllByRecursion}
use Rattle.std.specs.Str.{bytes_eq}
use Rattle.std.specs.Ordering.{is_lt}
use Rattle.blobref.specs.Blobref.{ref_cmp, is_after}
use Rattle.std.specs.Coded.{Coded, coded_ℕ, coded_list, coded×, code_by}
use Rattle.std.specs.FinMap.{contains_key, insert}
use Rattle.claim_model.specs.Facts.{Facts}
use Rattle.schema_fact.specs.declared.kinds.Fact.{Fact}
use Rattle.schema_fact.specs.declared.kinds.Kind.TheVariants.{Plain}
use Rattle.schema_fact.specs.contracts.kinds.Fact as fact
use Rattle.schema_fact.specs.Validity.{IsValid}

-- a number, a ref and a fact
abbrev pub LooseRow : Type 0
LooseRow = ℕ × List ℕ × Fact

abbrev pub loose_code : Coded LooseRow
loose_code =
    code_by ((ℕ × List ℕ) × Fact) (coded× (coded× coded_ℕ (coded_list coded_ℕ)) fact.the_row.coded)
    (λ k. ((k.0, k.1), k.2)) (λ p. (p.0.0, p.0.1, p.1)) (λ k i. k)

-- the row of a list of one
abbrev pub row_made : List LooseRow → LooseRow
row_made [] = (0, [], record { size = 0; kind = Plain })
row_made (row ∷ rows) = row

-- the first fact of a ref
abbrev pub loose_fact : List LooseRow → List ℕ → Option Fact
loose_fact [] r = None
loose_fact (row ∷ rows) r = if bytes_eq row.1 r then Some row.2 else loose_fact rows r

abbrev pub is_number : ℕ → LooseRow → Bool
is_number n row = row.0 == n

-- whether a ref is less than the best one so far
abbrev pub is_better : Option (List ℕ) → List ℕ → Bool
is_better None r = true
is_better (Some other) r = is_lt (ref_cmp r other)

-- a ref, if it is after another and less than the best one so far; otherwise the best one
abbrev pub lesser : Option (List ℕ) → Option (List ℕ) → List ℕ → Option (List ℕ)
lesser after best r = if is_after after r && is_better best r then Some r else best

abbrev pub least_from : Option (List ℕ) → Option (List ℕ) → List LooseRow → Option (List ℕ)
least_from after best [] = best
least_from after best (row ∷ rows) = least_from after (lesser after best row.1) rows

-- the facts are valid
abbrev pub AreLooseValid : List LooseRow → Type 0
AreLooseValid rows = AllByRecursion (λ (row : LooseRow). IsValid row.2) rows

abbrev pub first_row : List LooseRow → Option (List ℕ × Fact)
first_row [] = None
first_row (row ∷ rows) = Some (row.1, row.2)

-- with a fact, if its ref has none
abbrev pub with_fact : Facts → List ℕ → Fact → Facts
with_fact facts r fact = if contains_key facts r then facts else insert facts r fact

abbrev pub with_row : Facts → LooseRow → Facts
with_row facts row = with_fact facts row.1 row.2

-- with the fact of the first row
abbrev pub with_first : Facts → List LooseRow → Facts
with_first facts [] = facts
with_first facts (row ∷ rows) = with_row facts row

-- the first number was removed, if there was one
abbrev pub IsMoved : Option ℕ → List ℕ → List ℕ → Type 0
IsMoved None before after = (before ≡ []) × (after ≡ [])
IsMoved (Some n) before after = before ≡ n ∷ after

-- the facts of a table, followed by those of loose rows
abbrev pub with_loose : List LooseRow → Facts → Facts
with_loose [] facts = facts
with_loose (row ∷ rows) facts = with_loose rows (with_row facts row)

-- the first one
abbrev pub first_of : List ℕ → Option ℕ
first_of [] = None
first_of (n ∷ ns) = Some n

abbrev pub numbers_of : List LooseRow → List ℕ
numbers_of rows = map (λ row. row.0) rows
