-- Rows of the changes that may take values away, under permanodes, marks of these values, and moments.
use Rattle.std.specs.Prelude.{◌≡◌, ℕ, ◌+◌, ◌*◌, ◌%◌, ◌==◌, ◌&&◌, Bool, List, [], fold, filter, Option, Some, None}
use Rattle.std.specs.Str.{bytes_eq}
use Rattle.std.specs.Ordering.{is_lt, nat_cmp, ordering_then}
use Rattle.std.specs.declared.cmp.Ordering.{Ordering}
use Rattle.std.specs.FinMap.{FinMap, entries, contains_key}
use Rattle.std.specs.Coded.{Coded, code_by, coded_ℕ, coded_list, coded×}
use Rattle.blobref.specs.Blobref.{ref_cmp}
use Rattle.schema_fact.specs.declared.changes.Act.{Act}
use Rattle.schema_fact.specs.declared.changes.Act.TheVariants.{Set as sets, Add as adds, Del as removes}
use Rattle.schema_fact.specs.declared.changes.Change.{Change}
use Rattle.claim_model.specs.Facts.{Facts, passes}
use Rattle.claim_model.specs.Claims.{Moment, moment_cmp}
use Rattle.index_rows.specs.Changes.{Changes, moment_code}
use Rattle.index_rows.specs.Values.{change_at}

-- a permanode, the mark of values that may be taken from it, a moment
abbrev pub RemovalKey : Type 0
RemovalKey = List ℕ × ℕ × Moment

-- by the permanode, then by the mark, then by the moment
abbrev pub removal_cmp : RemovalKey → RemovalKey → Ordering
removal_cmp a b = ordering_then (ref_cmp a.0 b.0) (ordering_then (nat_cmp a.1 b.1) (moment_cmp a.2 b.2))

abbrev pub Removals : Type 0
Removals = FinMap removal_cmp (Unit {0})

-- whether a key is of the permanode and the mark
abbrev pub is_under : List ℕ → ℕ → RemovalKey → Bool
is_under p mark k = bytes_eq p k.0 && (k.1 == mark)

-- the rows of p under a mark after a moment
abbrev pub removals_after : Removals → List ℕ → ℕ → Moment → List (RemovalKey × Unit {0})
removals_after m p mark k = filter (λ e. is_under p mark e.0 && is_lt (moment_cmp k e.0.2)) (entries m)

abbrev pub removals_above : Removals → RemovalKey → List (RemovalKey × Unit {0})
removals_above m k = filter (λ e. is_lt (removal_cmp k e.0)) (entries m)

-- a key is determined by its parts
abbrev pub removal_code : Coded RemovalKey
removal_code =
    code_by ((List ℕ × ℕ) × Moment) (coded× (coded× (coded_list coded_ℕ) coded_ℕ) moment_code)
    (λ k. ((k.0, k.1), k.2)) (λ p. (p.0.0, p.0.1, p.1)) (λ k i. k)

-- a mark of 32 bits, with one byte more
abbrev pub mark_with : ℕ → ℕ → ℕ
mark_with mark byte = (mark * 16777619 + byte) % 4294967296

-- the mark of an attribute and a value, of 32 bits; others may have the same. 255 is no byte of a string
abbrev pub mark_of : List ℕ → List ℕ → ℕ
mark_of attr value = fold mark_with (mark_with (fold mark_with 0 attr) 255) value

-- the mark of the values that a change may take away: one value, or all of its attribute
abbrev pub act_mark : Act → List ℕ → List ℕ → Option ℕ
act_mark sets attr value = Some (mark_of attr [])
act_mark adds attr value = None
act_mark removes attr value = Some (mark_of attr value)

abbrev pub removal_mark : Change → Option ℕ
removal_mark c = act_mark c.act c.attr c.value

-- whether a change may take away values with this mark
abbrev pub has_mark : ℕ → Change → Bool
has_mark mark c = passes (λ m. m == mark) (removal_mark c)

-- the rows are those of the changes that may take values away, under their marks
abbrev pub AreRemovals : Facts → Changes → Removals → Type 0
AreRemovals facts changes removals = (p : List ℕ) (mark : ℕ) (k : Moment) → contains_key removals (p, mark, k)
    ≡ (contains_key changes (p, k) && passes (has_mark mark) (change_at facts k))
