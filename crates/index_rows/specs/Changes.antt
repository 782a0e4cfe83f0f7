-- Rows under permanodes and moments: which claim changes what, in the order in which changes count.
use Rattle.std.specs.Prelude.{◌≡◌, ℕ, ◌&&◌, Bool, true, false, List, [], ◌∷◌, ◌++◌, map, filter, Option, Some, None}
use Rattle.std.specs.Prelude.{ℤ, negsuc}
use Rattle.std.specs.Str.{bytes_eq}
use Rattle.std.specs.Ordering.{is_lt, ordering_then}
use Rattle.std.specs.declared.cmp.Ordering.{Ordering}
use Rattle.std.specs.declared.ops.Bound.{Bound}
use Rattle.std.specs.declared.ops.Bound.TheVariants.{Included, Excluded}
use Rattle.std.specs.FinMap.{FinMap, entries, contains_key}
use Rattle.std.specs.BTreeMap.Range.{is_from_start}
use Rattle.std.specs.Coded.{Coded, code_by, coded_ℕ, coded_ℤ, coded_list, coded×}
use Rattle.blobref.specs.Blobref.{ref_cmp, least_ref}
use Rattle.schema_date.specs.declared.date.When.{When}
use Rattle.claim_model.specs.Claims.{Moment, moment_cmp}
use Rattle.claim_model.specs.Deleted.{counts_at}

-- a permanode, and a moment: the date of a claim, its ref, the place of a change in it
abbrev pub ChangeKey : Type 0
ChangeKey = List ℕ × Moment

-- by the permanode, then by the moment
abbrev pub change_cmp : ChangeKey → ChangeKey → Ordering
change_cmp a b = ordering_then (ref_cmp a.0 b.0) (moment_cmp a.1 b.1)

abbrev pub Changes : Type 0
Changes = FinMap change_cmp (Unit {0})

-- keys with empty rows
abbrev pub keys_alone : {K : Type 0} → List K → List (K × Unit {0})
keys_alone ks = map (λ k. (k, tt)) ks

-- before all dates
abbrev pub first_number : ℤ
first_number = negsuc 170141183460469231731687303715884105727

abbrev pub first_moment : Moment
first_moment = (first_number, least_ref, 0)

abbrev pub IsFromFirst : Moment → Type 0
IsFromFirst k = is_lt (moment_cmp k first_moment) ≡ false

-- no moment is before the first one
abbrev pub AllFromFirst : Changes → Type 0
AllFromFirst m = (k : ChangeKey) → contains_key m k ≡ true → IsFromFirst k.1

abbrev pub is_later : Option Moment → Moment → Bool
is_later None k = true
is_later (Some other) k = is_lt (moment_cmp other k)

-- the bound at which the changes of p begin, or continue after a moment
abbrev pub changes_start : List ℕ → Option Moment → Bound ChangeKey
changes_start p None = Included (p, first_moment)
changes_start p (Some k) = Excluded (p, k)

-- the changes of p after a moment, or all
abbrev pub changes_after : Changes → List ℕ → Option Moment → List (ChangeKey × Unit {0})
changes_after m p after = filter (λ e. bytes_eq p e.0.0 && is_later after e.0.1) (entries m)

abbrev pub changes_from : Changes → Bound ChangeKey → List (ChangeKey × Unit {0})
changes_from m start = filter (λ e. is_from_start change_cmp start e.0) (entries m)

abbrev pub changes_above : Changes → ChangeKey → List (ChangeKey × Unit {0})
changes_above m k = filter (λ e. is_lt (change_cmp k e.0)) (entries m)

-- the changes of p before a moment
abbrev pub changes_before : Changes → List ℕ → Moment → List (ChangeKey × Unit {0})
changes_before m p k = filter (λ e. bytes_eq p e.0.0 && is_lt (moment_cmp e.0.1 k)) (entries m)

abbrev pub changes_below : Changes → ChangeKey → List (ChangeKey × Unit {0})
changes_below m k = filter (λ e. is_lt (change_cmp e.0 k)) (entries m)

-- whether a key is of p, and its moment is dated at or before that time
abbrev pub is_until : When → List ℕ → ChangeKey → Bool
is_until when p k = bytes_eq p k.0 && counts_at when k.1.0

-- the moments of p that are dated at or before that time, in their order
abbrev pub moments_until : Changes → When → List ℕ → List Moment
moments_until m when p = map (λ e. e.0.1) (filter (λ e. is_until when p e.0) (entries m))

-- the moments of p up to one; none up to none
abbrev pub moments_to : Changes → List ℕ → Option Moment → List Moment
moments_to m p None = []
moments_to m p (Some k) = map (λ e. e.0.1) (changes_before m p k) ++ k ∷ []

-- a moment is determined by its parts
abbrev pub moment_code : Coded Moment
moment_code =
    code_by ((ℤ × List ℕ) × ℕ) (coded× (coded× coded_ℤ (coded_list coded_ℕ)) coded_ℕ)
    (λ k. ((k.0, k.1), k.2)) (λ p. (p.0.0, p.0.1, p.1)) (λ k i. k)
