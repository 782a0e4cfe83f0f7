-- The answer to a query (docs/search.md), and its text.
use Rattle.std.specs.Prelude.{ℕ, List, map, take, filter, Option, ℤ}
use Rattle.std.specs.Ordering.{int_cmp, ordering_then}
use Rattle.std.specs.Option.{option_cmp}
use Rattle.std.specs.declared.cmp.Ordering.{Ordering}
use Rattle.std.specs.FinMap.{keys, from_entries}
use Rattle.blobref.specs.Blobref.{ref_cmp}
use Rattle.claim_verify.specs.Verifier.{Accepts}
use Rattle.claim_model.specs.Facts.{Facts}
use Rattle.claim_model.specs.Deleted.{live_permanodes}
use Rattle.claim_model.specs.Claims.{last_change}
use Rattle.answer_text.specs.Search.{search_text}
use Rattle.search_query.specs.declared.query.Sort.{Sort}
use Rattle.search_query.specs.declared.query.Sort.TheVariants.{Ref, Mod, ModDown}
use Rattle.search_query.specs.declared.query.Query.{Query}
use Rattle.search_query.specs.View.{view}
use Rattle.search_meets.specs.Meaning.{meets}

-- a permanode behind the date of its last change, where it has one
abbrev pub Dated : Type 0
Dated = Option ℤ × List ℕ

-- by date, none first, then by ref
abbrev pub rising_cmp : Dated → Dated → Ordering
rising_cmp a b = ordering_then (option_cmp int_cmp a.0 b.0) (ref_cmp a.1 b.1)

-- by date the other way round, none last, then by ref
abbrev pub falling_cmp : Dated → Dated → Ordering
falling_cmp a b = ordering_then (option_cmp int_cmp b.0 a.0) (ref_cmp a.1 b.1)

-- the refs of some keys, in the order of the keys
abbrev pub refs_by : (Dated → Dated → Ordering) → List Dated → List (List ℕ)
refs_by cmp dated = map (λ e. e.1) (keys (from_entries {R = cmp} (map (λ e. (e, e.1)) dated)))

-- each ref behind the date of its last change
abbrev pub dated : (List ℕ → Option ℤ) → List (List ℕ) → List Dated
dated changed refs = map (λ r. (changed r, r)) refs

-- refs that ascend, in the order that a query asks for
abbrev pub in_order : Sort → (List ℕ → Option ℤ) → List (List ℕ) → List (List ℕ)
in_order Ref changed refs = refs
in_order Mod changed refs = refs_by rising_cmp (dated changed refs)
in_order ModDown changed refs = refs_by falling_cmp (dated changed refs)

-- the genuine permanodes not deleted at the query's date that meet its constraint then, ascending
abbrev pub found : Facts → Accepts → Query → List (List ℕ)
found facts accepts query = filter (meets facts accepts (view query.constraint) query.at) (live_permanodes facts accepts query.at)

-- the same in the query's order, cut to the first `limit`
abbrev pub answer : Facts → Accepts → Query → List (List ℕ)
answer facts accepts query = take query.limit (in_order query.sort (last_change facts accepts query.at) (found facts accepts query))

-- the bytes of the answer
abbrev pub answer_bytes : Facts → Accepts → Query → List ℕ
answer_bytes facts accepts query = search_text (answer facts accepts query)
