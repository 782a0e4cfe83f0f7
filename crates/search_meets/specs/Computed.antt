-- What is computed on the way to an answer.
use Rattle.std.specs.Prelude.{◌≡◌, ℕ, ◌-◌, ◌&&◌, Bool, true, false, List, [], ◌∷◌, ◌++◌, length, filter, slice_get, Option, Some, None, if◌then◌else◌}
use Rattle.std.specs.BTreeMap.{BTreeMap, get}
use Rattle.std.specs.List.{list_any}
use Rattle.std.specs.Str.{bytes_eq}
use Rattle.blobref.specs.Blobref.{is_blobref, ref_cmp}
use Rattle.claim_verify.specs.Verifier.{Accepts}
use Rattle.schema_date.specs.declared.date.When.{When}
use Rattle.claim_model.specs.Facts.{Facts, passes}
use Rattle.claim_model.specs.Claims.{has_value, member_attribute, values}
use Rattle.search_query.specs.Mirror.{TestLeaves}
use Rattle.search_query.specs.declared.query.TextTest.{TextTest}
use Rattle.search_meets.specs.Tests.{int_meets}
use Rattle.search_meets.specs.Values.{is_live, is_ready_ref, value_meets}

-- a value that is the text of a ready ref and meets what is asked of it by itself
abbrev pub is_candidate : Facts → Option (List ℕ) → Option TextTest → List ℕ → Bool
is_candidate facts value matches v = value_meets value matches v && is_ready_ref facts v

-- the values that may be in a set, where their number meets the test
abbrev pub candidates : Facts → TestLeaves → List (List ℕ) → List (List ℕ)
candidates facts leaves vs = if int_meets leaves.num_value (length vs) then filter (is_candidate facts leaves.value leaves.value_matches) vs else []

-- the same for the values of an attribute of r, where it is a permanode that isn't deleted
unfoldable pub set_refs : Facts → Accepts → TestLeaves → When → List ℕ → List ℕ → List (List ℕ)
set_refs facts accepts leaves when name r = if is_live facts accepts when r then candidates facts leaves (values facts accepts when r name) else []

-- marks of those refs alone that an earlier mark is true of, put beside the earlier ones
abbrev pub spread : List Bool → List Bool → List Bool
spread [] more = []
spread (false ∷ marks) more = false ∷ spread marks more
spread (true ∷ marks) [] = false ∷ spread marks []
spread (true ∷ marks) (m ∷ more) = m ∷ spread marks more

-- whether p is the last of some refs
abbrev pub is_last : List ℕ → List (List ℕ) → Bool
is_last p refs = passes (bytes_eq p) (slice_get refs (length refs - 1))

-- the refs with p as the last of them
abbrev pub with_last : List ℕ → List (List ℕ) → List (List ℕ)
with_last p refs = if is_last p refs then refs else refs ++ p ∷ []

-- the same, if p is a parent
abbrev pub with_parent : Bool → List ℕ → List (List ℕ) → List (List ℕ)
with_parent is_parent p refs = if is_parent then with_last p refs else refs

-- under each of some refs, and under no other, stand those of some permanodes that have it among their members
abbrev pub AreParents : Facts → Accepts → When → List (List ℕ) → List (List ℕ) → BTreeMap (List ℕ) (List (List ℕ)) → Type 0
AreParents facts accepts when refs live found =
    (q : List ℕ) → is_blobref q ≡ true
    → get ref_cmp found q ≡ (if list_any (bytes_eq q) refs then Some (filter (has_value facts accepts when member_attribute q) live) else None)
