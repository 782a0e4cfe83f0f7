-- The genuine claims, grouped by what they are about.
use Rattle.std.specs.Prelude.{ℕ, ◌&&◌, ◌++◌, not, Bool, List, [], map, filter, slice_get, Option, Some, None, option_map, option_and_then, if◌then◌else◌, ℤ}
use Rattle.std.specs.List.{list_any}
use Rattle.std.specs.Str.{bytes_eq}
use Rattle.std.specs.FinMap.{entries, get}
use Rattle.claim_verify.specs.Verifier.{Accepts}
use Rattle.schema_date.specs.declared.date.When.{When}
use Rattle.schema_fact.specs.Changes.{changes_of}
use Rattle.schema_fact.specs.Dependencies.{target_of}
use Rattle.schema_fact.specs.declared.changes.Change.{Change}
use Rattle.schema_fact.specs.declared.kinds.What.{What}
use Rattle.schema_fact.specs.declared.kinds.Kind.{Kind}
use Rattle.schema_fact.specs.declared.kinds.Kind.TheVariants.{Plain, Key, File, Bytes, Directory, StaticSet, Permanode, Claim, Unread}
use Rattle.claim_model.specs.Facts.{Entry, Facts}
use Rattle.claim_model.specs.Genuine.{is_genuine, is_genuine_permanode}
use Rattle.claim_model.specs.Deleted.{is_deleted}
use Rattle.claim_model.specs.Changes.{change_values}
use Rattle.claim_model.specs.Claims.{stands_at, has_value}
use Rattle.claim_model.specs.ByClaim.{claim_on, apply}

-- the refs that a claim is about: those whose attributes it changes, and the target that it deletes
abbrev pub what_subjects : What → List (List ℕ)
what_subjects what = map (λ change. change.on) (changes_of what) ++ target_of what

abbrev pub subjects : Kind → List (List ℕ)
subjects Plain = []
subjects (Key name) = []
subjects (File name parts) = []
subjects (Bytes parts) = []
subjects (Directory name entries) = []
subjects (StaticSet members) = []
subjects (Permanode signed) = []
subjects (Claim signed date what) = what_subjects what
subjects (Unread name) = []

-- whether it is a claim about q
abbrev pub is_about : List ℕ → Kind → Bool
is_about q kind = list_any (bytes_eq q) (subjects kind)

-- the claims about q among those that pass the test, each once, behind q
abbrev pub about : (List ℕ → Bool) → List ℕ → List Entry → List (List ℕ × List ℕ)
about test q es = map (λ e. (q, e.0)) (filter (λ e. test e.0 && is_about q e.1.kind) es)

-- the genuine claims about q, ascending
abbrev pub claims_about : Facts → Accepts → List ℕ → List (List ℕ × List ℕ)
claims_about facts accepts q = about (is_genuine facts accepts) q (entries facts)

-- what the claim r says of p, where it counts at that time, under its date and ref
abbrev pub counted_claim : Facts → Accepts → When → List ℕ → List ℕ → Option ((ℤ × List ℕ) × What)
counted_claim facts accepts when p r = if is_deleted facts accepts when r then None else option_and_then (λ fact. claim_on p when r fact.kind) (get facts r)

-- what a claim says
abbrev pub claim_says : Kind → Option What
claim_says Plain = None
claim_says (Key name) = None
claim_says (File name parts) = None
claim_says (Bytes parts) = None
claim_says (Directory name entries) = None
claim_says (StaticSet members) = None
claim_says (Permanode signed) = None
claim_says (Claim signed date what) = Some what
claim_says (Unread name) = None

-- what the claim r says
abbrev pub said : Facts → List ℕ → Option What
said facts r = option_and_then (λ fact. claim_says fact.kind) (get facts r)

-- the change at a place of what the claim r says
abbrev pub change_said : Facts → List ℕ → ℕ → Option Change
change_said facts r place = option_and_then (λ what. slice_get (changes_of what) place) (said facts r)

-- what a change leaves of the values, if there is one
abbrev pub values_with : List ℕ → List (List ℕ) → Option Change → List (List ℕ)
values_with name found None = found
values_with name found (Some change) = change_values name found change

-- the same of a change that may be on another than p: then nothing
abbrev pub values_with_own : List ℕ → List ℕ → List (List ℕ) → Option Change → List (List ℕ)
values_with_own p name found None = found
values_with_own p name found (Some change) = if bytes_eq p change.on then change_values name found change else found

-- what is left of the values after a claim, if it is one
abbrev pub apply_said : List ℕ → List ℕ → List (List ℕ) → Option What → List (List ℕ)
apply_said p name found None = found
apply_said p name found (Some what) = apply p name found what

-- the moment of an attribute claim on p that counts at that time, is genuine, and isn't deleted then
abbrev pub standing_moment : Facts → Accepts → When → List ℕ → Entry → Option (ℤ × List ℕ)
standing_moment facts accepts when p e =
    option_and_then (λ m. if stands_at facts accepts when e.0 then Some m else None) (option_map (λ c. c.0) (claim_on p when e.0 e.1.kind))

-- whether it is a genuine permanode that isn't deleted at that time and has the value of the attribute then
abbrev pub is_holder : Facts → Accepts → When → List ℕ → List ℕ → List ℕ → Bool
is_holder facts accepts when name value r =
    (is_genuine_permanode facts accepts r && not (is_deleted facts accepts when r)) && has_value facts accepts when name value r
