-- Which refs are asked after.
use Rattle.std.specs.Prelude.{ℕ, ◌+◌, Bool, true, false, List, [], ◌∷◌, length, codes}
use Rattle.std.specs.Prelude.{Option, Some, None, Result, Ok, Err, if◌then◌else◌, bytes_eq, nat_lt}
use Rattle.std.specs.List.{before_first, list_any, flat_map}
use Rattle.form_urlencoded.specs.Form.{raw_pairs}
use Rattle.answer_text.specs.declared.refusal.Refusal.{Refusal}
use Rattle.answer_text.specs.declared.refusal.Refusal.TheVariants.{BadVersion, BadRef, TooLong}
use Rattle.blob_routes.specs.declared.places.AskedRef.{AskedRef}
use Rattle.blob_routes.specs.declared.places.AskedRef.TheVariants.{Missing, Wrong, Right}
use Rattle.http_exchange.specs.Parameters.{first_value}
use Rattle.blob_routes.specs.Places.{places_of}

-- the most refs that may be asked after at once
abbrev pub most_refs : ℕ
most_refs = 1000

abbrev pub is_missing : AskedRef → Bool
is_missing Missing = true
is_missing Wrong = false
is_missing (Right r) = false

abbrev pub is_wrong : AskedRef → Bool
is_wrong Missing = false
is_wrong Wrong = true
is_wrong (Right r) = false

abbrev pub right_ref : AskedRef → List (List ℕ)
right_ref Missing = []
right_ref Wrong = []
right_ref (Right r) = r ∷ []

-- the refs of these places, of which so many may stand
abbrev pub refs_at : ℕ → List AskedRef → Result (List (List ℕ)) Refusal
refs_at most places =
    if nat_lt most (length places) then Err (TooLong most)
    else if list_any is_wrong places then Err BadRef
    else Ok (flat_map right_ref places)

-- those under 1, 2 and so on, up to the first number under which nothing is asked. One above the limit tells enough
abbrev pub refs_in : ℕ → List (List ℕ × List ℕ) → Result (List (List ℕ)) Refusal
refs_in most pairs = refs_at most (before_first is_missing (places_of (most + 1) pairs))

-- the version of the protocol is 1
abbrev pub is_version : Option (List ℕ) → Bool
is_version None = false
is_version (Some text) = bytes_eq text (codes "1")

-- by the parameters of a text
abbrev pub refs_by : List (List ℕ × List ℕ) → Result (List (List ℕ)) Refusal
refs_by pairs =
    if is_version (first_value (codes "camliversion") pairs) then refs_in most_refs pairs else Err BadVersion

-- where the parameters are
abbrev pub parameters_text : Bool → List ℕ → List ℕ → List ℕ
parameters_text posted query body = if posted then body else query

-- the refs that are asked after, or the refusal
unfoldable pub refs_of : Bool → List ℕ → List ℕ → Result (List (List ℕ)) Refusal
refs_of posted query body = refs_by (raw_pairs (parameters_text posted query body))
