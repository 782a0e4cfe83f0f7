-- The question of a request, by its head and its body.
use Rattle.std.specs.Prelude.{◌≡◌, ℕ, ◌==◌, Bool, List, [], ◌∷◌, take, drop, codes, if◌then◌else◌}
use Rattle.std.specs.Prelude.{Option, Some, None, option_and_then, option_map, Result, Ok, Err}
use Rattle.std.specs.List.{slice_split}
use Rattle.std.specs.Str.{bytes_eq}
use Rattle.form_urlencoded.specs.Form.{raw_pairs}
use Rattle.blobref.specs.Blobref.{blobref_in}
use Rattle.answer_text.specs.declared.refusal.Refusal.{Refusal}
use Rattle.answer_text.specs.declared.refusal.Refusal.TheVariants as refusal
use Rattle.http_wire.specs.declared.body.Body.TheVariants.{Done}
use Rattle.http_wire.specs.declared.head.Head.{Head}
use Rattle.http_wire.specs.declared.head.Framing.{Framing}
use Rattle.http_wire.specs.Wires.{body_of}
use Rattle.http_exchange.specs.Before.{most_body, within}
use Rattle.http_exchange.specs.HeadPlaces.{piece}
use Rattle.http_exchange.specs.Parameters.{first_value}
use Rattle.share_http.specs.declared.asking.Question.{Question}
use Rattle.share_http.specs.declared.asking.Question.TheVariants.{Refused, Path}

-- ---- before the body is read

-- the ref that a path names
abbrev pub share_ref : List ℕ → Option (List ℕ)
share_ref path = if bytes_eq (take 7 path) (codes "/share/") then blobref_in (drop 7 path) else None

abbrev pub routed_ref : List ℕ → Option (List ℕ) → Result (List ℕ) Refusal
routed_ref method None = Err refusal.NoRoute
routed_ref method (Some r) = if bytes_eq method (codes "GET") then Ok r else Err refusal.Method

-- the ref that a request asks for by its method and its path, or why it is refused
abbrev pub routed_of : List ℕ → Head → Result (List ℕ) Refusal
routed_of head says = routed_ref (piece head says.method) (share_ref (piece head says.path))

abbrev pub early_by : List ℕ → Result (Unit {0}) Refusal → Result (List ℕ) Refusal
early_by r (Ok fine) = Ok r
early_by r (Err why) = Err why

abbrev pub first_by : Head → Result (List ℕ) Refusal → Result (List ℕ) Refusal
first_by says (Ok r) = early_by r (within most_body says.framing)
first_by says (Err why) = Err why

-- the ref that a request asks for, or why it is refused before its body is read
abbrev pub first_of : List ℕ → Head → Result (List ℕ) Refusal
first_of head says = first_by says (routed_of head says)

-- ---- the refs of `via`

abbrev pub is_comma : ℕ → Bool
is_comma c = c == 44

-- each is a blobref
abbrev pub refs_of : List (List ℕ) → Option (List (List ℕ))
refs_of [] = Some []
refs_of (x ∷ xs) = option_and_then (λ r. option_map (λ rs. r ∷ rs) (refs_of xs)) (blobref_in x)

-- the refs of a string between commas; an empty string has none
abbrev pub via_of : List ℕ → Option (List (List ℕ))
via_of [] = Some []
via_of (c ∷ cs) = refs_of (slice_split is_comma (c ∷ cs))

abbrev pub via_or_none : Option (List ℕ) → Option (List (List ℕ))
via_or_none None = Some []
via_or_none (Some text) = via_of text

-- the refs of the first `via` of a query
abbrev pub via_in : List ℕ → Option (List (List ℕ))
via_in query = via_or_none (first_value (codes "via") (raw_pairs query))

abbrev pub question_by : List ℕ → Option (List (List ℕ)) → Question
question_by r None = Refused refusal.BadRef
question_by r (Some via) = Path r via

-- ---- after the body was read to its end

-- a request that is refused before its body is read has no body to read
abbrev pub IsAskedBy : Result (List ℕ) Refusal → Framing → List ℕ → Question → Type 0
IsAskedBy (Ok r) framing query q = q ≡ question_by r (via_in query)
IsAskedBy (Err why) framing query q = (q ≡ Refused why) × (body_of framing ≡ Done)

-- the question of a request with this head
abbrev pub IsAsked : List ℕ → Head → Question → Type 0
IsAsked head says q = IsAskedBy (first_of head says) says.framing (piece head says.query) q
