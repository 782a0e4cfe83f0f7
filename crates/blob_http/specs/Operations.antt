-- What a request asks, by its head and its body.
use Rattle.std.specs.Prelude.{◌≡◌, ◌≤◌, ℕ, List, Bool, true, false, Some, None, option_map, Result, Ok, Err}
use Rattle.answer_text.specs.declared.refusal.Refusal.{Refusal}
use Rattle.answer_text.specs.declared.refusal.Refusal.TheVariants as refusal
use Rattle.http_wire.specs.declared.body.Body.TheVariants.{Done}
use Rattle.http_wire.specs.declared.head.Head.{Head}
use Rattle.http_wire.specs.declared.head.Framing.{Framing}
use Rattle.blob_routes.specs.declared.routes.Route.{Route}
use Rattle.blob_routes.specs.declared.routes.Route.TheVariants as route
use Rattle.blob_routes.specs.declared.routes.RouteFault.{RouteFault}
use Rattle.blob_routes.specs.declared.routes.RouteFault.TheVariants as fault
use Rattle.blob_routes.specs.declared.pages.Page.{Page}
use Rattle.blob_routes.specs.Routes.{route_of}
use Rattle.blob_routes.specs.Before.{early_of}
use Rattle.blob_routes.specs.Stats.{refs_of}
use Rattle.blob_routes.specs.Pages.{page_of, most_page}
use Rattle.blob_routes.specs.Queries.{question_of}
use Rattle.search_query.specs.View.{question}
use Rattle.http_wire.specs.Wires.{body_of}
use Rattle.http_exchange.specs.HeadPlaces.{piece}
use Rattle.blob_http.specs.declared.operations.Operation.{Operation}
use Rattle.blob_http.specs.declared.operations.Operation.TheVariants.{Refused, Blob, Stat, Refs, Search}

-- ---- before the body is read

-- a refusal without methods
abbrev pub refused : Refusal → Operation
refused why = Refused why None

abbrev pub refused_by : RouteFault → Operation
refused_by fault.NoRoute = refused refusal.NoRoute
refused_by (fault.Method allow) = Refused refusal.Method (Some allow)

-- the route of a request by its method and its path, or how it is refused by these
abbrev pub routed_by : Result Route RouteFault → Result Route Operation
routed_by (Ok r) = Ok r
routed_by (Err why) = Err (refused_by why)

abbrev pub routed_of : List ℕ → Head → Result Route Operation
routed_of head says = routed_by (route_of (piece head says.method) (piece head says.path))

abbrev pub early_by : Route → Result (Unit {0}) Refusal → Result Route Operation
early_by r (Ok fine) = Ok r
early_by r (Err why) = Err (refused why)

abbrev pub first_by : List ℕ → Head → Result Route Operation → Result Route Operation
first_by head says (Ok r) = early_by r (early_of r says.framing (option_map (piece head) says.content_type))
first_by head says (Err q) = Err q

-- the route of a request, or how it is refused before its body is read
abbrev pub first_of : List ℕ → Head → Result Route Operation
first_of head says = first_by head says (routed_of head says)

-- a page that is asked isn't too long
abbrev pub IsFew : Operation → Type 0
IsFew (Refused why allow) = Unit {0}
IsFew (Blob r) = Unit {0}
IsFew (Stat refs) = Unit {0}
IsFew (Refs page) = page.limit ≤ most_page
IsFew (Search query) = Unit {0}

abbrev pub is_upload : Route → Bool
is_upload (route.Blob r) = false
is_upload (route.Stat posted) = false
is_upload route.Upload = true
is_upload route.Page = false
is_upload route.Search = false

-- ---- by the body too

abbrev pub stat_of : Result (List (List ℕ)) Refusal → Operation
stat_of (Ok refs) = Stat refs
stat_of (Err why) = refused why

abbrev pub refs_asked : Result Page Refusal → Operation
refs_asked (Ok page) = Refs page
refs_asked (Err why) = refused why

-- a query that means what the body asks, or the body's refusal
abbrev pub IsSearch : List ℕ → Operation → Type 0
IsSearch body (Search query) = question_of body ≡ Ok (question query)
IsSearch body (Refused why allow) = (question_of body ≡ Err why) × (allow ≡ None)
IsSearch body (Blob r) = ⊥
IsSearch body (Stat refs) = ⊥
IsSearch body (Refs page) = ⊥

-- what is asked along a route that isn't an upload's
abbrev pub IsAskedAt : Route → List ℕ → List ℕ → Operation → Type 0
IsAskedAt (route.Blob r) query body q = q ≡ Blob r
IsAskedAt (route.Stat posted) query body q = q ≡ stat_of (refs_of posted query body)
IsAskedAt route.Page query body q = q ≡ refs_asked (page_of query)
IsAskedAt route.Search query body q = IsSearch body q
IsAskedAt route.Upload query body q = ⊥

-- a request that is refused before its body is read has no body to read
abbrev pub IsAskedBy : Result Route Operation → Framing → List ℕ → List ℕ → Operation → Type 0
IsAskedBy (Ok r) framing query body q = IsAskedAt r query body q
IsAskedBy (Err first) framing query body q = (q ≡ first) × (body_of framing ≡ Done)

-- what a request of this head and this body asks, as it was read to its end
abbrev pub IsAsked : List ℕ → Head → List ℕ → Operation → Type 0
IsAsked head says body q = IsAskedBy (first_of head says) says.framing (piece head says.query) body q
