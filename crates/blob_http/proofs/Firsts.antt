-- What is refused before the body of a request is read.
use Rattle.std.proofs.Common.{◌≡◌, ℕ, List, false, Option, Some, None, Result, Ok, Err, refl, ap, sym, ◌∙◌}
use Rattle.std.specs.Option.{option_map}
use Rattle.http_wire.specs.declared.head.Head.{Head}
use Rattle.http_wire.specs.declared.head.Framing.{Framing}
use Rattle.answer_text.specs.declared.refusal.Refusal.{Refusal}
use Rattle.answer_text.specs.declared.refusal.Refusal.TheVariants as refusal
use Rattle.http_exchange.specs.Before.{most_body, within}
use Rattle.http_exchange.specs.HeadPlaces.{piece}
use Rattle.http_exchange.proofs.Reading.{true_not}
use Rattle.blob_routes.specs.declared.routes.Allowed.{Allowed}
use Rattle.blob_routes.specs.declared.routes.Route.{Route}
use Rattle.blob_routes.specs.declared.routes.Route.TheVariants as route
use Rattle.blob_routes.specs.declared.routes.RouteFault.{RouteFault}
use Rattle.blob_routes.specs.declared.routes.RouteFault.TheVariants as fault
use Rattle.blob_routes.specs.Routes.{route_of}
use Rattle.multipart_read.specs.Limits.{most_bytes}
use Rattle.blob_routes.specs.Before.{early_of, upload_early, upload_of, boundary_in, unless, refusal_in}
use Rattle.blob_http.specs.declared.operations.Operation.{Operation}
use Rattle.blob_http.specs.declared.operations.Operation.TheVariants as operation
use Rattle.blob_http.specs.Operations.{is_upload, first_of, first_by, early_by, routed_of, routed_by, refused_by}

-- by the method and the path alone
pub first_unrouted : (head : List ℕ) (says : Head) (q : Operation) → routed_of head says ≡ Err q
    → first_of head says ≡ Err q
first_unrouted head says q is = ap (first_by head says) is

early_at : (r : Route) (framing : Framing) (content_type : Option (List ℕ)) → is_upload r ≡ false
    → early_of r framing content_type ≡ within most_body framing
unfolding early_of
early_at (route.Blob x) framing content_type other = refl
early_at (route.Stat posted) framing content_type other = refl
early_at route.Upload framing content_type other = absurd (true_not other)
early_at route.Page framing content_type other = refl
early_at route.Search framing content_type other = refl

-- of a request that isn't an upload
pub first_operation : (head : List ℕ) (says : Head) (r : Route) (checked : Result (Unit {0}) Refusal)
    → routed_of head says ≡ Ok r → is_upload r ≡ false → within most_body says.framing ≡ checked
    → first_of head says ≡ early_by r checked
first_operation head says r checked is other says_so =
    ap (first_by head says) is
    ∙ ap (early_by r) (early_at r says.framing (option_map (piece head) says.content_type) other ∙ says_so)

-- whose body isn't said to be too long
pub first_fits : (head : List ℕ) (says : Head) (r : Route) → routed_of head says ≡ Ok r → is_upload r ≡ false
    → Ok tt ≡ within most_body says.framing → first_of head says ≡ Ok r
first_fits head says r is other fits = first_operation head says r (Ok tt) is other (sym fits)

early_upload : (framing : Framing) (content_type : Option (List ℕ))
    → early_of route.Upload framing content_type ≡ refusal_in (upload_early framing content_type)
unfolding early_of
early_upload framing content_type = refl

-- of an upload
pub first_upload : (head : List ℕ) (says : Head) (checked : Result (List ℕ) Refusal)
    → routed_of head says ≡ Ok route.Upload
    → upload_early says.framing (option_map (piece head) says.content_type) ≡ checked
    → first_of head says ≡ early_by route.Upload (refusal_in checked)
first_upload head says checked is says_so =
    ap (first_by head says) is
    ∙ ap (early_by route.Upload) (early_upload says.framing (option_map (piece head) says.content_type)
    ∙ ap refusal_in says_so)

-- its boundary is that of the content type
bounds_of : (framing : Framing) (content_type : Option (List ℕ)) (boundary : List ℕ)
    → upload_early framing content_type ≡ Ok boundary → boundary_in content_type ≡ Some boundary
bounds_of framing content_type boundary is = by_boundary (boundary_in content_type) is
  where
    by_check : (c : List ℕ) (checked : Result (Unit {0}) Refusal) → unless checked c ≡ Ok boundary
        → Some c ≡ Some boundary
    by_check c (Ok fine) is = ap Some (cc is)
    by_check c (Err why) is = absurd (cc is)

    by_boundary : (o : Option (List ℕ)) → upload_of framing o ≡ Ok boundary → o ≡ Some boundary
    by_boundary None is = absurd (cc is)
    by_boundary (Some c) is = by_check c (within most_bytes framing) is

module _ (head : List ℕ) (says : Head) (content_type : Option (List ℕ)) (boundary : List ℕ)
    (same : content_type ≡ option_map (piece head) says.content_type)
    (is : upload_early says.framing content_type ≡ Ok boundary) where
  checked : upload_early says.framing (option_map (piece head) says.content_type) ≡ Ok boundary
  checked = ap (upload_early says.framing) (sym same) ∙ is

  -- an upload with this boundary isn't refused
  pub upload_first : routed_of head says ≡ Ok route.Upload → first_of head says ≡ Ok route.Upload
  upload_first routed = first_upload head says (Ok boundary) routed checked

  pub upload_bounds : boundary_in (option_map (piece head) says.content_type) ≡ Some boundary
  upload_bounds = bounds_of says.framing (option_map (piece head) says.content_type) boundary checked

-- what is refused so is a refusal
pub first_refused : (head : List ℕ) (says : Head) (q : Operation) → first_of head says ≡ Err q
    → (why : Refusal) × (allow : Option Allowed) × (q ≡ operation.Refused why allow)
first_refused head says q is = by_route (route_of (piece head says.method) (piece head says.path)) is
  where
    by_early : (r : Route) (checked : Result (Unit {0}) Refusal) → early_by r checked ≡ Err q
        → (why : Refusal) × (allow : Option Allowed) × (q ≡ operation.Refused why allow)
    by_early r (Ok fine) is = absurd (cc is)
    by_early r (Err why) is = (why, None, sym (cc is))

    by_fault : (f : RouteFault) → refused_by f ≡ q
        → (why : Refusal) × (allow : Option Allowed) × (q ≡ operation.Refused why allow)
    by_fault fault.NoRoute is = (refusal.NoRoute, None, sym is)
    by_fault (fault.Method allow) is = (refusal.Method, Some allow, sym is)

    by_route : (r : Result Route RouteFault) → first_by head says (routed_by r) ≡ Err q
        → (why : Refusal) × (allow : Option Allowed) × (q ≡ operation.Refused why allow)
    by_route (Ok r) is = by_early r (early_of r says.framing (option_map (piece head) says.content_type)) is
    by_route (Err f) is = by_fault f (cc is)
