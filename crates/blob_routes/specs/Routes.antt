-- The route of a request, by its method and its path.
use Rattle.std.specs.Prelude.{ℕ, true, false, List, take, drop, codes}
use Rattle.std.specs.Prelude.{Option, Some, None, Result, Ok, Err, if◌then◌else◌}
use Rattle.std.specs.Str.{bytes_eq}
use Rattle.blobref.specs.Blobref.{blobref_in}
use Rattle.blob_routes.specs.declared.routes.Route.{Route}
use Rattle.blob_routes.specs.declared.routes.Route.TheVariants.{Blob, Stat, Upload, Page, Search}
use Rattle.blob_routes.specs.declared.routes.Allowed.{Allowed}
use Rattle.blob_routes.specs.declared.routes.Allowed.TheVariants.{Get, GetPost, Post}
use Rattle.blob_routes.specs.declared.routes.RouteFault.{RouteFault}
use Rattle.blob_routes.specs.declared.routes.RouteFault.TheVariants.{NoRoute, Method}

-- the methods, as the header tells them
abbrev pub allowed_text : Allowed → List ℕ
allowed_text Get = codes "GET"
allowed_text GetPost = codes "GET, POST"
allowed_text Post = codes "POST"

-- a route that is asked by one method; the path is asked by these
abbrev pub asked_by : List ℕ → Allowed → Route → List ℕ → Result Route RouteFault
asked_by wanted allow route method = if bytes_eq method wanted then Ok route else Err (Method allow)

abbrev pub stat_by : List ℕ → Result Route RouteFault
stat_by method =
    if bytes_eq method (codes "GET") then Ok (Stat false)
    else asked_by (codes "POST") GetPost (Stat true) method

-- the ref that a path names
abbrev pub ref_at : List ℕ → Option (List ℕ)
ref_at path = if bytes_eq (take 7 path) (codes "/camli/") then blobref_in (drop 7 path) else None

abbrev pub blob_by : List ℕ → Option (List ℕ) → Result Route RouteFault
blob_by method None = Err NoRoute
blob_by method (Some r) = asked_by (codes "GET") Get (Blob r) method

-- the table of docs/http.md
unfoldable pub route_of : List ℕ → List ℕ → Result Route RouteFault
route_of method path =
    if bytes_eq path (codes "/camli/stat") then stat_by method
    else if bytes_eq path (codes "/camli/upload") then asked_by (codes "POST") Post Upload method
    else if bytes_eq path (codes "/camli/enumerate-blobs") then asked_by (codes "GET") Get Page method
    else if bytes_eq path (codes "/camli/search/query") then asked_by (codes "POST") Post Search method
    else blob_by method (ref_at path)
