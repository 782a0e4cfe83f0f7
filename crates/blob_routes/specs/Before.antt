-- What is refused before the body of a request is read.
use Rattle.std.specs.Prelude.{ℕ, List, Option, Some, None, option_and_then, Result, Ok, Err}
use Rattle.multipart_read.specs.Limits.{most_bytes}
use Rattle.multipart_read.specs.Parameters.{boundary_of}
use Rattle.http_wire.specs.declared.head.Framing.{Framing}
use Rattle.answer_text.specs.declared.refusal.Refusal.{Refusal}
use Rattle.answer_text.specs.declared.refusal.Refusal.TheVariants.{BadMultipart}
use Rattle.http_exchange.specs.Before.{most_body, within}
use Rattle.blob_routes.specs.declared.routes.Route.{Route}
use Rattle.blob_routes.specs.declared.routes.Route.TheVariants.{Blob, Stat, Upload, Page, Search}

-- the boundary that the content type gives, where there is one
abbrev pub boundary_in : Option (List ℕ) → Option (List ℕ)
boundary_in content_type = option_and_then boundary_of content_type

-- a boundary, where nothing is refused
abbrev pub unless : Result (Unit {0}) Refusal → List ℕ → Result (List ℕ) Refusal
unless (Ok fine) boundary = Ok boundary
unless (Err why) boundary = Err why

-- of an upload with this boundary, which may announce as many bytes as a body may have
abbrev pub upload_of : Framing → Option (List ℕ) → Result (List ℕ) Refusal
upload_of framing None = Err (BadMultipart 0)
upload_of framing (Some boundary) = unless (within most_bytes framing) boundary

-- what an upload is refused for, or else its boundary
abbrev pub upload_early : Framing → Option (List ℕ) → Result (List ℕ) Refusal
upload_early framing content_type = upload_of framing (boundary_in content_type)

-- the refusal alone
abbrev pub refusal_in : Result (List ℕ) Refusal → Result (Unit {0}) Refusal
refusal_in (Ok boundary) = Ok tt
refusal_in (Err why) = Err why

-- what a request along this route is refused for
unfoldable pub early_of : Route → Framing → Option (List ℕ) → Result (Unit {0}) Refusal
early_of Upload framing content_type = refusal_in (upload_early framing content_type)
early_of (Blob r) framing content_type = within most_body framing
early_of (Stat posted) framing content_type = within most_body framing
early_of Page framing content_type = within most_body framing
early_of Search framing content_type = within most_body framing
