-- A valid request gets its answer.
use Rattle.std.specs.Prelude.{◌≡◌, ◌≤◌, ◌⊎◌, ℕ, List, ◌++◌, length, take, All, Bool, true, false, Option, Some, None}
use Rattle.std.specs.Prelude.{Ok, Contains}
use Rattle.claim_verify.specs.Verifier.{Accepts}
use Rattle.answer_text.specs.declared.refusal.Refusal.{Refusal}
use Rattle.answer_text.specs.Listings.{upload_text}
use Rattle.histories.specs.declared.stamped.Stamped.{Stamped}
use Rattle.histories.specs.declared.events.StoreEvent.{StoreEvent}
use Rattle.histories.specs.declared.events.StoreEvent.TheVariants as store
use Rattle.histories.specs.History.{stamp, has}
use Rattle.histories.specs.Stores.{Blob, arrivals}
use Rattle.histories.specs.declared.events.Insertion.{Insertion}
use Rattle.histories.specs.StoreCalls.{sizes}
use Rattle.http_wire.specs.Speaking.{Request, IsRequest, IsBegun}
use Rattle.multipart_read.specs.PartLists.{Part, IsMultipart}
use Rattle.blob_routes.specs.declared.routes.Allowed.{Allowed}
use Rattle.blob_routes.specs.declared.routes.Route.{Route}
use Rattle.blob_routes.specs.declared.routes.Route.TheVariants as route
use Rattle.http_exchange.specs.Before.{most_body}
use Rattle.multipart_read.specs.Limits.{most_bytes}
use Rattle.blob_upload.specs.Faults.{part_fault}
use Rattle.blob_http.specs.declared.entries.Outcome.{Outcome}
use Rattle.blob_http.specs.declared.entries.Outcome.TheVariants.{Defined, Memory}
use Rattle.blob_http.specs.declared.operations.Operation.{Operation}
use Rattle.blob_http.specs.declared.operations.Operation.TheVariants.{Refused}
use Rattle.http_exchange.specs.Asked.{Asked, Whole, Front, Head}
use Rattle.blob_http.specs.Operations.{IsAsked, first_of}
use Rattle.blob_http.specs.Answers.{IsDefined}
use Rattle.http_exchange.specs.Replies.{json_reply, memory_reply}
use Rattle.blob_http.specs.Keeping.{boundary_at}
use Rattle.blob_http.specs.Serving.{Answer, AnswerHolds}

-- ---- a valid request

-- the body of an upload is whole, it isn't too long, and none of its parts has a fault
pub record IsGoodUpload (boundary body : List ℕ) : Type 0 where
  pub parts : List Part
  pub whole : IsMultipart boundary body parts (Ok tt)
  pub short : length body ≤ most_bytes
  pub sound : All (λ (part : Part). part_fault part ≡ None) parts

-- the body of another request isn't too long, and what is asked with it isn't refused
pub record IsGoodOperation (r : Request) : Type 0 where
  pub short : length r.body ≤ most_body
  pub fits : (why : Refusal) (allow : Option Allowed) → IsAsked r.head r.says r.body (Refused why allow) → ⊥

abbrev pub HasGoodBody : Request → Route → Type 0
HasGoodBody r (route.Blob ref) = IsGoodOperation r
HasGoodBody r (route.Stat posted) = IsGoodOperation r
HasGoodBody r route.Upload =
    (boundary : List ℕ) × (boundary_at r.head r.says ≡ Some boundary) × IsGoodUpload boundary r.body
HasGoodBody r route.Page = IsGoodOperation r
HasGoodBody r route.Search = IsGoodOperation r

-- no refusal fits the request, neither by its head nor by its body
pub record IsValid (r : Request) : Type 0 where
  pub is : IsRequest r
  pub route : Route
  pub first : first_of r.head r.says ≡ Ok route
  pub body : HasGoodBody r route

-- This was answered of a stream that goes on with the request, and then with the rest: all of the request, or as much
-- of it as was read.
abbrev pub IsOf : Request → List ℕ → Asked → Type 0
IsOf r rest (Whole s) = s ≡ r
IsOf r rest (Front b after) = IsBegun b × (b.head ≡ r.head) × (b.says ≡ r.says)
    × ((bytes : List ℕ) × (after ≡ Some bytes) × (r.framed ++ rest ≡ b.framed ++ bytes))
IsOf r rest (Head end) = ⊥

-- ---- its answer

abbrev pub is_put : StoreEvent → Bool
is_put (store.Put n r bytes) = true
is_put (store.Fault f) = false
is_put (store.Damage want is) = false
is_put (store.Full blobs pack) = false

-- no entry under these turns shows a fault of the disk, damage, or that the store was full
abbrev pub IsCalm : List (Stamped StoreEvent) → List ℕ → Type 0
IsCalm h turns = (t : ℕ) (e : StoreEvent) → has turns t ≡ true → Contains h (stamp t e) → is_put e ≡ true

-- the reply that is defined: all parts of an upload were received, or the operation is answered
abbrev pub IsDefinedReply : Bool → Accepts → List Blob → List Insertion → Request → List ℕ → Type 0
IsDefinedReply tells accepts blobs g r text =
    ((boundary : List ℕ) × (parts : List Part) × (boundary_at r.head r.says ≡ Some boundary)
    × IsMultipart boundary r.body parts (Ok tt)
    × (text ≡ json_reply r.says.closes (upload_text (sizes parts) None)))
    ⊎ ((q : Operation) × IsAsked r.head r.says r.body q × IsDefined tells accepts blobs g r.says.closes q text)

-- the request was answered as is defined, or for want of memory
abbrev pub IsServed : Bool → Accepts → List Blob → List Insertion → Request → Outcome → List ℕ → Type 0
IsServed tells accepts blobs g r outcome text = ((outcome ≡ Memory) × (text ≡ memory_reply))
    ⊎ ((outcome ≡ Defined) × IsDefinedReply tells accepts blobs g r text)

-- each valid request that is answered, and under whose turns nothing fails, is answered so
abbrev pub ValidIsServed : Type 0
ValidIsServed = (tells : Bool) (accepts : Accepts) (h : List (Stamped StoreEvent)) (g : List Insertion) (a : Answer)
    (r : Request) (rest : List ℕ) → AnswerHolds tells accepts h g a → IsValid r → IsOf r rest a.asked
    → IsCalm h a.turns → IsServed tells accepts (take a.entry.store_count (arrivals h)) (take a.entry.index_count g) r
    a.entry.outcome a.text
