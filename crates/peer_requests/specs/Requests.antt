-- The requests of a client (docs/sync.md).
use Rattle.std.specs.Prelude.{◌≡◌, ℕ, List, [], ◌++◌, codes, length, Option, Some, None}
use Rattle.std.specs.Fmt.{decimal}
use Rattle.peer_requests.specs.Boundaries.{boundary_of, IsFree}

-- what ends a request without a body
abbrev pub request_end : List ℕ
request_end = codes " HTTP/1.1\r\nHost: localhost\r\n\r\n"

-- the ref behind which a page begins, where there is one
abbrev pub after_words : Option (List ℕ) → List ℕ
after_words None = []
after_words (Some r) = codes "after=" ++ (r ++ codes "&")

-- asks for a page of refs
abbrev pub list_request : Option (List ℕ) → ℕ → List ℕ
list_request after limit = codes "GET /camli/enumerate-blobs?" ++ (after_words after ++ (codes "limit=" ++ (decimal limit ++ request_end)))

-- asks for a blob
abbrev pub fetch_request : List ℕ → List ℕ
fetch_request r = codes "GET /camli/" ++ (r ++ request_end)

-- what stands before the bytes of the one part of an upload
abbrev pub part_front : List ℕ → List ℕ → List ℕ
part_front boundary r = codes "--" ++ (boundary ++ (codes "\r\nContent-Disposition: form-data; name=\"" ++ (r ++ codes "\"\r\n\r\n")))

-- and behind them
abbrev pub part_end : List ℕ → List ℕ
part_end boundary = codes "\r\n--" ++ (boundary ++ codes "--")

abbrev pub upload_body : (boundary r bytes : List ℕ) → List ℕ
upload_body boundary r bytes = part_front boundary r ++ (bytes ++ part_end boundary)

-- the lines before a body of so many bytes
abbrev pub upload_head : List ℕ → ℕ → List ℕ
upload_head boundary len =
    codes "POST /camli/upload HTTP/1.1\r\nHost: localhost\r\n"
    ++ ((codes "Content-Type: multipart/form-data; boundary=" ++ (boundary ++ codes "\r\nContent-Length: ")) ++ (decimal len ++ codes "\r\n\r\n"))

-- gives a blob, under that boundary
abbrev pub upload_with : (boundary r bytes : List ℕ) → List ℕ
upload_with boundary r bytes = upload_head boundary (length (upload_body boundary r bytes)) ++ upload_body boundary r bytes

-- gives a blob, under the boundary of the least number that may be taken
abbrev pub IsUpload : (r bytes request : List ℕ) → Type 0
IsUpload r bytes request = (n : ℕ) × IsFree bytes n × (request ≡ upload_with (boundary_of n) r bytes)
