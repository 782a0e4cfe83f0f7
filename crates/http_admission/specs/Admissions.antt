-- What the first head of a connection says of who sent it.
use Rattle.std.specs.Prelude.{◌≡◌, ℕ, ◌+◌, ◌-◌, ◌<◌, ◌≤◌, ◌^◌, ◌⊎◌, min, Bool, true, false, ◌&&◌, ◌||◌, not, List, [], ◌∷◌, length, take, drop, map, codes, Option, Some, None, if◌then◌else◌, ◌==◌, nat_le}
use Rattle.std.specs.List.{list_all, list_any}
use Rattle.std.specs.Str.{bytes_eq}
use Rattle.std.specs.Str.Parse.{digits_value}
use Rattle.std.specs.Char.{to_ascii_lowercase, is_ascii_digit}
use Rattle.httparse.specs.Grammar.{RequestHead, ReadsRequest, HasNoRequest, MayBecomeRequest}
use Rattle.httparse.specs.Spans.{name_and_value, RequestOverflows}
use Rattle.http_admission.specs.declared.admission.Admission.{Admission}
use Rattle.http_admission.specs.declared.admission.Admission.TheVariants.{Refused, First, Whole, NoHead}
use Rattle.http_admission.specs.declared.admission.Door.{Door}
use Rattle.http_admission.specs.declared.admission.Door.TheVariants.{Own, Anyone}

-- one text, in any case
abbrev pub same_text : List ℕ → List ℕ → Bool
same_text a b = bytes_eq (map to_ascii_lowercase a) (map to_ascii_lowercase b)

-- nothing, or a colon and digits alone
abbrev pub is_port : List ℕ → Bool
is_port [] = true
is_port (b ∷ bs) = b == 58 && list_all is_ascii_digit bs

-- the host has this name, with a port or without one
abbrev pub is_host : List ℕ → List ℕ → Bool
is_host name host = nat_le (length name) (length host) && (same_text (take (length name) host) name && is_port (drop (length name) host))

-- this machine, as clients of the server name it
abbrev pub is_own : List ℕ → Bool
is_own host = is_host (codes "localhost") host || (is_host (codes "127.0.0.1") host || is_host (codes "[::1]") host)

-- the origin is that of the host
abbrev pub is_http_of : List ℕ → List ℕ → Bool
is_http_of origin host = nat_le 7 (length origin) && (same_text (take 7 origin) (codes "http://") && same_text (drop 7 origin) host)

-- a header is a Host of that origin
abbrev pub gives_origin : List ℕ → List ℕ × List ℕ → Bool
gives_origin origin header = same_text header.0 (codes "host") && is_http_of origin header.1

-- nothing, or a path
abbrev pub is_path : List ℕ → Bool
is_path [] = true
is_path (b ∷ bs) = b == 47

-- the text begins so, in any case
abbrev pub begins : List ℕ → List ℕ → Bool
begins text front = nat_le (length front) (length text) && same_text (take (length front) text) front

-- the address is the host's, or of something below it
abbrev pub is_address_of : List ℕ → List ℕ → Bool
is_address_of address host =
    nat_le 7 (length address) && (same_text (take 7 address) (codes "http://")
    && (begins (drop 7 address) host && is_path (drop (length host) (drop 7 address))))

-- a header is a Host that has that address
abbrev pub gives_address : List ℕ → List ℕ × List ℕ → Bool
gives_address address header = same_text header.0 (codes "host") && is_address_of address header.1

-- what was asked for by the user, or by the server's own page
abbrev pub is_own_site : List ℕ → Bool
is_own_site value = same_text value (codes "none") || same_text value (codes "same-origin")

-- it says by itself which page the head comes from
abbrev pub says_page : List ℕ × List ℕ → Bool
says_page header = same_text header.0 (codes "sec-fetch-site") || same_text header.0 (codes "origin")

-- among these headers this one says that the head is of another origin, or for another name
abbrev pub says_foreign : List (List ℕ × List ℕ) → List ℕ × List ℕ → Bool
says_foreign headers header =
    if same_text header.0 (codes "host") then not (is_own header.1)
    else if same_text header.0 (codes "sec-fetch-site") then not (is_own_site header.1)
    else if same_text header.0 (codes "origin") then not (list_any (gives_origin header.1) headers)
    else if same_text header.0 (codes "referer") then not (list_any says_page headers) && not (list_any (gives_address header.1) headers)
    else false

abbrev pub is_foreign : List (List ℕ × List ℕ) → Bool
is_foreign headers = list_any (says_foreign headers) headers

-- a door for anyone keeps nobody out
abbrev pub is_kept_out : Door → List (List ℕ × List ℕ) → Bool
is_kept_out Own headers = is_foreign headers
is_kept_out Anyone headers = false

-- only browsers send it
abbrev pub says_browser : List ℕ × List ℕ → Bool
says_browser header =
    same_text header.0 (codes "sec-fetch-site") || (same_text header.0 (codes "origin") || (same_text header.0 (codes "referer")
    || (same_text header.0 (codes "user-agent") && begins header.1 (codes "mozilla/"))))

abbrev pub is_browsers : List (List ℕ × List ℕ) → Bool
is_browsers headers = list_any says_browser headers

-- the number that 1 to 19 digits are, or 0
abbrev pub number_in : List ℕ → ℕ
number_in text = if nat_le 1 (length text) && (nat_le (length text) 19 && list_all is_ascii_digit text) then digits_value 10 text else 0

-- the number of the first Content-Length, or 0
abbrev pub said_length : List (List ℕ × List ℕ) → ℕ
said_length [] = 0
said_length (header ∷ headers) = if same_text header.0 (codes "content-length") then number_in header.1 else said_length headers

-- what becomes of a connection whose first head has these headers and so many bytes
abbrev pub admitted : Door → List (List ℕ × List ℕ) → ℕ → Admission
admitted door headers head =
    if is_kept_out door headers then Refused
    else if is_browsers headers then First (min (head + said_length headers) (2 ^ 64 - 1))
    else Whole

-- a door for anyone refuses nobody
abbrev pub RefusesNobody : Door → Admission → Type 0
RefusesNobody Own found = Unit {0}
RefusesNobody Anyone found = found ≡ Refused → ⊥

abbrev pub headers_of : RequestHead → List (List ℕ × List ℕ)
headers_of h = map name_and_value h.fields

-- the most bytes in which the first head is looked for, and the most headers that it may have
abbrev pub most_head : ℕ
most_head = 16384

abbrev pub most_headers : ℕ
most_headers = 64

-- what becomes of a connection that begins with these bytes: nothing is said as long as they may become a head; that
-- there is none is said where they are too many, or where no bytes that follow make them one
abbrev pub AdmissionSpec : Door → List ℕ → Option Admission → Type 0
AdmissionSpec door x None = HasNoRequest x × MayBecomeRequest x × (length x < most_head)
AdmissionSpec door x (Some NoHead) = (HasNoRequest x × (most_head ≤ length x)) ⊎ RequestOverflows most_headers x
AdmissionSpec door x (Some found) =
    (h : RequestHead) × (rest : List ℕ) × ReadsRequest x h rest × (found ≡ admitted door (headers_of h) (length x - length rest))
