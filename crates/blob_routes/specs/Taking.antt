-- How what is asked by number is gathered, one parameter after the other.
use Rattle.std.specs.Prelude.{ℕ, ◌-◌, ◌&&◌, List, set, get_or, take, drop, length}
use Rattle.std.specs.Prelude.{codes, decimal, Option, Some, None, option_and_then, if◌then◌else◌, bytes_eq, nat_le}
use Rattle.blob_routes.specs.declared.places.AskedRef.{AskedRef}
use Rattle.blob_routes.specs.declared.places.AskedRef.TheVariants.{Missing, Wrong, Right}
use Rattle.http_exchange.specs.Parameters.{decoded_text}
use Rattle.blob_routes.specs.Numbers.{number_in}
use Rattle.blob_routes.specs.Places.{place_of}

-- the number that is written so
abbrev pub written_as : List ℕ → ℕ → Option ℕ
written_as digits n = if bytes_eq (decimal n) digits then Some n else None

-- the number of a name that asks for a ref
abbrev pub number_of : List ℕ → Option ℕ
number_of name =
    if bytes_eq (take 4 name) (codes "blob")
    then option_and_then (written_as (drop 4 name)) (number_in (drop 4 name)) else None

abbrev pub earlier : AskedRef → AskedRef → AskedRef
earlier Missing later = later
earlier Wrong later = Wrong
earlier (Right r) later = Right r

-- what was asked before stays
abbrev pub kept : List AskedRef → ℕ → AskedRef → List AskedRef
kept places number place =
    if nat_le 1 number && nat_le number (length places)
    then set places (number - 1) (earlier (get_or places (number - 1) Missing) place) else places

abbrev pub kept_under : List AskedRef → Option ℕ → AskedRef → List AskedRef
kept_under places None place = places
kept_under places (Some number) place = kept places number place

-- one parameter
abbrev pub taken : List AskedRef → List ℕ × List ℕ → List AskedRef
taken places pair = kept_under places (number_of (decoded_text pair.0)) (place_of (Some (decoded_text pair.1)))
