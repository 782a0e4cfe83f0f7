-- The first fault of an object of the query language (docs/formats/queries.md).
use Rattle.std.specs.Prelude.{◌≡◌, ◌≢◌, ℕ, List, [], ◌∷◌, ◌++◌, map, Bool, Option, Some, None, is_some, option_and_then, if◌then◌else◌}
use Rattle.std.specs.Borrow.{Bor}
use Rattle.std.specs.List.{list_any}
use Rattle.std.specs.Str.{bytes_eq}
use Rattle.serde_json.specs.Data.{Data, Members, no_members, member}
use Rattle.serde_json.specs.Find.{get, as_object}
use Rattle.query_read.specs.declared.fault.QueryFault.{QueryFault}
use Rattle.query_read.specs.declared.fault.QueryFault.TheVariants.{BadKey, BadValue, NoMemory}

-- the first fault of a value at a path, if it has one
abbrev pub Fault : Type 0
Fault = List ℕ → Data → Option QueryFault

-- a key of an object, with the fault of its value
abbrev pub Key : Type 0
Key = List ℕ × Fault

-- a fault that is told is the first one; want of memory tells nothing
abbrev pub Tells : Option QueryFault → QueryFault → Type 0
Tells first fault = fault ≢ NoMemory → Some fault ≡ first

-- the texts behind borrowed ones
abbrev pub names : List (Bor (List ℕ)) → List (List ℕ)
names ks = map (λ k. k.now) ks

-- the path of a key below a path
abbrev pub join : List ℕ → List ℕ → List ℕ
join [] key = key
join (x ∷ path) key = x ∷ path ++ 47 ∷ key

abbrev pub bad_value : List ℕ → Option QueryFault
bad_value path = Some (BadValue path)

abbrev pub bad_key : List ℕ → List ℕ → Option QueryFault
bad_key path key = Some (BadKey (join path key))

-- the earlier of two faults
abbrev pub or_else : Option QueryFault → Option QueryFault → Option QueryFault
or_else None later = later
or_else (Some fault) later = Some fault

-- the least key that isn't among these; an object has its keys in byte order
abbrev pub unknown : List (List ℕ) → Members → Option (List ℕ)
unknown keys no_members = None
unknown keys (member key d ms) = if list_any (bytes_eq key) keys then unknown keys ms else Some key

abbrev pub members_fault : List (List ℕ) → List ℕ → Option Members → Option QueryFault
members_fault keys path None = bad_value path
members_fault keys path (Some ms) = option_and_then (bad_key path) (unknown keys ms)

-- the value isn't an object, or has an unknown key
abbrev pub shape_fault : List (List ℕ) → Fault
shape_fault keys path d = members_fault keys path (as_object d)

-- the fault of what stands under a key, if it is present
abbrev pub below : Fault → List ℕ → Fault
below fault key path d = option_and_then (fault (join path key)) (get key d)

-- each present key in order
abbrev pub keys_fault : List Key → Fault
keys_fault [] path d = None
keys_fault (k ∷ ks) path d = or_else (below k.1 k.0 path d) (keys_fault ks path d)

-- an object with these keys, in byte order, that as a whole meets a condition
abbrev pub object_fault : List Key → (Data → Bool) → Fault
object_fault keys whole path d =
    or_else (shape_fault (map (λ k. k.0) keys) path d)
    (or_else (keys_fault keys path d) (if whole d then None else bad_value path))

-- at least one of these keys is present
abbrev pub has_any : List (List ℕ) → Data → Bool
has_any keys d = list_any (λ key. is_some (get key d)) keys

abbrev pub has_key : List Key → Data → Bool
has_key keys d = has_any (map (λ k. k.0) keys) d
