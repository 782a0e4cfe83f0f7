-- What a round makes of a hub and peers that all tell what they hold, in the words of a join.
use Rattle.std.specs.Prelude.{◌≡◌, ℕ, ◌<◌, List, ◌∷◌, length, map, get_or, Option, Some, None}
use Rattle.std.specs.FinMap.{contains_key, get}
use Rattle.edge_base.specs.Shelf.{Blobs}
use Rattle.replica_ring.specs.Rings.{at, join, join_of}

-- the hub has the join of all, each peer what it had and that, and so all have the same refs
pub record AreJoined (all : Blobs) (hub_now : Option Blobs) (maps : List Blobs) (now : List (Option Blobs)) : Type 0 where
  pub hub : hub_now ≡ Some all
  pub peers : now ≡ map (λ m. Some (join m all)) maps
  pub refs : (i : ℕ) → i < length maps → (r : List ℕ) → contains_key (join (at maps i) all) r ≡ contains_key all r

-- one has what it had, and further blobs of all
pub record IsBetween (all old now : Blobs) : Type 0 where
  pub keeps : (r bytes : List ℕ) → get old r ≡ Some bytes → get now r ≡ Some bytes
  pub within : (r bytes : List ℕ) → get now r ≡ Some bytes → get (join old all) r ≡ Some bytes

abbrev pub TellsBetween : Blobs → Blobs → Option Blobs → Type 0
TellsBetween all old now = (held : Blobs) × (now ≡ Some held) × IsBetween all old held

-- and so it is with the hub and each peer
pub record AreBetween (all h : Blobs) (hub_now : Option Blobs) (maps : List Blobs) (now : List (Option Blobs)) : Type 0 where
  pub hub : TellsBetween all h hub_now
  pub size : length now ≡ length maps
  pub peers : (i : ℕ) → i < length maps → TellsBetween all (at maps i) (get_or now i None)

-- a statement on the hub's map and the peers', where all tell them
abbrev pub ForAll : Option Blobs → List (Option Blobs) → (Blobs → List Blobs → Type 0) → Type 0
ForAll hub old S = (h : Blobs) (maps : List Blobs) → hub ≡ Some h → old ≡ map Some maps → S h maps

-- after a whole round
abbrev pub JoinsAll : Option Blobs → Option Blobs → (old now : List (Option Blobs)) → Type 0
JoinsAll hub hub_now old now = ForAll hub old (λ h maps. AreJoined (join_of (h ∷ maps)) hub_now maps now)

-- after any
abbrev pub StaysBetween : Option Blobs → Option Blobs → (old now : List (Option Blobs)) → Type 0
StaysBetween hub hub_now old now = ForAll hub old (λ h maps. AreBetween (join_of (h ∷ maps)) h hub_now maps now)
