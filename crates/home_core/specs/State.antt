-- What a core holds, and what holds of each (docs/core.md).
use Rattle.std.specs.Prelude.{◌≡◌, ℕ, zero, suc, ◌+◌, ◌≤◌, List, [], ◌∷◌, ◌++◌, length, Bool, true, not, ◌&&◌, nat_eq, Option, Some, None, filter, if◌then◌else◌}
use Rattle.std.specs.List.{list_any, filter_map}
use Rattle.std.specs.Coded.{Coded, code_by, coded_ℕ, coded_list, coded×}
use Rattle.home_core.specs.declared.lists.Seen.{Seen}
use Rattle.home_core.specs.contracts.lists.Seen as seen
use Rattle.histories.specs.Stores.{Blob, are_arrivals}

-- The blobs that arrived, of which each has its place as its number; the numbers that a worker took, those that are
-- indexed, in the order of their inserts; and what each session has seen.
pub record CoreState : Type 0 where
  pub store : List Blob
  pub hand : List ℕ
  pub indexed : List ℕ
  pub seen : List Seen

abbrev pub state_code : Coded CoreState
state_code =
    code_by ((List Blob × List ℕ) × (List ℕ × List Seen))
    (coded× (coded× (coded_list (coded× (coded_list coded_ℕ) (coded_list coded_ℕ))) (coded_list coded_ℕ))
    (coded× (coded_list coded_ℕ) (coded_list seen.the_row.coded)))
    (λ s. ((s.store, s.hand), (s.indexed, s.seen)))
    (λ p. record { store = p.0.0; hand = p.0.1; indexed = p.1.0; seen = p.1.1 }) (λ s i. s)

-- the lists of a core beside its keys
pub record CoreOf (V : Type 0) : Type 0 where
  pub state : CoreState
  pub keys : V

abbrev pub core_code : {V : Type 0} → Coded V → Coded (CoreOf V)
core_code {V} keys =
    code_by (CoreState × V) (coded× state_code keys) (λ c. (c.state, c.keys))
    (λ p. record { state = p.0; keys = p.1 }) (λ c i. c)

abbrev pub empty_core : CoreState
empty_core = record { store = []; hand = []; indexed = []; seen = [] }

-- the number stands in the list
abbrev pub has : ℕ → List ℕ → Bool
has n ns = list_any (λ m. nat_eq m n) ns

-- how often a number stands in a list
abbrev pub times : ℕ → List ℕ → ℕ
times n [] = 0
times n (m ∷ ms) = if nat_eq m n then suc (times n ms) else times n ms

-- the numbers below a bound, ascending
abbrev pub numbers_below : ℕ → List ℕ
numbers_below zero = []
numbers_below (suc n) = numbers_below n ++ n ∷ []

abbrev pub is_in_neither : List ℕ → List ℕ → ℕ → Bool
is_in_neither one other n = not (has n one) && not (has n other)

abbrev pub unless_among : List ℕ → ℕ → Option ℕ
unless_among others n = if has n others then None else Some n

-- the numbers that aren't among others
abbrev pub without : List ℕ → List ℕ → List ℕ
without others ns = filter (λ n. not (has n others)) ns

-- what a session has seen: so many blobs, and so many of the indexed numbers. One that did nothing has seen none.
abbrev pub seen_by : ℕ → List Seen → Seen
seen_by session [] = record { session = session; store = 0; indexed = 0 }
seen_by session (s ∷ ss) = if nat_eq s.session session then s else seen_by session ss

abbrev pub unless_by : ℕ → Seen → Option Seen
unless_by session s = if nat_eq s.session session then None else Some s

-- the session has seen this, and what others have seen stays
abbrev pub with_seen : Seen → List Seen → List Seen
with_seen new seen = filter_map (unless_by new.session) seen ++ new ∷ []

-- nobody has seen more than so many blobs and so many indexed numbers
abbrev pub HaveSeenAtMost : ℕ → ℕ → List Seen → Type 0
HaveSeenAtMost blobs numbers [] = Unit {0}
HaveSeenAtMost blobs numbers (x ∷ xs) = (x.store ≤ blobs) × (x.indexed ≤ numbers) × HaveSeenAtMost blobs numbers xs

-- What holds of each core. The refs of the blobs are distinct, each is a ref of its bytes, and these are at most the
-- most that a blob may have. Each number that arrived waits, or stands once in hand, or once among the indexed ones,
-- and no other number stands there. Nobody has seen more than there is.
pub record IsSound (s : CoreState) : Type 0 where
  pub arrivals : are_arrivals s.store ≡ true
  pub once : (n : ℕ) → times n s.indexed + times n s.hand ≤ 1
  pub arrived : (n : ℕ) → length s.store ≤ n → times n s.indexed + times n s.hand ≡ 0
  pub seen : HaveSeenAtMost (length s.store) (length s.indexed) s.seen
