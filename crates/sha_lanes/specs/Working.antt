-- A message in each of n lanes.
use Rattle.std.specs.Prelude.{◌≡◌, ℕ, ◌+◌, ◌<◌, ◌≤◌, ◌⊎◌, List, [], length, slice_index, slice_index_or}
use Rattle.sha2.specs.Sha256.{sha224}
use Rattle.sha_lanes.specs.declared.work.Work.{Work}
use Rattle.sha_lanes.specs.Hashing.{IsHashedTo}
use Rattle.sha_lanes.specs.Lanes.{state_lane}
use Rattle.sha_lanes.specs.Message.{IsTail, block_count, block_of, message_at}
use Rattle.sha_lanes.specs.Schedules.{HasBlock}

-- where the lane has a message: `at` of its `count` blocks are hashed to h, and `tail` has its last ones
abbrev pub IsLane : List (List ℕ) → List ℕ → List ℕ → ℕ → ℕ → ℕ → Type 0
IsLane ts h tail which at count = which < length ts
    → (count ≡ block_count (length (message_at ts which)))
    × IsTail tail (message_at ts which) 0
    × IsHashedTo h (message_at ts which) at

-- each lane is at work on its message, and i blocks further than it says
abbrev pub AreLanesAfter : (n : ℕ) → List (List ℕ) → Work n → ℕ → Type 0
AreLanesAfter n ts w i = (j : ℕ) → j < n
    → IsLane ts (state_lane j w.state) (slice_index_or w.tails j [])
    (slice_index w.which j) (slice_index w.at j + i) (slice_index w.count j)

-- each lane is at work on its message
abbrev pub AreLanes : (n : ℕ) → List (List ℕ) → Work n → Type 0
AreLanes n ts w = (j : ℕ) → j < n
    → IsLane ts (state_lane j w.state) (slice_index_or w.tails j [])
    (slice_index w.which j) (slice_index w.at j) (slice_index w.count j)

-- no lane is past its end
abbrev pub AreWithin : (n : ℕ) → Work n → Type 0
AreWithin n w = (j : ℕ) → j < n → slice_index w.at j ≤ slice_index w.count j

-- the block of a lane's message that is i blocks further than the lane is
abbrev pub IsBlockAt : (n : ℕ) → List (List ℕ) → Work n → ℕ → List ℕ → ℕ → Type 0
IsBlockAt n ts w i block j = IsTail (slice_index_or w.tails j []) (message_at ts (slice_index w.which j)) 0
    → slice_index w.at j + i < block_count (length (message_at ts (slice_index w.which j)))
    → block ≡ block_of (message_at ts (slice_index w.which j)) (slice_index w.at j + i)

-- each of the first m lanes of the words has the block of its message that is i blocks further than the lane is
abbrev pub HaveBlocks : (n : ℕ) → List (List ℕ) → Work n → ℕ → List (List ℕ) → ℕ → Type 0
HaveBlocks n ts w i words m = (j : ℕ) → j < m
    → IsTail (slice_index_or w.tails j []) (message_at ts (slice_index w.which j)) 0
    → slice_index w.at j + i < block_count (length (message_at ts (slice_index w.which j)))
    → HasBlock words j (block_of (message_at ts (slice_index w.which j)) (slice_index w.at j + i))

-- `new` has the digest of the message at `which`, where there is one, and is the same at the other places
abbrev pub IsPut : List (List ℕ) → ℕ → List (List ℕ) → List (List ℕ) → Type 0
IsPut ts which old new = (q : ℕ) → q < length ts
    → (q ≡ which → slice_index_or new q [] ≡ sha224 (message_at ts q))
    × (¬ (q ≡ which) → slice_index_or new q [] ≡ slice_index_or old q [])

-- one of n lanes, from `first` on, has the message at q
pub record IsHeld (n : ℕ) (lanes : List ℕ) (first q : ℕ) : Type 0 where
  pub lane : ℕ
  pub from : first ≤ lane
  pub below : lane < n
  pub has : slice_index lanes lane ≡ q

-- each message before `next` has its digest in its place, or is in a lane from `first` on
abbrev pub AreUnderWay : ℕ → List (List ℕ) → List (List ℕ) → List ℕ → ℕ → ℕ → Type 0
AreUnderWay n ts ds lanes first next = (q : ℕ) → q < length ts → q < next
    → (slice_index_or ds q [] ≡ sha224 (message_at ts q)) ⊎ IsHeld n lanes first q

-- each message has its digest in its place, or is in one of n lanes from `first` on, or in one of k others
abbrev pub AreMoving : ℕ → ℕ → List (List ℕ) → List (List ℕ) → List ℕ → ℕ → List ℕ → Type 0
AreMoving n k ts ds lanes first others = (q : ℕ) → q < length ts
    → (slice_index_or ds q [] ≡ sha224 (message_at ts q)) ⊎ (IsHeld n lanes first q ⊎ IsHeld k others 0 q)
