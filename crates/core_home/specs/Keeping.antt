-- The histories that the lists of a pass stand for, and what holds of these lists.
use Rattle.std.specs.Prelude.{◌≡◌, ℕ, zero, suc, ◌+◌, ◌-◌, ◌^◌, List, [], ◌∷◌, ◌++◌, length, Bool, true, ◌&&◌, nat_le, Option, Some, None, unwrap_or, slice_get}
use Rattle.std.specs.List.{list_all}
use Rattle.schema_json.specs.Facts.{fact_of}
use Rattle.histories.specs.declared.stamped.Stamped.{Stamped}
use Rattle.histories.specs.declared.events.StoreEvent.{StoreEvent}
use Rattle.histories.specs.declared.events.StoreEvent.TheVariants as store
use Rattle.histories.specs.declared.events.IndexEvent.{IndexEvent}
use Rattle.histories.specs.declared.events.IndexEvent.TheVariants as index
use Rattle.histories.specs.History.{stamp, rises}
use Rattle.histories.specs.Stores.{Blob, StoreLimits, is_legal_store}
use Rattle.histories.specs.Indexes.{is_legal_index}
use Rattle.home_core.specs.State.{CoreState}
use Rattle.core_home.specs.declared.turns.Turns.{Turns}

-- ---- turns

-- the turns 1 to n
abbrev pub upto : ℕ → List ℕ
upto zero = []
upto (suc n) = upto n ++ suc n ∷ []

-- so many further turns are left behind those that were drawn
abbrev pub are_left : ℕ → ℕ → Bool
are_left count drawn = nat_le count (2 ^ 64 - 1 - drawn)

-- so many of both histories
abbrev pub both_left : ℕ → ℕ → ℕ → Bool
both_left count stores indexes = are_left count stores && are_left count indexes

-- the number was inserted from the start
abbrev pub from_the_start : Turns
from_the_start = record { taken = None; inserted = 0 }

-- so many numbers were inserted in the turns that follow those drawn
abbrev pub inserted_from : ℕ → ℕ → List Turns
inserted_from drawn zero = []
inserted_from drawn (suc n) = record { taken = None; inserted = drawn + 1 } ∷ inserted_from (drawn + 1) n

-- no entry has a turn above n
abbrev pub is_within : {E : Type 0} → ℕ → List (Stamped E) → Bool
is_within n h = list_all (λ s. nat_le s.turn n) h

-- ---- the store

-- a store that has room for all blobs that have numbers
abbrev pub no_limits : StoreLimits
no_limits = record { blobs = 2 ^ 64 - 1; last_pack = 2 ^ 32 - 1 }

-- blobs as a history, from number n on: each was put in its turn
abbrev pub store_from : ℕ → List ℕ → List Blob → List (Stamped StoreEvent)
store_from n [] blobs = []
store_from n (t ∷ ts) [] = []
store_from n (t ∷ ts) (b ∷ bs) = stamp t (store.Put n b.0 b.1) ∷ store_from (suc n) ts bs

abbrev pub store_of : List ℕ → List Blob → List (Stamped StoreEvent)
store_of = store_from 0

-- ---- the index

-- the blob that arrived under a number
abbrev pub blob_at : List Blob → ℕ → Blob
blob_at blobs n = unwrap_or (slice_get blobs n) ([], [])

-- the Insert of a number: with the ref and the fact of its blob
abbrev pub insert_of : List Blob → ℕ → IndexEvent
insert_of blobs n = index.Insert n (blob_at blobs n).0 (fact_of (blob_at blobs n).1)

-- the Take of a number, where it was taken
abbrev pub take_of : Option ℕ → ℕ → List (Stamped IndexEvent)
take_of None n = []
take_of (Some t) n = stamp t (index.Take n) ∷ []

-- indexed numbers as a history: each was taken in its turn, if it was, and then inserted in its turn
abbrev pub index_of : List Blob → List Turns → List ℕ → List (Stamped IndexEvent)
index_of blobs [] ns = []
index_of blobs (t ∷ ts) [] = []
index_of blobs (t ∷ ts) (n ∷ ns) =
    take_of t.taken n ++ stamp t.inserted (insert_of blobs n) ∷ index_of blobs ts ns

-- ---- both

-- What holds of each pass. Each blob has the turn of its Put, and each indexed number the turns of its Take and its
-- Insert; both histories are legal, and their turns rise and are among those drawn. Between calls nothing is in hand.
pub record IsKept (puts : List ℕ) (inserts : List Turns) (s : CoreState) (stores indexes : ℕ) : Type 0 where
  pub each_put : length puts ≡ length s.store
  pub each_insert : length inserts ≡ length s.indexed
  pub none_in_hand : s.hand ≡ []
  pub store_legal : is_legal_store no_limits (store_of puts s.store) ≡ true
  pub store_rises : rises 0 (store_of puts s.store) ≡ true
  pub store_within : is_within stores (store_of puts s.store) ≡ true
  pub index_legal : is_legal_index (index_of s.store inserts s.indexed) ≡ true
  pub index_rises : rises 0 (index_of s.store inserts s.indexed) ≡ true
  pub index_within : is_within indexes (index_of s.store inserts s.indexed) ≡ true
