-- What a seat of a place is seen as, and what calls do to it.
use Rattle.std.specs.Prelude.{◌≡◌, ℕ, ◌++◌, [], List, true, Option, map}
use mathlib.Core.List.{IsPrefix}
use Rattle.claim_verify.specs.Verifier.{Accepts}
use Rattle.histories.specs.declared.stamped.Stamped.{Stamped}
use Rattle.histories.specs.declared.events.StoreEvent.{StoreEvent}
use Rattle.histories.specs.declared.events.IndexEvent.{IndexEvent}
use Rattle.histories.specs.declared.events.IndexEvent.TheVariants.{Insert}
use Rattle.histories.specs.History.{events, stamp, rises, own, AheadOf, IsLonger, Ran, Grew}
use Rattle.histories.specs.Stores.{Blob, StoreLimits, arrivals, is_legal_store}
use Rattle.histories.specs.declared.events.Insertion.{Insertion}
use Rattle.histories.specs.Indexes.{inserts, is_legal_index}

-- ---- a store

-- the history that the seat has seen, the turns that it drew, and the limits of the store
pub record StoreSight : Type 0 where
  pub history : List (Stamped StoreEvent)
  pub turns : List ℕ
  pub limits : StoreLimits

-- what holds of each seat
pub record IsStoreSight (v : StoreSight) : Type 0 where
  pub legal : is_legal_store v.limits v.history ≡ true
  pub rising : rises 0 v.history ≡ true

-- one turn is drawn, in which the call says this of the blobs that arrived before it
pub record StoreTurn (says : List Blob → Option StoreEvent → Type 0) (v w : StoreSight) : Type 0 where
  pub ran : Ran (λ before turn entry. says (arrivals before) entry) v.history v.turns w.history w.turns
  pub limits : w.limits ≡ v.limits

-- any number of turns, each of whose entries is as is said
abbrev pub StoreGrew : (StoreEvent → Type 0) → StoreSight → StoreSight → Type 0
StoreGrew each v w = Grew each v.history v.turns w.history w.turns

-- ---- an index

-- the history that the seat has seen, the turns that it drew, the Inserts shown to it, and what the keys accept
pub record IndexSight : Type 0 where
  pub history : List (Stamped IndexEvent)
  pub turns : List ℕ
  pub shown : List Insertion
  pub accepts : Accepts

-- Inserts as a history
abbrev pub as_history : List Insertion → List (Stamped IndexEvent)
as_history = map (λ (i : Insertion). stamp i.turn (Insert i.number i.r i.fact))

-- What holds of each seat. The Inserts shown to it begin with those of its history; by themselves they are a legal
-- history too, so no two have one number.
pub record IsIndexSight (v : IndexSight) : Type 0 where
  pub legal : is_legal_index v.history ≡ true
  pub rising : rises 0 v.history ≡ true
  pub shown : IsPrefix (inserts v.history) v.shown
  pub shown_legal : is_legal_index (as_history v.shown) ≡ true
  pub shown_rising : rises 0 (as_history v.shown) ≡ true

-- One turn is drawn, in which the call says this of the entries before it. The Inserts that were shown before it stand
-- among those entries.
pub record IndexTurn (says : List IndexEvent → Option IndexEvent → Type 0) (v w : IndexSight) : Type 0 where
  pub ran : Ran (λ before turn entry. says (events before) entry) v.history v.turns w.history w.turns
  pub known : IsPrefix v.shown (inserts ran.before)
  pub shown : IsPrefix v.shown w.shown
  pub accepts : w.accepts ≡ v.accepts

-- any number of turns, each of whose entries is as is said
abbrev pub IndexGrew : (IndexEvent → Type 0) → IndexSight → IndexSight → Type 0
IndexGrew each v w = Grew each v.history v.turns w.history w.turns

-- ---- joins

-- Two seats of a store are joined. One of their histories begins the other, and the seat left has seen the longer one.
-- It has the turns of both. No entry stands under these that their seat hadn't seen, and what their seat hadn't seen
-- came after them.
pub record StoreJoin (one other left : StoreSight) : Type 0 where
  pub longer : IsLonger one.history other.history left.history
  pub turns : left.turns ≡ one.turns ++ other.turns
  pub own_one : own one.turns left.history ≡ own one.turns one.history
  pub own_other : own other.turns left.history ≡ own other.turns other.history
  pub later_one : AheadOf one.turns one.history left.history
  pub later_other : AheadOf other.turns other.history left.history
  pub same_limits : other.limits ≡ one.limits
  pub limits : left.limits ≡ one.limits

-- Two seats of an index are joined, in any number of turns that add nothing. The history that the seat left has seen
-- begins with the longer one of theirs, and the Inserts shown to either stand in it. What a seat hadn't seen came after
-- the turns that it had drawn.
pub record IndexJoin (one other left : IndexSight) : Type 0 where
  pub longer : List (Stamped IndexEvent)
  pub of_both : IsLonger one.history other.history longer
  pub begins : IsPrefix longer left.history
  pub further : List ℕ
  pub turns : left.turns ≡ one.turns ++ other.turns ++ further
  pub own_one : own one.turns left.history ≡ own one.turns one.history
  pub own_other : own other.turns left.history ≡ own other.turns other.history
  pub own_further : own further left.history ≡ []
  pub later_one : AheadOf one.turns one.history left.history
  pub later_other : AheadOf other.turns other.history left.history
  pub shown_one : IsPrefix one.shown (inserts left.history)
  pub shown_other : IsPrefix other.shown (inserts left.history)
  pub same_keys : other.accepts ≡ one.accepts
  pub accepts : left.accepts ≡ one.accepts
