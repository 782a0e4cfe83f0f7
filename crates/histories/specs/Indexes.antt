-- What the entries of an index's history stand for.
use Rattle.std.specs.Prelude.{◌≡◌, ℕ, ◌<◌, List, [], ◌∷◌, ◌++◌, map, Bool, true, false, not, ◌&&◌, ◌||◌, nat_eq, if◌then◌else◌}
use Rattle.std.specs.List.{list_any}
use Rattle.std.specs.FinMap.{FinMap, from_entries}
use Rattle.blobref.specs.Blobref.{ref_cmp}
use Rattle.schema_fact.specs.declared.kinds.Fact.{Fact}
use Rattle.histories.specs.declared.stamped.Stamped.{Stamped}
use Rattle.histories.specs.declared.events.IndexEvent.{IndexEvent}
use Rattle.histories.specs.declared.events.IndexEvent.TheVariants.{Take, Insert, Return}
use Rattle.histories.specs.declared.events.Insertion.{Insertion}
use Rattle.histories.specs.History.{events, is_legal_after}

abbrev pub insertion_of : ℕ → IndexEvent → List Insertion
insertion_of t (Take n) = []
insertion_of t (Insert n r fact) = record { turn = t; number = n; r = r; fact = fact } ∷ []
insertion_of t (Return n) = []

-- the Inserts, in order
abbrev pub inserts : List (Stamped IndexEvent) → List Insertion
inserts [] = []
inserts (s ∷ ss) = insertion_of s.turn s.entry ++ inserts ss

abbrev pub has_number : ℕ → List Insertion → Bool
has_number n g = list_any (λ (i : Insertion). nat_eq i.number n) g

-- each number below n is among the Inserts
abbrev pub HasAllBelow : ℕ → List Insertion → Type 0
HasAllBelow n g = (m : ℕ) → m < n → has_number m g ≡ true

-- an Insert of the number stands among them
abbrev pub is_inserted : ℕ → List IndexEvent → Bool
is_inserted n [] = false
is_inserted n (Take m ∷ es) = is_inserted n es
is_inserted n (Insert m r fact ∷ es) = nat_eq m n || is_inserted n es
is_inserted n (Return m ∷ es) = is_inserted n es

-- the number is in hand after these entries, given whether it was before them
abbrev pub in_hand_after : Bool → ℕ → List IndexEvent → Bool
in_hand_after held n [] = held
in_hand_after held n (Take m ∷ es) = in_hand_after (nat_eq m n || held) n es
in_hand_after held n (Insert m r fact ∷ es) = in_hand_after (not (nat_eq m n) && held) n es
in_hand_after held n (Return m ∷ es) = in_hand_after (not (nat_eq m n) && held) n es

-- the number is in hand: from its Take to its Insert or Return
abbrev pub in_hand : ℕ → List IndexEvent → Bool
in_hand = in_hand_after false

-- the number is neither inserted nor in hand
abbrev pub waits_in : List IndexEvent → ℕ → Bool
waits_in before n = if is_inserted n before then false else not (in_hand n before)

-- An entry may come after others. A Take's number waits, an Insert's isn't inserted yet, and a Return's is in hand.
abbrev pub may_join_index : List IndexEvent → IndexEvent → Bool
may_join_index before (Take n) = waits_in before n
may_join_index before (Insert n r fact) = not (is_inserted n before)
may_join_index before (Return n) = in_hand n before

-- each entry may come after those before it. That turns rise is `rises`, for itself
abbrev pub is_legal_index : List (Stamped IndexEvent) → Bool
is_legal_index h = is_legal_after may_join_index [] (events h)

-- each ref with the fact at its first Insert
abbrev pub indexed : List Insertion → FinMap ref_cmp Fact
indexed g = from_entries (map (λ (i : Insertion). (i.r, i.fact)) g)
