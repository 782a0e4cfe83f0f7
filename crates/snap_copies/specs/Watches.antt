-- What a contract sees of a reader with its Inserts.
use Rattle.std.specs.Prelude.{◌≡◌, List, Option, Some}
use mathlib.Core.List.{IsPrefix}
use Rattle.histories.specs.declared.events.Insertion.{Insertion}
use Rattle.snap_copies.specs.declared.watch.Watch.{Watch}

module _ {V : Type 0} where
  -- the Inserts that it has seen
  abbrev pub shown_of : Watch V → List Insertion
  shown_of w = w.mine.seen.log

  -- the keys of the copies, if it knows them
  abbrev pub keys_of : Watch V → Option V
  keys_of w = w.reader.place.me.0.client.keys

  -- a step from one state to another: it has seen at least as much of the same list, and knows the same keys
  pub record Sees (v w : Watch V) : Type 0 where
    pub book : w.mine.seen.book ≡ v.mine.seen.book
    pub more : IsPrefix (shown_of v) (shown_of w)
    pub keys : (k : V) → keys_of v ≡ Some k → keys_of w ≡ Some k
