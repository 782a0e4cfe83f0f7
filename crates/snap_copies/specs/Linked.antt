-- Readers that know the published copy.
use Rattle.std.specs.Prelude.{◌≡◌, ℕ, List, [], ◌∷◌, ◌++◌, All, length, Some}
use Rattle.snap_copies.specs.declared.copies.IndexCopy.{IndexCopy}
use Rattle.snap_copies.specs.declared.watch.Watch.{Watch}
use Rattle.snap_copies.specs.Watches.{keys_of}

module _ {V : Type 0} where
  -- the reader has seen all Inserts of the copy, and knows its keys
  pub record IsLinked (x : IndexCopy V) (w : Watch V) : Type 0 where
    pub seen : w.mine.seen ≡ x.front.seen
    pub keys : keys_of w ≡ Some x.index.keys

  pub record HasOneMore (x : IndexCopy V) (old new : List (Watch V)) : Type 0 where
    pub watch : Watch V
    pub added : new ≡ old ++ watch ∷ []
    pub linked : IsLinked x watch

  -- so many of these readers
  abbrev pub AreLinked : IndexCopy V → ℕ → List (Watch V) → Type 0
  AreLinked x count watches = (length watches ≡ count) × All (IsLinked x) watches
