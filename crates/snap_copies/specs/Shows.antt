-- The published copy, and what readers know of it.
use Rattle.std.specs.Prelude.{◌≡◌, ℕ, true, false, List, [], ◌∷◌, ◌++◌, Some, None, MatchOption}
use Rattle.std.specs.FinMap.{contains_key}
use mathlib.Core.Option.{some}
use mathlib.Core.List.{IsPrefix}
use lib.ListN.{get_elem?}
use Rattle.histories.specs.declared.events.Insertion.{Insertion}
use Rattle.histories.specs.Indexes.{indexed, has_number}
use Rattle.index_rows.specs.Loose.{LooseRow}
use Rattle.snap_copies.specs.declared.copies.IndexCopy.{IndexCopy}
use Rattle.snap_copies.specs.declared.copies.Addition.{Addition}
use Rattle.snap_copies.specs.declared.rule.Shown.{Shown}
use Rattle.snap_copies.specs.declared.book.Front.{Front}

-- the row that an index keeps for an Insert
abbrev pub row_of : Insertion → LooseRow
row_of i = (i.number, i.r, i.fact)

module _ {V : Type 0} where
  abbrev pub newcomer : Shown V
  newcomer = record { token = None; keys = None }

  -- it has seen a prefix of the copy's Inserts, and knows its keys
  abbrev pub Knows : IndexCopy V → Shown V → Type 0
  Knows x v = MatchOption v.token (Unit {0}) (λ t. (x.front.seen.book ≡ t.book) × IsPrefix t.log x.front.seen.log)
      × MatchOption v.keys (Unit {0}) (λ k. x.index.keys ≡ k)

  pub record Shows (x : IndexCopy V) (views : List (Shown V)) : Type 0 where
    pub facts : x.index.facts ≡ indexed x.front.seen.log
    pub numbers : (n : ℕ) → contains_key x.index.numbers n ≡ true → has_number n x.front.seen.log ≡ true
    pub each : (i : ℕ) (v : Shown V) → get_elem? views i ≡ some v → Knows x v

  -- what a reader knows after it has seen a copy
  abbrev pub known_of : IndexCopy V → Shown V
  known_of x = record { token = Some x.front.seen; keys = Some x.index.keys }

  -- the copy y is seen, which has all Inserts that were known
  abbrev pub SeesNow : Shown V → IndexCopy V → IndexCopy V → Shown V → Type 0
  SeesNow v x y w = (w ≡ record { token = Some y.front.seen; keys = Some y.index.keys })
      × (y.index.facts ≡ indexed y.front.seen.log) × Knows y v

  -- a look led from one view to another, and found these Inserts
  pub record Looks (v w : Shown V) (found : Front) : Type 0 where
    pub token : w.token ≡ Some found.seen
    pub more : MatchOption v.token (Unit {0}) (λ t. (found.seen.book ≡ t.book) × IsPrefix t.log found.seen.log)
    pub keys : MatchOption v.keys (Unit {0}) (λ k. w.keys ≡ Some k)

  -- one Insert is added to those of the copy, of a number that none of them has
  pub record Fits (x : IndexCopy V) (op : Addition) : Type 0 where
    pub book : op.front.seen.book ≡ x.front.seen.book
    pub insert : Insertion
    pub row : op.prepared.made ≡ row_of insert
    pub log : op.front.seen.log ≡ x.front.seen.log ++ insert ∷ []
    pub fresh : has_number insert.number x.front.seen.log ≡ false
