-- The effect of one more claim on the rows of the permanode that it changes.
use Rattle.std.specs.Prelude.{◌≡◌, ◌≤◌, ◌+◌, ℕ, ℤ, Bool, true, false, if◌then◌else◌, List, length, [], ◌∷◌, ◌++◌}
use Rattle.std.specs.Prelude.{Option, Some, None, option_and_then}
use Rattle.std.specs.List.{list_any}
use Rattle.std.specs.Str.{bytes_eq}
use Rattle.std.specs.FinMap.{get, contains_key}
use Rattle.schema_fact.specs.Changes.{changes_of}
use Rattle.schema_fact.specs.declared.changes.Change.{Change}
use Rattle.schema_fact.specs.declared.kinds.Kind.{Kind}
use Rattle.schema_fact.specs.declared.kinds.What.{What}
use Rattle.schema_fact.specs.declared.kinds.What.TheVariants.{Set, Add, Del, Delete, Multi}
use Rattle.schema_fact.specs.declared.kinds.Kind.TheVariants.{Plain, Key, File, Bytes, Directory, StaticSet, Permanode}
use Rattle.schema_fact.specs.declared.kinds.Kind.TheVariants.{Claim, Unread}
use Rattle.claim_verify.specs.Verifier.{Accepts}
use Rattle.claim_model.specs.Facts.{Facts}
use Rattle.claim_model.specs.Claims.{Moment}
use Rattle.index_rows.specs.declared.rows.Rows.{Rows}
use Rattle.index_rows.specs.Changes.{Changes, changes_after}
use Rattle.index_rows.specs.Counted.{IsCounted}
use Rattle.index_rows.specs.Holders.{Holders, IsHeldBut}
use Rattle.index_rows.specs.Removals.{AreRemovals}
use Rattle.index_rows.specs.Values.{IsListed}
use Rattle.index_meaning.specs.Touching.{concerned_by}
use Rattle.index_rows.specs.Touched.{changed_by}
use Rattle.index_rows.specs.Deletes.{Deletes}
use Rattle.index_rows.specs.States.{States, says_genuine}
use Rattle.attr_fold.specs.Following.{IsFlipped, IsOneMore}
use Rattle.attr_fold.specs.Refolded.{refold_steps}
use Rattle.claim_index.specs.Costs.{change_count}

-- if a claim has only one change: the permanode that it is on, and its moment
abbrev pub only_change : List ℕ → ℤ → List Change → Option (List ℕ × Moment)
only_change x date [] = None
only_change x date (c ∷ []) = Some (c.on, (date, x, 0))
only_change x date (c ∷ d ∷ cs) = None

abbrev pub kind_change : List ℕ → Kind → Option (List ℕ × Moment)
kind_change x Plain = None
kind_change x (Key name) = None
kind_change x (File name parts) = None
kind_change x (Bytes parts) = None
kind_change x (Directory name listing) = None
kind_change x (StaticSet members) = None
kind_change x (Permanode signed) = None
kind_change x (Claim signed date what) = only_change x date (changes_of what)
kind_change x (Unread name) = None

abbrev pub is_added : What → Bool
is_added (Set on attr value) = false
is_added (Add on attr value) = true
is_added (Del on attr value) = false
is_added (Delete target) = false
is_added (Multi changes) = false

-- whether a blob of this kind is a claim that only adds one value
abbrev pub is_addition : Kind → Bool
is_addition Plain = false
is_addition (Key name) = false
is_addition (File name parts) = false
is_addition (Bytes parts) = false
is_addition (Directory name listing) = false
is_addition (StaticSet members) = false
is_addition (Permanode signed) = false
is_addition (Claim signed date what) = is_added what
is_addition (Unread name) = false

-- if it is: the permanode that the change is on, and its moment
abbrev pub kind_addition : List ℕ → Kind → Option (List ℕ × Moment)
kind_addition x kind = if is_addition kind then kind_change x kind else None

abbrev pub change_by : Facts → List ℕ → Option (List ℕ × Moment)
change_by facts x = option_and_then (λ fact. kind_change x fact.kind) (get facts x)

abbrev pub addition_by : Facts → List ℕ → Option (List ℕ × Moment)
addition_by facts x = option_and_then (λ fact. kind_addition x fact.kind) (get facts x)

-- the counts are right, each row of a change is that of a change, those that may take values away are listed, and the
-- change of x has its row
pub record CanBeFollowed (rows : Rows) (x : List ℕ) : Type 0 where
  pub counted : IsCounted rows.facts.ordered rows.deletes rows.state
  pub listed : IsListed rows.facts.ordered rows.state rows.changes
  pub removals : AreRemovals rows.facts.ordered rows.changes rows.removals
  pub there : (p : List ℕ) (k : Moment) → change_by rows.facts.ordered x ≡ Some (p, k)
      → contains_key rows.changes (p, k) ≡ true

-- rows that were right without the change of x are right with it
pub record IsFollowed (rows : Rows) (holders : Holders) (x : List ℕ) : Type 0 where
  pub on : List ℕ
  pub moment : Moment
  pub says : change_by rows.facts.ordered x ≡ Some (on, moment)
  pub held : (but : List (List ℕ)) (before : Changes) → IsOneMore before rows.changes on moment
      → IsHeldBut but rows.facts.ordered rows.state rows.deletes before rows.holders
      → IsHeldBut but rows.facts.ordered rows.state rows.deletes rows.changes holders

-- the permanodes that x changes were added to the list, and nothing was written
pub record IsLeft (rows : Rows) (holders : Holders) (x : List ℕ) (before concerned : List (List ℕ)) : Type 0 where
  pub added : concerned ≡ before ++ concerned_by rows.facts.ordered rows.state x
  pub same : holders ≡ rows.holders

-- either of the two
pub data IsTaken (rows : Rows) (holders : Holders) (x : List ℕ) (before concerned : List (List ℕ)) : Type 0 where
  written : IsFollowed rows holders x → concerned ≡ before → IsTaken rows holders x before concerned
  left : IsLeft rows holders x before concerned → IsTaken rows holders x before concerned

-- the removals are listed, and the only change of a claim whose row says that it is genuine has its row
pub record CanBeSettled (rows : Rows) : Type 0 where
  pub removals : AreRemovals rows.facts.ordered rows.changes rows.removals
  pub there : (y p : List ℕ) (k : Moment) → says_genuine rows.state y ≡ true
      → change_by rows.facts.ordered y ≡ Some (p, k) → contains_key rows.changes (p, k) ≡ true

-- y adds a value, and rows that were right before its deletion changed are right now
pub record IsSettledBy (rows : Rows) (holders : Holders) (y : List ℕ) : Type 0 where
  pub on : List ℕ
  pub moment : Moment
  pub genuine : says_genuine rows.state y ≡ true
  pub says : addition_by rows.facts.ordered y ≡ Some (on, moment)
  pub held : (but : List (List ℕ)) (before : Deletes)
      → IsFlipped rows.facts.ordered rows.state rows.changes before rows.deletes on moment
      → IsHeldBut but rows.facts.ordered rows.state before rows.changes rows.holders
      → IsHeldBut but rows.facts.ordered rows.state rows.deletes rows.changes holders

-- the effect of the deletion of y was written, or the permanodes that it concerns were added to the list in at most two
-- steps
pub data IsSeen (rows : Rows) (holders : Holders) (y : List ℕ) (before concerned : List (List ℕ)) (first last : ℕ)
    : Type 0 where
  settled : IsSettledBy rows holders y → concerned ≡ before → IsSeen rows holders y before concerned first last
  unsettled : IsLeft rows holders y before concerned → last ≤ first + 2
      → IsSeen rows holders y before concerned first last

-- n is at least what it takes to fold the permanode to which y adds a value, if its row says that y is genuine
abbrev pub IsFolded : Facts → States → Changes → List ℕ → ℕ → Type 0
IsFolded facts state changes y n = (p : List ℕ) (k : Moment) → says_genuine state y ≡ true
    → addition_by facts y ≡ Some (p, k) → refold_steps facts state changes p ≤ n

-- n is at least the number of changes of the permanode that x changes
abbrev pub IsNumbered : Facts → Changes → List ℕ → ℕ → Type 0
IsNumbered facts changes x n = (p : List ℕ) (k : Moment) → change_by facts x ≡ Some (p, k)
    → length (changes_after changes p None) ≤ n

-- each ref that x changes has at most so many changes by genuine claims
abbrev pub AreFew : Facts → Accepts → List ℕ → ℕ → Type 0
AreFew facts accepts x n = (p : List ℕ) → list_any (bytes_eq p) (changed_by facts x) ≡ true
    → change_count facts accepts p ≤ n

-- the same for each of these claims
abbrev pub AreFewOn : Facts → Accepts → List (List ℕ) → ℕ → Type 0
AreFewOn facts accepts xs n = (x : List ℕ) → list_any (bytes_eq x) xs ≡ true → AreFew facts accepts x n
