-- What the tables of an index mean while it takes up facts: some refs are left to be judged, some delete claims to be
-- entered, and some permanodes to be looked at again. At rest nothing is left.
use Rattle.std.specs.Prelude.{◌≡◌, ℕ, ℤ, ◌&&◌, ◌||◌, Bool, true, false, not, List, [], ◌∷◌, ◌++◌, Option, Some}
use Rattle.std.specs.List.{list_any}
use Rattle.std.specs.Str.{bytes_eq}
use Rattle.std.specs.FinMap.{contains_key}
use Rattle.blobref.specs.Blobref.{is_after}
use Rattle.claim_verify.specs.Verifier.{Accepts}
use Rattle.schema_fact.specs.declared.kinds.Fact.{Fact}
use Rattle.claim_model.specs.Facts.{Facts}
use Rattle.claim_model.specs.Ready.{is_ready}
use Rattle.claim_model.specs.Least.{AreReached}
use Rattle.index_look.specs.Walk.{entries_after}
use Rattle.index_rows.specs.declared.fact_rows.FactRows.{FactRows}
use Rattle.index_rows.specs.declared.rows.Rows.{Rows}
use Rattle.index_rows.specs.Loose.{numbers_of, with_loose}
use Rattle.index_rows.specs.Once.{AreOnce}
use Rattle.index_rows.specs.Removals.{AreRemovals}
use Rattle.index_rows.specs.Waiting.{arrived, IsWaiting}
use Rattle.index_rows.specs.Counted.{IsCounted}
use Rattle.index_rows.specs.Values.{IsListed}
use Rattle.index_rows.specs.Holders.{IsHeldBut}
use Rattle.delete_claims.specs.Entered.{IsNewDelete}
use Rattle.index_meaning.specs.Meaning.{genuine_delete, IsJudged, IsChangesOf, IsAtRest}
use Rattle.pending_deps.specs.Arriving.{IsNew}
use Rattle.index_meaning.specs.Steps.{IsDeletesBut}

-- the facts that were taken up
abbrev pub taken : Rows → Facts
taken rows = arrived rows.facts.ordered rows.state

-- d is a genuine delete claim
pub record IsGenuineDelete (facts : Facts) (accepts : Accepts) (d : List ℕ) : Type 0 where
  pub target : List ℕ
  pub date : ℤ
  pub says : genuine_delete facts accepts target d ≡ Some date

-- what the tables mean for the facts that were taken up, while `left` are to be judged, `deletes` to be entered, and
-- the holders' rows of `concerned` to be made again
pub record IsHalfway (accepts : Accepts) (left deletes concerned : List (List ℕ)) (rows : Rows) : Type 0 where
  pub waiting : IsWaiting rows.facts.ordered rows.state rows.waiters
  pub counted : IsCounted rows.facts.ordered rows.deletes rows.state
  pub judged : IsJudged (taken rows) accepts left rows.state
  pub changed : IsChangesOf (taken rows) accepts left rows.changes
  pub deleted : IsDeletesBut (left ++ deletes) (taken rows) accepts rows.deletes
  pub claims : (d : List ℕ) → list_any (bytes_eq d) deletes ≡ true → IsGenuineDelete (taken rows) accepts d
  pub once : AreOnce deletes
  pub apart : (d : List ℕ) → list_any (bytes_eq d) deletes ≡ true → list_any (bytes_eq d) left ≡ false
  pub held : IsHeldBut concerned rows.facts.ordered rows.state rows.deletes rows.changes rows.holders
  pub removals : AreRemovals rows.facts.ordered rows.changes rows.removals

-- whether y is ready, and isn't left to be judged
abbrev pub was_judged : Rows → List (List ℕ) → List ℕ → Bool
was_judged rows left y = is_ready (taken rows) y && not (list_any (bytes_eq y) left)

-- the refs of `left` can be judged in their order: each is ready, and its dependencies were judged or come before it
pub record CanBeJudged (left : List (List ℕ)) (rows : Rows) : Type 0 where
  pub ready : (y : List ℕ) → list_any (bytes_eq y) left ≡ true → is_ready (taken rows) y ≡ true
  pub reached : AreReached (taken rows) (was_judged rows left) [] left
  pub once : AreOnce left

-- x is the next one to be judged, and some refs are left after it
abbrev pub IsNextToJudge : Accepts → List ℕ → List (List ℕ) → List (List ℕ) → Rows → Type 0
IsNextToJudge accepts x deletes concerned rows =
    (left : List (List ℕ)) × IsHalfway accepts (x ∷ left) deletes concerned rows × CanBeJudged (x ∷ left) rows

-- what the tables say without the meaning of keys: delete claims can be entered, and permanodes looked at again
pub record CanBeFinished (deletes concerned : List (List ℕ)) (rows : Rows) : Type 0 where
  pub counted : IsCounted rows.facts.ordered rows.deletes rows.state
  pub listed : IsListed rows.facts.ordered rows.state rows.changes
  pub fresh : (d : List ℕ) → list_any (bytes_eq d) deletes ≡ true
      → IsNewDelete rows.facts.ordered rows.deletes rows.state d
  pub once : AreOnce deletes
  pub held : IsHeldBut concerned rows.facts.ordered rows.state rows.deletes rows.changes rows.holders

-- nothing is left to do for the facts that were taken up, which are all except that of r
pub record HasOneMore (accepts : Accepts) (rows : Rows) (r : List ℕ) : Type 0 where
  pub halfway : IsHalfway accepts [] [] [] rows
  pub fresh : IsNew rows.facts.ordered rows.state r
  pub others : (y : List ℕ) → contains_key rows.facts.ordered y ≡ (bytes_eq y r || contains_key rows.state y)

-- all facts were taken up, and nothing is left to be done
pub record Rests (accepts : Accepts) (rows : Rows) : Type 0 where
  pub tables : IsAtRest rows.facts.ordered accepts rows.state rows.waiters rows.deletes rows.changes rows.holders
  pub removals : AreRemovals rows.facts.ordered rows.changes rows.removals

-- all facts of a table, including those of its loose rows
abbrev pub facts_in : FactRows → Facts
facts_in rows = with_loose rows.loose rows.ordered

-- the tables with another one of facts
abbrev pub with_facts : Rows → FactRows → Rows
with_facts rows facts = record {
  facts = facts;
  state = rows.state;
  waiters = rows.waiters;
  deletes = rows.deletes;
  changes = rows.changes;
  removals = rows.removals;
  holders = rows.holders;
}

-- the tables with all facts in order
abbrev pub all_in_order : Rows → Rows
all_in_order rows = with_facts rows (record { ordered = facts_in rows.facts; loose = [] })

-- no row is loose, and nothing is left to be done
pub record IsSettled (accepts : Accepts) (rows : Rows) : Type 0 where
  pub none : numbers_of rows.facts.loose ≡ []
  pub rest : Rests accepts rows

-- r is the next ref of a fact after another, or the first
pub record IsNext (facts : Facts) (after : Option (List ℕ)) (r : List ℕ) : Type 0 where
  pub fact : Fact
  pub rest : entries_after facts after ≡ (r, fact) ∷ entries_after facts (Some r)

-- the refs that were taken up are those that aren't after the ref
abbrev pub IsTakenTo : Rows → Option (List ℕ) → Type 0
IsTakenTo rows last = (y : List ℕ)
    → contains_key rows.state y ≡ (contains_key rows.facts.ordered y && not (is_after last y))
