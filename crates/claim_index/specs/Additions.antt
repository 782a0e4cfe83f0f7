-- One more claim that adds a value, by the facts and by what the keys accept.
use Rattle.std.specs.Prelude.{◌≡◌, ℕ, ℤ, ◌||◌, Bool, true, false, List, [], ◌∷◌, Some}
use Rattle.std.specs.Ordering.{is_lt}
use Rattle.std.specs.FinMap.{get}
use Rattle.schema_fact.specs.declared.changes.Act.TheVariants.{Add as adds}
use Rattle.schema_fact.specs.declared.changes.Change.{Change}
use Rattle.schema_fact.specs.declared.kinds.Fact.{Fact}
use Rattle.schema_fact.specs.declared.kinds.Signed.{Signed}
use Rattle.schema_fact.specs.declared.kinds.Kind.TheVariants.{Claim}
use Rattle.schema_fact.specs.declared.kinds.What.TheVariants.{Add}
use Rattle.claim_verify.specs.Verifier.{Accepts}
use Rattle.claim_model.specs.Facts.{Facts}
use Rattle.claim_model.specs.Claims.{Moment, moment_cmp}
use Rattle.index_rows.specs.declared.rows.Rows.{Rows}
use Rattle.index_rows.specs.Removals.{Removals, has_mark, mark_of}
use Rattle.index_rows.specs.Values.{change_at}
use Rattle.index_rows.specs.Waiting.{depends}
use Rattle.index_meaning.specs.Meaning.{genuine_change}
use Rattle.attr_fold.specs.Following.{taking_steps}
use Rattle.claim_index.specs.Costs.{AreTaken}
use Rattle.claim_index.specs.Following.{change_by}
use Rattle.claim_index.specs.Halfway.{IsHalfway, CanBeJudged}

-- whether a change may take a value away, by the marks: it sets or empties the attribute, or removes the value from it,
-- or has the mark of such a change by chance
abbrev pub may_take : List ℕ → List ℕ → Change → Bool
may_take attr value c = has_mark (mark_of attr []) c || has_mark (mark_of attr value) c

-- no change on p by a genuine claim after a moment, in the order of date, ref and place, may take the value away
abbrev pub IsKept : Facts → Accepts → List ℕ → List ℕ → List ℕ → Moment → Type 0
IsKept facts accepts p attr value k = (later : Moment) (c : Change) → genuine_change facts accepts p later ≡ true
    → change_at facts later ≡ Some c → is_lt (moment_cmp k later) ≡ true → may_take attr value c ≡ false

-- the fact of r is that of a claim that adds one value; among the facts, which have it, none depends on r, so no other
-- ref becomes ready by it, and no later change may take the value away
pub record AddsAlone (facts : Facts) (accepts : Accepts) (r : List ℕ) (fact : Fact) : Type 0 where
  pub signed : Signed
  pub date : ℤ
  pub on : List ℕ
  pub attr : List ℕ
  pub value : List ℕ
  pub says : fact.kind ≡ Claim signed date (Add on attr value)
  pub unnamed : (y : List ℕ) → depends facts y r ≡ false
  pub kept : IsKept facts accepts on attr value (date, r, 0)

-- the same of a ref whose fact was put
pub record IsAddedAlone (facts : Facts) (accepts : Accepts) (r : List ℕ) : Type 0 where
  pub fact : Fact
  pub found : get facts r ≡ Some fact
  pub alone : AddsAlone facts accepts r fact

-- the only change of x adds a value, and no removal after it has a row under the marks of its attribute and value
pub record IsFree (facts : Facts) (removals : Removals) (x : List ℕ) : Type 0 where
  pub on : List ℕ
  pub moment : Moment
  pub change : Change
  pub says : change_by facts x ≡ Some (on, moment)
  pub found : change_at facts moment ≡ Some change
  pub act : change.act ≡ adds
  pub none : taking_steps removals on change.attr change.value moment ≡ 0

-- such a claim is the only ref that is left to be judged
pub record IsLastToJudge (accepts : Accepts) (x : List ℕ) (deletes concerned : List (List ℕ)) (rows : Rows) : Type 0
  where
    pub halfway : IsHalfway accepts (x ∷ []) deletes concerned rows
    pub able : CanBeJudged (x ∷ []) rows
    pub taken : AreTaken rows
    pub adds : IsAddedAlone rows.facts.ordered accepts x

-- no work is left
pub record IsNoWork (deletes concerned : List (List ℕ)) : Type 0 where
  pub none_deleted : deletes ≡ []
  pub none_concerned : concerned ≡ []
