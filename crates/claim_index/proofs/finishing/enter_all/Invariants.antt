-- The claims from here on are entered.
use Rattle.std.proofs.Common.{◌≡◌, ◌≤◌, ◌+◌, ℕ, List, [], take, drop}
use Rattle.std.specs.List.{sum_by}
use Rattle.std.specs.FinMap.{contains_key}
use Rattle.claim_verify.specs.Verifier.{Accepts}
use Rattle.index_rows.specs.declared.rows.Rows.{Rows}
use Rattle.claim_index.specs.Halfway.{IsHalfway, CanBeFinished}
use Rattle.claim_index.specs.Costs.{enter_steps, AddsEntered, AreTaken}
use Rattle.claim_index.proofs.finishing.enter_all.Given as goal

pub record AreEntered (deletes before concerned : List (List ℕ)) (rows after : Rows) (i : ℕ) : Type 0 where
  pub facts : after.facts ≡ rows.facts
  pub taken : (y : List ℕ) → contains_key after.state y ≡ contains_key rows.state y
  pub finished : CanBeFinished (take i deletes) concerned after
  pub halfway : (accepts : Accepts) → IsHalfway accepts [] deletes before rows
      → IsHalfway accepts [] (take i deletes) concerned after

abbrev pub invariant-claims : goal.invariant-claims
invariant-claims g l = record {
  entered : AreEntered l.deletes l.fn.concerned l.concerned l.fn.rows l.rows l.i;
  adds : (accepts : Accepts) → IsHalfway accepts [] l.deletes l.fn.concerned l.fn.rows → AreTaken l.fn.rows
      → AddsEntered l.fn.rows.facts.ordered accepts (drop l.i l.deletes) l.fn.concerned l.concerned;
  ticks : (accepts : Accepts) → IsHalfway accepts [] l.deletes l.fn.concerned l.fn.rows → AreTaken l.fn.rows
      → l.steps ≤ l.fn.steps + sum_by (enter_steps l.fn.rows.facts.ordered accepts) (drop l.i l.deletes);
}
