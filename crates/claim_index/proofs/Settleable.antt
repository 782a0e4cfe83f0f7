-- While claims are entered, a changed deletion can be settled.
use Rattle.std.proofs.Common.{◌≡◌, ◌&&◌, ◌∙◌, true, cond, List, [], Option, Some, None, is_some, refl}
use Rattle.std.proofs.Common.{ℕ, ap, not}
use Rattle.std.proofs.lemmas.Bool.{and_from, false≢true}
use Rattle.std.specs.List.{list_any}
use Rattle.std.specs.Str.{bytes_eq}
use Rattle.std.specs.FinMap.{get, contains_key}
use Rattle.claim_verify.specs.Verifier.{Accepts}
use Rattle.schema_fact.specs.declared.kinds.Fact.{Fact}
use Rattle.claim_model.specs.Claims.{Moment}
use Rattle.claim_model.specs.Facts.{passes}
use Rattle.claim_model.specs.Genuine.{is_genuine}
use Rattle.index_rows.specs.declared.rows.Rows.{Rows}
use Rattle.index_rows.specs.declared.rows.StateRow.{StateRow}
use Rattle.index_rows.specs.States.{says_genuine}
use Rattle.index_rows.proofs.Arrived.{get-arrived}
use Rattle.index_meaning.specs.Meaning.{genuine_change, is_change_on}
use Rattle.claim_index.specs.Following.{change_by, CanBeSettled}
use Rattle.claim_index.specs.Halfway.{taken, IsHalfway}
use Rattle.claim_index.proofs.EnterOne.{row_says}
use Rattle.claim_index.proofs.OneFollowed.{change_of, IsChangeOf}

module _ (accepts : Accepts) (deletes concerned : List (List ℕ)) (rows : Rows)
    (half : IsHalfway accepts [] deletes concerned rows) where
  -- a ref whose row says that it is genuine was taken up
  has_row : (y : List ℕ) → says_genuine rows.state y ≡ true → contains_key rows.state y ≡ true
  has_row y h = by (get rows.state y) h
    where
      by : (o : Option StateRow) → passes (λ (row : StateRow). row.genuine) o ≡ true → is_some o ≡ true
      by None t = absurd (false≢true t)
      by (Some row) t = refl

  same_fact : (y : List ℕ) → says_genuine rows.state y ≡ true → get (taken rows) y ≡ get rows.facts.ordered y
  same_fact y h = get-arrived rows.facts.ordered rows.state y
      ∙ ap (λ b. cond b (get rows.facts.ordered y) None) (has_row y h)

  -- its only change has its row
  change_there : (y p : List ℕ) (k : Moment) → says_genuine rows.state y ≡ true
      → ◌≡◌ {A = Option (List ℕ × Moment)} (change_by rows.facts.ordered y) (Some (p, k))
      → contains_key rows.changes (p, k) ≡ true
  change_there y p k genuine says =
      let of : IsChangeOf rows.facts.ordered y p k = change_of rows.facts.ordered y p k says in
      let here = ap (passes (λ (fact : Fact). is_change_on p k fact.kind)) (same_fact y genuine ∙ of.found)
      ∙ of.its.own in
      let counts : genuine_change (taken rows) accepts p k ≡ true
      = ap (λ (r : List ℕ). is_genuine (taken rows) accepts r
      && passes (λ (fact : Fact). is_change_on p k fact.kind) (get (taken rows) r)) of.its.claim
      ∙ and_from (is_genuine (taken rows) accepts y)
      (passes (λ (fact : Fact). is_change_on p k fact.kind) (get (taken rows) y))
      (row_says (taken rows) accepts rows.state half.judged y genuine) here in
      half.changed p k
      ∙ and_from (genuine_change (taken rows) accepts p k) (not (list_any (bytes_eq k.1) [])) counts refl

  pub can_be_settled : CanBeSettled rows
  can_be_settled = record { removals = half.removals; there = change_there }
