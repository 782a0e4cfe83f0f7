-- The steps of all work that is left, also if a settled addition leaves nobody to be folded.
use Rattle.std.proofs.Common.{◌≡◌, ◌≤◌, ◌+◌, inl, inr, ℕ, List, [], refl, sym, subst, arith}
use Rattle.std.proofs.lemmas.Bool.{false≢true}
use Rattle.std.specs.List.{sum_by}
use Rattle.claim_verify.specs.Verifier.{Accepts}
use Rattle.claim_model.specs.Facts.{Facts}
use Rattle.index_rows.specs.declared.rows.Rows.{Rows}
use Rattle.claim_index.specs.Costs.{all_concerned, enter_steps, finish_steps, refolds_steps}
use Rattle.claim_index.specs.Costs.{AddsEntered, AreTaken, EntersWithin, IsCovered}
use Rattle.claim_index.specs.Halfway.{IsHalfway}
use Rattle.claim_index.proofs.EnterOne.{covers_still, finish_sum}

-- nobody is concerned
covers_none : (facts : Facts) (accepts : Accepts) (cs : List (List ℕ)) → cs ≡ [] → IsCovered facts accepts cs [] []
covers_none facts accepts cs none = subst (λ (refs : List (List ℕ)). IsCovered facts accepts refs [] []) (sym none)
    (record {
      permanodes = λ p one t. absurd (false≢true t);
      each = λ p t. absurd (false≢true t);
    })

refolds_none : (facts : Facts) (accepts : Accepts) → refolds_steps facts accepts [] [] ≡ 0
refolds_none facts accepts = refl

-- entering takes no more than all work that is left
pub enters_less : (facts : Facts) (accepts : Accepts) (deletes heads ps : List (List ℕ)) (first last : ℕ)
    → last ≤ first + sum_by (enter_steps facts accepts) deletes
    → last ≤ first + finish_steps facts accepts deletes heads ps
enters_less facts accepts deletes heads ps first last h = omega (arith, h)

module _ (accepts : Accepts) (rows now : Rows) (same : now.facts ≡ rows.facts)
    (deletes concerned concerned' heads ps : List (List ℕ))
    (adds : AddsEntered rows.facts.ordered accepts deletes concerned concerned')
    (half : IsHalfway accepts [] [] concerned' now) (all : AreTaken now) (first mid last : ℕ)
    (folds : (heads' ps' : List (List ℕ)) → IsHalfway accepts [] [] concerned' now → AreTaken now
    → IsCovered now.facts.ordered accepts concerned' heads' ps'
    → last ≤ mid + refolds_steps now.facts.ordered accepts heads' ps') where
  pub finish_within : EntersWithin rows.facts.ordered accepts deletes concerned' heads ps first mid
      → IsCovered rows.facts.ordered accepts (all_concerned rows.facts.ordered accepts deletes concerned) heads ps
      → last ≤ first + finish_steps rows.facts.ordered accepts deletes heads ps
  finish_within (inl h) is = finish_sum accepts rows now same deletes concerned concerned' heads ps adds deletes refl
      first mid last h
      (folds heads ps half all (covers_still accepts rows now same deletes concerned concerned' heads ps adds is))
  finish_within (inr t) is =
      let r = folds [] [] half all (covers_none now.facts.ordered accepts concerned' t.0) in
      let z = refolds_none now.facts.ordered accepts in
      let h = t.1 in
      omega (arith, r, z, h)
