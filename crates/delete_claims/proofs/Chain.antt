-- The turns of the loop in `flip_from`, as its calls tell them.
use Rattle.std.proofs.Common.{◌≡◌, ℕ, ◌<◌, ◌^◌, Bool, true, false, not, cond, List, [], ◌∷◌, ◌++◌, Option, None, Some, refl, sym, ap, subst, ◌∙◌, inl, inr, ℤ}
use Rattle.std.proofs.lemmas.Option.{same_Some}
use Rattle.std.specs.FinMap.{get, entries, len}
use Rattle.schema_fact.specs.declared.kinds.Fact.{Fact}
use Rattle.schema_fact.specs.declared.kinds.Kind.{Kind}
use Rattle.claim_model.specs.Facts.{Facts, passes}
use Rattle.claim_model.specs.Deleted.{can_be_deleted}
use Rattle.index_rows.specs.Deletes.{Deletes, row_stands, target_in, fact_target, kind_has_row, kind_target}
use Rattle.index_rows.specs.Pairs.{Pair, number}
use Rattle.index_rows.specs.States.{States}
use Rattle.index_rows.specs.Counted.{is_deletable}
use Rattle.index_rows.proofs.Deleting.{a_value}
use Rattle.delete_claims.specs.Flipping.{CanRecount, IsRecounted, fact_deletable, deletable, row_target, Flipped, Flipping}
use Rattle.delete_claims.proofs.Rounds.{late}
use Rattle.delete_claims.proofs.Flips.{no_more, ends_here, goes_on, falls, can_recount}

-- what `deletable` says of a fact
fact_not : (o : Option Fact) → None ≡ fact_deletable o → passes (λ (fact : Fact). can_be_deleted fact.kind) o ≡ false
fact_not None h = refl
fact_not (Some fact) h = by (can_be_deleted fact.kind) h
  where
    by : (b : Bool) → None ≡ cond b (Some fact.kind) None → b ≡ false
    by true e = absurd (let f : None ≡ Some fact.kind = e in cc f)
    by false e = refl

pub record IsOf (facts : Facts) (deletes : Deletes) (y : List ℕ) (kind : Kind) : Type 0 where
  pub can : is_deletable facts y ≡ true
  pub stands : row_stands facts deletes y ≡ kind_has_row deletes y kind
  pub target : target_in facts y ≡ kind_target y kind

is_of : (facts : Facts) (deletes : Deletes) (y : List ℕ) (kind : Kind) → Some kind ≡ deletable facts y
    → IsOf facts deletes y kind
is_of facts deletes y kind h = by (get facts y) refl h
  where
    by : (o : Option Fact) → get facts y ≡ o → Some kind ≡ fact_deletable o → IsOf facts deletes y kind
    by None e t = absurd (let f : Some kind ≡ None = t in cc f)
    by (Some fact) e t = given (can_be_deleted fact.kind) refl t
      where
        given : (b : Bool) → can_be_deleted fact.kind ≡ b → Some kind ≡ cond b (Some fact.kind) None
            → IsOf facts deletes y kind
        given true c s =
            let same : fact.kind ≡ kind = sym (same_Some kind fact.kind s) in
            record {
              can = ap (passes (λ (f : Fact). can_be_deleted f.kind)) e ∙ c;
              stands = ap (passes (λ (f : Fact). kind_has_row deletes y f.kind)) e ∙ ap (kind_has_row deletes y) same;
              target = ap (fact_target y) e ∙ ap (kind_target y) same;
            }
        given false c s = absurd (let f : Some kind ≡ None = s in cc f)

module _ (facts : Facts) (deletes : Deletes) (before state : States) (changed : List (List ℕ)) (at : List ℕ)
    (up : Bool) (is : Flipping facts deletes before state changed at up) where
  pub can : number (λ (e : Pair × ℤ). true) (entries deletes) < 2 ^ 64 → CanRecount state at up
  can room = let had = a_value
      (get state at) is.known in can_recount facts deletes before state changed at up is had.0 had.1 room

module _ (facts : Facts) (deletes : Deletes) (before state : States) (changed : List (List ℕ)) (at : List ℕ)
    (up : Bool) (is : Flipping facts deletes before state changed at up)
    (state' : States) (flipped : Bool) (did : IsRecounted state state' at up flipped) where
  pub no_flip : flipped ≡ false → Flipped facts deletes before state' changed
  no_flip h = subst (λ s. Flipped facts deletes before s changed) (sym did.put)
      (no_more facts deletes before state changed at up is did.row did.found (inl (sym did.flips ∙ h)))

  pub not_deletable : None ≡ deletable facts at → Flipped facts deletes before state' changed
  not_deletable h = subst (λ s. Flipped facts deletes before s changed) (sym did.put)
      (no_more facts deletes before state changed at up is did.row did.found (inr (fact_not (get facts at) h)))

  module _ (flip : flipped ≡ true) (kind : Kind) (says : Some kind ≡ deletable facts at) (changed' : List (List ℕ))
      (ec : changed' ≡ changed ++ at ∷ []) where
    of : IsOf facts deletes at kind
    of = is_of facts deletes at kind says

    pub last : None ≡ row_target deletes at kind → Flipped facts deletes before state' changed'
    last h = subst (λ c. Flipped facts deletes before state' c) (sym ec)
        (subst (λ s. Flipped facts deletes before s (changed ++ at ∷ [])) (sym did.put)
        (ends_here facts deletes before state changed at up is did.row did.found (sym did.flips ∙ flip) of.can
        (of.stands ∙ none (kind_has_row deletes at kind) h)))
      where
        none : (b : Bool) → None ≡ cond b (Some (kind_target at kind)) None → b ≡ false
        none true e = absurd (let f : None ≡ Some (kind_target at kind) = e in cc f)
        none false e = refl

    module _ (target : List ℕ) (h : Some target ≡ row_target deletes at kind) where
      parts : (kind_has_row deletes at kind ≡ true) × (target ≡ kind_target at kind)
      parts = by (kind_has_row deletes at kind) h
        where
          by : (b : Bool) → Some target ≡ cond b (Some (kind_target at kind)) None
              → (b ≡ true) × (target ≡ kind_target at kind)
          by true e = (refl, same_Some target (kind_target at kind) e)
          by false e = absurd (let f : Some target ≡ None = e in cc f)

      pub stands : row_stands facts deletes at ≡ true
      stands = of.stands ∙ parts.0

      pub is_target : target ≡ target_in facts at
      is_target = parts.1 ∙ sym of.target

      pub on : Flipping facts deletes before state' changed' target (not up)
      on = subst (λ t. Flipping facts deletes before state' changed' t (not up)) (sym is_target)
          (subst (λ c. Flipping facts deletes before state' c (target_in facts at) (not up)) (sym ec)
          (subst (λ s. Flipping facts deletes before s (changed ++ at ∷ []) (target_in facts at) (not up))
          (sym did.put)
          (goes_on facts deletes before state changed at up is did.row did.found (sym did.flips ∙ flip) of.can stands)))

      pub on_falls : late facts (len facts) target < late facts (len facts) at
      on_falls = subst (λ t. late facts (len facts) t < late facts (len facts) at) (sym is_target)
          (falls facts deletes before state changed at up is did.row did.found (sym did.flips ∙ flip) of.can stands)
