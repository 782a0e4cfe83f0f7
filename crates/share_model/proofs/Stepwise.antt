-- A verdict step by step: a rule is asked once none before it holds.
use Rattle.std.proofs.Common.{◌≡◌, ℕ, ◌&&◌, Bool, true, false, cond, not, List, [], ◌∷◌}
use Rattle.std.proofs.Common.{Option, Some, None, refl, sym, ap}
use Rattle.std.specs.Option.{is_some, unwrap_or}
use Rattle.std.specs.Str.{bytes_eq}
use Rattle.std.specs.FinMap.{contains_key}
use Rattle.claim_verify.specs.Verifier.{Accepts}
use Rattle.claim_model.specs.Facts.{Content}
use Rattle.share_model.specs.declared.share.Share.{Share}
use Rattle.share_model.specs.declared.verdict.Rule.TheVariants.{NoShare, NotGenuine, Deleted}
use Rattle.share_model.specs.declared.verdict.Rule.TheVariants.{WrongTarget, NotTransitive, NoLink}
use Rattle.share_model.specs.declared.verdict.Verdict.{Verdict}
use Rattle.share_model.specs.declared.verdict.Verdict.TheVariants.{Served, Absent, Denied}
use Rattle.share_model.specs.Shares.{share_at}
use Rattle.share_model.specs.Verdicts.{is_empty, missing_link, is_genuine_in, is_deleted_in}
use Rattle.share_model.specs.Verdicts.{rules_for, first_that_holds, path_verdict}

-- what is answered after a share, by whether that is genuine, and whether it is deleted
abbrev pub if_counted : Bool → Bool → Verdict → Verdict
if_counted genuine deleted after = cond (not genuine) (Denied NotGenuine) (cond deleted (Denied Deleted) after)

module _ (held : Content) where
  -- of a path that ends with r, where its links have been asked for
  abbrev pub at_end : List ℕ → Option ℕ → Verdict
  at_end r (Some i) = Denied (NoLink i)
  at_end r None = cond (contains_key held r) Served Absent

  -- of a path that goes on with these refs after a share that counts
  abbrev pub after_share : Share → List ℕ → List (List ℕ) → Verdict
  after_share share r [] = Served
  after_share share r (t ∷ more) =
      cond (not (bytes_eq t share.target)) (Denied WrongTarget)
      (cond (not (is_empty more) && not share.transitive) (Denied NotTransitive)
      (at_end r (missing_link held 2 t more)))

  turned : (b : Bool) (x y : Verdict) → cond b x y ≡ cond (not b) y x
  turned true x y = refl
  turned false x y = refl

  ends : (r : List ℕ) (o : Option ℕ)
      → at_end r o ≡ cond (is_some o) (Denied (NoLink (unwrap_or o 0))) (cond (not (contains_key held r)) Absent Served)
  ends r (Some i) = refl
  ends r None = turned (contains_key held r) Served Absent

  module _ (accepts : Accepts) where
    -- of a path that begins with s, under which this is held as a share
    abbrev pub from_share : List ℕ → List ℕ → List (List ℕ) → Option Share → Verdict
    from_share r s rest None = Denied NoShare
    from_share r s rest (Some share) =
        if_counted (is_genuine_in held accepts share) (is_deleted_in held accepts s) (after_share share r rest)

    by_rules : (r s : List ℕ) (rest : List (List ℕ)) (o : Option Share)
        → first_that_holds (rules_for held accepts r s rest o) ≡ from_share r s rest o
    by_rules r s rest None = refl
    by_rules r s [] (Some share) = refl
    by_rules r s (t ∷ more) (Some share) =
        ap (λ (v : Verdict).
        if_counted (is_genuine_in held accepts share) (is_deleted_in held accepts s)
        (cond (not (bytes_eq t share.target)) (Denied WrongTarget)
        (cond (not (is_empty more) && not share.transitive) (Denied NotTransitive) v)))
        (sym (ends r (missing_link held 2 t more)))

    pub path_stepwise : (r s : List ℕ) (rest : List (List ℕ))
        → path_verdict held accepts r (s ∷ rest) ≡ from_share r s rest (share_at held s)
    path_stepwise r s rest = by_rules r s rest (share_at held s)
