-- Tables that are of a store give its verdicts.
use Rattle.std.proofs.Common.{◌≡◌, ℕ, ◌+◌, ◌&&◌, not, cond, List, [], ◌∷◌, ◌++◌, refl, sym, ap, ◌∙◌}
use Rattle.std.proofs.Common.{Option, Some, None}
use Rattle.std.specs.Prelude.{option_map}
use Rattle.std.specs.Str.{bytes_eq}
use Rattle.claim_verify.specs.Verifier.{Accepts}
use Rattle.schema_json.specs.Facts.{fact_of}
use Rattle.claim_model.specs.Facts.{Content, facts_of}
use Rattle.share_model.specs.declared.share.Share.{Share}
use Rattle.share_model.specs.declared.verdict.Rule.TheVariants.{WrongTarget, NotTransitive}
use Rattle.share_model.specs.declared.verdict.Verdict.TheVariants.{Served, Absent, Denied}
use Rattle.share_model.specs.Shares.{share_at}
use Rattle.share_model.specs.Reach.{has_link}
use Rattle.share_model.specs.Verdicts.{is_empty, missing_link, is_genuine_in, is_deleted_in, path_verdict, verdict}
use Rattle.share_model.proofs.Stepwise.{if_counted, at_end, after_share, from_share, path_stepwise}
use Rattle.share_gate.specs.declared.gate.ShareGate.{ShareGate}
use Rattle.share_gate.specs.declared.gate.ShareRow.{ShareRow}
use Rattle.share_gate.specs.Gates.{gate_missing_link, gate_at_end, gate_after_share, gate_from_share}
use Rattle.share_gate.specs.Gates.{gate_path, gate_verdict, row_of, IsGateOf}

module _ (gate : ShareGate) (held : Content) (accepts : Accepts) (of : IsGateOf gate held accepts) where
  abbrev row_in : Share → ShareRow
  row_in = row_of (facts_of fact_of held) accepts

  missing_same : (i : ℕ) (p : List ℕ) (xs : List (List ℕ)) → gate_missing_link gate i p xs ≡ missing_link held i p xs
  missing_same i p [] = refl
  missing_same i p (x ∷ xs) =
      ap (λ h. cond h (gate_missing_link gate (i + 1) x xs) (Some i)) (of.links p x)
      ∙ ap (λ o. cond (has_link held p x) o (Some i)) (missing_same (i + 1) x xs)

  end_same : (r : List ℕ) (o : Option ℕ) → gate_at_end gate r o ≡ at_end held r o
  end_same r (Some i) = refl
  end_same r None = ap (λ h. cond h Served Absent) (of.refs r)

  after_same : (share : Share) (r : List ℕ) (rest : List (List ℕ))
      → gate_after_share gate (row_in share) r rest ≡ after_share held share r rest
  after_same share r [] = refl
  after_same share r (t ∷ more) =
      ap (λ v.
      cond (not (bytes_eq t share.target)) (Denied WrongTarget)
      (cond (not (is_empty more) && not share.transitive) (Denied NotTransitive) v))
      (ap (gate_at_end gate r) (missing_same 2 t more) ∙ end_same r (missing_link held 2 t more))

  share_same : (r s : List ℕ) (rest : List (List ℕ)) (o : Option Share) → share_at held s ≡ o
      → gate_from_share gate r s rest (option_map row_in o) ≡ from_share held accepts r s rest o
  share_same r s rest None is = refl
  share_same r s rest (Some share) is =
      ap (λ b. if_counted (is_genuine_in held accepts share) b (gate_after_share gate (row_in share) r rest))
      (of.deleted s share is)
      ∙ ap (if_counted (is_genuine_in held accepts share) (is_deleted_in held accepts s)) (after_same share r rest)

  path_same : (r : List ℕ) (path : List (List ℕ)) → gate_path gate r path ≡ path_verdict held accepts r path
  path_same r [] = refl
  path_same r (s ∷ rest) =
      ap (gate_from_share gate r s rest) (of.shares s)
      ∙ share_same r s rest (share_at held s) refl
      ∙ sym (path_stepwise held accepts r s rest)

  pub verdict_same : (r : List ℕ) (via : List (List ℕ)) → gate_verdict gate r via ≡ verdict held accepts r via
  verdict_same r via = path_same r (via ++ r ∷ [])
