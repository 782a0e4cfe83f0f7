-- Tables over all refs of a store are those of its gate.
use Rattle.std.proofs.Common.{◌≡◌, ℕ, ◌&&◌, List, Option, Some, None, cond, refl, ap, ◌∙◌}
use Rattle.std.specs.Prelude.{option_map}
use Rattle.std.specs.List.{list_any}
use Rattle.std.specs.Option.{is_some, option_and_then}
use Rattle.std.specs.Str.{bytes_eq}
use Rattle.std.specs.FinMap.{get, contains_key}
use Rattle.blobref.specs.Sets.{HasSameRefs}
use Rattle.claim_verify.specs.Verifier.{Accepts}
use Rattle.schema_json.specs.Facts.{fact_of}
use Rattle.claim_model.specs.Facts.{Content, facts_of, passes}
use Rattle.share_model.specs.Links.{links_in}
use Rattle.share_model.specs.Shares.{share_in}
use Rattle.share_model.specs.Reach.{has_link}
use Rattle.share_gate.specs.declared.gate.ShareGate.{ShareGate}
use Rattle.share_gate.specs.Building.{HasRefs}
use Rattle.share_gate.specs.Gates.{row_of, IsGateOf}
use Rattle.share_gate.specs.Tables.{row_at, AreLinks, AreShares, AreDeleted}
use Rattle.share_gate.proofs.Targets.{deleted_as}

module _ (held : Content) (accepts : Accepts) where
  -- a blob with a link is held
  link_held : (p q : List ℕ) → (contains_key held p && has_link held p q) ≡ has_link held p q
  link_held p q = by (get held p)
    where
      by : (o : Option (List ℕ))
          → (is_some o && passes (λ bytes. list_any (bytes_eq q) (links_in bytes)) o)
          ≡ passes (λ bytes. list_any (bytes_eq q) (links_in bytes)) o
      by None = refl
      by (Some bytes) = refl

  -- a share is held
  share_held : (s : List ℕ) → cond (contains_key held s) (row_at held accepts s) None ≡ row_at held accepts s
  share_held s = by (get held s)
    where
      by : (o : Option (List ℕ))
          → cond (is_some o) (option_map (row_of (facts_of fact_of held) accepts) (option_and_then share_in o)) None
          ≡ option_map (row_of (facts_of fact_of held) accepts) (option_and_then share_in o)
      by None = refl
      by (Some bytes) = refl

  pub gate_whole : (refs : List (List ℕ)) (gate : ShareGate) → HasRefs refs held → HasSameRefs gate.refs refs
      → AreLinks held refs gate.links → AreShares held accepts refs gate.shares
      → AreDeleted (facts_of fact_of held) accepts refs gate.deleted → IsGateOf gate held accepts
  gate_whole refs gate has same links shares deleted = record {
    refs = λ r. same r ∙ has r;
    links = λ p q. links p q ∙ ap (λ b. b && has_link held p q) (has p) ∙ link_held p q;
    shares = λ s. shares s ∙ ap (λ b. cond b (row_at held accepts s) None) (has s) ∙ share_held s;
    deleted = λ s share is. deleted s ∙ deleted_as held accepts s refs has;
  }
