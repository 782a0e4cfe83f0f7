-- The blob of a ref: what it links to, and what it is as a share.
use Rattle.std.proofs.Common.{◌≡◌, ℕ, true, false, List, [], refl, sym, ap, ◌∙◌}
use Rattle.std.proofs.Common.{Option, Some, None, option_map, option_and_then}
use Rattle.std.specs.Prelude.{unwrap_or}
use Rattle.std.specs.FinMap.{get}
use Rattle.schema_fact.specs.declared.kinds.Fact.{Fact}
use Rattle.schema_fact.specs.Dependencies.{kind_dependencies}
use Rattle.schema_json.specs.Facts.{fact_of, kind_of}
use Rattle.claim_model.specs.Facts.{Content, Facts, facts_of, passes}
use Rattle.claim_model.specs.Ready.{ready_fact}
use Rattle.claim_model.proofs.Held.{facts_are_read}
use Rattle.share_model.specs.declared.share.Share.{Share}
use Rattle.share_model.specs.Links.{links_of, links_in}
use Rattle.share_model.specs.Shares.{share_in, share_at}
use Rattle.share_model.proofs.Typed.{shares_are_unread}
use Rattle.share_gate.specs.Tables.{is_unread_claim, links_at}
use Rattle.share_gate.proofs.Facts.{ready_alone, found_ready, found_unready}

not_both : true ≡ false → ⊥
not_both e = absurd (cc e)

fact_kind : (bytes : List ℕ) → (fact_of bytes).kind ≡ kind_of bytes
unfolding fact_of
fact_kind bytes = refl

module _ (held : Content) (r : List ℕ) where
  abbrev facts : Facts
  facts = facts_of fact_of held

  read_at : get facts r ≡ option_map fact_of (get held r)
  read_at = facts_are_read fact_of held r

  -- the blob whose fact that is
  record HasFact (fact : Fact) : Type 0 where
    bytes : List ℕ
    there : get held r ≡ Some bytes
    is : fact_of bytes ≡ fact

  blob_of : (fact : Fact) → get facts r ≡ Some fact → HasFact fact
  blob_of fact e = by (get held r) refl
    where
      by : (o : Option (List ℕ)) → get held r ≡ o → HasFact fact
      by None is = absurd (cc (sym (read_at ∙ ap (option_map fact_of) is) ∙ e))
      by (Some bytes) is =
          record { bytes = bytes; there = is; is = cc (sym (read_at ∙ ap (option_map fact_of) is) ∙ e) }

  -- ---- links

  abbrev links_of_blob : Option (List ℕ) → List (List ℕ)
  links_of_blob o = unwrap_or (option_map links_in o) []

  pub links_ready : (fact : Fact) → ready_fact facts r ≡ Some fact → links_of fact.kind ≡ links_at held r
  links_ready fact found =
      let b = blob_of fact (found_ready facts r fact found).1 in
      ap (λ (f : Fact). links_of f.kind) (sym b.is) ∙ sym (ap links_of_blob b.there)

  pub links_found : (bytes : List ℕ) → Some bytes ≡ get held r → links_in bytes ≡ links_at held r
  links_found bytes is = ap links_of_blob is

  pub links_absent : None ≡ get held r → [] ≡ links_at held r
  links_absent is = ap links_of_blob is

  -- ---- shares

  pub share_found : (bytes : List ℕ) → Some bytes ≡ get held r → share_in bytes ≡ share_at held r
  share_found bytes is = ap (option_and_then share_in) is

  pub share_absent : None ≡ get held r → None ≡ share_at held r
  share_absent is = ap (option_and_then share_in) is

  unread : (bytes : List ℕ) (share : Share) → share_in bytes ≡ Some share → is_unread_claim (fact_of bytes).kind ≡ true
  unread bytes share e = ap is_unread_claim (fact_kind bytes ∙ shares_are_unread bytes share e)

  -- a share is ready
  share_ready : (bytes : List ℕ) (share : Share) → get held r ≡ Some bytes → share_in bytes ≡ Some share
      → ready_fact facts r ≡ None → ⊥
  share_ready bytes share is e none =
      let found : get facts r ≡ Some (fact_of bytes) = read_at ∙ ap (option_map fact_of) is in
      let needs_none = ap kind_dependencies (fact_kind bytes ∙ shares_are_unread bytes share e) in
      not_both (sym (ready_alone facts r (fact_of bytes) found needs_none)
      ∙ found_unready facts r (fact_of bytes) none found)

  -- no share is of another kind, or not ready
  pub no_share : passes (λ (fact : Fact). is_unread_claim fact.kind) (ready_fact facts r) ≡ false
      → None ≡ share_at held r
  no_share other = sym (by (ready_fact facts r) refl (get held r) refl)
    where
      kind : (fact : Fact) → ready_fact facts r ≡ Some fact → is_unread_claim fact.kind ≡ false
      kind fact found = sym (ap (passes (λ (f : Fact). is_unread_claim f.kind)) found) ∙ other

      of_bytes : (fact : Option Fact) → ready_fact facts r ≡ fact → (bytes : List ℕ) → get held r ≡ Some bytes
          → (o : Option Share) → share_in bytes ≡ o → share_in bytes ≡ None
      of_bytes fact found bytes is None e = e
      of_bytes None found bytes is (Some share) e = absurd (share_ready bytes share is e found)
      of_bytes (Some fact) found bytes is (Some share) e =
          let f = found_ready facts r fact found in
          let same : fact_of bytes ≡ fact = cc (sym (read_at ∙ ap (option_map fact_of) is) ∙ f.1) in
          let other = ap (λ (f : Fact). is_unread_claim f.kind) same ∙ kind fact found in
          absurd (not_both (sym (unread bytes share e) ∙ other))

      by : (fact : Option Fact) → ready_fact facts r ≡ fact → (o : Option (List ℕ)) → get held r ≡ o
          → share_at held r ≡ None
      by fact found None is = ap (option_and_then share_in) is
      by fact found (Some bytes) is =
          ap (option_and_then share_in) is ∙ of_bytes fact found bytes is (share_in bytes) refl
