-- What facts say of shares.
use Rattle.std.proofs.Common.{◌≡◌, ℕ, ◌&&◌, Bool, true, false, cond, List, nat_lt, length, codes, ℤ}
use Rattle.std.proofs.Common.{Option, Some, None, refl, sym, ap, ◌∙◌}
use Rattle.std.specs.Prelude.{option_map, option_and_then, unwrap_or, is_some, is_none}
use Rattle.std.specs.Option.{option_or}
use Rattle.std.specs.Str.{bytes_eq}
use Rattle.std.proofs.lemmas.Bool.{and_parts}
use Rattle.std.proofs.lemmas.Slice.Eq.{bytes_eq-Decides}
use Rattle.serde_json.specs.Data.{Data}
use Rattle.serde_json.specs.Find.{get as field}
use Rattle.schema_fact.specs.declared.kinds.Signed.{Signed}
use Rattle.schema_fact.specs.declared.kinds.What.{What}
use Rattle.schema_fact.specs.declared.kinds.Kind.{Kind}
use Rattle.schema_fact.specs.declared.kinds.Kind.TheVariants.{Plain, Key, Permanode, Claim, Unread}
use Rattle.schema_json.specs.Fields.{has_type, type_of, text_at, begins_object}
use Rattle.schema_json.specs.Facts.{schema_kind, what_by, what_of, date_of, claim_of}
use Rattle.schema_json.specs.Reading.{unsigned_kind, payload_kind, signed_first}
use Rattle.schema_json.specs.Signing.{signed_in}
use Rattle.schema_json.proofs.Signed.{signed_is, typed_by}
use Rattle.schema_json.proofs.Begins.{plain_begins}
use Rattle.schema_json.proofs.KeyBlobs.{key_in-other}
use Rattle.share_model.specs.declared.share.Share.{Share}
use Rattle.share_model.specs.Shares.{has_text, is_share_object, share_of, signed_share_in}
use Rattle.share_model.specs.Laws.{SharesAreUnread}
use Rattle.share_model.proofs.Cases.{by_bool}
use Rattle.share_model.proofs.Payloads.{share_where, found_share, share_short, share_long}

said : (o : Option (List ℕ)) (text : List ℕ) → unwrap_or (option_map (bytes_eq text) o) false ≡ true → o ≡ Some text
said None text e = absurd (cc e)
said (Some t) text e = ap Some (sym ((bytes_eq-Decides text t).0 e))

-- an object that is a share's
record SaysShare (d : Data) : Type 0 where
  typed : type_of d ≡ Some (codes "claim")
  claim : has_type (codes "claim") d ≡ true
  kind : text_at (codes "claimType") d ≡ Some (codes "share")

abbrev claim_object : Data → Bool
claim_object d = has_type (codes "claim") d && has_text (codes "claimType") (codes "share") d

abbrev haveref_object : Data → Bool
haveref_object d = claim_object d && has_text (codes "authType") (codes "haveref") d

says_share : (d : Data) → is_share_object d ≡ true → SaysShare d
says_share d e =
    let dated = and_parts (haveref_object d && is_some (date_of d)) (is_none (field (codes "expires") d)) e in
    let haveref = and_parts (haveref_object d) (is_some (date_of d)) dated.0 in
    let one = and_parts (claim_object d) (has_text (codes "authType") (codes "haveref") d) haveref.0 in
    let h = and_parts (has_type (codes "claim") d) (has_text (codes "claimType") (codes "share") d) one.0 in
    record {
      typed = typed_by d (codes "claim") h.0;
      claim = h.0;
      kind = said (text_at (codes "claimType") d) (codes "share") h.1;
    }

no_what : (o : Option ℤ) (f : ℤ → What → Kind) → option_and_then (λ date. option_map (f date) None) o ≡ None
no_what None f = refl
no_what (Some date) f = refl

-- what a payload says, by the text of its type
abbrev kind_by : Option (List ℕ) → Data → Signed → Kind
kind_by o d signed =
    unwrap_or (option_or
    (cond (unwrap_or (option_map (λ type. bytes_eq type (codes "permanode")) o) false) (Some (Permanode signed)) None)
    (claim_of d signed))
    (unwrap_or (option_map (λ type. unwrap_or (unsigned_kind type d) (Unread type)) o) Plain)

-- a payload that is a share's says none of the claims that facts know
unread_payload : (d : Data) (signed : Signed) → SaysShare d → payload_kind d signed ≡ Unread (codes "claim")
unread_payload d signed s =
    let what : what_of d ≡ None = ap (option_and_then (λ type. what_by type d)) s.kind in
    let claim : claim_of d signed ≡ None =
    ap (λ h. cond h (option_and_then (λ date. option_map (Claim signed date) (what_of d)) (date_of d)) None) s.claim
    ∙ ap (λ w. option_and_then (λ date. option_map (Claim signed date) w) (date_of d)) what
    ∙ no_what (date_of d) (Claim signed) in
    ap (λ o. kind_by o d signed) s.typed ∙ ap (λ c. unwrap_or c (Unread (codes "claim"))) claim

-- the blob says that it is unread
abbrev IsUnread : List ℕ → Type 0
IsUnread b = (k : Kind) × ((Some k ≡ signed_first b) × (k ≡ Unread (codes "claim")))

unread_first : (b : List ℕ) (share : Share) → signed_share_in b ≡ Some share → IsUnread b
unread_first b share e = by (signed_in b) refl e
  where
    object : (d : Data) (signed : Signed) → share_of d signed ≡ Some share → is_share_object d ≡ true
    object d signed e = by_bool (is_share_object d) (λ yes. yes)
        (λ other. absurd (cc (sym (ap (λ h. share_where h d signed) other) ∙ e)))

    by : (o : Option (Data × Signed)) → signed_in b ≡ o → signed_share_in b ≡ Some share → IsUnread b
    by None is e = absurd (cc (sym (ap found_share is) ∙ e))
    by (Some (d, signed)) is e =
        let so = says_share d (object d signed (sym (ap found_share is) ∙ e)) in (
          payload_kind d signed,
          (sym (ap (option_map (λ found. payload_kind found.0 found.1)) is), unread_payload d signed so),
        )

pub shares_are_unread : SharesAreUnread
shares_are_unread b share e = by_bool (nat_lt 1048576 (length b))
    (λ long. absurd (cc (share_long b long ∙ e)))
    (λ short.
    let u = unread_first b share (share_short b short ∙ e) in
    let kind : schema_kind b ≡ Unread (codes "claim") = sym (signed_is b u.0 short u.1.0) ∙ u.1.1 in
    let no_key = key_in-other b (λ name is. not_plain (plain_begins b (sym (ap begins_object is))) kind) in
    ap (λ o. unwrap_or (option_map Key o) (schema_kind b)) no_key ∙ kind)
  where
    not_plain : {k : Kind} → Plain ≡ k → k ≡ Unread (codes "claim") → ⊥
    not_plain e is = absurd (cc (e ∙ is))
