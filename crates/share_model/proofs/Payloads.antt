-- Shares by their payloads.
use Rattle.std.proofs.Common.{rules, ◌<◌, ◌≤◌, ◌≡◌, ℕ, ◌&&◌, Bool, true, false, cond, List, nat_lt, length, codes}
use Rattle.std.proofs.Common.{Result, Ok, Err, IfOk, Option, Some, None, refl, sym, ap, ◌∙◌}
use Rattle.std.specs.Prelude.{option_map, option_and_then, unwrap_or, is_some, is_none}
use Rattle.std.specs.Str.{bytes_eq}
use Rattle.std.proofs.lemmas.Bool.{cond-false, cond-true}
use Rattle.serde_json.specs.Data.{Data}
use Rattle.serde_json.specs.Find.{get as field}
use Rattle.schema_fact.specs.declared.kinds.Signed.{Signed}
use Rattle.json_laws.specs.Json.{json_in}
use Rattle.schema_json.specs.Fields.{has_type, ref_at}
use Rattle.schema_json.specs.Facts.{date_of}
use Rattle.schema_json.specs.Signing.{signed_in}
use Rattle.schema_json.proofs.Signed.{whole_type, typed_by}
use Rattle.claim_model.specs.Facts.{passes}
use Rattle.share_model.specs.declared.share.Share.{Share}
use Rattle.share_model.specs.Shares.{has_text, transitive_of, share_of, signed_share_in, share_in}
use Rattle.share_model.proofs.Cases.{by_bool}

-- whether an object is a share's, by whether it has the type
abbrev with_type : Bool → Data → Bool
with_type h d =
    h && has_text (codes "claimType") (codes "share") d && has_text (codes "authType") (codes "haveref") d
    && is_some (date_of d) && is_none (field (codes "expires") d)

-- what an object says, by whether it is a share's
abbrev pub share_where : Bool → Data → Signed → Option Share
share_where h d signed =
    cond h (option_and_then (λ target.
    option_map (λ transitive. record { signed = signed; target = target; transitive = transitive })
    (transitive_of d)) (ref_at (codes "target") d)) None

nothing_else : (p : Bool) (x : Option Share) → x ≡ None → x ≡ cond p x None
nothing_else true x e = refl
nothing_else false x e = e

-- whether a blob is of the type as a whole
abbrev is_claim : List ℕ → Bool
is_claim b = passes (has_type (codes "claim")) (json_in b)

-- the whole is of the type too
whole_is : (b : List ℕ) (d : Data) (signed : Signed) → signed_in b ≡ Some (d, signed)
    → has_type (codes "claim") d ≡ true → is_claim b ≡ true
whole_is b d signed e typed =
    let w = whole_type b d signed (codes "claim") e (typed_by d (codes "claim") typed) in
    ap (passes (has_type (codes "claim"))) w.1
    ∙ ap (λ o. unwrap_or (option_map (λ type. bytes_eq type (codes "claim")) o) false) w.2

no_share : (d : Data) (signed : Signed) → has_type (codes "claim") d ≡ false → share_of d signed ≡ None
no_share d signed other = ap (λ h. share_where (with_type h d) d signed) other

abbrev pub found_share : Option (Data × Signed) → Option Share
found_share o = option_and_then (λ found. share_of found.0 found.1) o

-- what a blob says that isn't too long
abbrev typed_share : List ℕ → Option Share
typed_share b = cond (is_claim b) (signed_share_in b) None

pub share_short : (b : List ℕ) → nat_lt 1048576 (length b) ≡ false → signed_share_in b ≡ share_in b
unfolding share_in
share_short b short = by (signed_in b) refl ∙ sym (cond-false (nat_lt 1048576 (length b)) None (typed_share b) short)
  where
    by : (o : Option (Data × Signed)) → signed_in b ≡ o → signed_share_in b ≡ typed_share b
    by None e = nothing_else (is_claim b) (signed_share_in b) (ap found_share e)
    by (Some (d, signed)) e = by_bool (has_type (codes "claim") d)
        (λ typed. sym (cond-true (is_claim b) (signed_share_in b) None (whole_is b d signed e typed)))
        (λ other. nothing_else (is_claim b) (signed_share_in b) (ap found_share e ∙ no_share d signed other))

pub share_long : (b : List ℕ) → nat_lt 1048576 (length b) ≡ true → None ≡ share_in b
unfolding share_in
share_long b long = sym (cond-true (nat_lt 1048576 (length b)) None (typed_share b) long)

pub gt_is : (b : List ℕ) → 1048576 < length b → nat_lt 1048576 (length b) ≡ true
gt_is b lt = search rules

pub gt_isnt : (b : List ℕ) → length b ≤ 1048576 → nat_lt 1048576 (length b) ≡ false
gt_isnt b ge = search rules

pub first_whole : (b : List ℕ) {E : Type 0} (result : Result (Option Share) E) → signed_share_in b ≡ share_in b
    → IfOk result (λ found. found ≡ signed_share_in b) → IfOk result (λ found. found ≡ share_in b)
first_whole b (Ok found) same is = is ∙ same
first_whole b (Err e) same is = is
