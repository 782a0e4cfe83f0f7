-- The steps of judging, part by part and change by change.
use Rattle.std.proofs.Common.{◌≡◌, ◌≤◌, ◌<◌, ◌+◌, ℕ, Bool, true, cond, List, [], ◌∷◌, length, drop, get_or, Option, None, Some, sym, ap, ◌∙◌, arith}
use Rattle.std.proofs.lemmas.Option.{same_Some}
use Rattle.std.specs.List.{cons_option}
use Rattle.std.specs.FinMap.{get}
use Rattle.claim_verify.specs.Verifier.{Accepts}
use Rattle.schema_fact.specs.declared.parts.Origin.{Origin}
use Rattle.schema_fact.specs.declared.parts.Origin.TheVariants.{Blob, Tree}
use Rattle.schema_fact.specs.declared.parts.Part.{Part}
use Rattle.schema_fact.specs.declared.kinds.Fact.{Fact}
use Rattle.schema_fact.specs.declared.kinds.Kind.{Kind}
use Rattle.schema_fact.specs.declared.kinds.Kind.TheVariants.{Plain, Key, File, Bytes, Directory, StaticSet, Permanode, Claim, Unread}
use Rattle.schema_fact.specs.Dependencies.{dependencies, kind_dependencies, origin_ref, part_refs}
use Rattle.claim_model.specs.Facts.{Facts, passes}
use Rattle.claim_model.specs.Genuine.{is_signed}
use Rattle.claim_model.specs.Trees.{tree_parts}
use Rattle.index_rows.specs.Touched.{needs_of, fact_needs, changes_in, fact_changes, kind_changes}
use Rattle.claim_index.specs.Judging.{is_signed_at}
use Rattle.claim_index.proofs.Members.{drop_first}

pub blob_part : (part : Part) (r : List ℕ) → part.origin ≡ Blob r → length (part_refs (part ∷ [])) ≡ 1
blob_part part r h = ap (λ (o : Origin). length (cons_option (origin_ref o) [])) h

pub tree_part : (part : Part) (r : List ℕ) → part.origin ≡ Tree r → length (part_refs (part ∷ [])) ≡ 1
tree_part part r h = ap (λ (o : Origin). length (cons_option (origin_ref o) [])) h

cons_length : (o : Option (List ℕ)) (rs : List (List ℕ)) → length (cons_option o rs) ≡ length (cons_option o []) + length rs
cons_length None rs = omega arith
cons_length (Some r) rs = omega arith

-- the places of the parts from one on
pub part_first : (parts : List Part) (i : ℕ) (part : Part) → i < length parts → part ≡ get_or parts i part
    → length (part_refs (drop i parts)) ≡ length (part_refs (part ∷ [])) + length (part_refs (drop (i + 1) parts))
part_first parts i part within is =
    ap (λ ps. length (part_refs ps)) (drop_first parts i part within is) ∙ cons_length (origin_ref part.origin) (part_refs (drop (i + 1) parts))

pub tree_needs : (kind : Kind) (parts : List Part) → Some parts ≡ tree_parts kind → length (kind_dependencies kind) ≡ length (part_refs parts)
tree_needs Plain parts h = absurd (let e : Some parts ≡ None = h in cc e)
tree_needs (Key name) parts h = absurd (let e : Some parts ≡ None = h in cc e)
tree_needs (File name own) parts h = ap (λ ps. length (part_refs ps)) (sym (same_Some parts own h))
tree_needs (Bytes own) parts h = ap (λ ps. length (part_refs ps)) (sym (same_Some parts own h))
tree_needs (Directory name listing) parts h = absurd (let e : Some parts ≡ None = h in cc e)
tree_needs (StaticSet members) parts h = absurd (let e : Some parts ≡ None = h in cc e)
tree_needs (Permanode signed) parts h = absurd (let e : Some parts ≡ None = h in cc e)
tree_needs (Claim signed date what) parts h = absurd (let e : Some parts ≡ None = h in cc e)
tree_needs (Unread name) parts h = absurd (let e : Some parts ≡ None = h in cc e)

-- what is found of a fact
pub needs_are : (facts : Facts) (x : List ℕ) (fact : Fact) → get facts x ≡ Some fact → length (dependencies fact) ≡ length (needs_of facts x)
needs_are facts x fact h = sym (ap (λ (o : Option Fact). length (fact_needs o)) h)

pub signed_is : (facts : Facts) (accepts : Accepts) (x : List ℕ) (fact : Fact) → get facts x ≡ Some fact → is_signed facts accepts fact ≡ is_signed_at facts accepts x
signed_is facts accepts x fact h = sym (ap (passes (is_signed facts accepts)) h)

pub changes_are : (facts : Facts) (x : List ℕ) (fact : Fact) → get facts x ≡ Some fact → length (kind_changes fact.kind) ≡ length (changes_in facts x)
changes_are facts x fact h = sym (ap (λ (o : Option Fact). length (fact_changes o)) h)

-- the changes of a genuine fact count
pub signed_changes : (facts : Facts) (accepts : Accepts) (x : List ℕ) (fact : Fact) → get facts x ≡ Some fact → (genuine : Bool) → genuine ≡ is_signed facts accepts fact → genuine ≡ true
    → length (kind_changes fact.kind) ≤ cond (is_signed_at facts accepts x) (length (changes_in facts x)) 0
signed_changes facts accepts x fact h genuine is holds =
    let same = changes_are facts x fact h in
    let on : is_signed_at facts accepts x ≡ true = sym (signed_is facts accepts x fact h) ∙ sym is ∙ holds in
    let all : cond (is_signed_at facts accepts x) (length (changes_in facts x)) 0 ≡ length (changes_in facts x) = ap (λ b. cond b (length (changes_in facts x)) 0) on in
    omega (arith, same, all)
