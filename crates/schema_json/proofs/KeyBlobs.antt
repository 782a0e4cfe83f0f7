-- The blobs of keys.
use Rattle.std.proofs.Common.{◌≡◌, ◌≢◌, ℕ, ◌-◌, List, [], ◌∷◌, ◌++◌, length, take, drop, Bool, true, false, if◌then◌else◌, Option, None, refl, sym, ap, ◌∙◌, arith, codes, append_assoc, length-append}
use Rattle.std.proofs.Math.Seq.{take-append_seam}
use Rattle.std.proofs.lemmas.Bool.{cond-true}
use Rattle.std.proofs.lemmas.Slice.Eq.{bytes_eq-Decides}
use Rattle.std.specs.Str.{bytes_eq}
use Rattle.claim_verify.specs.KeyName.{key_name_in}
use Rattle.schema_json.specs.Facts.{key_blob, key_in, within_key}

-- what is left of a line without its last byte
pub front_of : (p s : List ℕ) (c : ℕ) → take (length (p ++ (s ++ c ∷ [])) - 1) (p ++ (s ++ c ∷ [])) ≡ p ++ s
front_of p s c =
    let shorter : length (p ++ (s ++ c ∷ [])) - 1 ≡ length (p ++ s) = omega (arith, length-append {A = ℕ}) in
    ap (λ n. take n (p ++ (s ++ c ∷ []))) shorter
    ∙ ap (take (length (p ++ s))) (sym (append_assoc p s (c ∷ [])))
    ∙ take-append_seam (p ++ s) (c ∷ [])

pub within_key-key_blob : (name : List ℕ) → within_key (key_blob name) ≡ name
within_key-key_blob name = ap (drop 20) (front_of (codes "perkeep-hmac-sha256 ") name 10)

pub key_in-key_blob : (bytes name : List ℕ) → bytes ≡ key_blob name → key_in bytes ≡ key_name_in name
key_in-key_blob bytes name e =
    let within : within_key bytes ≡ name = ap within_key e ∙ within_key-key_blob name in
    let same : bytes ≡ key_blob (within_key bytes) = e ∙ ap key_blob (sym within) in
    cond-true (bytes_eq bytes (key_blob (within_key bytes))) (key_name_in (within_key bytes)) None ((bytes_eq-Decides bytes (key_blob (within_key bytes))).1 same) ∙ ap key_name_in within

none_by : (b : Bool) (o : Option (List ℕ)) → (b ≡ true → ⊥) → (if b then o else None) ≡ None
none_by true o h = absurd (h refl)
none_by false o h = refl

pub key_in-other : (bytes : List ℕ) → ((name : List ℕ) → bytes ≢ key_blob name) → key_in bytes ≡ None
key_in-other bytes h = none_by (bytes_eq bytes (key_blob (within_key bytes))) (key_name_in (within_key bytes)) (λ t. h (within_key bytes) ((bytes_eq-Decides bytes (key_blob (within_key bytes))).0 t))
