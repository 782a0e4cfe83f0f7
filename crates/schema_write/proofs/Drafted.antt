-- Drafts that are finished: exactly the bytes that were asked, or why not.
use Rattle.std.proofs.Common.{◌≡◌, ◌≤◌, ◌+◌, ℕ, List, [], ◌∷◌, codes, length, Result, Ok, Err, refl, sym, ap, subst, ◌∙◌, arith}
use Rattle.std.specs.Prelude.{IfOk, IfErr, MatchResult}
use Rattle.json_laws.specs.Written.{payload_text}
use Rattle.schema_fact.specs.declared.parts.Part.{Part}
use Rattle.schema_write.specs.Blobs.{text_pair, number_pair, schema_pairs, file_blob, bytes_blob}
use Rattle.schema_write.specs.Drafts.{IsFault, ended_by_parts}
use Rattle.schema_write.specs.Laws.{longest_schema}
use Rattle.schema_write.specs.declared.draft.DraftFault.{DraftFault}
use Rattle.schema_write.specs.declared.draft.DraftFault.TheVariants.{NoMemory, TooLong}
use Rattle.schema_write.proofs.PartsWritten.{ended}

-- these bytes, where a schema blob may have them and so many more
abbrev pub Fitting : Result (List ℕ) DraftFault → List ℕ → ℕ → Type 0
Fitting r text more = MatchResult r (λ octets. (octets ≡ text) × (length text + more ≤ longest_schema)) (IsFault (length text + more))

pub drafted : (r : Result (List ℕ) DraftFault) (text blob : List ℕ) (more : ℕ) (P : List ℕ → Type 0) → text ≡ blob → Fitting r text more
    → (length blob + more ≤ longest_schema → P blob) → IfOk r P
drafted (Err fault) text blob more P same is then = tt
drafted (Ok octets) text blob more P same is then =
    subst P (sym (is.0 ∙ same)) (then (subst (λ t. length t + more ≤ longest_schema) same is.1))

pub refused : (r : Result (List ℕ) DraftFault) (text blob : List ℕ) → text ≡ blob → Fitting r text 0 → IfErr r (IsFault (length blob))
refused (Ok octets) text blob same is = tt
refused (Err fault) text blob same is =
    let long : length text ≡ length blob = ap length same in
    let same_long : length text + 0 ≡ length blob = omega (arith, long) in
    subst (λ n. IsFault n fault) same_long is

-- what is short is refused for want of memory alone
pub memory_alone : (r : Result (List ℕ) DraftFault) (text blob : List ℕ) → text ≡ blob → Fitting r text 0 → length blob ≤ longest_schema
    → IfErr r (λ fault. fault ≡ NoMemory)
memory_alone (Ok octets) text blob same is short = tt
memory_alone (Err NoMemory) text blob same is short = refl
memory_alone (Err (TooLong len)) text blob same is short =
    let long : length text ≡ length blob = ap length same in
    let more = is.1 in
    absurd (omega (arith, long, more, short))

pub no_more : (n : ℕ) → n + 0 ≤ longest_schema → n ≤ longest_schema
no_more n h = omega (arith, h)

-- ---- what ends by parts

pub file_ended : (name : List ℕ) (parts given : List Part) (start text : List ℕ)
    → given ≡ parts → start ≡ payload_text (schema_pairs (codes "file") (text_pair (codes "fileName") name ∷ []))
    → text ≡ ended_by_parts start given → text ≡ file_blob name parts
unfolding file_blob
file_ended name parts given start text same begun is =
    is ∙ (λ i. ended_by_parts (begun i) (same i))
    ∙ ended (number_pair (codes "camliVersion") 1) (text_pair (codes "camliType") (codes "file") ∷ text_pair (codes "fileName") name ∷ []) parts

pub bytes_ended : (parts given : List Part) (start text : List ℕ)
    → given ≡ parts → start ≡ payload_text (schema_pairs (codes "bytes") [])
    → text ≡ ended_by_parts start given → text ≡ bytes_blob parts
unfolding bytes_blob
bytes_ended parts given start text same begun is =
    is ∙ (λ i. ended_by_parts (begun i) (same i)) ∙ ended (number_pair (codes "camliVersion") 1) (text_pair (codes "camliType") (codes "bytes") ∷ []) parts
