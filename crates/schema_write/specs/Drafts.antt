-- What a fault says of the blob that was asked.
use Rattle.std.specs.Prelude.{◌≡◌, ◌<◌, ◌+◌, ◌++◌, ℕ, ℤ, List, codes, length, map}
use Rattle.std.specs.List.{join_by}
use Rattle.json_laws.specs.Written.{Pair, pair_text}
use Rattle.schema_fact.specs.declared.kinds.What.{What}
use Rattle.schema_fact.specs.declared.parts.Part.{Part}
use Rattle.schema_write.specs.declared.draft.DraftFault.{DraftFault}
use Rattle.schema_write.specs.declared.draft.DraftFault.TheVariants.{TooLong, NoMemory}
use Rattle.schema_write.specs.Laws.{longest_schema, signature_length, IsClaimPayload}
use Rattle.schema_write.specs.Blobs.{part_item}

-- the finished blob would have this length, which is too long; want of memory tells nothing
abbrev pub IsFault : ℕ → DraftFault → Type 0
IsFault length (TooLong len) = (len ≡ length) × (longest_schema < length)
IsFault length NoMemory = Unit {0}

-- the fault is that of the blob that the claim would be once it is signed
pub record IsClaimFault (signer : List ℕ) (z : ℤ) (what : What) (fault : DraftFault) : Type 0 where
  pub payload : List ℕ
  pub asked : IsClaimPayload signer z what payload
  pub fault_is : IsFault (length payload + signature_length) fault

-- an object's text without its last brace, and pairs behind
abbrev pub with_pairs : List ℕ → List Pair → List ℕ
with_pairs payload pairs = payload ++ codes "," ++ join_by pair_text (codes ",") pairs

-- an object's text without its last brace, ended by the parts
abbrev pub ended_by_parts : List ℕ → List Part → List ℕ
ended_by_parts start parts =
    start ++ codes ",\"parts\":[" ++ join_by (λ item. item.text) (codes ",") (map part_item parts) ++ codes "]}\n"
