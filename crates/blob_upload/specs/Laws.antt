-- Laws of uploads, as statements.
use Rattle.std.specs.Prelude.{◌≡◌, ◌≤◌, ℕ, List, ◌++◌, length, flat_map, All, None, Err}
use Rattle.multipart_read.specs.declared.events.PartFault.TheVariants.{TooLong}
use Rattle.multipart_read.specs.Tokens.{Token}
use Rattle.multipart_read.specs.Body.{End}
use Rattle.multipart_read.specs.Reader.{IsBody}
use Rattle.multipart_read.specs.PartLists.{Part, part_tokens, IsMultipart}
use Rattle.pack_format.specs.Header.{max_size}
use Rattle.blob_upload.specs.Faults.{part_fault}
use Rattle.blob_upload.specs.Ends.{Told, IsNotOver}

-- where the front of a body tells parts and then that, the whole body tells them first, whatever follows the front
abbrev pub ToldFirst : Type 0
ToldFirst = (boundary given : List ℕ) (parts : List Part) (after : List Token) → Told boundary given parts after
    → (more : List ℕ) (tokens : List Token) (end : End) → IsBody boundary (given ++ more) tokens end
    → (later : List Token) × (tokens ≡ (flat_map part_tokens parts ++ after) ++ later)

-- the contents of parts that are told keep the limit of a blob
abbrev pub ContentsFit : Type 0
ContentsFit = (boundary given : List ℕ) (parts : List Part) (part : Part) (later : List Token)
    → Told boundary given parts (part_tokens part ++ later) → length part.1 ≤ max_size

-- Where an upload hasn't ended, no whole part of the bytes that came has a fault, and no limit of the multipart body
-- was passed: read as if the body ended there, they have these parts, and the end tells of no limit.
abbrev pub SoundSoFar : Type 0
SoundSoFar = (boundary given : List ℕ) → IsNotOver boundary given → (parts : List Part) (end : End)
    → IsMultipart boundary given parts end
    → All (λ (part : Part). part_fault part ≡ None) parts × ((limit : ℕ) → end ≡ Err (TooLong limit) → ⊥)
