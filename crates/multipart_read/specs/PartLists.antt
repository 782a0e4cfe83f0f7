-- The parts of a body, as names with contents.
use Rattle.std.specs.Prelude.{◌≡◌, ℕ, List, [], ◌∷◌, ◌++◌, flat_map, Ok}
use Rattle.multipart_read.specs.Tokens.{Token, named, ended, content}
use Rattle.multipart_read.specs.Body.{End}
use Rattle.multipart_read.specs.Reader.{Reader, fresh, Tells, IsBody}

-- a part: its name and its content
abbrev pub Part : Type 0
Part = List ℕ × List ℕ

abbrev pub part_tokens : Part → List Token
part_tokens part = named part.0 ∷ (content part.1 ++ ended ∷ [])

-- what is told behind the last whole part: nothing, or the name of one more and the front of its content
pub data Cut : Type 0 where
  between : Cut
  inside : List ℕ → List ℕ → Cut

abbrev pub cut_tokens : Cut → List Token
cut_tokens between = []
cut_tokens (inside name front) = named name ∷ content front

-- these tokens tell these parts in their order, and then that
abbrev pub AreParts : List Token → List Part → Cut → Type 0
AreParts tokens parts cut = tokens ≡ flat_map part_tokens parts ++ cut_tokens cut

-- THE PARTS OF A BODY: with this boundary it has these parts up to its end, which is its close or its first fault
abbrev pub IsMultipart : List ℕ → List ℕ → List Part → End → Type 0
IsMultipart boundary body parts end =
    (told : List Token) × (cut : Cut) × IsBody boundary body told end × AreParts told parts cut

-- what a body tells is parts in their order; where its close has come none was cut
abbrev pub BodiesHaveParts : Type 0
BodiesHaveParts = (boundary body : List ℕ) (told : List Token) (end : End) → IsBody boundary body told end
    → (parts : List Part) × (cut : Cut) × AreParts told parts cut × (end ≡ Ok tt → cut ≡ between)

-- a body has one list of parts, and one end
abbrev pub OneListOfParts : Type 0
OneListOfParts = (boundary body : List ℕ) (parts others : List Part) (end last : End)
    → IsMultipart boundary body parts end → IsMultipart boundary body others last → (parts ≡ others) × (end ≡ last)

-- at any time what a reader has told is parts in their order, and the front of at most one more
abbrev pub ToldInOrder : Type 0
ToldInOrder = (boundary front : List ℕ) (told : List Token) (now : Reader) → Tells (fresh boundary) front told now
    → (parts : List Part) × (cut : Cut) × AreParts told parts cut
