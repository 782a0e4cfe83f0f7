-- What a body tells: names of parts, single bytes of contents, ends of parts. However the contents are cut, the tokens
-- are the same.
use Rattle.std.specs.Prelude.{ℕ, List, [], ◌∷◌, map, flat_map}
use Rattle.multipart_read.specs.declared.events.PartEvent.{PartEvent}
use Rattle.multipart_read.specs.declared.events.PartEvent.TheVariants.{Name, Content, PartEnd}

pub data Token : Type 0 where
  named : List ℕ → Token
  byte : ℕ → Token
  ended : Token

abbrev pub content : List ℕ → List Token
content bytes = map (λ x. byte x) bytes

abbrev pub tokens_in : PartEvent → List Token
tokens_in (Name name) = named name ∷ []
tokens_in (Content bytes) = content bytes
tokens_in PartEnd = ended ∷ []

abbrev pub tokens_of : List PartEvent → List Token
tokens_of events = flat_map tokens_in events
