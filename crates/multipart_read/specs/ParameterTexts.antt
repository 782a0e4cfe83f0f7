-- What parameters are, as a text: *( blanks ";" blanks name "=" value ) blanks, where a value is a token, or a text in
-- quotes.
use Rattle.std.specs.Prelude.{◌≡◌, ◌<◌, ℕ, true, if◌then◌else◌, List, [], ◌∷◌, ◌++◌, length, Option, Some, None}
use Rattle.std.specs.List.{list_all, flat_map}
use Rattle.httparse.specs.Grammar.{is_token_byte, is_ows}
use Rattle.multipart_read.specs.Parameters.{is_like, is_quoted_byte, value_of}

-- a value as it is written
pub data Spelling : Type 0 where
  bare : List ℕ → Spelling
  quoted : List ℕ → Spelling

abbrev pub value_text : Spelling → List ℕ
value_text (bare token) = token
value_text (quoted text) = 34 ∷ (text ++ 34 ∷ [])

-- the value that is meant
abbrev pub meant : Spelling → List ℕ
meant (bare token) = token
meant (quoted text) = text

abbrev pub IsTokenText : List ℕ → Type 0
IsTokenText text = (0 < length text) × (list_all is_token_byte text ≡ true)

abbrev pub IsSpelling : Spelling → Type 0
IsSpelling (bare token) = IsTokenText token
IsSpelling (quoted text) = list_all is_quoted_byte text ≡ true

-- a parameter as it is written, with the blanks before and behind its `;`
pub record Written : Type 0 where
  pub before : List ℕ
  pub after : List ℕ
  pub name : List ℕ
  pub value : Spelling

pub record IsWritten (p : Written) : Type 0 where
  pub before : list_all is_ows p.before ≡ true
  pub after : list_all is_ows p.after ≡ true
  pub name : IsTokenText p.name
  pub value : IsSpelling p.value

abbrev pub written_text : Written → List ℕ
written_text p = p.before ++ (59 ∷ (p.after ++ (p.name ++ (61 ∷ value_text p.value))))

abbrev pub AreWritten : List Written → Type 0
AreWritten [] = Unit {0}
AreWritten (p ∷ ps) = IsWritten p × AreWritten ps

-- the text is these parameters, and blanks behind them
pub record AreParameters (text : List ℕ) (ps : List Written) : Type 0 where
  pub each : AreWritten ps
  pub last : List ℕ
  pub blank : list_all is_ows last ≡ true
  pub spelled : text ≡ flat_map written_text ps ++ last

abbrev pub first_named : List ℕ → List Written → Option (List ℕ)
first_named wanted [] = None
first_named wanted (p ∷ ps) = if is_like p.name wanted then Some (meant p.value) else first_named wanted ps

-- the text is the word, in any case, and parameters, of which the first of that name has this value
pub record HasValue (word wanted text value : List ℕ) : Type 0 where
  pub front : List ℕ
  pub rest : List ℕ
  pub ps : List Written
  pub spelled : text ≡ front ++ rest
  pub likes : is_like front word ≡ true
  pub are : AreParameters rest ps
  pub first : first_named wanted ps ≡ Some value

-- what is found is what a text has
abbrev pub ValuesAreFirst : Type 0
ValuesAreFirst = (word wanted text value : List ℕ)
    → (value_of word wanted text ≡ Some value → HasValue word wanted text value)
    × (HasValue word wanted text value → value_of word wanted text ≡ Some value)
