-- An object as it is written: each pair with a comma before it, and then a brace in place of the first comma.
use Rattle.std.specs.Prelude.{ℕ, List, [], ◌∷◌, ◌++◌, codes, length, set, nat_lt, Option, Some, None, if◌then◌else◌}
use Rattle.json.specs.Print.{quoted}
use Rattle.json_laws.specs.Written.{Item}
use Rattle.query_text.specs.Text.{Field}

-- a comma, the key and a colon
abbrev pub key_text : List ℕ → List ℕ
key_text key = codes "," ++ quoted key ++ codes ":"

-- what is written for a key, if it is present
abbrev pub field_text : List ℕ → Option Item → List ℕ
field_text key None = []
field_text key (Some item) = key_text key ++ item.text

abbrev pub fields_text : List Field → List ℕ
fields_text [] = []
fields_text (f ∷ fs) = field_text f.0 f.1 ++ fields_text fs

-- the text with a brace at a place, over the comma there
abbrev pub opened : ℕ → List ℕ → List ℕ
opened start text = if nat_lt start (length text) then set text start 123 else text ++ codes "{"
