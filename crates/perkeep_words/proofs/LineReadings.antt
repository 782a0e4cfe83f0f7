-- The words are a line exactly where it is read.
use Rattle.std.proofs.Common.{◌≡◌, ◌↔◌, ◌&&◌, ℕ, Bool, true, false, if◌then◌else◌, List, [], ◌∷◌, Option, Some, None, option_and_then, bytes_eq, refl, ap, subst, sym, ◌∙◌}
use Rattle.std.proofs.lemmas.Bool.{and_parts}
use Rattle.std.proofs.lemmas.Slice.Eq.{bytes_eq-Decides}
use Rattle.perkeep_words.specs.Parts.{Part, start, are_parts, parts_from}
use Rattle.perkeep_words.specs.Forms.{has_form}
use Rattle.perkeep_words.specs.Table.{form_of, commands, named_in, name_of}
use Rattle.perkeep_words.specs.Reading.{LineSeen, IsLineOf, line_named, line_of}
use Rattle.perkeep_words.specs.declared.table.CommandName.{CommandName}
use Rattle.perkeep_words.specs.declared.table.CommandName.TheVariants.{Put, Get, Stat, List as ListBlobs, Search, Words, Query, Salvage, SearchPack, Permanode, Claim, Multi, Delete, PutFile, GetFile, Push, Pull, Load}
use Rattle.perkeep_words.proofs.PartReadings.{parts_agree}

-- each command is named by its word
pub named : (name : CommandName) → name_of (form_of name).name ≡ Some name
named Put = refl
named Get = refl
named Stat = refl
named ListBlobs = refl
named Search = refl
named Words = refl
named Query = refl
named Salvage = refl
named SearchPack = refl
named Permanode = refl
named Claim = refl
named Multi = refl
named Delete = refl
named PutFile = refl
named GetFile = refl
named Push = refl
named Pull = refl
named Load = refl

some_name : (a b : CommandName) → Some a ≡ Some b → a ≡ b
some_name a b e = cc

-- what is read as parts
pub are_read : (words : List (List ℕ)) (parts : List Part) (b : Bool) → are_parts start words ≡ b
    → (if b then Some (parts_from start words) else None) ≡ Some parts → (are_parts start words ≡ true) × (parts_from start words ≡ parts)
are_read words parts true are e = (are, (cc))
are_read words parts false are e = absurd (cc)

line_of_words : (words : List (List ℕ)) (line : LineSeen) → IsLineOf words line → line_of words ≡ Some line
line_of_words words line h =
    let read = are_read h.behind line.1 (are_parts start h.behind) refl ((parts_agree h.behind line.1).0 h.parts) in
    rw (h.spelled, named line.0, read.0, read.1, h.form) refl

-- a word that names a command is its word
word_in : (names : List CommandName) (word : List ℕ) (found : CommandName) → named_in names word ≡ Some found
    → word ≡ (form_of found).name
word_in [] word found e = absurd (cc e)
word_in (name ∷ names) word found e =
    by (bytes_eq (form_of name).name word) refl e (λ later. word_in names word found later)
  where
    by : (b : Bool) → bytes_eq (form_of name).name word ≡ b
        → (if b then Some name else named_in names word) ≡ Some found → (named_in names word ≡ Some found → word ≡ (form_of found).name) → word ≡ (form_of found).name
    by true here same more =
        sym ((bytes_eq-Decides (form_of name).name word).0 here) ∙ ap (λ n. (form_of n).name) (some_name name found same)
    by false there same more = more same

same_line : (a b : LineSeen) → Some a ≡ Some b → a ≡ b
same_line a b e = cc

words_of_line : (words : List (List ℕ)) (line : LineSeen) → line_of words ≡ Some line → IsLineOf words line
words_of_line [] line e = absurd (cc)
words_of_line (word ∷ behind) line e = by (name_of word) refl e
  where
    at : (name : CommandName) (b : Bool) → name_of word ≡ Some name
        → (are_parts start behind && has_form (form_of name) (parts_from start behind)) ≡ b → (if b then Some (name, parts_from start behind) else None) ≡ Some line → IsLineOf (word ∷ behind) line
    at name false is form same = absurd (cc)
    at name true is form same =
        let both = and_parts (are_parts start behind) (has_form (form_of name) (parts_from start behind)) form in
        subst (λ l. IsLineOf (word ∷ behind) l) (same_line (name, parts_from start behind) line same) (record {
          behind = behind;
          spelled = ap (λ (w : List ℕ). w ∷ behind) (word_in commands word name is);
          parts = (parts_agree behind (parts_from start behind)).1 (rw both.0 refl);
          form = both.1;
        })

    by : (found : Option CommandName) → name_of word ≡ found → option_and_then (line_named behind) found ≡ Some line
        → IsLineOf (word ∷ behind) line
    by None is same = absurd (cc)
    by (Some name) is same =
        at name (are_parts start behind && has_form (form_of name) (parts_from start behind)) is refl same

pub readings_agree : (words : List (List ℕ)) (line : LineSeen) → IsLineOf words line ↔ (line_of words ≡ Some line)
readings_agree words line = (line_of_words words line, words_of_line words line)

-- a line that was read has the form of its command
some_only_if : (b : Bool) (line found : LineSeen) → (if b then Some line else None) ≡ Some found → b ≡ true
some_only_if true line found is = refl
some_only_if false line found is = absurd (cc is)

pub form_of_line : (name : CommandName) (words : List (List ℕ))
    → line_of ((form_of name).name ∷ words) ≡ Some (name, parts_from start words) → has_form (form_of name) (parts_from start words) ≡ true
form_of_line name words is =
    let parts = parts_from start words in
    let read = sym (ap (option_and_then (line_named words)) (named name)) ∙ is in
    let form : Bool = has_form (form_of name) parts in
    (and_parts (are_parts start words) form (some_only_if (are_parts start words && form) (name, parts) (name, parts) read)).1
