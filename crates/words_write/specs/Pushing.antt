-- What each function of the writer writes.
use Rattle.std.specs.Prelude.{◌≡◌, ℕ, List, ◌∷◌, ◌++◌, codes, Bool, true, false, Option, Some, None, option_map, if◌then◌else◌}
use Rattle.std.specs.Char.{encode_utf8}
use Rattle.search_query.specs.declared.query.Op.{Op}
use Rattle.search_query.specs.declared.query.Op.TheVariants.{And, Or, Not}
use Rattle.search_query.specs.Mirror.{Joined, no_logical, logical}
use Rattle.search_query.specs.View.{is_asked}
use Rattle.search_words.specs.Grammar.{is_escaped}
use Rattle.words_write.specs.declared.word.Word.{Word}
use Rattle.words_write.specs.declared.word.Word.TheVariants as a_word
use Rattle.words_write.specs.Writing.{text_of, tag_line, attr_line, Rank, an_or, an_and, a_unit, an_atom, Made, ranked_and, ranked_unit, ranked_atom, joined_made, made}

-- the bytes of a character between quotes
abbrev pub escaped_char : ℕ → List ℕ
escaped_char c = if is_escaped c then 92 ∷ encode_utf8 c else encode_utf8 c

abbrev pub word_line : Word → List ℕ
word_line (a_word.Tag v) = tag_line v.now
word_line (a_word.Title v) = codes "title:" ++ text_of v.now
word_line (a_word.Attr n v) = attr_line n.now v.now
word_line (a_word.Has n) = codes "has:" ++ text_of n.now
word_line (a_word.Ref v) = codes "ref:" ++ text_of v.now
word_line (a_word.ChildrenOf r) = codes "childrenof:" ++ r.now

-- the text where so tight a form is wanted
abbrev pub grouped : Rank → Made → List ℕ
grouped an_or m = m.text
grouped an_and m = ranked_and m.rank m.text
grouped a_unit m = ranked_unit m.rank m.text
grouped an_atom m = ranked_atom m.rank m.text

abbrev pub text_at : Rank → Option Made → Option (List ℕ)
text_at least o = option_map (grouped least) o

abbrev pub pair_text : Option (List ℕ) → List ℕ → Option (List ℕ) → Option (List ℕ)
pair_text (Some s) between (Some t) = Some (s ++ between ++ t)
pair_text o between p = None

abbrev pub joined_of : Joined → Option Made
joined_of no_logical = None
joined_of (logical op a b) = joined_made op (made a) (made b) (is_asked b)

-- whether what is joined so stands in parentheses where so tight a form is wanted
abbrev pub needs_group : Option Op → Rank → Bool
needs_group o an_or = false
needs_group (Some Or) least = true
needs_group (Some And) a_unit = true
needs_group (Some And) an_atom = true
needs_group (Some Not) an_atom = true
needs_group o least = false

-- the text was written, and there is one; or there is none
abbrev pub Pushes : Option (List ℕ) → List ℕ → List ℕ → Bool → Type 0
Pushes (Some t) old new true = new ≡ old ++ t
Pushes (Some t) old new false = ⊥
Pushes None old new true = ⊥
Pushes None old new false = Unit {0}
