-- What the words of a line ask to be signed may be said.
use Rattle.std.proofs.Common.{◌≡◌, ◌≢◌, ◌&&◌, ◌==◌, ◌<◌, ◌++◌, ℕ, zero, suc, Bool, true, false, cond, List, [], ◌∷◌}
use Rattle.std.proofs.Common.{Option, Some, None, Ok, IsUtf8, length, drop, slice_get, unwrap_or, option_map}
use Rattle.std.proofs.Common.{option_and_then, option_to_list, nat_eq, bytes_eq, codes, All, refl, sym, subst, arith}
use Rattle.std.specs.List.{starts_with, position_or_len, before_first, after_first}
use Rattle.std.proofs.lemmas.Bool.{and_parts}
use Rattle.std.proofs.lemmas.List.Elements.{All-head, All-tail}
use Rattle.schema_fact.specs.declared.kinds.What.TheVariants.{Delete}
use Rattle.schema_write.specs.Laws.{IsChange, MayBeSaid}
use Rattle.perkeep_words.specs.Words.{begins_with_dash}
use Rattle.perkeep_words.specs.Parts.{Part, State, Step, start, position, is_equals, option_step, step, with_part}
use Rattle.perkeep_words.specs.Parts.{are_parts, parts_from}
use Rattle.perkeep_words.specs.Forms.{texts_at, position_at, has_form, first_fault}
use Rattle.perkeep_words.specs.Table.{form_of, name_of}
use Rattle.perkeep_words.specs.Reading.{LineSeen, IsRight, line_named, command_at, command_in, unless_wrong, command_of}
use Rattle.perkeep_words.specs.declared.change.Change.{Change}
use Rattle.perkeep_words.specs.declared.change.Change.TheVariants as change
use Rattle.perkeep_words.specs.declared.kinds.TextFault.{TextFault}
use Rattle.perkeep_words.specs.declared.reading.Command.{Command}
use Rattle.perkeep_words.specs.declared.table.CommandName.{CommandName}
use Rattle.perkeep_words.specs.declared.table.CommandName.TheVariants as name
use Rattle.perkeep_words.proofs.Fitting.{blobref_there, position_filled}
use Rattle.top_notes.specs.Meanings.{what_of}

-- ---- positions are words

abbrev pub AreTexts : List (List ℕ) → Type 0
AreTexts [] = Unit {0}
AreTexts (text ∷ texts) = IsUtf8 text × AreTexts texts

-- a position that a step ends is the word
abbrev OnlyWord : List ℕ → Option Part → Type 0
OnlyWord word None = Unit {0}
OnlyWord word (Some (None, text)) = text ≡ word
OnlyWord word (Some (Some name, text)) = Unit {0}

abbrev EndsWord : List ℕ → Option Step → Type 0
EndsWord word None = Unit {0}
EndsWord word (Some next) = OnlyWord word next.1

option_ends : (word text : List ℕ) → EndsWord word (option_step text)
option_ends word text = go (position_or_len is_equals text == 0) (position_or_len is_equals text == length text)
  where
    go : (none all : Bool) → EndsWord word
        (cond none None (cond all (Some ((Some text, false), None))
        (Some (start, Some (Some (before_first is_equals text), after_first is_equals text)))))
    go true all = tt
    go false true = tt
    go false false = tt

step_ends : (state : State) (word : List ℕ) → EndsWord word (step state word)
step_ends (Some name, closed) word = go (begins_with_dash word)
  where
    go : (dash : Bool) → EndsWord word (cond dash None (Some (start, Some (Some name, word))))
    go true = tt
    go false = tt
step_ends (None, true) word = refl
step_ends (None, false) word = go (bytes_eq word (codes "--")) (starts_with nat_eq word (codes "--"))
    (begins_with_dash word)
  where
    go : (ends option dash : Bool)
        → EndsWord word (cond ends (Some ((None, true), None))
        (cond option (option_step (drop 2 word)) (cond dash None (Some (start, Some (position word))))))
    go true option dash = tt
    go false true dash = option_ends word (drop 2 word)
    go false false true = tt
    go false false false = refl

texts_then : (word : List ℕ) (part : Option Part) (rest : List Part) → IsUtf8 word → OnlyWord word part
    → AreTexts (texts_at None rest) → AreTexts (texts_at None (option_to_list part ++ rest))
texts_then word None rest utf8 only more = more
texts_then word (Some (None, text)) rest utf8 only more = (subst IsUtf8 (sym only) utf8, more)
texts_then word (Some (Some name, text)) rest utf8 only more = more

texts_step : (word : List ℕ) (next : Option Step) (rest : State → List Part) → IsUtf8 word → EndsWord word next
    → ((state : State) → AreTexts (texts_at None (rest state))) → AreTexts (texts_at None (with_part next rest))
texts_step word None rest utf8 ends more = tt
texts_step word (Some next) rest utf8 ends more = texts_then word next.1 (rest next.0) utf8 ends (more next.0)

positions_are_texts : (words : List (List ℕ)) (state : State) → All IsUtf8 words
    → AreTexts (texts_at None (parts_from state words))
positions_are_texts [] state all = tt
positions_are_texts (word ∷ words) state all =
    texts_step word (step state word) (λ next. parts_from next words) (All-head IsUtf8 word words all)
    (step_ends state word)
    (λ next. positions_are_texts words next (All-tail IsUtf8 word words all))

text_there : (texts : List (List ℕ)) (place : ℕ) → AreTexts texts → IsUtf8 (unwrap_or (slice_get texts place) [])
text_there [] place are = ([], (refl, refl))
text_there (text ∷ texts) zero are = are.0
text_there (text ∷ texts) (suc place) are = text_there texts place are.1

-- ---- the line of a command

-- the words are a line in which nothing is wrong, and ask for this command
pub record IsAsked (words : List (List ℕ)) (asked : Command) : Type 0 where
  pub line : LineSeen
  pub right : IsRight line
  pub is : command_at line.0 line.1 ≡ asked
  pub texts : All IsUtf8 words → AreTexts (texts_at None line.1)

module _ (word : List ℕ) (behind : List (List ℕ)) (asked : Command) where
  by_fault : (called : CommandName) (fault : Option TextFault) → has_form (form_of called) (parts_from start behind)
      ≡ true → first_fault (form_of called) (parts_from start behind) ≡ fault
      → unless_wrong fault (command_at called (parts_from start behind)) ≡ Ok asked → IsAsked (word ∷ behind) asked
  by_fault called None fits none is = record {
    line = (called, parts_from start behind);
    right = (fits, none);
    is = cc is;
    texts = λ all. positions_are_texts behind start (All-tail IsUtf8 word behind all);
  }
  by_fault called (Some fault) fits wrong is = absurd (cc is)

  by_form : (called : CommandName) (fits : Bool)
      → (are_parts start behind && has_form (form_of called) (parts_from start behind)) ≡ fits
      → option_map command_in (cond fits (Some (called, parts_from start behind)) None) ≡ Some (Ok asked)
      → IsAsked (word ∷ behind) asked
  by_form called true fits is =
      by_fault called (first_fault (form_of called) (parts_from start behind))
      (and_parts (are_parts start behind) (has_form (form_of called) (parts_from start behind)) fits).1 refl (cc is)
  by_form called false fits is = absurd (cc is)

  by_name : (called : Option CommandName) → option_map command_in (option_and_then (line_named behind) called)
      ≡ Some (Ok asked) → IsAsked (word ∷ behind) asked
  by_name None is = absurd (cc is)
  by_name (Some called) is = by_form called
      (are_parts start behind && has_form (form_of called) (parts_from start behind)) refl is

pub asked_is : (words : List (List ℕ)) (asked : Command) → command_of words ≡ Some (Ok asked) → IsAsked words asked
asked_is [] asked is = absurd (cc is)
asked_is (word ∷ behind) asked is = by_name word behind asked (name_of word) is

-- ---- what it asks to be signed

some_long : (text : List ℕ) → text ≢ [] → 0 < length text
some_long [] some = absurd (some refl)
some_long (c ∷ text) some = omega arith

may_change : (kind : Change) (r attr value : List ℕ) → IsChange r attr value → MayBeSaid (what_of kind r attr value)
may_change change.Set r attr value is = is
may_change change.Add r attr value is = is
may_change change.Del r attr value is = is

pub may_claim : (parts : List Part) (kind : Change) → IsRight (name.Claim, parts) → AreTexts (texts_at None parts)
    → MayBeSaid (what_of kind (position_at 2 parts) (position_at 3 parts) (position_at 4 parts))
may_claim parts kind right texts = may_change kind (position_at 2 parts) (position_at 3 parts) (position_at 4 parts)
    (record {
      on_ref = blobref_there (name.Claim, parts) 2 right (refl, refl);
      named = some_long (position_at 3 parts) (position_filled (name.Claim, parts) 3 right (refl, refl));
      attr_utf8 = text_there (texts_at None parts) 3 texts;
      value_utf8 = text_there (texts_at None parts) 4 texts;
    })

pub may_delete : (parts : List Part) → IsRight (name.Delete, parts) → MayBeSaid (Delete (position_at 1 parts))
may_delete parts right = blobref_there (name.Delete, parts) 1 right (refl, refl)
