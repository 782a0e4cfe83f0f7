-- The line of search words that asks what a constraint asks (docs/formats/search_words.md).
use Rattle.std.specs.Prelude.{ℕ, List, [], ◌∷◌, ◌++◌, codes, Bool, true, false, not, ◌&&◌, Option, Some, None, is_none, option_map, if◌then◌else◌}
use Rattle.std.specs.List.{list_all}
use Rattle.std.specs.Str.{bytes_eq}
use Rattle.blobref.specs.Blobref.{is_blobref}
use Rattle.search_query.specs.declared.query.Op.{Op}
use Rattle.search_query.specs.declared.query.Op.TheVariants.{And, Or, Xor, Not}
use Rattle.search_query.specs.declared.query.Kin.TheVariants.{Parent}
use Rattle.search_query.specs.declared.query.TextTest.{TextTest}
use Rattle.search_query.specs.Mirror.{Leaves, TestLeaves, Asked, not_asked, asked, no_logical, logical, Tested, no_permanode, permanode, Related, no_relation, relation}
use Rattle.search_query.specs.Valid.{is_tested}
use Rattle.search_query.specs.View.{is_asked}
use Rattle.search_words.specs.Grammar.{is_bare, is_escaped}
pub use Rattle.words_write.specs.declared.rank.Rank.{Rank}
pub use Rattle.words_write.specs.declared.rank.Rank.TheVariants.{Or as an_or, And as an_and, Unit as a_unit, Atom as an_atom}

-- Texts

abbrev pub escaped_text : List ℕ → List ℕ
escaped_text [] = []
escaped_text (x ∷ v) = if is_escaped x then 92 ∷ x ∷ escaped_text v else x ∷ escaped_text v

abbrev pub quoted_text : List ℕ → List ℕ
quoted_text v = 34 ∷ escaped_text v ++ 34 ∷ []

abbrev pub is_bare_text : List ℕ → Bool
is_bare_text [] = false
is_bare_text (x ∷ v) = list_all is_bare (x ∷ v)

-- bare where it can be
abbrev pub text_of : List ℕ → List ℕ
text_of v = if is_bare_text v then v else quoted_text v

-- Words

abbrev pub tag_line : List ℕ → List ℕ
tag_line v = codes "tag:" ++ text_of v

abbrev pub attr_line : List ℕ → List ℕ → List ℕ
attr_line n v = codes "attr:" ++ text_of n ++ 58 ∷ text_of v

-- a name isn't empty
abbrev pub named : List ℕ → List ℕ → Option (List ℕ)
named [] line = None
named (x ∷ n) line = Some line

abbrev pub value_line : List ℕ → List ℕ → Option (List ℕ)
value_line n v = if bytes_eq n (codes "tag") then Some (tag_line v) else named n (attr_line n v)

abbrev pub title_line : List ℕ → Option (List ℕ) → Bool → Option (List ℕ)
title_line n (Some v) true = if bytes_eq n (codes "title") then Some (codes "title:" ++ text_of v) else None
title_line n o only = None

-- a text test has no key but `contains`
abbrev pub contains_only : TextTest → Bool
contains_only t =
    is_none t.equals && is_none t.has_prefix && is_none t.has_suffix && is_none t.empty && is_none t.byte_length

abbrev pub attr_word : Option (List ℕ) → Option (List ℕ) → Option TextTest → Option (List ℕ)
attr_word None v m = None
attr_word (Some n) None None = named n (codes "has:" ++ text_of n)
attr_word (Some n) (Some v) None = value_line n v
attr_word (Some n) None (Some m) = title_line n m.contains (contains_only m)
attr_word (Some n) (Some v) (Some m) = None

abbrev pub prefix_only : Leaves → Bool
prefix_only l = is_none l.anything && is_none l.camli_type && is_none l.blob_size && is_none l.file

abbrev pub child_line : Option (List ℕ) → Bool → Option (List ℕ)
child_line (Some r) true = if is_blobref r then Some (codes "childrenof:" ++ r) else None
child_line o only = None

abbrev pub child_word : Asked → Option (List ℕ)
child_word (asked no_logical leaves no_permanode) = child_line leaves.blob_ref_prefix (prefix_only leaves)
child_word c = None

abbrev pub related_word : Related → Option (List ℕ)
related_word (relation (Some Parent) a not_asked) = child_word a
related_word r = None

abbrev pub if_only : Bool → Option (List ℕ) → Option (List ℕ)
if_only true o = o
if_only false o = None

abbrev pub no_other : TestLeaves → Bool
no_other t = is_none t.at && is_none t.num_value

abbrev pub none_of : TestLeaves → Bool
none_of t = is_none t.at && is_none t.attr && is_none t.value && is_none t.value_matches && is_none t.num_value

abbrev pub tested_word : Tested → Option (List ℕ)
tested_word (permanode t not_asked no_relation) = if_only (no_other t) (attr_word t.attr t.value t.value_matches)
tested_word (permanode t not_asked (relation k a b)) = if_only (none_of t) (related_word (relation k a b))
tested_word t = None

abbrev pub ref_line : Option (List ℕ) → Option (List ℕ)
ref_line None = None
ref_line (Some v) = Some (codes "ref:" ++ text_of v)

abbrev pub no_leaf : Leaves → Bool
no_leaf l = is_none l.blob_ref_prefix && prefix_only l

-- the word of a constraint that isn't joined
abbrev pub word_of : Leaves → Tested → Option (List ℕ)
word_of l no_permanode = if_only (prefix_only l) (ref_line l.blob_ref_prefix)
word_of l (permanode t s r) = if_only (no_leaf l) (tested_word (permanode t s r))

-- Forms

-- a text, and the form that it is
pub record Made : Type 0 where
  pub rank : Rank
  pub text : List ℕ

abbrev pub made_as : Rank → List ℕ → Made
made_as rank text = record { rank = rank; text = text }

abbrev pub in_group : List ℕ → List ℕ
in_group t = 40 ∷ t ++ 41 ∷ []

abbrev pub ranked_and : Rank → List ℕ → List ℕ
ranked_and an_or t = in_group t
ranked_and an_and t = t
ranked_and a_unit t = t
ranked_and an_atom t = t

abbrev pub ranked_unit : Rank → List ℕ → List ℕ
ranked_unit an_or t = in_group t
ranked_unit an_and t = in_group t
ranked_unit a_unit t = t
ranked_unit an_atom t = t

abbrev pub ranked_atom : Rank → List ℕ → List ℕ
ranked_atom an_or t = in_group t
ranked_atom an_and t = in_group t
ranked_atom a_unit t = in_group t
ranked_atom an_atom t = t

abbrev pub or_made : Option Made → Option Made → Option Made
or_made (Some a) (Some b) = Some (made_as an_or (a.text ++ codes " or " ++ ranked_and b.rank b.text))
or_made a b = None

abbrev pub and_made : Option Made → Option Made → Option Made
and_made (Some a) (Some b) = Some (made_as an_and (ranked_and a.rank a.text ++ 32 ∷ [] ++ ranked_unit b.rank b.text))
and_made a b = None

abbrev pub not_made : Option Made → Option Made
not_made (Some a) = Some (made_as a_unit (45 ∷ ranked_atom a.rank a.text))
not_made None = None

abbrev pub only_made : Bool → Option Made → Option Made
only_made true o = o
only_made false o = None

-- what asks two constraints that are joined, or that one doesn't hold
abbrev pub joined_made : Option Op → Option Made → Option Made → Bool → Option Made
joined_made (Some Or) a b two = or_made a b
joined_made (Some And) a b two = and_made a b
joined_made (Some Not) a b two = only_made (not two) (not_made a)
joined_made (Some Xor) a b two = None
joined_made None a b two = None

-- what asks it, if words do
abbrev pub made : Asked → Option Made
made not_asked = None
made (asked no_logical l t) = option_map (made_as an_atom) (word_of l t)
made (asked (logical op a b) l t) =
    only_made (no_leaf l && not (is_tested t)) (joined_made op (made a) (made b) (is_asked b))

-- the line that asks it, if one does
abbrev pub line_of : Asked → Option (List ℕ)
line_of c = option_map (λ m. m.text) (made c)
