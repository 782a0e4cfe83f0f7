-- Reading one search word byte by byte.
use Rattle.std.specs.Prelude.{ℕ, List, [], ◌∷◌, ◌++◌, codes, map, replicate, Bool, true, false, ◌&&◌, ◌||◌, Option, Some, None, if◌then◌else◌, nat_eq}
use Rattle.blobref.specs.Blobref.{is_blobref, is_lower_digit, sha1_name, sha224_name}
use Rattle.search_query.specs.Mirror.{Asked}
use Rattle.search_words.specs.Asking.{has_attr, has_value, has_title, has_prefix, children_of}
use Rattle.search_words.specs.Grammar.{is_bare, is_escaped}
pub use Rattle.search_words.specs.declared.place.Use.{Use}
pub use Rattle.search_words.specs.declared.place.Use.TheVariants.{Tag as of_tag, Title as of_title, Name as of_name, Value as of_value, Has as of_has, Ref as of_ref}
pub use Rattle.search_words.specs.declared.place.Aim.{Aim}
pub use Rattle.search_words.specs.declared.place.Aim.TheVariants.{Text as a_text, Ref as a_ref}
pub use Rattle.search_words.specs.declared.place.Place.{Place}
pub use Rattle.search_words.specs.declared.place.Place.TheVariants.{Begins as begins, InT as in_t, Spelling as spelling, TextBegins as text_begins, InBare as in_bare, InQuoted as in_quoted, InEscape as in_escape, QuotedEnds as quoted_ends, InRef as in_ref}

-- a name must not be empty
abbrev pub may_end : Use → List ℕ → Bool
may_end of_name [] = false
may_end of_has [] = false
may_end u v = true

-- what each byte of a blobref must be, where so many digits follow the name
abbrev pub ref_bytes : List ℕ → ℕ → List (ℕ → Bool)
ref_bytes name count = map (λ c x. nat_eq x c) name ++ replicate count is_lower_digit

abbrev pub sha224_bytes : List (ℕ → Bool)
sha224_bytes = ref_bytes sha224_name 56

abbrev pub sha1_bytes : List (ℕ → Bool)
sha1_bytes = ref_bytes sha1_name 40

-- a text is a front of one that passes these tests, byte by byte
abbrev pub passes : List (ℕ → Bool) → List ℕ → Bool
passes tests [] = true
passes [] (x ∷ xs) = false
passes (test ∷ tests) (x ∷ xs) = test x && passes tests xs

-- a text is a front of a blobref, of either name
abbrev pub is_ref_front : List ℕ → Bool
is_ref_front t = passes sha224_bytes t || passes sha1_bytes t

abbrev pub first_letter : ℕ → Option Place
first_letter x =
    if nat_eq x 116 then Some in_t
    else if nat_eq x 97 then Some (spelling 116 (codes "tr:") (a_text of_name))
    else if nat_eq x 104 then Some (spelling 97 (codes "s:") (a_text of_has))
    else if nat_eq x 114 then Some (spelling 101 (codes "f:") (a_text of_ref))
    else if nat_eq x 99 then Some (spelling 104 (codes "ildrenof:") a_ref)
    else None

abbrev pub after_t : ℕ → Option Place
after_t x =
    if nat_eq x 97 then Some (spelling 103 (codes ":") (a_text of_tag))
    else if nat_eq x 105 then Some (spelling 116 (codes "le:") (a_text of_title))
    else None

abbrev pub reached : List ℕ → Aim → Place
reached [] (a_text u) = text_begins u
reached [] a_ref = in_ref []
reached (y ∷ ys) aim = spelling y ys aim

-- after a text that is whole
abbrev pub past : Use → List ℕ → ℕ → Option Place
past of_name v x = if nat_eq x 58 then Some (text_begins (of_value v)) else None
past of_tag v x = None
past of_title v x = None
past (of_value n) v x = None
past of_has v x = None
past of_ref v x = None

-- the next byte, where it goes on with the word
abbrev pub word_step : Place → ℕ → Option Place
word_step begins x = first_letter x
word_step in_t x = after_t x
word_step (spelling y ys aim) x = if nat_eq x y then Some (reached ys aim) else None
word_step (text_begins u) x =
    if nat_eq x 34 then Some (in_quoted u []) else if is_bare x then Some (in_bare u (x ∷ [])) else None
word_step (in_bare u v) x = if is_bare x then Some (in_bare u (v ++ x ∷ [])) else past u v x
word_step (in_quoted u v) x =
    if nat_eq x 34 then (if may_end u v then Some (quoted_ends u v) else None)
    else if nat_eq x 92 then Some (in_escape u v)
    else Some (in_quoted u (v ++ x ∷ []))
word_step (in_escape u v) x = if is_escaped x then Some (in_quoted u (v ++ x ∷ [])) else None
word_step (quoted_ends u v) x = past u v x
word_step (in_ref r) x = if is_ref_front (r ++ x ∷ []) then Some (in_ref (r ++ x ∷ [])) else None

-- what a text asks
abbrev pub asks : Use → List ℕ → Option Asked
asks of_tag v = Some (has_value (codes "tag") v)
asks of_title v = Some (has_title v)
asks of_name v = None
asks (of_value n) v = Some (has_value n v)
asks of_has v = Some (has_attr v)
asks of_ref v = Some (has_prefix v)

-- what the word asks, where it is whole
abbrev pub word_asks : Place → Option Asked
word_asks begins = None
word_asks in_t = None
word_asks (spelling y ys aim) = None
word_asks (text_begins u) = None
word_asks (in_bare u v) = asks u v
word_asks (in_quoted u v) = None
word_asks (in_escape u v) = None
word_asks (quoted_ends u v) = asks u v
word_asks (in_ref r) = if is_blobref r then Some (children_of r) else None

abbrev pub then_on : Option Place → (Place → Option Place) → Option Place
then_on None f = None
then_on (Some p) f = f p

-- a place, and the bytes that go on with the word
abbrev pub word_run : Place → List ℕ → Option Place
word_run p [] = Some p
word_run p (x ∷ xs) = then_on (word_step p x) (λ q. word_run q xs)
