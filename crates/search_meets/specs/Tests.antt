-- Tests of numbers and of texts, by their bytes (docs/search.md). An absent key asks nothing.
use Rattle.std.specs.Prelude.{ℕ, ◌==◌, ◌&&◌, ◌||◌, Bool, true, false, not, List, [], ◌∷◌, length, nat_eq, nat_le, Option, Some, None}
use Rattle.std.specs.List.{starts_with, ends_with}
use Rattle.std.specs.Str.{bytes_eq}
use Rattle.search_query.specs.declared.query.IntTest.{IntTest}
use Rattle.search_query.specs.declared.query.TextTest.{TextTest}

-- what stands under a key passes, if the key is present
abbrev pub if_asked : {A : Type 0} → (A → Bool) → Option A → Bool
if_asked test None = true
if_asked test (Some x) = test x

-- between `min` and `max`, both included
abbrev pub int_holds : IntTest → ℕ → Bool
int_holds test n = if_asked (λ low. nat_le low n) test.min && if_asked (λ high. nat_le n high) test.max

abbrev pub int_meets : Option IntTest → ℕ → Bool
int_meets test n = if_asked (λ t. int_holds t n) test

-- whether a text stands somewhere in another one
abbrev pub stands_in : List ℕ → List ℕ → Bool
stands_in part [] = starts_with nat_eq [] part
stands_in part (b ∷ bs) = starts_with nat_eq (b ∷ bs) part || stands_in part bs

-- whether a text is the empty one, or isn't, as is asked
abbrev pub emptiness_is : Bool → List ℕ → Bool
emptiness_is true text = length text == 0
emptiness_is false text = not (length text == 0)

-- the whole text, or what stands in it: `equals`, `contains`
abbrev pub words_hold : TextTest → List ℕ → Bool
words_hold test text = if_asked (λ t. bytes_eq t text) test.equals && if_asked (λ t. stands_in t text) test.contains

-- how it begins and ends: `hasPrefix`, `hasSuffix`
abbrev pub ends_hold : TextTest → List ℕ → Bool
ends_hold test text = if_asked (λ t. starts_with nat_eq text t) test.has_prefix && if_asked (λ t. ends_with nat_eq text t) test.has_suffix

-- how long it is, in bytes: `empty`, `byteLength`
abbrev pub length_holds : TextTest → List ℕ → Bool
length_holds test text = if_asked (λ empty. emptiness_is empty text) test.empty && int_meets test.byte_length (length text)

abbrev pub text_holds : TextTest → List ℕ → Bool
text_holds test text = words_hold test text && ends_hold test text && length_holds test text

abbrev pub text_meets : Option TextTest → List ℕ → Bool
text_meets test text = if_asked (λ t. text_holds t text) test
