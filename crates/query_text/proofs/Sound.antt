-- What is written reads as JSON, as the value that it was written for.
use Rattle.std.proofs.Common.{◌≡◌, ◌+◌, ◌*◌, ◌≤◌, ◌++◌, ℕ, zero, suc, ℤ, max, Bool, List, [], ◌∷◌, codes, decimal}
use Rattle.std.proofs.Common.{Option, Some, None, IfSome, option_map, refl, sym, subst, arith}
use Rattle.std.specs.Str.{IsUtf8}
use Rattle.std.proofs.lemmas.Fmt.{IsAscii-decimal}
use Rattle.std.proofs.lemmas.Str.{IsUtf8-from_ascii}
use Rattle.std.proofs.Math.Nat.{le-max_left, le-max_right}
use Rattle.json.proofs.Printed.Utf8.{IsUtf8-are_ascii}
use Rattle.json_laws.specs.Written.{Pair, Item, read_within, ValuesReadWithin, PairsAreUtf8}
use Rattle.json_laws.proofs.Leaves.{read_quoted, read_decimal, read_truth}
use Rattle.json_laws.proofs.Object.{object_nests}
use Rattle.json_laws.proofs.Utf8.{text_utf8, truth_utf8, object_utf8}
use Rattle.schema_date.proofs.DateUtf8.{date_utf8}
use Rattle.search_query.specs.declared.query.IntTest.{IntTest}
use Rattle.search_query.specs.declared.query.TextTest.{TextTest}
use Rattle.search_query.specs.declared.query.FileTest.{FileTest}
use Rattle.search_query.specs.declared.query.Op.{Op}
use Rattle.search_query.specs.declared.query.Op.TheVariants.{And, Or, Xor, Not}
use Rattle.search_query.specs.declared.query.Kin.{Kin}
use Rattle.search_query.specs.declared.query.Kin.TheVariants.{Parent, Child}
use Rattle.search_query.specs.declared.query.Sort.{Sort}
use Rattle.search_query.specs.declared.query.Sort.TheVariants.{Ref, Mod, ModDown}
use Rattle.search_query.specs.Mirror.{Asked, not_asked, asked, Joined, no_logical, logical, Tested, no_permanode}
use Rattle.search_query.specs.Mirror.{permanode, Related, no_relation, relation}
use Rattle.search_query.specs.View.{Question}
use Rattle.search_query.specs.Valid.{nests, joined_nests, tested_nests, related_nests}
use Rattle.query_text.specs.Text.{Field, Spelling, SpellsDates, pairs_of, present, object_item, text_item, number_item}
use Rattle.query_text.specs.Text.{truth_item, date_item, op_name, kin_name, sort_name, int_test_fields, int_test_item}
use Rattle.query_text.specs.Text.{text_test_fields, text_test_item, file_test_fields, file_test_item, constraint_fields}
use Rattle.query_text.specs.Text.{logical_fields, permanode_fields, relation_fields, asked_item, joined_item}
use Rattle.query_text.specs.Text.{tested_item, related_item, question_fields, date_of}
use Rattle.query_text.specs.Laws.{IsWhole, HasText, HoldsInt, HoldsText, HoldsFile, Holds, HoldsJoined, HoldsTested}
use Rattle.query_text.specs.Laws.{HoldsRelated, HoldsQuestion}

-- a text that reads as its value where arrays and objects may nest this deep
abbrev pub IsSound : ℕ → Item → Type 0
IsSound n item = (read_within n item.text ≡ Some item.value) × IsUtf8 item.text

abbrev pub AreSound : ℕ → List Field → Type 0
AreSound n [] = Unit {0}
AreSound n (f ∷ fs) = IsUtf8 f.0 × IfSome f.1 (IsSound n) × AreSound n fs

values_step : (n : ℕ) (key : List ℕ) (o : Option Item) (ps : List Pair) → IfSome o (IsSound n) → ValuesReadWithin n ps
    → ValuesReadWithin n (pairs_of key o ++ ps)
values_step n key None ps h e = e
values_step n key (Some item) ps h e = (h.0, e)

pub values_read : (n : ℕ) (fs : List Field) → AreSound n fs → ValuesReadWithin n (present fs)
values_read n [] h = tt
values_read n (f ∷ fs) h = values_step n f.0 f.1 (present fs) h.1 (values_read n fs h.2)

utf8_step : (n : ℕ) (key : List ℕ) (o : Option Item) (ps : List Pair) → IsUtf8 key → IfSome o (IsSound n)
    → PairsAreUtf8 ps → PairsAreUtf8 (pairs_of key o ++ ps)
utf8_step n key None ps k h e = e
utf8_step n key (Some item) ps k h e = (k, h.1, e)

all_utf8 : (n : ℕ) (fs : List Field) → AreSound n fs → PairsAreUtf8 (present fs)
all_utf8 n [] h = tt
all_utf8 n (f ∷ fs) h = utf8_step n f.0 f.1 (present fs) h.0 h.1 (all_utf8 n fs h.2)

pub sound_object : (n : ℕ) (fs : List Field) → AreSound n fs → IsSound (suc n) (object_item fs)
sound_object n fs h = (object_nests n (present fs) (values_read n fs h), object_utf8 (present fs) (all_utf8 n fs h))

-- ---- single values

sound_text : (n : ℕ) (s : List ℕ) → IsUtf8 s → IsSound n (text_item s)
sound_text n s h = (read_quoted n s, text_utf8 s h)

sound_number : (n k : ℕ) → IsWhole k → IsSound n (number_item k)
sound_number n k h = (read_decimal n k h, IsUtf8-from_ascii (decimal k) (IsAscii-decimal k h))

sound_truth : (n : ℕ) (b : Bool) → IsSound n (truth_item b)
sound_truth n b = (read_truth n b, truth_utf8 b)

sound_date : (n : ℕ) (spell : Spelling) → SpellsDates spell → (z : ℤ) → HasText z → IsSound n (date_item spell z)
sound_date n spell spells z h = subst (λ t. IsSound n (text_item t)) (sym (spells z h.0 h.1))
    (sound_text n h.0 (date_utf8 z h.0 h.1))

sound_op : (n : ℕ) (op : Op) → IsSound n (text_item (op_name op))
sound_op n And = sound_text n (codes "and") (IsUtf8-are_ascii (codes "and") refl)
sound_op n Or = sound_text n (codes "or") (IsUtf8-are_ascii (codes "or") refl)
sound_op n Xor = sound_text n (codes "xor") (IsUtf8-are_ascii (codes "xor") refl)
sound_op n Not = sound_text n (codes "not") (IsUtf8-are_ascii (codes "not") refl)

sound_kin : (n : ℕ) (kin : Kin) → IsSound n (text_item (kin_name kin))
sound_kin n Parent = sound_text n (codes "parent") (IsUtf8-are_ascii (codes "parent") refl)
sound_kin n Child = sound_text n (codes "child") (IsUtf8-are_ascii (codes "child") refl)

sound_sort : (n : ℕ) (sort : Sort) → IsSound n (text_item (sort_name sort))
sound_sort n Ref = sound_text n (codes "blobref") (IsUtf8-are_ascii (codes "blobref") refl)
sound_sort n Mod = sound_text n (codes "mod") (IsUtf8-are_ascii (codes "mod") refl)
sound_sort n ModDown = sound_text n (codes "-mod") (IsUtf8-are_ascii (codes "-mod") refl)

where_present : {A : Type 0} (n : ℕ) (P : A → Type 0) (item : A → Item) → ((a : A) → P a → IsSound n (item a))
    → (x : Option A) → IfSome x P
    → IfSome (option_map item x) (IsSound n)
where_present n P item good None h = tt
where_present n P item good (Some a) h = good a h

each : {A : Type 0} (n : ℕ) (item : A → Item) → ((a : A) → IsSound n (item a)) → (x : Option A)
    → IfSome (option_map item x) (IsSound n)
each n item good None = tt
each n item good (Some a) = good a

texts : (n : ℕ) (x : Option (List ℕ)) → IfSome x IsUtf8 → IfSome (option_map text_item x) (IsSound n)
texts n = where_present n IsUtf8 text_item (sound_text n)

numbers : (n : ℕ) (x : Option ℕ) → IfSome x IsWhole → IfSome (option_map number_item x) (IsSound n)
numbers n = where_present n IsWhole number_item (sound_number n)

-- ---- objects outside the cycle

sound_int_test : (n : ℕ) (t : IntTest) → HoldsInt t → IsSound (suc n) (int_test_item t)
sound_int_test n t h = sound_object n (int_test_fields t) (
  IsUtf8-are_ascii (codes "min") refl,
  numbers n t.min h.0,
  (IsUtf8-are_ascii (codes "max") refl, numbers n t.max h.1, tt),
)

int_tests : (n : ℕ) (x : Option IntTest) → IfSome x HoldsInt → IfSome (option_map int_test_item x) (IsSound (suc n))
int_tests n = where_present (suc n) HoldsInt int_test_item (sound_int_test n)

sound_text_test : (n : ℕ) (t : TextTest) → HoldsText t → IsSound (suc (suc n)) (text_test_item t)
sound_text_test n t h = sound_object (suc n) (text_test_fields t) (
  IsUtf8-are_ascii (codes "equals") refl,
  texts (suc n) t.equals h.0,
  (
    IsUtf8-are_ascii (codes "contains") refl,
    texts (suc n) t.contains h.1,
    (
      IsUtf8-are_ascii (codes "hasPrefix") refl,
      texts (suc n) t.has_prefix h.2,
      (
        IsUtf8-are_ascii (codes "hasSuffix") refl,
        texts (suc n) t.has_suffix h.3,
        (
          IsUtf8-are_ascii (codes "empty") refl,
          each (suc n) truth_item (sound_truth (suc n)) t.empty,
          (IsUtf8-are_ascii (codes "byteLength") refl, int_tests n t.byte_length h.4, tt),
        ),
      ),
    ),
  ),
)

text_tests : (n : ℕ) (x : Option TextTest) → IfSome x HoldsText → IfSome (option_map text_test_item x)
    (IsSound (suc (suc n)))
text_tests n = where_present (suc (suc n)) HoldsText text_test_item (sound_text_test n)

sound_file_test : (n : ℕ) (t : FileTest) → HoldsFile t → IsSound (suc (suc (suc n))) (file_test_item t)
sound_file_test n t h = sound_object (suc (suc n)) (file_test_fields t) (
  IsUtf8-are_ascii (codes "fileName") refl,
  text_tests n t.file_name h.0,
  (IsUtf8-are_ascii (codes "fileSize") refl, int_tests (suc n) t.file_size h.1, tt),
)

file_tests : (n : ℕ) (x : Option FileTest) → IfSome x HoldsFile → IfSome (option_map file_test_item x)
    (IsSound (suc (suc (suc n))))
file_tests n = where_present (suc (suc (suc n))) HoldsFile file_test_item (sound_file_test n)

-- ---- constraints

at_level : (i j : ℕ) (o : Option Item) → i ≡ j → IfSome o (IsSound i) → IfSome o (IsSound j)
at_level i j o e h = subst (λ k. IfSome o (IsSound k)) e h

left_within : (a b n : ℕ) → max a b ≤ n → a ≤ n
left_within a b n h = let l = le-max_left a b in omega arith

right_within : (a b n : ℕ) → max a b ≤ n → b ≤ n
right_within a b n h = let l = le-max_right a b in omega arith

mutual
  -- a constraint that nests n deep takes three levels of JSON for each, and one more
  pub sound_asked : (n k : ℕ) (spell : Spelling) → SpellsDates spell → (a : Asked) → Holds a → nests a ≤ n
      → IfSome (asked_item spell a) (IsSound (suc (3 * n + k)))
  sound_asked n k spell spells not_asked h deep = tt
  sound_asked zero k spell spells (asked j leaves t) h deep = absurd (omega arith)
  sound_asked (suc n) k spell spells (asked j leaves t) h deep =
      let m = suc (suc (suc (3 * n + k))) in
      let within : max (joined_nests j) (tested_nests t) ≤ n = omega arith in
      at_level (suc m) (suc (3 * suc n + k)) (asked_item spell (asked j leaves t)) (omega arith)
      (sound_object m (constraint_fields (joined_item spell j) leaves (tested_item spell t)) (
        IsUtf8-are_ascii (codes "logical") refl,
        sound_joined n k spell spells j h.0 (left_within _ _ n within),
        (
          IsUtf8-are_ascii (codes "anything") refl,
          each m truth_item (sound_truth m) leaves.anything,
          (
            IsUtf8-are_ascii (codes "camliType") refl,
            texts m leaves.camli_type h.1.0,
            (
              IsUtf8-are_ascii (codes "blobRefPrefix") refl,
              texts m leaves.blob_ref_prefix h.1.1,
              (
                IsUtf8-are_ascii (codes "blobSize") refl,
                int_tests (suc (suc (3 * n + k))) leaves.blob_size h.1.2,
                (
                  IsUtf8-are_ascii (codes "file") refl,
                  file_tests (3 * n + k) leaves.file h.1.3,
                  (
                    IsUtf8-are_ascii (codes "permanode") refl,
                    sound_tested n k spell spells t h.2
                        (right_within _ _ n within),
                    tt,
                  ),
                ),
              ),
            ),
          ),
        ),
      ))

  sound_joined : (n k : ℕ) (spell : Spelling) → SpellsDates spell → (j : Joined) → HoldsJoined j → joined_nests j ≤ n
      → IfSome (joined_item spell j) (IsSound (suc (suc (suc (3 * n + k)))))
  sound_joined n k spell spells no_logical h deep = tt
  sound_joined n k spell spells (logical op a b) h deep =
      let m = suc (suc (3 * n + k)) in
      sound_object m (logical_fields op (asked_item spell a) (asked_item spell b)) (
        IsUtf8-are_ascii (codes "op") refl,
        each m (λ o. text_item (op_name o)) (sound_op m) op,
        (
          IsUtf8-are_ascii (codes "a") refl,
          at_level _ m (asked_item spell a) (omega arith) (sound_asked n (suc k) spell spells a h.0
              (left_within _ _ n deep)),
          (
            IsUtf8-are_ascii (codes "b") refl,
            at_level _ m (asked_item spell b) (omega arith)
                (sound_asked n (suc k) spell spells b h.1 (right_within _ _ n deep)),
            tt,
          ),
        ),
      )

  sound_tested : (n k : ℕ) (spell : Spelling) → SpellsDates spell → (t : Tested) → HoldsTested t → tested_nests t ≤ n
      → IfSome (tested_item spell t) (IsSound (suc (suc (suc (3 * n + k)))))
  sound_tested n k spell spells no_permanode h deep = tt
  sound_tested n k spell spells (permanode leaves in_set related) h deep =
      let m = suc (suc (3 * n + k)) in
      sound_object m (permanode_fields spell leaves (asked_item spell in_set) (related_item spell related)) (
        IsUtf8-are_ascii (codes "at") refl,
        where_present m HasText (date_item spell) (sound_date m spell spells) leaves.at h.0.0,
        (
          IsUtf8-are_ascii (codes "attr") refl,
          texts m leaves.attr h.0.1,
          (
            IsUtf8-are_ascii (codes "value") refl,
            texts m leaves.value h.0.2,
            (
              IsUtf8-are_ascii (codes "valueMatches") refl,
              text_tests (3 * n + k) leaves.value_matches h.0.3,
              (
                IsUtf8-are_ascii (codes "valueInSet") refl,
                at_level _ m (asked_item spell in_set) (omega arith) (sound_asked n (suc k) spell spells in_set h.1
                    (left_within _ _ n deep)),
                (
                  IsUtf8-are_ascii (codes "numValue") refl,
                  int_tests (suc (3 * n + k)) leaves.num_value h.0.4,
                  (
                    IsUtf8-are_ascii (codes "relation") refl,
                    sound_related n k spell spells related h.2
                        (right_within _ _ n deep),
                    tt,
                  ),
                ),
              ),
            ),
          ),
        ),
      )

  sound_related : (n k : ℕ) (spell : Spelling) → SpellsDates spell → (r : Related) → HoldsRelated r
      → related_nests r ≤ n
      → IfSome (related_item spell r) (IsSound (suc (suc (3 * n + k))))
  sound_related n k spell spells no_relation h deep = tt
  sound_related n k spell spells (relation kin any all) h deep =
      let m = suc (3 * n + k) in
      sound_object m (relation_fields kin (asked_item spell any) (asked_item spell all)) (
        IsUtf8-are_ascii (codes "relation") refl,
        each m (λ o. text_item (kin_name o)) (sound_kin m) kin,
        (
          IsUtf8-are_ascii (codes "any") refl,
          sound_asked n k spell spells any h.0 (left_within _ _ n deep),
          (IsUtf8-are_ascii (codes "all") refl, sound_asked n k spell spells all h.1 (right_within _ _ n deep), tt),
        ),
      )

less_than_whole : (n : ℕ) → n ≤ 1000000 → IsWhole n
less_than_whole n h = omega arith

-- the text of a query
pub sound_question : (n k : ℕ) (spell : Spelling) → SpellsDates spell → (q : Question) → HoldsQuestion q
    → q.limit ≤ 1000000 → nests q.constraint ≤ n
    → AreSound (suc (3 * n + k)) (question_fields spell q)
sound_question n k spell spells q h most deep =
    let m = suc (3 * n + k) in (
      IsUtf8-are_ascii (codes "constraint") refl,
      sound_asked n k spell spells q.constraint h.0 deep,
      (
        IsUtf8-are_ascii (codes "limit") refl,
        sound_number m q.limit (less_than_whole q.limit most),
        (
          IsUtf8-are_ascii (codes "sort") refl,
          sound_sort m q.sort,
          (
            IsUtf8-are_ascii (codes "at") refl,
            where_present m HasText (date_item spell) (sound_date m spell spells)
                (date_of q.at) h.1,
            tt,
          ),
        ),
      ),
    )
