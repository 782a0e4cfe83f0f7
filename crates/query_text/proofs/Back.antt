-- What is written of a valid query has no fault, and is read as that query.
use Rattle.std.proofs.Common.{◌≡◌, ◌∙◌, ◌&&◌, ◌||◌, ◌≤◌, ℕ, zero, suc, ℤ, max, Bool, true, false, not, List, [], codes}
use Rattle.std.proofs.Common.{Option, Some, None, IfSome, is_some, is_none, option_map, unwrap_or, if◌then◌else◌, refl}
use Rattle.std.proofs.Common.{ap, arith}
use Rattle.std.proofs.lemmas.Bool.{false≢true, and_parts, le-leb}
use Rattle.std.proofs.Math.Nat.{le-max_left, le-max_right}
use Rattle.serde_json.specs.Data.{Data}
use Rattle.serde_json.specs.Find.{get, as_bool, as_str}
use Rattle.schema_date.specs.Dates.{date_in}
use Rattle.schema_date.specs.declared.date.When.{When}
use Rattle.schema_date.specs.declared.date.When.TheVariants.{Always, At}
use Rattle.json_laws.specs.Written.{Item}
use Rattle.json_laws.specs.Json.{whole_in}
use Rattle.search_query.specs.declared.query.IntTest.{IntTest}
use Rattle.search_query.specs.declared.query.TextTest.{TextTest}
use Rattle.search_query.specs.declared.query.FileTest.{FileTest}
use Rattle.search_query.specs.declared.query.Op.{Op}
use Rattle.search_query.specs.declared.query.Op.TheVariants.{And, Or, Xor, Not}
use Rattle.search_query.specs.declared.query.Kin.{Kin}
use Rattle.search_query.specs.declared.query.Kin.TheVariants.{Parent, Child}
use Rattle.search_query.specs.declared.query.Sort.{Sort}
use Rattle.search_query.specs.declared.query.Sort.TheVariants.{Ref, Mod, ModDown}
use Rattle.search_query.specs.Mirror.{Leaves, TestLeaves, Asked, not_asked, asked, Joined, no_logical, logical, Tested}
use Rattle.search_query.specs.Mirror.{no_permanode, permanode, Related, no_relation, relation}
use Rattle.search_query.specs.View.{is_asked, Question}
use Rattle.search_query.specs.Valid.{if_present, valid_int_test, valid_text_test, valid_file_test, valid_leaves}
use Rattle.search_query.specs.Valid.{is_joined, is_tested, has_part, operands_fit, names_attribute, values_fit}
use Rattle.search_query.specs.Valid.{valid_test_leaves, one_of, valid_asked, valid_joined, valid_tested, valid_related}
use Rattle.search_query.specs.Valid.{nests, joined_nests, tested_nests, related_nests}
use Rattle.query_read.specs.Faults.{has_key}
use Rattle.query_read.specs.Grammar.{leaf, int_test_keys, int_test_fault, text_test_keys, text_test_fault}
use Rattle.query_read.specs.Grammar.{file_test_keys, file_test_fault, is_op_not, logical_whole, logical_keys}
use Rattle.query_read.specs.Grammar.{logical_fault, relation_whole, relation_keys, relation_fault, permanode_whole}
use Rattle.query_read.specs.Grammar.{permanode_keys, permanode_fault, parts_keys, constraint_fault, limit_fault}
use Rattle.query_read.specs.Grammar.{query_keys, query_fault}
use Rattle.query_read.specs.Values.{true_in, name_in, date_of, op_in, kin_in, sort_in, limit_in, int_test_of}
use Rattle.query_read.specs.Values.{text_test_of, file_test_of, asked_in, joined_in, related_in, tested_in}
use Rattle.query_read.specs.Values.{constraint_of, question_of, when_of}
use Rattle.query_text.specs.Text.{Spelling, SpellsDates, text_item, number_item, truth_item, date_item, op_name}
use Rattle.query_text.specs.Text.{kin_name, sort_name, int_test_fields, int_test_item, text_test_fields, text_test_item}
use Rattle.query_text.specs.Text.{file_test_fields, file_test_item, constraint_fields, logical_fields, permanode_fields}
use Rattle.query_text.specs.Text.{relation_fields, object_item, asked_item, joined_item, tested_item, related_item}
use Rattle.query_text.specs.Text.{question_fields, question_item, date_of as when_date}
use Rattle.query_text.specs.Laws.{HasText, Holds, HoldsJoined, HoldsTested, HoldsRelated, HoldsTest, HoldsQuestion}
use Rattle.query_text.proofs.Looking.{looked_up, value_of, object_sound, NoFault, no_fault, IsRead, leaf_sound}
use Rattle.query_text.proofs.Looking.{leaf_back, is_there, all_some, IsBack, object_field, object_back}

-- ---- single values

whole_read : (x : Option ℕ) → IfSome x (IsRead whole_in number_item)
whole_read x = all_some (IsRead whole_in number_item) (λ n. refl) x

text_read : (x : Option (List ℕ)) → IfSome x (IsRead as_str text_item)
text_read x = all_some (IsRead as_str text_item) (λ s. refl) x

truth_read : (x : Option Bool) → IfSome x (IsRead as_bool truth_item)
truth_read x = all_some (IsRead as_bool truth_item) (λ b. refl) x

true_read : (x : Option Bool) → if_present (λ b. b) x ≡ true → IfSome x (IsRead true_in truth_item)
true_read None h = tt
true_read (Some true) h = refl
true_read (Some false) h = absurd (false≢true h)

name_read : (x : Option (List ℕ)) → names_attribute x ≡ true → IfSome x (IsRead name_in text_item)
name_read None h = tt
name_read (Some name) h = ap (λ b. if b then Some name else None) h

date_read : (spell : Spelling) → SpellsDates spell → (x : Option ℤ) → IfSome x HasText
    → IfSome x (IsRead date_of (date_item spell))
date_read spell spells None h = tt
date_read spell spells (Some z) h = ap date_in (spells z h.0 h.1) ∙ h.2

op_read : (x : Option Op) → IfSome x (IsRead op_in (λ o. text_item (op_name o)))
op_read None = tt
op_read (Some And) = refl
op_read (Some Or) = refl
op_read (Some Xor) = refl
op_read (Some Not) = refl

kin_read : (x : Option Kin) → IfSome x (IsRead kin_in (λ k. text_item (kin_name k)))
kin_read None = tt
kin_read (Some Parent) = refl
kin_read (Some Child) = refl

sort_read : (s : Sort) → sort_in (text_item (sort_name s)).value ≡ Some s
sort_read Ref = refl
sort_read Mod = refl
sort_read ModDown = refl

limit_read : (n : ℕ) → 1 ≤ n → n ≤ 1000000 → limit_in (number_item n).value ≡ Some n
limit_read n least most = λ i. if le-leb 1 n least i && le-leb n 1000000 most i then Some n else None

back_where : {A : Type 0} (valid : A → Bool) (P : A → Type 0) → ((a : A) → valid a ≡ true → P a) → (x : Option A)
    → if_present valid x ≡ true → IfSome x P
back_where valid P good None h = tt
back_where valid P good (Some a) h = good a h

-- ---- objects outside the cycle

int_back : (t : IntTest) → valid_int_test t ≡ true → IsBack int_test_fault int_test_of int_test_item t
int_back t valid =
    let fs = int_test_fields t in
    let d = (int_test_item t).value in
    let min : get (codes "min") d ≡ value_of (option_map number_item t.min) = looked_up (codes "min") fs refl in
    let max : get (codes "max") d ≡ value_of (option_map number_item t.max) = looked_up (codes "max") fs refl in (
      (λ path. object_sound int_test_keys (has_key int_test_keys) path fs refl (
        no_fault _ (codes "max") path d _ max (leaf_sound whole_in number_item t.max (whole_read t.max)),
        (no_fault _ (codes "min") path d _ min (leaf_sound whole_in number_item t.min (whole_read t.min)), tt),
      )
          ((λ i. is_there number_item (codes "max") d t.max max i ||
          (is_there number_item (codes "min") d t.min min i || false)) ∙ valid)),
      (λ i. record {
        min = leaf_back whole_in number_item (codes "min") d t.min min (whole_read t.min) i;
        max = leaf_back whole_in number_item (codes "max") d t.max max (whole_read t.max) i;
      }),
    )

ints_back : (x : Option IntTest) → if_present valid_int_test x ≡ true
    → IfSome x (IsBack int_test_fault int_test_of int_test_item)
ints_back = back_where valid_int_test (IsBack int_test_fault int_test_of int_test_item) int_back

text_back : (t : TextTest) → valid_text_test t ≡ true → IsBack text_test_fault text_test_of text_test_item t
text_back t valid =
    let fs = text_test_fields t in
    let d = (text_test_item t).value in
    let parts = and_parts _ _ valid in
    let lengths = ints_back t.byte_length parts.1 in
    let equals : get (codes "equals") d ≡ value_of (option_map text_item t.equals) = looked_up (codes "equals") fs refl
    in
    let contains : get (codes "contains") d ≡ value_of (option_map text_item t.contains) =
    looked_up (codes "contains") fs refl in
    let prefix : get (codes "hasPrefix") d ≡ value_of (option_map text_item t.has_prefix) =
    looked_up (codes "hasPrefix") fs refl in
    let suffix : get (codes "hasSuffix") d ≡ value_of (option_map text_item t.has_suffix) =
    looked_up (codes "hasSuffix") fs refl in
    let empty : get (codes "empty") d ≡ value_of (option_map truth_item t.empty) = looked_up (codes "empty") fs refl in
    let len : get (codes "byteLength") d ≡ value_of (option_map int_test_item t.byte_length) =
    looked_up (codes "byteLength") fs refl in (
      (λ path. object_sound text_test_keys (has_key text_test_keys) path fs refl (
        no_fault _ (codes "byteLength") path d _ len (object_field int_test_fault int_test_of int_test_item
            t.byte_length lengths),
        (
          no_fault _ (codes "contains") path d _ contains (leaf_sound as_str text_item t.contains
              (text_read t.contains)),
          (
            no_fault _ (codes "empty") path d _ empty (leaf_sound as_bool truth_item t.empty (truth_read t.empty)),
            (
              no_fault _ (codes "equals") path d _ equals (leaf_sound as_str text_item t.equals (text_read t.equals)),
              (
                no_fault _ (codes "hasPrefix") path d _ prefix (leaf_sound as_str text_item t.has_prefix
                    (text_read t.has_prefix)),
                (
                  no_fault _ (codes "hasSuffix") path d _ suffix (leaf_sound as_str text_item t.has_suffix
                      (text_read t.has_suffix)),
                  tt,
                ),
              ),
            ),
          ),
        ),
      )
          ((λ i. is_there int_test_item (codes "byteLength") d t.byte_length len i
          || (is_there text_item (codes "contains") d t.contains contains i
          || (is_there truth_item (codes "empty") d t.empty empty i
          || (is_there text_item (codes "equals") d t.equals equals i
          || (is_there text_item (codes "hasPrefix") d t.has_prefix prefix i
          || (is_there text_item (codes "hasSuffix") d t.has_suffix suffix i || false)))))) ∙ parts.0)),
      (λ i. record {
        equals = leaf_back as_str text_item (codes "equals") d t.equals equals (text_read t.equals) i;
        contains = leaf_back as_str text_item (codes "contains") d t.contains contains (text_read t.contains) i;
        has_prefix = leaf_back as_str text_item (codes "hasPrefix") d t.has_prefix prefix (text_read t.has_prefix) i;
        has_suffix = leaf_back as_str text_item (codes "hasSuffix") d t.has_suffix suffix (text_read t.has_suffix) i;
        empty = leaf_back as_bool truth_item (codes "empty") d t.empty empty (truth_read t.empty) i;
        byte_length = object_back int_test_fault int_test_of int_test_item (codes "byteLength") d t.byte_length len
            lengths i;
      }),
    )

texts_back : (x : Option TextTest) → if_present valid_text_test x ≡ true
    → IfSome x (IsBack text_test_fault text_test_of text_test_item)
texts_back = back_where valid_text_test (IsBack text_test_fault text_test_of text_test_item) text_back

file_back : (t : FileTest) → valid_file_test t ≡ true → IsBack file_test_fault file_test_of file_test_item t
file_back t valid =
    let fs = file_test_fields t in
    let d = (file_test_item t).value in
    let parts = and_parts _ _ valid in
    let names = texts_back t.file_name parts.0 in
    let sizes = ints_back t.file_size parts.1 in
    let name : get (codes "fileName") d ≡ value_of (option_map text_test_item t.file_name) =
    looked_up (codes "fileName") fs refl in
    let size : get (codes "fileSize") d ≡ value_of (option_map int_test_item t.file_size) =
    looked_up (codes "fileSize") fs refl in (
      (λ path. object_sound file_test_keys (λ _. true) path fs refl (
        no_fault _ (codes "fileName") path d _ name (object_field text_test_fault text_test_of text_test_item
            t.file_name names),
        (
          no_fault _ (codes "fileSize") path d _ size (object_field int_test_fault int_test_of int_test_item t.file_size
              sizes),
          tt,
        ),
      )
          refl),
      (λ i. record {
        file_name = object_back text_test_fault text_test_of text_test_item (codes "fileName") d t.file_name name names
            i;
        file_size = object_back int_test_fault int_test_of int_test_item (codes "fileSize") d t.file_size size sizes i;
      }),
    )

files_back : (x : Option FileTest) → if_present valid_file_test x ≡ true
    → IfSome x (IsBack file_test_fault file_test_of file_test_item)
files_back = back_where valid_file_test (IsBack file_test_fault file_test_of file_test_item) file_back

-- ---- constraints within

-- what is written for a constraint that may nest so many deep has no fault, and is read as that constraint
abbrev AskedBack : ℕ → Asked → Option Item → Type 0
AskedBack n a o = IfSome o (NoFault (constraint_fault n)) × (asked_in (constraint_of n) (value_of o) ≡ a)

abbrev JoinedBack : ℕ → Joined → Option Item → Type 0
JoinedBack n j o = IfSome o (NoFault (logical_fault (constraint_fault n))) × (joined_in (constraint_of n) (value_of o)
    ≡ j)

abbrev TestedBack : ℕ → Tested → Option Item → Type 0
TestedBack n t o = IfSome o (NoFault (permanode_fault (constraint_fault n))) × (tested_in (constraint_of n) (value_of o)
    ≡ t)

abbrev RelatedBack : ℕ → Related → Option Item → Type 0
RelatedBack n k o = IfSome o (NoFault (relation_fault (constraint_fault n)))
    × (related_in (constraint_of n) (value_of o) ≡ k)

asked_there : (spell : Spelling) (a : Asked) → is_some (asked_item spell a) ≡ is_asked a
asked_there spell not_asked = refl
asked_there spell (asked j l t) = refl

joined_there : (spell : Spelling) (j : Joined) → is_some (joined_item spell j) ≡ is_joined j
joined_there spell no_logical = refl
joined_there spell (logical op a b) = refl

tested_there : (spell : Spelling) (t : Tested) → is_some (tested_item spell t) ≡ is_tested t
tested_there spell no_permanode = refl
tested_there spell (permanode l s r) = refl

there_of : (key : List ℕ) (d : Data) (o : Option Item) (b : Bool) → get key d ≡ value_of o → is_some o ≡ b
    → is_some (get key d) ≡ b
there_of key d None b e h = ap is_some e ∙ h
there_of key d (Some i) b e h = ap is_some e ∙ h

operands : (op : Option Op) (po pa : Bool) (gb : Option Data) (a b : Bool) → po ≡ is_some op → pa ≡ a → is_some gb ≡ b
    → operands_fit op a b ≡ true
    → (po && pa && (if is_op_not op then is_none gb else is_some gb)) ≡ true
operands None po pa gb a b eo ea eb h = absurd (false≢true h)
operands (Some And) po pa gb a b eo ea eb h = (λ i. eo i && ea i && eb i) ∙ h
operands (Some Or) po pa gb a b eo ea eb h = (λ i. eo i && ea i && eb i) ∙ h
operands (Some Xor) po pa gb a b eo ea eb h = (λ i. eo i && ea i && eb i) ∙ h
operands (Some Not) po pa None a b eo ea eb h = (λ i. eo i && ea i && true) ∙ ap (λ x. a && not x) eb ∙ h
operands (Some Not) po pa (Some d) a b eo ea eb h = (λ i. eo i && ea i && false) ∙ ap (λ x. a && not x) eb ∙ h

joined_back : (n : ℕ) (op : Option Op) (a b : Asked) (ia ib : Option Item) → operands_fit op (is_asked a) (is_asked b)
    ≡ true
    → is_some ia ≡ is_asked a → is_some ib ≡ is_asked b → AskedBack n a ia → AskedBack n b ib
    → JoinedBack n (logical op a b) (Some (object_item (logical_fields op ia ib)))
joined_back n op a b ia ib fit a_there b_there a_back b_back =
    let fs = logical_fields op ia ib in
    let d = (object_item fs).value in
    let at_op : get (codes "op") d ≡ value_of (option_map (λ o. text_item (op_name o)) op) =
    looked_up (codes "op") fs refl in
    let at_a : get (codes "a") d ≡ value_of ia = looked_up (codes "a") fs refl in
    let at_b : get (codes "b") d ≡ value_of ib = looked_up (codes "b") fs refl in
    let op_back = leaf_back op_in (λ o. text_item (op_name o)) (codes "op") d op at_op (op_read op) in (
      (λ path. object_sound (logical_keys (constraint_fault n)) logical_whole path fs refl (
        no_fault _ (codes "a") path d ia at_a a_back.0,
        (
          no_fault _ (codes "b") path d ib at_b b_back.0,
          (no_fault _ (codes "op") path d _ at_op (leaf_sound op_in (λ o. text_item (op_name o)) op (op_read op)), tt),
        ),
      )
          ((λ i. is_some (get (codes "op") d) && is_some (get (codes "a") d)
          && (if is_op_not (op_back i) then is_none (get (codes "b") d) else is_some (get (codes "b") d)))
          ∙ operands op _ _ (get (codes "b") d) (is_asked a) (is_asked b)
          (is_there (λ o. text_item (op_name o)) (codes "op") d op at_op)
          (there_of (codes "a") d ia (is_asked a) at_a a_there) (there_of (codes "b") d ib (is_asked b) at_b b_there)
          fit)),
      (λ i. logical (op_back i) ((ap (asked_in (constraint_of n)) at_a ∙ a_back.1) i)
          ((ap (asked_in (constraint_of n)) at_b ∙ b_back.1) i)),
    )

related_back : (n : ℕ) (kin : Option Kin) (a b : Asked) (ia ib : Option Item)
    → (is_some kin && one_of (is_asked a) (is_asked b)) ≡ true
    → is_some ia ≡ is_asked a → is_some ib ≡ is_asked b → AskedBack n a ia → AskedBack n b ib
    → RelatedBack n (relation kin a b) (Some (object_item (relation_fields kin ia ib)))
related_back n kin a b ia ib fit a_there b_there a_back b_back =
    let fs = relation_fields kin ia ib in
    let d = (object_item fs).value in
    let at_kin : get (codes "relation") d ≡ value_of (option_map (λ k. text_item (kin_name k)) kin) =
    looked_up (codes "relation") fs refl in
    let at_a : get (codes "any") d ≡ value_of ia = looked_up (codes "any") fs refl in
    let at_b : get (codes "all") d ≡ value_of ib = looked_up (codes "all") fs refl in (
      (λ path. object_sound (relation_keys (constraint_fault n)) relation_whole path fs refl (
        no_fault _ (codes "all") path d ib at_b b_back.0,
        (
          no_fault _ (codes "any") path d ia at_a a_back.0,
          (
            no_fault _ (codes "relation") path d _ at_kin (leaf_sound kin_in (λ k. text_item (kin_name k)) kin
                (kin_read kin)),
            tt,
          ),
        ),
      )
          ((λ i. is_there (λ k. text_item (kin_name k)) (codes "relation") d kin at_kin i
          && one_of (there_of (codes "any") d ia (is_asked a) at_a a_there i)
          (there_of (codes "all") d ib (is_asked b) at_b b_there i)) ∙ fit)),
      (λ i. relation (leaf_back kin_in (λ k. text_item (kin_name k)) (codes "relation") d kin at_kin (kin_read kin) i)
          ((ap (asked_in (constraint_of n)) at_a ∙ a_back.1) i) ((ap (asked_in (constraint_of n)) at_b ∙ b_back.1) i)),
    )

tested_back : (n : ℕ) (spell : Spelling) → SpellsDates spell → (leaves : TestLeaves) (set : Asked) (related : Related)
    (is ir : Option Item)
    → HoldsTest leaves → values_fit leaves (is_asked set) ≡ true → valid_test_leaves leaves ≡ true
    → is_some is ≡ is_asked set → AskedBack n set is → RelatedBack n related ir
    → TestedBack n (permanode leaves set related) (Some (object_item (permanode_fields spell leaves is ir)))
tested_back n spell spells leaves set related is ir holds fit valid set_there set_back related_back =
    let fs = permanode_fields spell leaves is ir in
    let d = (object_item fs).value in
    let more = and_parts _ _ valid in
    let some = and_parts _ _ more.0 in
    let texts = texts_back leaves.value_matches some.1 in
    let counts = ints_back leaves.num_value more.1 in
    let dates = date_read spell spells leaves.at holds.0 in
    let names = name_read leaves.attr some.0 in
    let at_at : get (codes "at") d ≡ value_of (option_map (date_item spell) leaves.at) =
    looked_up (codes "at") fs refl in
    let at_attr : get (codes "attr") d ≡ value_of (option_map text_item leaves.attr) =
    looked_up (codes "attr") fs refl in
    let at_value : get (codes "value") d ≡ value_of (option_map text_item leaves.value) =
    looked_up (codes "value") fs refl in
    let at_matches : get (codes "valueMatches") d ≡ value_of (option_map text_test_item leaves.value_matches) =
    looked_up (codes "valueMatches") fs refl in
    let at_set : get (codes "valueInSet") d ≡ value_of is = looked_up (codes "valueInSet") fs refl in
    let at_num : get (codes "numValue") d ≡ value_of (option_map int_test_item leaves.num_value) =
    looked_up (codes "numValue") fs refl in
    let at_related : get (codes "relation") d ≡ value_of ir = looked_up (codes "relation") fs refl in (
      (λ path. object_sound (permanode_keys (constraint_fault n)) permanode_whole path fs refl (
        no_fault _ (codes "at") path d _ at_at (leaf_sound date_of (date_item spell) leaves.at dates),
        (
          no_fault _ (codes "attr") path d _ at_attr (leaf_sound name_in text_item leaves.attr names),
          (
            no_fault _ (codes "numValue") path d _ at_num (object_field int_test_fault int_test_of int_test_item
                leaves.num_value counts),
            (
              no_fault _ (codes "relation") path d ir at_related related_back.0,
              (
                no_fault _ (codes "value") path d _ at_value (leaf_sound as_str text_item leaves.value
                    (text_read leaves.value)),
                (
                  no_fault _ (codes "valueInSet") path d is at_set set_back.0,
                  (
                    no_fault _ (codes "valueMatches") path d _ at_matches
                        (object_field text_test_fault text_test_of text_test_item leaves.value_matches texts),
                    tt,
                  ),
                ),
              ),
            ),
          ),
        ),
      )
          ((λ i. is_there text_item (codes "attr") d leaves.attr at_attr i
          || not (is_there text_item (codes "value") d leaves.value at_value i
          || (is_there text_test_item (codes "valueMatches") d leaves.value_matches at_matches i
          || (there_of (codes "valueInSet") d is (is_asked set) at_set set_there i
          || (is_there int_test_item (codes "numValue") d leaves.num_value at_num i || false))))) ∙ fit)),
      (λ i. permanode (record {
        at = leaf_back date_of (date_item spell) (codes "at") d leaves.at at_at dates i;
        attr = leaf_back name_in text_item (codes "attr") d leaves.attr at_attr names i;
        value = leaf_back as_str text_item (codes "value") d leaves.value at_value (text_read leaves.value) i;
        value_matches = object_back text_test_fault text_test_of text_test_item (codes "valueMatches") d
            leaves.value_matches at_matches texts i;
        num_value = object_back int_test_fault int_test_of int_test_item (codes "numValue") d leaves.num_value at_num
            counts i;
      })
          ((ap (asked_in (constraint_of n)) at_set ∙ set_back.1) i)
          ((ap (related_in (constraint_of n)) at_related ∙ related_back.1) i)),
    )

parts_back : (n : ℕ) (joined : Joined) (leaves : Leaves) (tested : Tested) (ij it : Option Item)
    → has_part joined leaves tested ≡ true → valid_leaves leaves ≡ true
    → is_some ij ≡ is_joined joined → is_some it ≡ is_tested tested → JoinedBack n joined ij → TestedBack n tested it
    → AskedBack (suc n) (asked joined leaves tested) (Some (object_item (constraint_fields ij leaves it)))
parts_back n joined leaves tested ij it fit valid j_there t_there j_back t_back =
    let fs = constraint_fields ij leaves it in
    let d = (object_item fs).value in
    let more = and_parts _ _ valid in
    let some = and_parts _ _ more.0 in
    let trues = true_read leaves.anything some.0 in
    let sizes = ints_back leaves.blob_size some.1 in
    let files = files_back leaves.file more.1 in
    let at_joined : get (codes "logical") d ≡ value_of ij = looked_up (codes "logical") fs refl in
    let at_any : get (codes "anything") d ≡ value_of (option_map truth_item leaves.anything) =
    looked_up (codes "anything") fs refl in
    let at_type : get (codes "camliType") d ≡ value_of (option_map text_item leaves.camli_type) =
    looked_up (codes "camliType") fs refl in
    let at_prefix : get (codes "blobRefPrefix") d ≡ value_of (option_map text_item leaves.blob_ref_prefix) =
    looked_up (codes "blobRefPrefix") fs refl in
    let at_size : get (codes "blobSize") d ≡ value_of (option_map int_test_item leaves.blob_size) =
    looked_up (codes "blobSize") fs refl in
    let at_file : get (codes "file") d ≡ value_of (option_map file_test_item leaves.file) =
    looked_up (codes "file") fs refl in
    let at_tested : get (codes "permanode") d ≡ value_of it = looked_up (codes "permanode") fs refl in (
      (λ path. object_sound (parts_keys (constraint_fault n)) (has_key (parts_keys (constraint_fault n))) path fs refl (
        no_fault _ (codes "anything") path d _ at_any (leaf_sound true_in truth_item leaves.anything trues),
        (
          no_fault _ (codes "blobRefPrefix") path d _ at_prefix (leaf_sound as_str text_item leaves.blob_ref_prefix
              (text_read leaves.blob_ref_prefix)),
          (
            no_fault _ (codes "blobSize") path d _ at_size (object_field int_test_fault int_test_of int_test_item
                leaves.blob_size sizes),
            (
              no_fault _ (codes "camliType") path d _ at_type (leaf_sound as_str text_item leaves.camli_type
                  (text_read leaves.camli_type)),
              (
                no_fault _ (codes "file") path d _ at_file (object_field file_test_fault file_test_of file_test_item
                    leaves.file files),
                (
                  no_fault _ (codes "logical") path d ij at_joined j_back.0,
                  (no_fault _ (codes "permanode") path d it at_tested t_back.0, tt),
                ),
              ),
            ),
          ),
        ),
      )
          ((λ i. is_there truth_item (codes "anything") d leaves.anything at_any i
          || (is_there text_item (codes "blobRefPrefix") d leaves.blob_ref_prefix at_prefix i
          || (is_there int_test_item (codes "blobSize") d leaves.blob_size at_size i
          || (is_there text_item (codes "camliType") d leaves.camli_type at_type i
          || (is_there file_test_item (codes "file") d leaves.file at_file i
          || (there_of (codes "logical") d ij (is_joined joined) at_joined j_there i
          || (there_of (codes "permanode") d it (is_tested tested) at_tested t_there i || false))))))) ∙ fit)),
      (λ i. asked ((ap (joined_in (constraint_of n)) at_joined ∙ j_back.1) i)
          (record {
            anything = leaf_back true_in truth_item (codes "anything") d leaves.anything at_any trues i;
            camli_type = leaf_back as_str text_item (codes "camliType") d leaves.camli_type at_type
                (text_read leaves.camli_type) i;
            blob_ref_prefix = leaf_back as_str text_item (codes "blobRefPrefix") d leaves.blob_ref_prefix at_prefix
                (text_read leaves.blob_ref_prefix) i;
            blob_size = object_back int_test_fault int_test_of int_test_item (codes "blobSize") d leaves.blob_size
                at_size sizes i;
            file = object_back file_test_fault file_test_of file_test_item (codes "file") d leaves.file at_file files i;
          })
          ((ap (tested_in (constraint_of n)) at_tested ∙ t_back.1) i)),
    )

left_within : (a b n : ℕ) → max a b ≤ n → a ≤ n
left_within a b n h = let l = le-max_left a b in omega arith

right_within : (a b n : ℕ) → max a b ≤ n → b ≤ n
right_within a b n h = let l = le-max_right a b in omega arith

mutual
  pub asked_back : (n : ℕ) (spell : Spelling) → SpellsDates spell → (a : Asked) → Holds a → valid_asked a ≡ true
      → nests a ≤ n → AskedBack n a (asked_item spell a)
  asked_back n spell spells not_asked h v deep = (tt, refl)
  asked_back zero spell spells (asked j leaves t) h v deep = absurd (omega arith)
  asked_back (suc n) spell spells (asked j leaves t) h v deep =
      let p = and_parts _ _ v in
      let q = and_parts _ _ p.0 in
      let r = and_parts _ _ q.0 in
      let within : max (joined_nests j) (tested_nests t) ≤ n = omega arith in
      parts_back n j leaves t (joined_item spell j) (tested_item spell t) r.0 r.1 (joined_there spell j)
      (tested_there spell t)
      (joined_field n spell spells j h.0 q.1 (left_within _ _ n within)) (tested_field n spell spells t h.2 p.1
      (right_within _ _ n within))

  joined_field : (n : ℕ) (spell : Spelling) → SpellsDates spell → (j : Joined) → HoldsJoined j → valid_joined j ≡ true
      → joined_nests j ≤ n → JoinedBack n j (joined_item spell j)
  joined_field n spell spells no_logical h v deep = (tt, refl)
  joined_field n spell spells (logical op a b) h v deep =
      let p = and_parts _ _ v in
      let q = and_parts _ _ p.0 in
      joined_back n op a b (asked_item spell a) (asked_item spell b) q.0 (asked_there spell a) (asked_there spell b)
      (asked_back n spell spells a h.0 q.1 (left_within _ _ n deep)) (asked_back n spell spells b h.1 p.1
      (right_within _ _ n deep))

  tested_field : (n : ℕ) (spell : Spelling) → SpellsDates spell → (t : Tested) → HoldsTested t → valid_tested t ≡ true
      → tested_nests t ≤ n → TestedBack n t (tested_item spell t)
  tested_field n spell spells no_permanode h v deep = (tt, refl)
  tested_field n spell spells (permanode leaves in_set related) h v deep =
      let p = and_parts _ _ v in
      let q = and_parts _ _ p.0 in
      let r = and_parts _ _ q.0 in
      tested_back n spell spells leaves in_set related (asked_item spell in_set) (related_item spell related) h.0 r.0
      r.1 (asked_there spell in_set)
      (asked_back n spell spells in_set h.1 q.1 (left_within _ _ n deep)) (related_field n spell spells related h.2 p.1
      (right_within _ _ n deep))

  related_field : (n : ℕ) (spell : Spelling) → SpellsDates spell → (r : Related) → HoldsRelated r → valid_related r
      ≡ true → related_nests r ≤ n → RelatedBack n r (related_item spell r)
  related_field n spell spells no_relation h v deep = (tt, refl)
  related_field n spell spells (relation kin any all) h v deep =
      let p = and_parts _ _ v in
      let q = and_parts _ _ p.0 in
      related_back n kin any all (asked_item spell any) (asked_item spell all) q.0 (asked_there spell any)
      (asked_there spell all)
      (asked_back n spell spells any h.0 q.1 (left_within _ _ n deep)) (asked_back n spell spells all h.1 p.1
      (right_within _ _ n deep))

-- ---- queries

when_back : (w : When) → when_of (when_date w) ≡ w
when_back Always = refl
when_back (At date) = refl

pub question_back : (n : ℕ) (spell : Spelling) → SpellsDates spell → (q : Question) → HoldsQuestion q → 1 ≤ q.limit
    → q.limit ≤ 1000000
    → is_asked q.constraint ≡ true → valid_asked q.constraint ≡ true → nests q.constraint ≤ n
    → (query_fault n [] (question_item spell q).value ≡ None) × (question_of n (question_item spell q).value ≡ q)
unfolding limit_fault
question_back n spell spells q h least most there valid deep =
    let fs = question_fields spell q in
    let d = (question_item spell q).value in
    let back = asked_back n spell spells q.constraint h.0 valid deep in
    let dates = date_read spell spells (when_date q.at) h.1 in
    let at_constraint : get (codes "constraint") d ≡ value_of (asked_item spell q.constraint) =
    looked_up (codes "constraint") fs refl in
    let at_limit : get (codes "limit") d ≡ value_of (option_map number_item (Some q.limit)) =
    looked_up (codes "limit") fs refl in
    let at_sort : get (codes "sort") d ≡ value_of (option_map (λ s. text_item (sort_name s)) (Some q.sort)) =
    looked_up (codes "sort") fs refl in
    let at_at : get (codes "at") d ≡ value_of (option_map (date_item spell) (when_date q.at)) =
    looked_up (codes "at") fs refl in (
      object_sound (query_keys n) (λ e. is_some (get (codes "constraint") e)) [] fs refl (
        no_fault _ (codes "at") [] d _ at_at (leaf_sound date_of (date_item spell) (when_date q.at) dates),
        (
          no_fault _ (codes "constraint") [] d _ at_constraint back.0,
          (
            no_fault (leaf limit_in) (codes "limit") [] d (option_map number_item (Some q.limit)) at_limit
                (leaf_sound limit_in number_item (Some q.limit) (limit_read q.limit least most)),
            (
              no_fault (leaf sort_in) (codes "sort") [] d (option_map (λ s. text_item (sort_name s)) (Some q.sort))
                  at_sort (leaf_sound sort_in (λ s. text_item (sort_name s)) (Some q.sort) (sort_read q.sort)),
              tt,
            ),
          ),
        ),
      )
          (there_of (codes "constraint") d (asked_item spell q.constraint) true at_constraint
          (asked_there spell q.constraint ∙ there)),
      (λ i. record {
        constraint = (ap (asked_in (constraint_of n)) at_constraint ∙ back.1) i;
        limit = unwrap_or (leaf_back limit_in number_item (codes "limit") d (Some q.limit) at_limit
            (limit_read q.limit least most) i) 200;
        sort = unwrap_or (leaf_back sort_in (λ s. text_item (sort_name s)) (codes "sort") d (Some q.sort) at_sort
            (sort_read q.sort) i) Ref;
        at = (ap when_of (leaf_back date_of (date_item spell) (codes "at") d (when_date q.at) at_at dates)
            ∙ when_back q.at) i;
      }),
    )
