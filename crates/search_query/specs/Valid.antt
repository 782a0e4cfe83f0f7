-- Valid queries (docs/search.md): the conditions on each object of the language, over the mirror of a constraint.
use Rattle.std.specs.Prelude.{◌≡◌, ◌≤◌, ℕ, suc, max, List, [], ◌∷◌, length, nat_lt, Bool, true, false, not, ◌&&◌, ◌||◌, Option, Some, None, is_some}
use Rattle.std.specs.List.{list_any}
use Rattle.search_query.specs.declared.query.IntTest.{IntTest}
use Rattle.search_query.specs.declared.query.TextTest.{TextTest}
use Rattle.search_query.specs.declared.query.FileTest.{FileTest}
use Rattle.search_query.specs.declared.query.Op.{Op}
use Rattle.search_query.specs.declared.query.Op.TheVariants.{And, Or, Xor, Not}
use Rattle.search_query.specs.declared.query.Query.{Query}
use Rattle.search_query.specs.Mirror.{Leaves, TestLeaves, Asked, not_asked, asked, Joined, no_logical, logical, Tested, no_permanode, permanode, Related, no_relation, relation}
use Rattle.search_query.specs.View.{Question, question, is_asked}

-- what stands under a key meets a condition, if the key is present
abbrev pub if_present : {A : Type 0} → (A → Bool) → Option A → Bool
if_present valid None = true
if_present valid (Some x) = valid x

abbrev pub any_of : List Bool → Bool
any_of truths = list_any (λ truth. truth) truths

-- Objects outside the cycle

-- at least one key
abbrev pub valid_int_test : IntTest → Bool
valid_int_test test = any_of (is_some test.max ∷ is_some test.min ∷ [])

-- at least one key
abbrev pub valid_text_test : TextTest → Bool
valid_text_test test =
    any_of (is_some test.byte_length ∷ is_some test.contains ∷ is_some test.empty ∷ is_some test.equals
    ∷ is_some test.has_prefix ∷ is_some test.has_suffix ∷ [])
    && if_present valid_int_test test.byte_length

abbrev pub valid_file_test : FileTest → Bool
valid_file_test test = if_present valid_text_test test.file_name && if_present valid_int_test test.file_size

-- Constraints

-- `anything` is true
abbrev pub valid_leaves : Leaves → Bool
valid_leaves leaves =
    if_present (λ anything. anything) leaves.anything
    && if_present valid_int_test leaves.blob_size
    && if_present valid_file_test leaves.file

abbrev pub is_joined : Joined → Bool
is_joined no_logical = false
is_joined (logical op a b) = true

abbrev pub is_tested : Tested → Bool
is_tested no_permanode = false
is_tested (permanode leaves in_set related) = true

-- at least one key
abbrev pub has_part : Joined → Leaves → Tested → Bool
has_part joined leaves tested =
    any_of (is_some leaves.anything ∷ is_some leaves.blob_ref_prefix ∷ is_some leaves.blob_size
    ∷ is_some leaves.camli_type ∷ is_some leaves.file ∷ is_joined joined ∷ is_tested tested ∷ [])

-- `op` is present, `a` too, and `b` exactly where `op` isn't `not`
abbrev pub operands_fit : Option Op → Bool → Bool → Bool
operands_fit None a b = false
operands_fit (Some And) a b = a && b
operands_fit (Some Or) a b = a && b
operands_fit (Some Xor) a b = a && b
operands_fit (Some Not) a b = a && not b

-- an attribute is named by a text that isn't empty
abbrev pub names_attribute : Option (List ℕ) → Bool
names_attribute attr = if_present (λ name. nat_lt 0 (length name)) attr

-- what is asked of values is asked only with `attr`
abbrev pub values_fit : TestLeaves → Bool → Bool
values_fit leaves in_set =
    is_some leaves.attr
    || not (any_of (is_some leaves.value ∷ is_some leaves.value_matches ∷ in_set ∷ is_some leaves.num_value ∷ []))

abbrev pub valid_test_leaves : TestLeaves → Bool
valid_test_leaves leaves =
    names_attribute leaves.attr
    && if_present valid_text_test leaves.value_matches
    && if_present valid_int_test leaves.num_value

-- exactly one of two
abbrev pub one_of : Bool → Bool → Bool
one_of true b = not b
one_of false b = b

abbrev mutual
  -- whether a constraint meets the conditions, with all within it
  pub valid_asked : Asked → Bool
  valid_asked not_asked = true
  valid_asked (asked joined leaves tested) =
      has_part joined leaves tested && valid_leaves leaves && valid_joined joined && valid_tested tested

  pub valid_joined : Joined → Bool
  valid_joined no_logical = true
  valid_joined (logical op a b) = operands_fit op (is_asked a) (is_asked b) && valid_asked a && valid_asked b

  pub valid_tested : Tested → Bool
  valid_tested no_permanode = true
  valid_tested (permanode leaves in_set related) =
      values_fit leaves (is_asked in_set) && valid_test_leaves leaves && valid_asked in_set && valid_related related

  pub valid_related : Related → Bool
  valid_related no_relation = true
  valid_related (relation kin any all) =
      is_some kin && one_of (is_asked any) (is_asked all) && valid_asked any && valid_asked all

abbrev mutual
  -- how many constraints stand within one another, the outermost counted
  pub nests : Asked → ℕ
  nests not_asked = 0
  nests (asked joined leaves tested) = suc (max (joined_nests joined) (tested_nests tested))

  pub joined_nests : Joined → ℕ
  joined_nests no_logical = 0
  joined_nests (logical op a b) = max (nests a) (nests b)

  pub tested_nests : Tested → ℕ
  tested_nests no_permanode = 0
  tested_nests (permanode leaves in_set related) = max (nests in_set) (related_nests related)

  pub related_nests : Related → ℕ
  related_nests no_relation = 0
  related_nests (relation kin any all) = max (nests any) (nests all)

-- Queries

-- a limit of 1 to 1,000,000, and a constraint that is there, meets the conditions and nests at most 32 deep
pub record IsValidQuestion (q : Question) : Type 0 where
  pub some : is_asked q.constraint ≡ true
  pub least : 1 ≤ q.limit
  pub most : q.limit ≤ 1000000
  pub conditions : valid_asked q.constraint ≡ true
  pub depth : nests q.constraint ≤ 32

abbrev pub IsValid : Query → Type 0
IsValid query = IsValidQuestion (question query)
