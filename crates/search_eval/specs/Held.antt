-- Permanodes that a search may begin from: those that hold a value which its constraint asks for.
use Rattle.std.specs.Prelude.{◌≡◌, ◌+◌, ◌*◌, ◌&&◌, ℕ, ℤ, Bool, true, false, not, List, length, nat_le, Option, Some, None, is_some, if◌then◌else◌}
use Rattle.claim_verify.specs.Verifier.{Accepts}
use Rattle.schema_date.specs.declared.date.When.{When}
use Rattle.schema_date.specs.declared.date.When.TheVariants.{Always, At}
use Rattle.claim_model.specs.Facts.{Facts}
use Rattle.claim_model.specs.Claims.{holders}
use Rattle.search_query.specs.declared.query.Op.{Op}
use Rattle.search_query.specs.declared.query.Op.TheVariants.{And, Or, Xor, Not}
use Rattle.search_query.specs.declared.query.Query.{Query}
use Rattle.search_query.specs.declared.query.Sort.TheVariants.{Ref}
use Rattle.search_query.specs.Mirror.{Leaves, TestLeaves, Asked, not_asked, asked, Joined, no_logical, logical, Tested, no_permanode, permanode, Related, no_relation, relation}
use Rattle.search_query.specs.View.{view, is_asked}

-- a constraint that asks for a value of an attribute, and for nothing else
abbrev pub value_asked : List ℕ → List ℕ → Asked
value_asked name value = asked no_logical
    (record { anything = None; camli_type = None; blob_ref_prefix = None; blob_size = None; file = None })
    (permanode (record { at = None; attr = Some name; value = Some value; value_matches = None; num_value = None }) not_asked no_relation)

-- a query for a value of an attribute and for nothing else, by claims of every date, ascending by ref
pub record AsksForValue (query : Query) (name value : List ℕ) : Type 0 where
  pub constraint : view query.constraint ≡ value_asked name value
  pub sort : query.sort ≡ Ref
  pub at : query.at ≡ Always

-- refs to begin from, where there are any
abbrev pub Held : Type 0
Held = Option (List (List ℕ))

-- few enough that no shorter list is looked for
abbrev pub is_few : Held → Bool
is_few None = false
is_few (Some refs) = nat_le (length refs) 1024

-- the list with fewer refs
abbrev pub shorter : Held → Held → Held
shorter None b = b
shorter (Some a) None = Some a
shorter (Some a) (Some b) = if nat_le (length a) (length b) then Some a else Some b

-- the same, where the second one isn't looked at if the first one has few
abbrev pub few_or_shorter : Held → Held → Held
few_or_shorter a b = if is_few a then a else shorter a b

-- the permanodes that hold the value of the attribute, where a test names both, and no date
abbrev pub holding : Facts → Accepts → Option ℤ → Option (List ℕ) → Option (List ℕ) → Held
holding facts accepts (Some date) attr value = None
holding facts accepts None None value = None
holding facts accepts None (Some name) None = None
holding facts accepts None (Some name) (Some value) = Some (holders facts accepts name value)

abbrev pub held_by_test : Facts → Accepts → Tested → Held
held_by_test facts accepts no_permanode = None
held_by_test facts accepts (permanode leaves in_set related) = holding facts accepts leaves.at leaves.attr leaves.value

-- of two constraints that hold together
abbrev pub held_by_op : Option Op → Held → Held → Held
held_by_op None a b = None
held_by_op (Some And) a b = few_or_shorter a b
held_by_op (Some Or) a b = None
held_by_op (Some Xor) a b = None
held_by_op (Some Not) a b = None

abbrev mutual
  -- those that a constraint begins from
  pub held : Facts → Accepts → Asked → Held
  held facts accepts not_asked = None
  held facts accepts (asked joined leaves tested) = few_or_shorter (held_by_test facts accepts tested) (held_by_logical facts accepts joined)

  pub held_by_logical : Facts → Accepts → Joined → Held
  held_by_logical facts accepts no_logical = None
  held_by_logical facts accepts (logical op a b) = held_by_op op (held facts accepts a) (held facts accepts b)

-- at a date there are none
abbrev pub held_at : Facts → Accepts → When → Asked → Held
held_at facts accepts Always c = held facts accepts c
held_at facts accepts (At date) c = None

-- ---- what that costs

-- steps for a list of holders
abbrev pub list_steps : Held → ℕ
list_steps None = 0
list_steps (Some refs) = 6 * (1 + length refs)

abbrev pub op_steps : Option Op → ℕ → ℕ → ℕ
op_steps None a b = 0
op_steps (Some And) a b = a + b
op_steps (Some Or) a b = 0
op_steps (Some Xor) a b = 0
op_steps (Some Not) a b = 0

abbrev mutual
  -- steps for the lists of a constraint, at most
  pub held_steps : Facts → Accepts → Asked → ℕ
  held_steps facts accepts not_asked = 0
  held_steps facts accepts (asked joined leaves tested) = list_steps (held_by_test facts accepts tested) + logical_steps facts accepts joined

  pub logical_steps : Facts → Accepts → Joined → ℕ
  logical_steps facts accepts no_logical = 0
  logical_steps facts accepts (logical op a b) = op_steps op (held_steps facts accepts a) (held_steps facts accepts b)

-- ---- where no more is asked than that value

abbrev pub is_unjoined : Joined → Bool
is_unjoined no_logical = true
is_unjoined (logical op a b) = false

abbrev pub is_unrelated : Related → Bool
is_unrelated no_relation = true
is_unrelated (relation kin any all) = false

abbrev pub asks_nothing : Leaves → Bool
asks_nothing leaves =
    not (is_some leaves.camli_type) && not (is_some leaves.blob_ref_prefix) && not (is_some leaves.blob_size) && not (is_some leaves.file)

abbrev pub asks_no_more : TestLeaves → Bool
asks_no_more leaves = not (is_some leaves.value_matches) && not (is_some leaves.num_value)

abbrev pub is_plain_test : Tested → Bool
is_plain_test no_permanode = false
is_plain_test (permanode leaves in_set related) = asks_no_more leaves && not (is_asked in_set) && is_unrelated related

-- whether each ref to begin from meets the constraint
abbrev pub is_plain : Asked → Bool
is_plain not_asked = false
is_plain (asked joined leaves tested) = is_unjoined joined && asks_nothing leaves && is_plain_test tested
