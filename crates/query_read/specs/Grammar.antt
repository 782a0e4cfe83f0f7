-- The grammar of queries (docs/formats/queries.md): the keys of each object in byte order, and its condition as a whole.
use Rattle.std.specs.Prelude.{◌≡◌, true, ℕ, zero, suc, List, [], ◌∷◌, codes, Bool, false, not, ◌&&◌, ◌||◌, Option, Some, None, is_some, is_none, if◌then◌else◌}
use Rattle.std.specs.Ordering.{nat_cmp, is_lt}
use Rattle.std.specs.Cmp.Lexicographic.{slice_cmp}
use Rattle.serde_json.specs.Data.{Data}
use Rattle.serde_json.specs.Find.{get, as_bool, as_str}
use Rattle.json_laws.specs.Json.{whole_in}
use Rattle.search_query.specs.declared.query.Op.{Op}
use Rattle.search_query.specs.declared.query.Op.TheVariants.{And, Or, Xor, Not}
use Rattle.search_query.specs.Valid.{one_of}
use Rattle.query_read.specs.declared.fault.QueryFault.{QueryFault}
use Rattle.query_read.specs.declared.fault.QueryFault.TheVariants.{TooDeep}
use Rattle.query_read.specs.Faults.{Fault, Key, bad_value, object_fault, has_any, has_key}
use Rattle.query_read.specs.Values.{under, true_in, name_in, date_of, op_in, kin_in, sort_in, limit_in}

-- a value that is read, or a bad one
abbrev pub leaf : {A : Type 0} → (Data → Option A) → Fault
leaf reads path d = if is_some (reads d) then None else bad_value path

-- Objects outside the cycle

abbrev pub int_test_keys : List Key
int_test_keys = (codes "max", leaf whole_in) ∷ (codes "min", leaf whole_in) ∷ []

abbrev pub int_test_fault : Fault
int_test_fault = object_fault int_test_keys (has_key int_test_keys)

abbrev pub text_test_keys : List Key
text_test_keys =
    (codes "byteLength", int_test_fault)
    ∷ (codes "contains", leaf as_str)
    ∷ (codes "empty", leaf as_bool)
    ∷ (codes "equals", leaf as_str)
    ∷ (codes "hasPrefix", leaf as_str)
    ∷ (codes "hasSuffix", leaf as_str)
    ∷ []

abbrev pub text_test_fault : Fault
text_test_fault = object_fault text_test_keys (has_key text_test_keys)

abbrev pub file_test_keys : List Key
file_test_keys = (codes "fileName", text_test_fault) ∷ (codes "fileSize", int_test_fault) ∷ []

abbrev pub file_test_fault : Fault
file_test_fault = object_fault file_test_keys (λ d. true)

-- Constraints: `inner` is the fault of a constraint within

abbrev pub is_op_not : Option Op → Bool
is_op_not None = false
is_op_not (Some And) = false
is_op_not (Some Or) = false
is_op_not (Some Xor) = false
is_op_not (Some Not) = true

abbrev pub is_not : Data → Bool
is_not d = is_op_not (under op_in (codes "op") d)

-- `op` and `a` are present, and `b` exactly where `op` isn't `not`
abbrev pub logical_whole : Data → Bool
logical_whole d =
    is_some (get (codes "op") d) && is_some (get (codes "a") d)
    && (if is_not d then is_none (get (codes "b") d) else is_some (get (codes "b") d))

abbrev pub logical_keys : Fault → List Key
logical_keys inner = (codes "a", inner) ∷ (codes "b", inner) ∷ (codes "op", leaf op_in) ∷ []

abbrev pub logical_fault : Fault → Fault
logical_fault inner = object_fault (logical_keys inner) logical_whole

-- `relation` is present, and exactly one of `any` and `all`
abbrev pub relation_whole : Data → Bool
relation_whole d =
    is_some (get (codes "relation") d) && one_of (is_some (get (codes "any") d)) (is_some (get (codes "all") d))

abbrev pub relation_keys : Fault → List Key
relation_keys inner = (codes "all", inner) ∷ (codes "any", inner) ∷ (codes "relation", leaf kin_in) ∷ []

abbrev pub relation_fault : Fault → Fault
relation_fault inner = object_fault (relation_keys inner) relation_whole

-- any of `value`, `valueMatches`, `valueInSet` and `numValue` only with `attr`
abbrev pub permanode_whole : Data → Bool
permanode_whole d =
    is_some (get (codes "attr") d)
    || not (has_any (codes "value" ∷ codes "valueMatches" ∷ codes "valueInSet" ∷ codes "numValue" ∷ []) d)

abbrev pub permanode_keys : Fault → List Key
permanode_keys inner =
    (codes "at", leaf date_of)
    ∷ (codes "attr", leaf name_in)
    ∷ (codes "numValue", int_test_fault)
    ∷ (codes "relation", relation_fault inner)
    ∷ (codes "value", leaf as_str)
    ∷ (codes "valueInSet", inner)
    ∷ (codes "valueMatches", text_test_fault)
    ∷ []

abbrev pub permanode_fault : Fault → Fault
permanode_fault inner = object_fault (permanode_keys inner) permanode_whole

abbrev pub parts_keys : Fault → List Key
parts_keys inner =
    (codes "anything", leaf true_in)
    ∷ (codes "blobRefPrefix", leaf as_str)
    ∷ (codes "blobSize", int_test_fault)
    ∷ (codes "camliType", leaf as_str)
    ∷ (codes "file", file_test_fault)
    ∷ (codes "logical", logical_fault inner)
    ∷ (codes "permanode", permanode_fault inner)
    ∷ []

abbrev pub parts_fault : Fault → Fault
parts_fault inner = object_fault (parts_keys inner) (has_key (parts_keys inner))

abbrev pub too_deep : List ℕ → Option QueryFault
too_deep path = Some (TooDeep path)

-- a constraint that may nest so many deep; of one that is too deep nothing is looked at
abbrev pub constraint_fault : ℕ → Fault
constraint_fault zero path d = too_deep path
constraint_fault (suc n) path d = parts_fault (constraint_fault n) path d

-- Queries

unfoldable pub limit_fault : Fault
limit_fault = leaf limit_in

abbrev pub query_keys : ℕ → List Key
query_keys n =
    (codes "at", leaf date_of)
    ∷ (codes "constraint", constraint_fault n)
    ∷ (codes "limit", limit_fault)
    ∷ (codes "sort", leaf sort_in)
    ∷ []

-- a query whose constraint may nest so many deep
abbrev pub query_fault : ℕ → Fault
query_fault n = object_fault (query_keys n) (λ d. is_some (get (codes "constraint") d))

-- Order

-- whether the keys of a table ascend
abbrev pub ascend : List Key → Bool
ascend [] = true
ascend (k ∷ []) = true
ascend (k ∷ l ∷ ks) = is_lt (slice_cmp nat_cmp k.0 l.0) && ascend (l ∷ ks)

pub record TablesAscend : Type 0 where
  pub int_test : ascend int_test_keys ≡ true
  pub text_test : ascend text_test_keys ≡ true
  pub file_test : ascend file_test_keys ≡ true
  pub logical : (inner : Fault) → ascend (logical_keys inner) ≡ true
  pub relation : (inner : Fault) → ascend (relation_keys inner) ≡ true
  pub permanode : (inner : Fault) → ascend (permanode_keys inner) ≡ true
  pub parts : (inner : Fault) → ascend (parts_keys inner) ≡ true
  pub query : (n : ℕ) → ascend (query_keys n) ≡ true
