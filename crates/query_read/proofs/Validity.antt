-- What is read of a value without a fault is valid.
use Rattle.std.proofs.Common.{◌≡◌, ◌≤◌, ◌&&◌, ◌||◌, ◌∙◌, ℕ, zero, suc, Bool, true, false, not, List, [], length, codes, Option, Some, None, is_some, is_none, nat_lt, nat_le, option_and_then, unwrap_or, if◌then◌else◌, Result, Ok, Err, IfOk, refl, sym, ap, subst, arith}
use Rattle.std.specs.Cmp.Derive.{both_true}
use Rattle.std.proofs.Math.Nat.{max-le}
use Rattle.std.proofs.lemmas.Bool.{false≢true, leb-true}
use Rattle.serde_json.specs.Data.{Data}
use Rattle.serde_json.specs.Find.{get, as_bool, as_str}
use Rattle.json_laws.specs.Json.{whole_in}
use Rattle.search_query.specs.declared.query.Op.{Op}
use Rattle.search_query.specs.declared.query.Op.TheVariants.{And, Or, Xor, Not}
use Rattle.search_query.specs.Mirror.{Asked}
use Rattle.search_query.specs.declared.query.Query.{Query}
use Rattle.search_query.specs.View.{is_asked, question}
use Rattle.search_query.specs.Valid.{if_present, valid_int_test, valid_text_test, valid_file_test, is_joined, is_tested, operands_fit, names_attribute, one_of, valid_asked, valid_joined, valid_tested, valid_related, nests, joined_nests, tested_nests, related_nests, IsValidQuestion, IsValid}
use Rattle.query_read.specs.Faults.{has_key}
use Rattle.query_read.specs.Grammar.{int_test_keys, int_test_fault, text_test_keys, text_test_fault, file_test_keys, file_test_fault, is_op_not, logical_whole, logical_keys, logical_fault, relation_whole, relation_keys, relation_fault, permanode_whole, permanode_keys, permanode_fault, parts_keys, parts_fault, constraint_fault, query_keys, query_fault}
use Rattle.query_read.specs.Values.{true_in, name_in, op_in, kin_in, limit_in, int_test_of, text_test_of, file_test_of, asked_in, joined_of, joined_in, related_of, related_in, tested_of, tested_in, parts_of, constraint_of, question_of}
use Rattle.query_read.specs.Laws.{WhatIsReadIsValid}
use Rattle.query_read.specs.declared.fault.QueryFault.{QueryFault}
use Rattle.query_read.proofs.Conditions.{object_none, present, kept, held}

-- ---- objects outside the cycle

int_valid : (path : List ℕ) (d : Data) → int_test_fault path d ≡ None → valid_int_test (int_test_of d) ≡ true
int_valid path d e =
    let p = object_none int_test_keys (has_key int_test_keys) path d e in
    (λ i. present whole_in _ (get (codes "max") d) p.0.0 i || (present whole_in _ (get (codes "min") d) p.0.1.0 i || false)) ∙ p.1

text_valid : (path : List ℕ) (d : Data) → text_test_fault path d ≡ None → valid_text_test (text_test_of d) ≡ true
text_valid path d e =
    let p = object_none text_test_keys (has_key text_test_keys) path d e in
    both_true
    ((λ i. kept int_test_of (get (codes "byteLength") d) i
    || (present as_str _ (get (codes "contains") d) p.0.1.0 i
    || (present as_bool _ (get (codes "empty") d) p.0.1.1.0 i
    || (present as_str _ (get (codes "equals") d) p.0.1.1.1.0 i
    || (present as_str _ (get (codes "hasPrefix") d) p.0.1.1.1.1.0 i
    || (present as_str _ (get (codes "hasSuffix") d) p.0.1.1.1.1.1.0 i || false)))))) ∙ p.1)
    (held valid_int_test int_test_fault int_test_of int_valid _ (get (codes "byteLength") d) p.0.0)

file_valid : (path : List ℕ) (d : Data) → file_test_fault path d ≡ None → valid_file_test (file_test_of d) ≡ true
file_valid path d e =
    let p = object_none file_test_keys (λ _. true) path d e in
    both_true
    (held valid_text_test text_test_fault text_test_of text_valid _ (get (codes "fileName") d) p.0.0)
    (held valid_int_test int_test_fault int_test_of int_valid _ (get (codes "fileSize") d) p.0.1.0)

-- ---- constraints within

-- a constraint meets the conditions, and nests at most this deep
abbrev Good : ℕ → Asked → Type 0
Good n a = (valid_asked a ≡ true) × (nests a ≤ n)

-- each constraint without a fault does
abbrev AllGood : ℕ → Type 0
AllGood n = (path : List ℕ) (d : Data) → constraint_fault n path d ≡ None → Good n (constraint_of n d)

there : (n : ℕ) (path : List ℕ) (d : Data) → constraint_fault n path d ≡ None → is_asked (constraint_of n d) ≡ true
there zero path d e = absurd (false≢true (sym (ap is_some e)))
there (suc n) path d e = refl

none_deep : (n : ℕ) → 0 ≤ n
none_deep n = omega arith

inner_good : (n : ℕ) → AllGood n → (path : List ℕ) (o : Option Data) → option_and_then (constraint_fault n path) o ≡ None → Good n (asked_in (constraint_of n) o)
inner_good n good path None e = (refl, none_deep n)
inner_good n good path (Some d) e = good path d e

inner_there : (n : ℕ) (path : List ℕ) (o : Option Data) → option_and_then (constraint_fault n path) o ≡ None → is_asked (asked_in (constraint_of n) o) ≡ is_some o
inner_there n path None e = refl
inner_there n path (Some d) e = there n path d e

operands : (o : Option Op) (p a : Bool) (b : Option Data) → is_some o ≡ p → (p && a && (if is_op_not o then is_none b else is_some b)) ≡ true
    → operands_fit o a (is_some b) ≡ true
operands o false a b e h = absurd (false≢true h)
operands o true false b e h = absurd (false≢true h)
operands None true true b e h = absurd (false≢true e)
operands (Some And) true true b e h = h
operands (Some Or) true true b e h = h
operands (Some Xor) true true b e h = h
operands (Some Not) true true None e h = refl
operands (Some Not) true true (Some b) e h = absurd (false≢true h)

joined_good : (n : ℕ) → AllGood n → (path : List ℕ) (d : Data) → logical_fault (constraint_fault n) path d ≡ None
    → (valid_joined (joined_of (constraint_of n) d) ≡ true) × (joined_nests (joined_of (constraint_of n) d) ≤ n)
joined_good n good path d e =
    let p = object_none (logical_keys (constraint_fault n)) logical_whole path d e in
    let a = get (codes "a") d in
    let b = get (codes "b") d in
    let o = option_and_then op_in (get (codes "op") d) in
    let a_good = inner_good n good _ a p.0.0 in
    let b_good = inner_good n good _ b p.0.1.0 in (
      both_true
          (both_true
          ((λ i. operands_fit o (inner_there n _ a p.0.0 i) (inner_there n _ b p.0.1.0 i))
          ∙ operands o (is_some (get (codes "op") d)) (is_some a) b (present op_in _ (get (codes "op") d) p.0.1.1.0) p.1)
          a_good.0)
          b_good.0,
      max-le a_good.1 b_good.1,
    )

related_good : (n : ℕ) → AllGood n → (path : List ℕ) (d : Data) → relation_fault (constraint_fault n) path d ≡ None
    → (valid_related (related_of (constraint_of n) d) ≡ true) × (related_nests (related_of (constraint_of n) d) ≤ n)
related_good n good path d e =
    let p = object_none (relation_keys (constraint_fault n)) relation_whole path d e in
    let all = get (codes "all") d in
    let any = get (codes "any") d in
    let all_good = inner_good n good _ all p.0.0 in
    let any_good = inner_good n good _ any p.0.1.0 in (
      both_true
          (both_true
          ((λ i. present kin_in _ (get (codes "relation") d) p.0.1.1.0 i && one_of (inner_there n _ any p.0.1.0 i) (inner_there n _ all p.0.0 i)) ∙ p.1)
          any_good.0)
          all_good.0,
      max-le any_good.1 all_good.1,
    )

related_in_good : (n : ℕ) → AllGood n → (path : List ℕ) (o : Option Data) → option_and_then (relation_fault (constraint_fault n) path) o ≡ None
    → (valid_related (related_in (constraint_of n) o) ≡ true) × (related_nests (related_in (constraint_of n) o) ≤ n)
related_in_good n good path None e = (refl, none_deep n)
related_in_good n good path (Some d) e = related_good n good path d e

named : (o : Option Data) → names_attribute (option_and_then name_in o) ≡ true
named None = refl
named (Some d) = by_text (as_str d)
  where
    by_length : (name : List ℕ) (b : Bool) → nat_lt 0 (length name) ≡ b → names_attribute (if b then Some name else None) ≡ true
    by_length name true e = e
    by_length name false e = refl

    by_text : (o : Option (List ℕ)) → names_attribute (option_and_then (λ name. if nat_lt 0 (length name) then Some name else None) o) ≡ true
    by_text None = refl
    by_text (Some name) = by_length name (nat_lt 0 (length name)) refl

tested_good : (n : ℕ) → AllGood n → (path : List ℕ) (d : Data) → permanode_fault (constraint_fault n) path d ≡ None
    → (valid_tested (tested_of (constraint_of n) d) ≡ true) × (tested_nests (tested_of (constraint_of n) d) ≤ n)
tested_good n good path d e =
    let p = object_none (permanode_keys (constraint_fault n)) permanode_whole path d e in
    let set = get (codes "valueInSet") d in
    let set_is = p.0.1.1.1.1.1.0 in
    let set_good = inner_good n good _ set set_is in
    let related = related_in_good n good _ (get (codes "relation") d) p.0.1.1.1.0 in (
      both_true
          (both_true
          (both_true
          ((λ i. present name_in _ (get (codes "attr") d) p.0.1.0 i
          || not (present as_str _ (get (codes "value") d) p.0.1.1.1.1.0 i
          || (kept text_test_of (get (codes "valueMatches") d) i
          || (inner_there n _ set set_is i
          || (kept int_test_of (get (codes "numValue") d) i || false))))) ∙ p.1)
          (both_true
          (both_true (named (get (codes "attr") d))
          (held valid_text_test text_test_fault text_test_of text_valid _ (get (codes "valueMatches") d) p.0.1.1.1.1.1.1.0))
          (held valid_int_test int_test_fault int_test_of int_valid _ (get (codes "numValue") d) p.0.1.1.0)))
          set_good.0)
          related.0,
      max-le set_good.1 related.1,
    )

-- ---- constraints

joined_in_good : (n : ℕ) → AllGood n → (path : List ℕ) (o : Option Data) → option_and_then (logical_fault (constraint_fault n) path) o ≡ None
    → (valid_joined (joined_in (constraint_of n) o) ≡ true) × (joined_nests (joined_in (constraint_of n) o) ≤ n)
joined_in_good n good path None e = (refl, none_deep n)
joined_in_good n good path (Some d) e = joined_good n good path d e

tested_in_good : (n : ℕ) → AllGood n → (path : List ℕ) (o : Option Data) → option_and_then (permanode_fault (constraint_fault n) path) o ≡ None
    → (valid_tested (tested_in (constraint_of n) o) ≡ true) × (tested_nests (tested_in (constraint_of n) o) ≤ n)
tested_in_good n good path None e = (refl, none_deep n)
tested_in_good n good path (Some d) e = tested_good n good path d e

joined_there : (inner : Data → Asked) (o : Option Data) → is_joined (joined_in inner o) ≡ is_some o
joined_there inner None = refl
joined_there inner (Some d) = refl

tested_there : (inner : Data → Asked) (o : Option Data) → is_tested (tested_in inner o) ≡ is_some o
tested_there inner None = refl
tested_there inner (Some d) = refl

only_true : (o : Option Data) → if_present (λ b. b) (option_and_then true_in o) ≡ true
only_true None = refl
only_true (Some d) = by_truth (as_bool d)
  where
    by_truth : (o : Option Bool) → if_present (λ b. b) (option_and_then (λ b. if b then Some true else None) o) ≡ true
    by_truth None = refl
    by_truth (Some true) = refl
    by_truth (Some false) = refl

one_more : (a n : ℕ) → a ≤ n → suc a ≤ suc n
one_more a n h = omega arith

parts_good : (n : ℕ) → AllGood n → (path : List ℕ) (d : Data) → parts_fault (constraint_fault n) path d ≡ None → Good (suc n) (parts_of (constraint_of n) d)
parts_good n good path d e =
    let p = object_none (parts_keys (constraint_fault n)) (has_key (parts_keys (constraint_fault n))) path d e in
    let joined = joined_in_good n good _ (get (codes "logical") d) p.0.1.1.1.1.1.0 in
    let tested = tested_in_good n good _ (get (codes "permanode") d) p.0.1.1.1.1.1.1.0 in (
      both_true
          (both_true
          (both_true
          ((λ i. present true_in _ (get (codes "anything") d) p.0.0 i
          || (present as_str _ (get (codes "blobRefPrefix") d) p.0.1.0 i
          || (kept int_test_of (get (codes "blobSize") d) i
          || (present as_str _ (get (codes "camliType") d) p.0.1.1.1.0 i
          || (kept file_test_of (get (codes "file") d) i
          || (joined_there (constraint_of n) (get (codes "logical") d) i
          || (tested_there (constraint_of n) (get (codes "permanode") d) i || false))))))) ∙ p.1)
          (both_true
          (both_true (only_true (get (codes "anything") d))
          (held valid_int_test int_test_fault int_test_of int_valid _ (get (codes "blobSize") d) p.0.1.1.0))
          (held valid_file_test file_test_fault file_test_of file_valid _ (get (codes "file") d) p.0.1.1.1.1.0)))
          joined.0)
          tested.0,
      one_more _ n (max-le joined.1 tested.1),
    )

all_good : (n : ℕ) → AllGood n
all_good zero path d e = absurd (false≢true (sym (ap is_some e)))
all_good (suc n) path d e = parts_good n (all_good n) path d e

-- ---- queries

abbrev IsLimit : ℕ → Type 0
IsLimit n = (1 ≤ n) × (n ≤ 1000000)

limit_good : (o : Option Data) → IsLimit (unwrap_or (option_and_then limit_in o) 200)
limit_good None = (omega arith, omega arith)
limit_good (Some d) = by_number (whole_in d)
  where
    by_bounds : (n : ℕ) (a b : Bool) → nat_le 1 n ≡ a → nat_le n 1000000 ≡ b → IsLimit (unwrap_or (if a && b then Some n else None) 200)
    by_bounds n true true h k = (leb-true 1 n h, leb-true n 1000000 k)
    by_bounds n true false h k = (omega arith, omega arith)
    by_bounds n false b h k = (omega arith, omega arith)

    by_number : (o : Option ℕ) → IsLimit (unwrap_or (option_and_then (λ n. if nat_le 1 n && nat_le n 1000000 then Some n else None) o) 200)
    by_number None = (omega arith, omega arith)
    by_number (Some n) = by_bounds n (nat_le 1 n) (nat_le n 1000000) refl refl

-- the conditions on a query whose constraint may nest so many deep
pub question_good : (n : ℕ) (path : List ℕ) (d : Data) → query_fault n path d ≡ None
    → IsLimit (question_of n d).limit × (is_asked (question_of n d).constraint ≡ true) × Good n (question_of n d).constraint
question_good n path d e =
    let p = object_none (query_keys n) (λ x. is_some (get (codes "constraint") x)) path d e in (
      limit_good (get (codes "limit") d),
      inner_there n _ (get (codes "constraint") d) p.0.1.0 ∙ p.1,
      inner_good n (all_good n) _ (get (codes "constraint") d) p.0.1.0,
    )

pub what_is_read : WhatIsReadIsValid
what_is_read d e =
    let g = question_good 32 [] d e in
    record { some = g.1; least = g.0.0; most = g.0.1; conditions = g.2.0; depth = g.2.1 }

pub read_valid : (d : Data) (r : Result Query QueryFault) → IfOk r (λ _. query_fault 32 [] d ≡ None) → IfOk r (λ q. question q ≡ question_of 32 d) → IfOk r IsValid
read_valid d (Ok q) e is = subst IsValidQuestion (sym is) (what_is_read d e)
read_valid d (Err x) e is = tt
