-- Written changes are read.
use Rattle.std.proofs.Common.{◌≡◌, ◌<◌, ℕ, suc, Bool, true, List, [], ◌∷◌, codes, length, map, cond, nat_lt, nat_le, Option, None, Some, option_and_then, option_map, refl, ap, ◌∙◌}
use Rattle.std.specs.Prelude.{if◌then◌else◌}
use Rattle.std.specs.Str.{IsUtf8}
use Rattle.std.proofs.lemmas.Bool.{lt-ltb, le-leb, and_from}
use Rattle.json.proofs.Printed.Utf8.{IsUtf8-are_ascii}
use Rattle.serde_json.specs.Data.{Data, string, object}
use Rattle.serde_json.specs.Find.{get, as_str, as_array}
use Rattle.blobref.specs.Blobref.{is_blobref}
use Rattle.schema_fact.specs.Limits.{most_changes, is_change_count, IsChangeCount}
use Rattle.schema_fact.specs.declared.changes.Act.{Act}
use Rattle.schema_fact.specs.declared.changes.Act.TheVariants as act
use Rattle.schema_fact.specs.declared.changes.Change.{Change}
use Rattle.schema_fact.specs.declared.kinds.What.TheVariants.{Multi}
use Rattle.schema_json.specs.Fields.{ref_in, ref_at, text_at, text_or_empty}
use Rattle.schema_json.specs.Facts.{attribute_of, change_typed, change_in, changes_in, change_list_of, multi_of}
use Rattle.schema_json.proofs.Changes.{set_change_is, add_change_is, del_change_is}
use Rattle.json_laws.specs.Written.{Pair, members_of, items_of, last_value, ValuesReadWithin, ItemsReadWithin, PairsAreUtf8, ItemsAreUtf8}
use Rattle.json_laws.proofs.Object.{object_nests}
use Rattle.json_laws.proofs.Items.{list_nests}
use Rattle.json_laws.proofs.Found.{member_found}
use Rattle.json_laws.proofs.Leaves.{read_quoted}
use Rattle.json_laws.proofs.Utf8.{text_utf8, object_utf8, list_utf8}
use Rattle.schema_write.specs.Blobs.{text_pair, act_type, act_values, change_object, change_item, changes_pair}
use Rattle.schema_write.specs.Laws.{IsChange, AreChanges}
use Rattle.schema_write.proofs.Texts.{blobref_utf8}

-- ---- what stands under a key

pub text_pair_utf8 : (key text : List ℕ) (ps : List Pair) → IsUtf8 key → IsUtf8 text → PairsAreUtf8 ps → PairsAreUtf8 (text_pair key text ∷ ps)
text_pair_utf8 key text ps k t h = (k, text_utf8 text t, h)

pub text_is : (ps : List Pair) (key text : List ℕ) → last_value key ps ≡ Some (string text) → text_at key (object (members_of ps)) ≡ Some text
text_is ps key text h = ap (option_and_then as_str) (member_found ps key ∙ h)

pub ref_is : (ps : List Pair) (key r : List ℕ) → is_blobref r ≡ true → last_value key ps ≡ Some (string r) → ref_at key (object (members_of ps)) ≡ Some r
ref_is ps key r ref h = ap (option_and_then ref_in) (member_found ps key ∙ h) ∙ ap (λ (b : Bool). cond b (Some r) None) ref

pub named_is : (ps : List Pair) (attr : List ℕ) → 0 < length attr → last_value (codes "attribute") ps ≡ Some (string attr) → attribute_of (object (members_of ps)) ≡ Some attr
named_is ps attr more h =
    ap (option_and_then (λ name. if nat_lt 0 (length name) then Some name else None)) (text_is ps (codes "attribute") attr h)
    ∙ ap (λ (b : Bool). cond b (Some attr) None) (lt-ltb 0 (length attr) more)

-- ---- the text of a change

values_of : (n : ℕ) (a : Act) (value : List ℕ) → ValuesReadWithin n (act_values a value)
values_of n act.Set value = (read_quoted n value, tt)
values_of n act.Add value = (read_quoted n value, tt)
values_of n act.Del [] = tt
values_of n act.Del (c ∷ cs) = (read_quoted n (c ∷ cs), tt)

object_reads : (n : ℕ) (c : Change) → ValuesReadWithin n (change_object c)
object_reads n c = (read_quoted n (act_type c.act), (read_quoted n c.on, (read_quoted n c.attr, values_of n c.act c.value)))

items_read : (n : ℕ) (cs : List Change) → ItemsReadWithin (suc n) (map change_item cs)
items_read n [] = tt
items_read n (c ∷ cs) = (object_nests n (change_object c) (object_reads n c), items_read n cs)

pub changes_values : (cs : List Change) → ValuesReadWithin 126 (changes_pair cs ∷ [])
changes_values cs = (list_nests 125 (map change_item cs) (items_read 124 cs), tt)

-- ---- a change is read as itself

abbrev change : Act → List ℕ → List ℕ → List ℕ → Change
change a on attr value = record { on = on; act = a; attr = attr; value = value }

typed : (ps : List Pair) (type : List ℕ) (c : Change) → last_value (codes "changeType") ps ≡ Some (string type)
    → change_typed type (object (members_of ps)) ≡ Some c → change_in (object (members_of ps)) ≡ Some c
typed ps type c named is = ap (option_and_then (λ t. change_typed t (object (members_of ps)))) (text_is ps (codes "changeType") type named) ∙ is

one_is : (a : Act) (on attr value : List ℕ) → IsChange on attr value
    → change_in (object (members_of (change_object (change a on attr value)))) ≡ Some (change a on attr value)
one_is act.Set on attr value may =
    let ps = change_object (change act.Set on attr value) in
    typed ps (codes "set-attribute") (change act.Set on attr value) refl
    (set_change_is (object (members_of ps)) on attr value (ref_is ps (codes "permaNode") on may.on_ref refl) (named_is ps attr may.named refl) (text_is ps (codes "value") value refl))
one_is act.Add on attr value may =
    let ps = change_object (change act.Add on attr value) in
    typed ps (codes "add-attribute") (change act.Add on attr value) refl
    (add_change_is (object (members_of ps)) on attr value (ref_is ps (codes "permaNode") on may.on_ref refl) (named_is ps attr may.named refl) (text_is ps (codes "value") value refl))
one_is act.Del on attr [] may =
    let ps = change_object (change act.Del on attr []) in
    typed ps (codes "del-attribute") (change act.Del on attr []) refl
    (del_change_is (object (members_of ps)) on attr [] (ref_is ps (codes "permaNode") on may.on_ref refl) (named_is ps attr may.named refl) (ap text_or_empty (member_found ps (codes "value"))))
one_is act.Del on attr (c ∷ cs) may =
    let ps = change_object (change act.Del on attr (c ∷ cs)) in
    typed ps (codes "del-attribute") (change act.Del on attr (c ∷ cs)) refl
    (del_change_is (object (members_of ps)) on attr (c ∷ cs) (ref_is ps (codes "permaNode") on may.on_ref refl) (named_is ps attr may.named refl) (ap text_or_empty (member_found ps (codes "value"))))

all_are : (cs : List Change) → AreChanges cs → changes_in (items_of (map change_item cs)) ≡ Some cs
all_are [] may = refl
all_are (c ∷ cs) may =
    ap (option_and_then (λ d. option_map (λ ds. d ∷ ds) (changes_in (items_of (map change_item cs))))) (one_is c.act c.on c.attr c.value may.0)
    ∙ ap (option_map (λ ds. c ∷ ds)) (all_are cs may.1)

pub multi_is : (cs : List Change) (d : Data) → IsChangeCount (length cs) → AreChanges cs → get (codes "changes") d ≡ Some (changes_pair cs).value → multi_of d ≡ Some (Multi cs)
multi_is cs d few may is =
    let fits : is_change_count (length cs) ≡ true = and_from (nat_le 1 (length cs)) (nat_le (length cs) most_changes) (le-leb 1 (length cs) few.some) (le-leb (length cs) most_changes few.few) in
    ap (λ (o : Option Data). option_map Multi (option_and_then change_list_of (option_and_then as_array o))) is
    ∙ ap (λ (o : Option (List Change)). option_map Multi (option_and_then (λ changes. if is_change_count (length changes) then Some changes else None) o)) (all_are cs may)
    ∙ ap (λ (b : Bool). option_map Multi (cond b (Some cs) None)) fits

-- ---- UTF-8

type_utf8 : (a : Act) → IsUtf8 (act_type a)
type_utf8 act.Set = IsUtf8-are_ascii (codes "set-attribute") refl
type_utf8 act.Add = IsUtf8-are_ascii (codes "add-attribute") refl
type_utf8 act.Del = IsUtf8-are_ascii (codes "del-attribute") refl

values_utf8 : (a : Act) (value : List ℕ) → IsUtf8 value → PairsAreUtf8 (act_values a value)
values_utf8 act.Set value h = text_pair_utf8 (codes "value") value [] (IsUtf8-are_ascii (codes "value") refl) h tt
values_utf8 act.Add value h = text_pair_utf8 (codes "value") value [] (IsUtf8-are_ascii (codes "value") refl) h tt
values_utf8 act.Del [] h = tt
values_utf8 act.Del (c ∷ cs) h = text_pair_utf8 (codes "value") (c ∷ cs) [] (IsUtf8-are_ascii (codes "value") refl) h tt

one_utf8 : (c : Change) → IsChange c.on c.attr c.value → PairsAreUtf8 (change_object c)
one_utf8 c may =
    let more = act_values c.act c.value in
    text_pair_utf8 (codes "changeType") (act_type c.act) (text_pair (codes "permaNode") c.on ∷ text_pair (codes "attribute") c.attr ∷ more) (IsUtf8-are_ascii (codes "changeType") refl) (type_utf8 c.act)
    (text_pair_utf8 (codes "permaNode") c.on (text_pair (codes "attribute") c.attr ∷ more) (IsUtf8-are_ascii (codes "permaNode") refl) (blobref_utf8 c.on may.on_ref)
    (text_pair_utf8 (codes "attribute") c.attr more (IsUtf8-are_ascii (codes "attribute") refl) may.attr_utf8 (values_utf8 c.act c.value may.value_utf8)))

items_utf8 : (cs : List Change) → AreChanges cs → ItemsAreUtf8 (map change_item cs)
items_utf8 [] may = tt
items_utf8 (c ∷ cs) may = (object_utf8 (change_object c) (one_utf8 c may.0), items_utf8 cs may.1)

pub changes_utf8 : (cs : List Change) → AreChanges cs → PairsAreUtf8 (changes_pair cs ∷ [])
changes_utf8 cs may = (IsUtf8-are_ascii (codes "changes") refl, list_utf8 (map change_item cs) (items_utf8 cs may), tt)
