-- What stands in a written object, key by key.
use Rattle.std.proofs.Common.{◌≡◌, ◌∙◌, ◌&&◌, ◌++◌, ℕ, Bool, true, false, cond, not, List, [], ◌∷◌, map, fold, Option, Some, None, IfSome, is_some, option_map, option_and_then, if◌then◌else◌, bytes_eq, Ordering, refl, sym, ap, subst}
use Rattle.std.specs.declared.cmp.Ordering.TheVariants.{Less, Equal, Greater}
use Rattle.std.specs.Ordering.{nat_cmp, match_ordering}
use Rattle.std.specs.Cmp.Lexicographic.{slice_cmp}
use Rattle.std.specs.Cmp.Derive.{both_true}
use Rattle.std.specs.List.{list_any}
use Rattle.std.specs.Option.{option_or}
use Rattle.std.proofs.lemmas.Bool.{false≢true, and_parts}
use Rattle.std.proofs.lemmas.Slice.Eq.{bytes_eq-Decides}
use Rattle.serde_json.specs.Data.{Data, Members, no_members, member, put}
use Rattle.serde_json.specs.Find.{get}
use Rattle.json_laws.specs.Written.{Pair, Item, last_value}
use Rattle.json_laws.proofs.Found.{member_found}
use Rattle.query_read.specs.Faults.{Fault, Key, join, or_else, bad_key, bad_value, unknown, shape_fault, below, keys_fault, object_fault}
use Rattle.query_read.specs.Grammar.{leaf}
use Rattle.query_read.specs.Values.{under}
use Rattle.query_read.proofs.Conditions.{AllNone}
use Rattle.query_text.specs.Text.{Field, pairs_of, present, object_item}

-- ---- the value under a key

abbrev pub value_of : Option Item → Option Data
value_of o = option_map (λ item. item.value) o

-- what is written under a key
abbrev pub lookup : List ℕ → List Field → Option Item
lookup k [] = None
lookup k (f ∷ fs) = if bytes_eq k f.0 then f.1 else lookup k fs

abbrev absent : List ℕ → List Field → Bool
absent k [] = true
absent k (f ∷ fs) = not (bytes_eq k f.0) && absent k fs

-- no key comes twice
abbrev pub distinct : List Field → Bool
distinct [] = true
distinct (f ∷ fs) = absent f.0 fs && distinct fs

or_none : (o : Option Data) → option_or o None ≡ o
or_none None = refl
or_none (Some d) = refl

absent_step : (k key : List ℕ) (o : Option Item) (ps : List Pair) → not (bytes_eq k key) ≡ true → last_value k ps ≡ None
    → last_value k (pairs_of key o ++ ps) ≡ None
absent_step k key None ps n e = e
absent_step k key (Some item) ps n e =
    ap (λ o. option_or o (cond (bytes_eq k key) (Some item.value) None)) e ∙ by (bytes_eq k key) n
  where
    by : (b : Bool) → not b ≡ true → cond b (Some item.value) None ≡ None
    by true h = absurd (false≢true h)
    by false h = refl

not_found : (k : List ℕ) (fs : List Field) → absent k fs ≡ true → last_value k (present fs) ≡ None
not_found k [] h = refl
not_found k (f ∷ fs) h =
    let parts = and_parts _ _ h in
    absent_step k f.0 f.1 (present fs) parts.0 (not_found k fs parts.1)

found_step : (k key : List ℕ) (o rest : Option Item) (ps : List Pair) (b : Bool) → bytes_eq k key ≡ b → (b ≡ true → last_value k ps ≡ None)
    → last_value k ps ≡ value_of rest → last_value k (pairs_of key o ++ ps) ≡ value_of (if b then o else rest)
found_step k key None rest ps true e none is = none refl
found_step k key None rest ps false e none is = is
found_step k key (Some item) rest ps true e none is = λ i. option_or (none refl i) (cond (e i) (Some item.value) None)
found_step k key (Some item) rest ps false e none is = (λ i. option_or (is i) (cond (e i) (Some item.value) None)) ∙ or_none (value_of rest)

found : (k : List ℕ) (fs : List Field) → distinct fs ≡ true → last_value k (present fs) ≡ value_of (lookup k fs)
found k [] h = refl
found k (f ∷ fs) h =
    let parts = and_parts _ _ h in
    found_step k f.0 f.1 (lookup k fs) (present fs) (bytes_eq k f.0) refl
    (λ e. not_found k fs (subst (λ key. absent key fs ≡ true) (sym ((bytes_eq-Decides k f.0).0 e)) parts.0))
    (found k fs parts.1)

pub looked_up : (k : List ℕ) (fs : List Field) → distinct fs ≡ true → get k (object_item fs).value ≡ value_of (lookup k fs)
looked_up k fs h = member_found (present fs) k ∙ found k fs h

-- ---- no other keys

abbrev pub keys_known : List (List ℕ) → List Field → Bool
keys_known keys [] = true
keys_known keys (f ∷ fs) = list_any (bytes_eq f.0) keys && keys_known keys fs

abbrev pairs_known : List (List ℕ) → List Pair → Bool
pairs_known keys [] = true
pairs_known keys (p ∷ ps) = list_any (bytes_eq p.key) keys && pairs_known keys ps

known_step : (keys : List (List ℕ)) (key : List ℕ) (o : Option Item) (ps : List Pair) → list_any (bytes_eq key) keys ≡ true
    → pairs_known keys ps ≡ true → pairs_known keys (pairs_of key o ++ ps) ≡ true
known_step keys key None ps h e = e
known_step keys key (Some item) ps h e = both_true h e

known : (keys : List (List ℕ)) (fs : List Field) → keys_known keys fs ≡ true → pairs_known keys (present fs) ≡ true
known keys [] h = refl
known keys (f ∷ fs) h =
    let parts = and_parts _ _ h in
    known_step keys f.0 f.1 (present fs) parts.0 (known keys fs parts.1)

if_known : (b : Bool) (o : Option (List ℕ)) (key : List ℕ) → (if b then o else Some key) ≡ None → (b ≡ true) × (o ≡ None)
if_known true o key e = (refl, e)
if_known false o key e = absurd (false≢true (sym (ap is_some e)))

put_step : (keys : List (List ℕ)) (k l : List ℕ) (d v : Data) (ms : Members) (c : Ordering) → list_any (bytes_eq k) keys ≡ true
    → unknown keys (member l v ms) ≡ None → unknown keys (put k d ms) ≡ None
    → unknown keys (match_ordering c (member k d (member l v ms)) (member l d ms) (member l v (put k d ms))) ≡ None
put_step keys k l d v ms Less h e later = (λ i. if h i then unknown keys (member l v ms) else Some k) ∙ e
put_step keys k l d v ms Equal h e later = e
put_step keys k l d v ms Greater h e later =
    (λ i. if (if_known (list_any (bytes_eq l) keys) (unknown keys ms) l e).0 i then unknown keys (put k d ms) else Some l) ∙ later

put_known : (keys : List (List ℕ)) (k : List ℕ) (d : Data) (ms : Members) → list_any (bytes_eq k) keys ≡ true → unknown keys ms ≡ None
    → unknown keys (put k d ms) ≡ None
put_known keys k d no_members h e = λ i. if h i then None else Some k
put_known keys k d (member l v ms) h e =
    put_step keys k l d v ms (slice_cmp nat_cmp k l) h e
    (put_known keys k d ms h (if_known (list_any (bytes_eq l) keys) (unknown keys ms) l e).1)

all_known : (keys : List (List ℕ)) (ps : List Pair) (ms : Members) → pairs_known keys ps ≡ true → unknown keys ms ≡ None
    → unknown keys (fold (λ found p. put p.key p.value found) ms ps) ≡ None
all_known keys [] ms h e = e
all_known keys (p ∷ ps) ms h e =
    let parts = and_parts _ _ h in
    all_known keys ps (put p.key p.value ms) parts.1 (put_known keys p.key p.value ms parts.0 e)

shape_sound : (keys : List (List ℕ)) (path : List ℕ) (fs : List Field) → keys_known keys fs ≡ true → shape_fault keys path (object_item fs).value ≡ None
shape_sound keys path fs h = ap (option_and_then (bad_key path)) (all_known keys (present fs) no_members (known keys fs h) refl)

-- ---- no fault

keys_sound : (ks : List Key) (path : List ℕ) (d : Data) → AllNone ks path d → keys_fault ks path d ≡ None
keys_sound [] path d all = refl
keys_sound (k ∷ ks) path d all = (λ i. or_else (all.0 i) (keys_fault ks path d)) ∙ keys_sound ks path d all.1

-- an object without unknown keys, whose keys have no fault, and that meets its condition, has no fault
pub object_sound : (ks : List Key) (whole : Data → Bool) (path : List ℕ) (fs : List Field) → keys_known (map (λ k. k.0) ks) fs ≡ true
    → AllNone ks path (object_item fs).value → whole (object_item fs).value ≡ true → object_fault ks whole path (object_item fs).value ≡ None
object_sound ks whole path fs known all h =
    λ i. or_else (shape_sound (map (λ k. k.0) ks) path fs known i) (or_else (keys_sound ks path (object_item fs).value all i) (if h i then None else bad_value path))

-- ---- fields

-- what is written has no fault
abbrev pub NoFault : Fault → Item → Type 0
NoFault fault item = (path : List ℕ) → fault path item.value ≡ None

pub no_fault : (fault : Fault) (key path : List ℕ) (d : Data) (o : Option Item) → get key d ≡ value_of o → IfSome o (NoFault fault) → below fault key path d ≡ None
no_fault fault key path d None e h = ap (option_and_then (fault (join path key))) e
no_fault fault key path d (Some item) e h = ap (option_and_then (fault (join path key))) e ∙ h (join path key)

-- it is read as what it was written for
abbrev pub IsRead : {A : Type 0} → (Data → Option A) → (A → Item) → A → Type 0
IsRead reads item a = reads (item a).value ≡ Some a

pub leaf_sound : {A : Type 0} (reads : Data → Option A) (item : A → Item) (x : Option A) → IfSome x (IsRead reads item)
    → IfSome (option_map item x) (NoFault (leaf reads))
leaf_sound reads item None h = tt
leaf_sound reads item (Some a) h = λ path. ap (λ o. if is_some o then None else bad_value path) h

pub leaf_back : {A : Type 0} (reads : Data → Option A) (item : A → Item) (key : List ℕ) (d : Data) (x : Option A)
    → get key d ≡ value_of (option_map item x) → IfSome x (IsRead reads item) → under reads key d ≡ x
leaf_back reads item key d None e h = ap (option_and_then reads) e
leaf_back reads item key d (Some a) e h = ap (option_and_then reads) e ∙ h

pub is_there : {A : Type 0} (item : A → Item) (key : List ℕ) (d : Data) (x : Option A) → get key d ≡ value_of (option_map item x) → is_some (get key d) ≡ is_some x
is_there item key d None e = ap is_some e
is_there item key d (Some a) e = ap is_some e

pub all_some : {A : Type 0} (P : A → Type 0) → ((a : A) → P a) → (x : Option A) → IfSome x P
all_some P h None = tt
all_some P h (Some a) = h a

-- an object without a fault, that is read as what it was written for
abbrev pub IsBack : {A : Type 0} → Fault → (Data → A) → (A → Item) → A → Type 0
IsBack fault of item a = NoFault fault (item a) × (of (item a).value ≡ a)

pub object_field : {A : Type 0} (fault : Fault) (of : Data → A) (item : A → Item) (x : Option A) → IfSome x (IsBack fault of item)
    → IfSome (option_map item x) (NoFault fault)
object_field fault of item None h = tt
object_field fault of item (Some a) h = h.0

pub object_back : {A : Type 0} (fault : Fault) (of : Data → A) (item : A → Item) (key : List ℕ) (d : Data) (x : Option A)
    → get key d ≡ value_of (option_map item x) → IfSome x (IsBack fault of item) → under (λ e. Some (of e)) key d ≡ x
object_back fault of item key d None e h = ap (option_and_then (λ e. Some (of e))) e
object_back fault of item key d (Some a) e h = ap (option_and_then (λ e. Some (of e))) e ∙ ap Some h.1
