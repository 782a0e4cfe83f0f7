-- What is read is valid: a part list and a list of changes that are read meet their limits.
use Rattle.std.proofs.Common.{◌≡◌, ℕ, ℤ, ◌≤◌, nat_le, List, ◌∷◌, length, Bool, true, false, if◌then◌else◌, Option, Some, None, option_and_then, option_map, unwrap_or, IfSome, refl, codes, nat_lt, is_none, All}
use Rattle.std.proofs.lemmas.Bool.{leb-true, and_parts}
use Rattle.std.proofs.lemmas.List.Elements.{All-cons, All-nil}
use Rattle.std.specs.Str.{bytes_eq}
use Rattle.serde_json.specs.Data.{Data, Items, no_items, item}
use Rattle.serde_json.specs.Find.{get, as_array}
use Rattle.json_laws.specs.Json.{json_in}
use Rattle.schema_json.specs.Fields.{whole_at, whole_or_zero, text_at, type_of, ref_at, refs_at}
use Rattle.schema_json.specs.Parts.{length_in, origin_in, part_in, parts_of, part_list_of}
use Rattle.schema_fact.specs.Limits.{greatest_length, is_length, total_size, IsShortPart, MeetsLimits, most_changes, is_change_count, IsChangeCount}
use Rattle.schema_json.specs.Signing.{signed_in}
use Rattle.schema_json.specs.Facts.{file_name_of, file_kind, bytes_kind, directory_kind, set_kind, permanode_of, permanode_kind, date_of, set_change, add_change, del_change, set_of, add_of, del_of, delete_of, changes_in, change_list_of, multi_of, what_by, what_of, claim_of, claim_kind, signed_kind, known_kind, object_kind, schema_kind, kind_of, key_in}
use Rattle.schema_fact.specs.Validity.{IsValidKind, HasValidChanges}
use Rattle.schema_fact.specs.declared.parts.Origin.{Origin}
use Rattle.schema_fact.specs.declared.parts.Part.{Part}
use Rattle.schema_fact.specs.declared.changes.Change.{Change}
use Rattle.schema_fact.specs.declared.kinds.Signed.{Signed}
use Rattle.schema_fact.specs.declared.kinds.What.{What}
use Rattle.schema_fact.specs.declared.kinds.What.TheVariants.{Set, Add, Del, Delete, Multi}
use Rattle.schema_fact.specs.declared.kinds.Kind.{Kind}
use Rattle.schema_fact.specs.declared.kinds.Kind.TheVariants.{Plain, Key, File, Bytes, Directory, StaticSet, Permanode, Claim, Unread}

-- what holds of each value that may be found
follows : {A B : Type 0} (P : B → Type 0) (f : A → Option B) (o : Option A) → ((a : A) → IfSome (f a) P) → IfSome (option_and_then f o) P
follows P f None h = tt
follows P f (Some a) h = h a

made : {A : Type 0} (f : A → Kind) (o : Option A) → ((a : A) → IsValidKind (f a)) → IfSome (option_map f o) IsValidKind
made f None h = tt
made f (Some a) h = h a

made_of : (f : List Part → Kind) (o : Option (List Part)) → IfSome o MeetsLimits → ((ps : List Part) → MeetsLimits ps → IsValidKind (f ps)) → IfSome (option_map f o) IsValidKind
made_of f None p h = tt
made_of f (Some ps) p h = h ps p

either : (b : Bool) (x y : Option Kind) → IfSome x IsValidKind → IfSome y IsValidKind → IfSome (if b then x else y) IsValidKind
either true x y p q = p
either false x y p q = q

found_or : (o : Option Kind) (k : Kind) → IfSome o IsValidKind → IsValidKind k → IsValidKind (unwrap_or o k)
found_or None k p q = q
found_or (Some found) k p q = p

-- part lists
within : (n : ℕ) (b : Bool) → is_length n ≡ b → IfSome (if b then Some n else None) (λ k. k ≤ greatest_length)
within n true e = leb-true n greatest_length e
within n false e = tt

short_length : (o : Option ℕ) → IfSome (length_in o) (λ n. n ≤ greatest_length)
short_length o = follows (λ n. n ≤ greatest_length) (λ n. if is_length n then Some n else None) o (λ n. within n (is_length n) refl)

short_part : (s f : Option ℕ) (o : Option Origin) → IfSome s (λ n. n ≤ greatest_length) → IfSome f (λ n. n ≤ greatest_length)
    → IfSome (option_and_then (λ size. option_and_then (λ offset. option_map (λ origin. record { size = size; offset = offset; origin = origin }) o) f) s) IsShortPart
short_part None f o p q = tt
short_part (Some size) None o p q = tt
short_part (Some size) (Some offset) None p q = tt
short_part (Some size) (Some offset) (Some origin) p q = (p, q)

part : (d : Data) → IfSome (part_in d) IsShortPart
part d =
    short_part (length_in (whole_at (codes "size") d)) (length_in (whole_or_zero (get (codes "offset") d))) (origin_in d)
    (short_length (whole_at (codes "size") d)) (short_length (whole_or_zero (get (codes "offset") d)))

more : (o : Option Part) (os : Option (List Part)) → IfSome o IsShortPart → IfSome os (All IsShortPart)
    → IfSome (option_and_then (λ p. option_map (λ ps. p ∷ ps) os) o) (All IsShortPart)
more None os p q = tt
more (Some first) None p q = tt
more (Some first) (Some rest) p q = All-cons IsShortPart first rest p q

parts : (ds : Items) → IfSome (parts_of ds) (All IsShortPart)
parts no_items = All-nil IsShortPart
parts (item d ds) = more (part_in d) (parts_of ds) (part d) (parts ds)

limited : (ps : List Part) (b : Bool) → is_length (total_size ps) ≡ b → All IsShortPart ps → IfSome (if b then Some ps else None) MeetsLimits
limited ps true e each = record { each = each; together = leb-true (total_size ps) greatest_length e }
limited ps false e each = tt

limited_all : (o : Option (List Part)) → IfSome o (All IsShortPart) → IfSome (option_and_then (λ ps. if is_length (total_size ps) then Some ps else None) o) MeetsLimits
limited_all None h = tt
limited_all (Some ps) h = limited ps (is_length (total_size ps)) refl h

any_parts : (o : Option Items) → IfSome (option_and_then parts_of o) (All IsShortPart)
any_parts o = follows (All IsShortPart) parts_of o parts

part_list : (d : Data) → IfSome (part_list_of d) MeetsLimits
part_list d = limited_all (option_and_then parts_of (option_and_then as_array (get (codes "parts") d))) (any_parts (option_and_then as_array (get (codes "parts") d)))

-- lists of changes
counted : (changes : List Change) (b : Bool) → is_change_count (length changes) ≡ b → IfSome (if b then Some changes else None) (λ list. IsChangeCount (length list))
counted changes true e =
    let parts = and_parts (nat_le 1 (length changes)) (nat_le (length changes) most_changes) e in
    record { some = leb-true 1 (length changes) parts.0; few = leb-true (length changes) most_changes parts.1 }
counted changes false e = tt

pub change_list : (items : Items) → IfSome (change_list_of items) (λ list. IsChangeCount (length list))
change_list items = by (changes_in items)
  where
    by : (o : Option (List Change)) → IfSome (option_and_then (λ changes. if is_change_count (length changes) then Some changes else None) o) (λ list. IsChangeCount (length list))
    by None = tt
    by (Some changes) = counted changes (is_change_count (length changes)) refl

-- what claims say
said : {A : Type 0} (f : A → What) (o : Option A) → ((a : A) → HasValidChanges (f a)) → IfSome (option_map f o) HasValidChanges
said f None h = tt
said f (Some a) h = h a

either_said : (b : Bool) (x y : Option What) → IfSome x HasValidChanges → IfSome y HasValidChanges → IfSome (if b then x else y) HasValidChanges
either_said true x y p q = p
either_said false x y p q = q

multi : (d : Data) → IfSome (multi_of d) HasValidChanges
multi d = by (option_and_then change_list_of (option_and_then as_array (get (codes "changes") d))) (any (option_and_then as_array (get (codes "changes") d)))
  where
    any : (o : Option Items) → IfSome (option_and_then change_list_of o) (λ list. IsChangeCount (length list))
    any None = tt
    any (Some items) = change_list items

    by : (o : Option (List Change)) → IfSome o (λ list. IsChangeCount (length list)) → IfSome (option_map Multi o) HasValidChanges
    by None h = tt
    by (Some list) h = h

typed : (type : List ℕ) (d : Data) → IfSome (what_by type d) HasValidChanges
typed type d =
    either_said (bytes_eq type (codes "set-attribute")) (set_of d) _ (said (λ (c : Change). Set c.on c.attr c.value) (set_change d) (λ c. tt))
    (either_said (bytes_eq type (codes "add-attribute")) (add_of d) _ (said (λ (c : Change). Add c.on c.attr c.value) (add_change d) (λ c. tt))
    (either_said (bytes_eq type (codes "del-attribute")) (del_of d) _ (said (λ (c : Change). Del c.on c.attr c.value) (del_change d) (λ c. tt))
    (either_said (bytes_eq type (codes "delete")) (delete_of d) _ (said Delete (ref_at (codes "target") d) (λ r. tt))
    (either_said (bytes_eq type (codes "multi")) (multi_of d) None (multi d) tt))))

what : (d : Data) → IfSome (what_of d) HasValidChanges
what d = by (text_at (codes "claimType") d)
  where
    by : (o : Option (List ℕ)) → IfSome (option_and_then (λ type. what_by type d) o) HasValidChanges
    by None = tt
    by (Some type) = typed type d

-- kinds
file : (d : Data) → IfSome (file_kind d) IsValidKind
file d = follows IsValidKind (λ name. option_map (File name) (part_list_of d)) (file_name_of d) (λ name. made_of (File name) (part_list_of d) (part_list d) (λ ps h. h))

bytes : (d : Data) → IfSome (bytes_kind d) IsValidKind
bytes d = made_of Bytes (part_list_of d) (part_list d) (λ ps h. h)

directory : (d : Data) → IfSome (directory_kind d) IsValidKind
directory d = follows IsValidKind (λ name. option_map (Directory name) (ref_at (codes "entries") d)) (file_name_of d) (λ name. made (Directory name) (ref_at (codes "entries") d) (λ r. tt))

static_set : (d : Data) → IfSome (set_kind d) IsValidKind
static_set d = either (is_none (get (codes "mergeSets") d)) (option_map StaticSet (refs_at (codes "members") d)) None (made StaticSet (refs_at (codes "members") d) (λ rs. tt)) tt

permanode : (blob : List ℕ) → IfSome (permanode_kind blob) IsValidKind
permanode blob = follows IsValidKind (λ found. permanode_of found.0 found.1) (signed_in blob) (λ found. either _ (Some (Permanode found.1)) None tt tt)

dated : (signed : Signed) (d : Data) → IfSome (option_and_then (λ date. option_map (Claim signed date) (what_of d)) (date_of d)) IsValidKind
dated signed d = follows IsValidKind (λ date. option_map (Claim signed date) (what_of d)) (date_of d) (λ date. by date (what_of d) (what d))
  where
    by : (date : ℤ) (o : Option What) → IfSome o HasValidChanges → IfSome (option_map (Claim signed date) o) IsValidKind
    by date None h = tt
    by date (Some w) h = h

claim_kinds : (blob : List ℕ) → IfSome (claim_kind blob) IsValidKind
claim_kinds blob = follows IsValidKind (λ found. claim_of found.0 found.1) (signed_in blob) (λ found. either _ _ None (dated found.1 found.0) tt)

signed : (type blob : List ℕ) → IfSome (signed_kind type blob) IsValidKind
signed type blob = either (bytes_eq type (codes "permanode")) (permanode_kind blob) _ (permanode blob) (either (bytes_eq type (codes "claim")) (claim_kind blob) None (claim_kinds blob) tt)

known : (type blob : List ℕ) (d : Data) → IfSome (known_kind type blob d) IsValidKind
known type blob d =
    either (bytes_eq type (codes "file")) (file_kind d) _ (file d)
    (either (bytes_eq type (codes "bytes")) (bytes_kind d) _ (bytes d)
    (either (bytes_eq type (codes "directory")) (directory_kind d) _ (directory d)
    (either (bytes_eq type (codes "static-set")) (set_kind d) (signed_kind type blob) (static_set d) (signed type blob))))

of_object : (blob : List ℕ) (d : Data) → IsValidKind (object_kind blob d)
of_object blob d =
    found_or (option_map (λ type. unwrap_or (known_kind type blob d) (Unread type)) (type_of d)) Plain
    (made (λ type. unwrap_or (known_kind type blob d) (Unread type)) (type_of d) (λ type. found_or (known_kind type blob d) (Unread type) (known type blob d) tt)) tt

by_size : (b : Bool) (k : Kind) → IsValidKind k → IsValidKind (if b then Plain else k)
by_size true k h = tt
by_size false k h = h

of_schema : (blob : List ℕ) → IsValidKind (schema_kind blob)
of_schema blob = by_size (nat_lt 1048576 (length blob)) _ (found_or (option_map (object_kind blob) (json_in blob)) Plain (made (object_kind blob) (json_in blob) (of_object blob)) tt)

pub IsValidKind-kind_of : (blob : List ℕ) → IsValidKind (kind_of blob)
IsValidKind-kind_of blob = found_or (option_map Key (key_in blob)) (schema_kind blob) (made Key (key_in blob) (λ name. tt)) (of_schema blob)
