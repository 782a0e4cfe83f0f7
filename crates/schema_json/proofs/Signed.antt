-- What is signed is told by the payload and the signature: the whole blob has the payload's fields.
use Rattle.std.proofs.Common.{◌≡◌, ℕ, zero, suc, add-one, ◌+◌, ◌==◌, Bool, true, false, cond, if◌then◌else◌, List, [], ◌∷◌, ◌++◌, length, take, drop, get_or, codes, Option, Some, None, option_and_then, option_map, unwrap_or, is_none, refl, sym, ap, ◌∙◌, subst, arith, nat_lt, Ordering}
use Rattle.std.proofs.lemmas.Bool.{false≢true, cond-false, eqb-true}
use Rattle.std.proofs.lemmas.Str.{IsUtf8-from_is_utf8, IsUtf8-append, IsUtf8-take, IsUtf8-drop, IsCharBoundary-from_drop, IsCharBoundary-after_ascii}
use Rattle.std.proofs.lemmas.List.{take-append-drop, length-append}
use Rattle.std.proofs.lemmas.Option.{same_Some}
use Rattle.std.proofs.lemmas.Slice.Eq.{bytes_eq-Decides}
use Rattle.std.proofs.lemmas.Map.Text.{is_eq-slice_cmp}
use Rattle.std.proofs.Math.Seq.{take-append_seam, drop-append_seam}
use Rattle.std.specs.declared.cmp.Ordering.TheVariants.{Less, Equal, Greater}
use Rattle.std.specs.Cmp.Lexicographic.{slice_cmp}
use Rattle.std.specs.Ordering.{nat_cmp, match_ordering, is_eq}
use Rattle.std.specs.Option.{option_or}
use Rattle.std.specs.Str.{IsUtf8, is_utf8, bytes_eq}
use Rattle.json.proofs.Printed.Utf8.{IsUtf8-are_ascii}
use Rattle.claim_verify.specs.Split.{split_of, marker, IsLastPlace}
use Rattle.claim_verify.proofs.Places.{split-last}
use Rattle.serde_json.specs.Data.{Data, null, boolean, number, string, array, object, Members, no_members, member}
use Rattle.serde_json.specs.Events.{members_len}
use Rattle.serde_json.specs.Find.{get_member, as_str, as_array}
use Rattle.serde_json.specs.Read.{read}
use Rattle.schema_fact.specs.declared.kinds.Signed.{Signed}
use Rattle.schema_fact.specs.declared.parts.Part.{Part}
use Rattle.schema_fact.specs.Limits.{is_length, total_size}
use Rattle.schema_fact.specs.declared.kinds.Kind.{Kind}
use Rattle.schema_fact.specs.declared.kinds.Kind.TheVariants.{Plain, File, Bytes, Directory, StaticSet, Permanode, Claim, Unread}
use Rattle.json_laws.specs.Json.{json_in, whole_in}
use Rattle.schema_json.specs.Fields.{text_or_empty, ref_in, ref_at, refs_of, type_of, has_type}
use Rattle.schema_json.specs.Parts.{parts_of}
use Rattle.schema_json.specs.Signing.{signature_of, signature_after, signature_in, object_of, signed_at, signed_in}
use Rattle.schema_json.specs.Facts.{permanode_of, permanode_kind, date_of, what_of, claim_of, claim_kind, signed_kind, known_kind, object_kind, schema_kind, file_kind, bytes_kind, directory_kind, set_kind}
use Rattle.schema_json.specs.Reading.{signed_of, payload_kind, signed_first, unsigned_kind, unsigned_object, unsigned_in}
use Rattle.json_laws.proofs.Json.{json_in-text}
use Rattle.schema_json.proofs.Joined.{Joined, joined_read}

none : {A P : Type 0} (a : A) → None ≡ Some a → P
none a e = absurd (cc)

-- ---- where the payload ends

comma_first : (l : List ℕ) → marker ≡ take (length marker) l → l ≡ 44 ∷ drop 1 l
comma_first [] e = absurd (let p : marker ≡ [] = e in cc p)
comma_first (x ∷ xs) e = let head : 44 ≡ x = ap (λ l. get_or l 0 0) e in λ i. sym head i ∷ xs

one_dropped : (l : List ℕ) (n : ℕ) → drop (suc n) l ≡ drop 1 (drop n l)
one_dropped l zero = refl
one_dropped [] (suc n) = refl
one_dropped (x ∷ xs) (suc n) = one_dropped xs n

drop_more : (l : List ℕ) (n : ℕ) → drop (n + 1) l ≡ drop 1 (drop n l)
drop_more l n = ap (λ k. drop k l) (add-one n) ∙ one_dropped l n

comma_at : (b : List ℕ) (end : ℕ) → split_of b ≡ Some end → b ≡ take end b ++ 44 ∷ drop (end + 1) b
unfolding split_of
comma_at b end e =
    let last : IsLastPlace b end = split-last b (Some end) (sym e) in
    let front : marker ≡ take (length marker) (drop end b) = (bytes_eq-Decides marker (take (length marker) (drop end b))).0 last.here in
    sym (take-append-drop end b) ∙ ap (λ l. take end b ++ l) (comma_first (drop end b) front ∙ ap (λ l. 44 ∷ l) (sym (drop_more b end)))

-- ---- the parts of what is signed

record Parts (b : List ℕ) (d : Data) : Type 0 where
  pub end : ℕ
  pub split : split_of b ≡ Some end
  pub payload : object_of (take end b) ≡ Some d
  pub signer : List ℕ
  pub names : ref_at (codes "camliSigner") d ≡ Some signer
  pub sig : List ℕ
  pub after : signature_after (drop (end + 1) b) ≡ Some sig

found : (o : Option Data) (f : Data → Option (List ℕ)) (s : Option (List ℕ)) (make : List ℕ → List ℕ → Signed) (d : Data) (signed : Signed)
    → option_and_then {U = Data × Signed} (λ d. option_and_then {U = Data × Signed} (λ signer. option_map {U = Data × Signed} (λ sig. (d, make signer sig)) s) (f d)) o ≡ Some (d, signed)
    → (o ≡ Some d) × (t : List ℕ) × (s ≡ Some t) × (u : List ℕ) × (f d ≡ Some u)
found None f s make d signed e = none (d, signed) e
found (Some c) f s make d signed e = by (f c) refl s e
  where
    by : (g : Option (List ℕ)) → f c ≡ g → (s : Option (List ℕ)) → option_and_then {U = Data × Signed} (λ signer. option_map {U = Data × Signed} (λ sig. (c, make signer sig)) s) g ≡ Some (d, signed)
        → (Some c ≡ Some d) × (t : List ℕ) × (s ≡ Some t) × (u : List ℕ) × (f d ≡ Some u)
    by None is s e = none (d, signed) e
    by (Some signer) is None e = none (d, signed) e
    by (Some signer) is (Some t) e =
        let same = same_Some (c, make signer t) (d, signed) e in
        (ap (λ p. Some p.0) same, t, refl, signer, ap (λ p. f p.0) (sym same) ∙ is)

parts : (b : List ℕ) (d : Data) (signed : Signed) → signed_in b ≡ Some (d, signed) → Parts b d
parts b d signed e = by (split_of b) refl e
  where
    by : (o : Option ℕ) → split_of b ≡ o → option_and_then (signed_at b) o ≡ Some (d, signed) → Parts b d
    by None is e = none (d, signed) e
    by (Some end) is e =
        let f = found (object_of (take end b)) (ref_at (codes "camliSigner")) (signature_after (drop (end + 1) b)) (λ signer sig. record { signer = signer; payload = take end b; sig = sig }) d signed e in
        record { end = end; split = is; payload = f.0; signer = f.3; names = f.4; sig = f.1; after = f.2 }

-- ---- UTF-8

read_of : (x : List ℕ) (d : Data) → json_in x ≡ Some d → IsUtf8 x × (read x ≡ Some d)
read_of x d e = by (is_utf8 x) refl e
  where
    by : (b : Bool) → is_utf8 x ≡ b → cond b (read x) None ≡ Some d → IsUtf8 x × (read x ≡ Some d)
    by true is e = (IsUtf8-from_is_utf8 x is, e)
    by false is e = none d e

whole_utf8 : (p r : List ℕ) → IsUtf8 (p ++ 125 ∷ []) → IsUtf8 (123 ∷ r) → IsUtf8 (p ++ 44 ∷ r)
whole_utf8 p r a b =
    let sum = length-append p (125 ∷ []) in
    let seam = IsCharBoundary-from_drop (p ++ 125 ∷ []) (length p) (omega (arith, sum)) (subst IsUtf8 (sym (drop-append_seam p (125 ∷ []))) (IsUtf8-are_ascii (125 ∷ []) refl)) in
    let front : IsUtf8 p = subst IsUtf8 (take-append_seam p (125 ∷ [])) (IsUtf8-take (p ++ 125 ∷ []) (length p) a seam) in
    let back : IsUtf8 r = IsUtf8-drop (123 ∷ r) 1 b (IsCharBoundary-after_ascii (123 ∷ r) 0 b (omega arith) (omega arith)) in
    IsUtf8-append p (44 ∷ r) front (IsUtf8-append (44 ∷ []) r (IsUtf8-are_ascii (44 ∷ []) refl) back)

-- ---- the object of the signature

-- a key that an object with the one key `camliSig` lacks
abbrev IsOther : List ℕ → Type 0
IsOther k = (e : Data) → get_member k (member (codes "camliSig") e no_members) ≡ None

-- the one key is `camliSig`
pub record Alone (ns : Members) : Type 0 where
  pub value : Data
  pub has : get_member (codes "camliSig") ns ≡ Some value
  pub gone : (k : List ℕ) → IsOther k → get_member k ns ≡ None

is_one : (l : List ℕ) (e v : Data) (o : Ordering) → slice_cmp nat_cmp (codes "camliSig") l ≡ o → match_ordering o None (Some e) None ≡ Some v → codes "camliSig" ≡ l
is_one l e v Less is h = none v h
is_one l e v Equal is h = (bytes_eq-Decides (codes "camliSig") l).0 (sym (is_eq-slice_cmp (codes "camliSig") l) ∙ ap is_eq is)
is_one l e v Greater is h = none v h

alone : (ns : Members) (v : Data) → (members_len ns == 1) ≡ true → get_member (codes "camliSig") ns ≡ Some v → Alone ns
alone no_members v one h = none v h
alone (member l e no_members) v one h =
    let is : codes "camliSig" ≡ l = is_one l e v (slice_cmp nat_cmp (codes "camliSig") l) refl h in
    record {
      value = v;
      has = h;
      gone = λ k other. ap (λ key. get_member k (member key e no_members)) (sym is) ∙ other e;
    }
alone (member l e (member m f ns)) v one h = absurd (let p = eqb-true (members_len (member l e (member m f ns))) 1 one in omega (arith, p))

signature_object : (s : Data) (sig : List ℕ) → signature_of s ≡ Some sig → (ns : Members) × (s ≡ object ns) × Alone ns
signature_object null sig e = none sig e
signature_object (boolean b) sig e = none sig e
signature_object (number n) sig e = none sig e
signature_object (string t) sig e = none sig e
signature_object (array ds) sig e = none sig e
signature_object (object ns) sig e = by (members_len ns == 1) refl (get_member (codes "camliSig") ns) refl e
  where
    by : (b : Bool) → (members_len ns == 1) ≡ b → (o : Option Data) → get_member (codes "camliSig") ns ≡ o → cond b (option_and_then signature_in (option_and_then as_str o)) None ≡ Some sig
        → (ms : Members) × (object ns ≡ object ms) × Alone ms
    by false one o has e = none sig e
    by true one None has e = none sig e
    by true one (Some v) has e = (ns, refl, alone ns v one has)

-- ---- the fields of the whole

-- a payload's object has members
signer_of : (d : Data) (signer : List ℕ) → ref_at (codes "camliSigner") d ≡ Some signer → (ms : Members) × (v : Data) × (d ≡ object ms) × (get_member (codes "camliSigner") ms ≡ Some v)
signer_of null signer e = none signer e
signer_of (boolean b) signer e = none signer e
signer_of (number n) signer e = none signer e
signer_of (string t) signer e = none signer e
signer_of (array ds) signer e = none signer e
signer_of (object ms) signer e = by (get_member (codes "camliSigner") ms) refl e
  where
    by : (o : Option Data) → get_member (codes "camliSigner") ms ≡ o → option_and_then ref_in o ≡ Some signer
        → (ns : Members) × (v : Data) × (object ms ≡ object ns) × (get_member (codes "camliSigner") ns ≡ Some v)
    by None is e = none signer e
    by (Some v) is e = (ms, v, refl, is)

members_of : Data → Members
members_of null = no_members
members_of (boolean b) = no_members
members_of (number n) = no_members
members_of (string t) = no_members
members_of (array ds) = no_members
members_of (object ms) = ms

same_members : (ms ns : Members) → Some (object ms) ≡ Some (object ns) → ms ≡ ns
unfolding members_of
same_members ms ns e = ap members_of (same_Some (object ms) (object ns) e)

after_object : (r sig : List ℕ) → signature_after r ≡ Some sig → (ns : Members) × (json_in (123 ∷ r) ≡ Some (object ns)) × Alone ns
after_object r sig e = by (json_in (123 ∷ r)) refl e
  where
    by : (o : Option Data) → json_in (123 ∷ r) ≡ o → option_and_then signature_of o ≡ Some sig → (ns : Members) × (json_in (123 ∷ r) ≡ Some (object ns)) × Alone ns
    by None is e = none sig e
    by (Some s) is e = let q = signature_object s sig e in (q.0, is ∙ ap Some q.1, q.2)

-- the whole blob reads as an object that has the payload's fields
record Whole (b : List ℕ) (ms : Members) : Type 0 where
  pub out : Members
  pub is : json_in b ≡ Some (object out)
  pub same : (k : List ℕ) → IsOther k → get_member k out ≡ get_member k ms

whole : (b : List ℕ) (d : Data) (signed : Signed) → signed_in b ≡ Some (d, signed) → (ms : Members) × (d ≡ object ms) × Whole b ms
whole b d signed e =
    let s = parts b d signed e in
    let p = take s.end b in
    let r = drop (s.end + 1) b in
    let one = read_of (p ++ 125 ∷ []) d s.payload in
    let t = signer_of d s.signer s.names in
    let q = after_object r s.sig s.after in
    let two = read_of (123 ∷ r) (object q.0) q.1 in
    let joined : (k : List ℕ) → IsOther k → Joined (p ++ 44 ∷ r) k t.0 = λ k other.
    joined_read p r k (codes "camliSigner") (codes "camliSig") t.0 q.0 t.1 q.2.value (one.1 ∙ ap Some t.2) two.1 t.3 q.2.has (q.2.gone k other) in
    let first = joined (codes "camliType") (λ v. refl) in (
      t.0,
      t.2,
      record {
        out = first.out;
        is = ap json_in (comma_at b s.end s.split) ∙ sym (json_in-text (p ++ 44 ∷ r) (object first.out) (whole_utf8 p r one.0 two.0) first.is);
        same = λ k other. ap (get_member k) (same_members first.out (joined k other).out (sym first.is ∙ (joined k other).is)) ∙ (joined k other).same;
      },
    )

abbrev type_by : Option Data → Option Data → Option (List ℕ)
type_by version type = option_and_then (λ v. if v == 1 then option_and_then as_str type else None) (option_and_then whole_in version)

-- and so of its type
pub whole_type : (b : List ℕ) (d : Data) (signed : Signed) (name : List ℕ) → signed_in b ≡ Some (d, signed) → type_of d ≡ Some name → (w : Data) × (json_in b ≡ Some w) × (type_of w ≡ Some name)
whole_type b d signed name e typed =
    let w = whole b d signed e in
    let same : type_of (object w.2.out) ≡ type_of (object w.0) = λ i. type_by (w.2.same (codes "camliVersion") (λ v. refl) i) (w.2.same (codes "camliType") (λ v. refl) i) in
    (object w.2.out, w.2.is, same ∙ ap type_of (sym w.1) ∙ typed)

-- ---- kinds

pub typed_by : (d : Data) (name : List ℕ) → has_type name d ≡ true → type_of d ≡ Some name
typed_by d name h = by (type_of d) h
  where
    by : (o : Option (List ℕ)) → unwrap_or (option_map (λ type. bytes_eq type name) o) false ≡ true → o ≡ Some name
    by None h = absurd (false≢true h)
    by (Some type) h = ap Some ((bytes_eq-Decides type name).0 h)

-- what the whole says, where it reads as an object of a type
abbrev by_type : List ℕ → Data → Option (List ℕ) → Kind
by_type b w o = unwrap_or (option_map (λ type. unwrap_or (known_kind type b w) (Unread type)) o) Plain

permanode_first : (b : List ℕ) (d : Data) (signed : Signed) → signed_in b ≡ Some (d, signed) → has_type (codes "permanode") d ≡ true
    → unwrap_or (option_map (object_kind b) (json_in b)) Plain ≡ Permanode signed
permanode_first b d signed e h =
    let w = whole_type b d signed (codes "permanode") e (typed_by d (codes "permanode") h) in
    ap (λ o. unwrap_or (option_map (object_kind b) o) Plain) w.1
    ∙ ap (by_type b w.0) w.2
    ∙ ap (λ o. unwrap_or (option_and_then (λ found. permanode_of found.0 found.1) o) (Unread (codes "permanode"))) e
    ∙ ap (λ t. unwrap_or (cond t (Some (Permanode signed)) None) (Unread (codes "permanode"))) h

claim_first : (b : List ℕ) (d : Data) (signed : Signed) (k : Kind) → signed_in b ≡ Some (d, signed) → has_type (codes "claim") d ≡ true → claim_of d signed ≡ Some k
    → unwrap_or (option_map (object_kind b) (json_in b)) Plain ≡ k
claim_first b d signed k e h is =
    let w = whole_type b d signed (codes "claim") e (typed_by d (codes "claim") h) in
    ap (λ o. unwrap_or (option_map (object_kind b) o) Plain) w.1
    ∙ ap (by_type b w.0) w.2
    ∙ ap (λ o. unwrap_or (option_and_then (λ found. claim_of found.0 found.1) o) (Unread (codes "claim"))) e
    ∙ ap (λ o. unwrap_or o (Unread (codes "claim"))) is

signed_kinds : (b : List ℕ) (d : Data) (signed : Signed) (k : Kind) → signed_in b ≡ Some (d, signed) → signed_of d signed ≡ Some k
    → unwrap_or (option_map (object_kind b) (json_in b)) Plain ≡ k
signed_kinds b d signed k e is = by (has_type (codes "permanode") d) refl (has_type (codes "claim") d) refl is
  where
    by : (p : Bool) → has_type (codes "permanode") d ≡ p → (c : Bool) → has_type (codes "claim") d ≡ c
        → option_or (cond p (Some (Permanode signed)) None) (cond c (option_and_then (λ date. option_map (Claim signed date) (what_of d)) (date_of d)) None) ≡ Some k
        → unwrap_or (option_map (object_kind b) (json_in b)) Plain ≡ k
    by true h c g is = permanode_first b d signed e h ∙ same_Some (Permanode signed) k is
    by false h true g is = claim_first b d signed k e g (ap (λ t. cond t (option_and_then (λ date. option_map (Claim signed date) (what_of d)) (date_of d)) None) g ∙ is)
    by false h false g is = none k is

-- ---- what needn't be signed

neither : (x y : Option Kind) → option_or x y ≡ None → (x ≡ None) × (y ≡ None)
neither None y e = (refl, e)
neither (Some k) y e = none k (sym e)

-- the blob is no permanode and no claim
abbrev IsNeither : List ℕ → Type 0
IsNeither b = (permanode_kind b ≡ None) × (claim_kind b ≡ None)

unsigned_neither : (b : List ℕ) → signed_in b ≡ None → IsNeither b
unsigned_neither b e =
    (ap (λ o. option_and_then (λ found. permanode_of found.0 found.1) o) e, ap (λ o. option_and_then (λ found. claim_of found.0 found.1) o) e)

signed_neither : (b : List ℕ) (d : Data) (signed : Signed) → signed_in b ≡ Some (d, signed) → signed_of d signed ≡ None → IsNeither b
signed_neither b d signed e lacks =
    let n = neither (permanode_of d signed) (claim_of d signed) lacks in
    (ap (λ o. option_and_then (λ found. permanode_of found.0 found.1) o) e ∙ n.0, ap (λ o. option_and_then (λ found. claim_of found.0 found.1) o) e ∙ n.1)

abbrev Nothing : Option Kind
Nothing = None

never : (x y : Bool) → cond x Nothing (cond y Nothing Nothing) ≡ Nothing
never true y = refl
never false true = refl
never false false = refl

unsigned_is_known : (b : List ℕ) (type : List ℕ) (w : Data) → IsNeither b → unsigned_kind type w ≡ known_kind type b w
unsigned_is_known b type w gone =
    let last : None ≡ signed_kind type b = sym ((λ i. cond (bytes_eq type (codes "permanode")) (gone.0 i) (cond (bytes_eq type (codes "claim")) (gone.1 i) None)) ∙ never (bytes_eq type (codes "permanode")) (bytes_eq type (codes "claim"))) in
    λ i. cond (bytes_eq type (codes "file")) (file_kind w) (cond (bytes_eq type (codes "bytes")) (bytes_kind w) (cond (bytes_eq type (codes "directory")) (directory_kind w) (cond (bytes_eq type (codes "static-set")) (set_kind w) (last i))))

unsigned_is_object : (b : List ℕ) (w : Data) → IsNeither b → unsigned_object w ≡ object_kind b w
unsigned_is_object b w gone = by (type_of w)
  where
    by : (o : Option (List ℕ)) → unwrap_or (option_map (λ type. unwrap_or (unsigned_kind type w) (Unread type)) o) Plain ≡ by_type b w o
    by None = refl
    by (Some type) = ap (λ k. unwrap_or k (Unread type)) (unsigned_is_known b type w gone)

-- what an object says, by its fields
abbrev parts_by : Option Data → Option (List Part)
parts_by field = option_and_then (λ parts. if is_length (total_size parts) then Some parts else None) (option_and_then parts_of (option_and_then as_array field))

abbrev kind_by : List ℕ → (name parts listing members merged : Option Data) → Option Kind
kind_by type name parts listing members merged =
    if bytes_eq type (codes "file") then option_and_then (λ n. option_map (File n) (parts_by parts)) (text_or_empty name)
    else if bytes_eq type (codes "bytes") then option_map Bytes (parts_by parts)
    else if bytes_eq type (codes "directory") then option_and_then (λ n. option_map (Directory n) (option_and_then ref_in listing)) (text_or_empty name)
    else if bytes_eq type (codes "static-set") then (if is_none merged then option_map StaticSet (option_and_then refs_of (option_and_then as_array members)) else None)
    else None

abbrev object_by : (version type name parts listing members merged : Option Data) → Kind
object_by version type name parts listing members merged = unwrap_or (option_map (λ t. unwrap_or (kind_by t name parts listing members merged) (Unread t)) (type_by version type)) Plain

same_object : (out ms : Members) → ((k : List ℕ) → IsOther k → get_member k out ≡ get_member k ms) → unsigned_object (object out) ≡ unsigned_object (object ms)
same_object out ms same =
    λ i. object_by (same (codes "camliVersion") (λ v. refl) i) (same (codes "camliType") (λ v. refl) i) (same (codes "fileName") (λ v. refl) i) (same (codes "parts") (λ v. refl) i)
    (same (codes "entries") (λ v. refl) i) (same (codes "members") (λ v. refl) i) (same (codes "mergeSets") (λ v. refl) i)

payload_alone : (b : List ℕ) (d : Data) (signed : Signed) → signed_in b ≡ Some (d, signed) → signed_of d signed ≡ None
    → unwrap_or (option_map (object_kind b) (json_in b)) Plain ≡ unsigned_object d
payload_alone b d signed e lacks =
    let w = whole b d signed e in
    ap (λ o. unwrap_or (option_map (object_kind b) o) Plain) w.2.is
    ∙ sym (unsigned_is_object b (object w.2.out) (signed_neither b d signed e lacks))
    ∙ same_object w.2.out w.0 w.2.same
    ∙ ap unsigned_object (sym w.1)

-- ---- both

pub signed_is : (b : List ℕ) (k : Kind) → nat_lt 1048576 (length b) ≡ false → Some k ≡ signed_first b → k ≡ schema_kind b
signed_is b k short is = sym (cond-false (nat_lt 1048576 (length b)) Plain _ short ∙ by (signed_in b) refl (sym is))
  where
    payload : (d : Data) (signed : Signed) → signed_in b ≡ Some (d, signed) → (o : Option Kind) → signed_of d signed ≡ o
        → unwrap_or (option_map (object_kind b) (json_in b)) Plain ≡ unwrap_or o (unsigned_object d)
    payload d signed e None lacks = payload_alone b d signed e lacks
    payload d signed e (Some j) is = signed_kinds b d signed j e is

    by : (o : Option (Data × Signed)) → signed_in b ≡ o → option_map (λ found. payload_kind found.0 found.1) o ≡ Some k → unwrap_or (option_map (object_kind b) (json_in b)) Plain ≡ k
    by None e is = none k is
    by (Some (d, signed)) e is = payload d signed e (signed_of d signed) refl ∙ same_Some (payload_kind d signed) k is

pub unsigned_is : (b : List ℕ) → nat_lt 1048576 (length b) ≡ false → None ≡ signed_first b → unsigned_in b ≡ schema_kind b
unsigned_is b short is = by (signed_in b) refl is ∙ sym (cond-false (nat_lt 1048576 (length b)) Plain _ short)
  where
    read_whole : IsNeither b → (o : Option Data) → unwrap_or (option_map unsigned_object o) Plain ≡ unwrap_or (option_map (object_kind b) o) Plain
    read_whole gone None = refl
    read_whole gone (Some w) = unsigned_is_object b w gone

    by : (o : Option (Data × Signed)) → signed_in b ≡ o → None ≡ option_map (λ found. payload_kind found.0 found.1) o → unsigned_in b ≡ unwrap_or (option_map (object_kind b) (json_in b)) Plain
    by None e is = read_whole (unsigned_neither b e) (json_in b)
    by (Some (d, signed)) e is = none (payload_kind d signed) is
