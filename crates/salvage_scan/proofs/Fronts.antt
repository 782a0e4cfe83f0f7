-- What a text begins with depends on that beginning alone.
use Rattle.std.proofs.Common.{◌≡◌, ◌≢◌, ℕ, ◌+◌, ◌≤◌, ◌<◌, List, ◌++◌, length, take, drop, Bool, true, false, nat_le, ◌&&◌, cond, refl, sym, ◌∙◌, ap, arith, append_assoc, length-append, length-drop}
use Rattle.std.proofs.lemmas.List.{take-append-le, drop-append-le, take_at, drop_at, length-take-le}
use Rattle.std.proofs.lemmas.Bool.{and_parts, leb-true, le-leb}
use Rattle.blobref.specs.Blobref.{ref_of, IsOwnRef, is_own_ref}
use Rattle.pack_format.specs.declared.header.HeaderAt.{HeaderAt}
use Rattle.pack_format.specs.declared.header.HeaderAt.TheVariants.{Blob, Gone, Missing}
use Rattle.pack_format.specs.Header.{max_size, header, record_of, record_under, deleted_header, IsDeletedRecord}
use Rattle.pack_format.specs.Reading.{header_at, header_max}
use Rattle.pack_format.proofs.Headers.{header_at-append, header_at-long, header_len, header_len-pos, header_at-header, header_at-deleted}
use Rattle.blobref.proofs.Digests.{IsOwnRef-is_blobref, is_own_ref-own}
use Rattle.salvage_scan.specs.Salvage.{Front, Kept, Passed, Junk, front_by, front, width, is_junk}

test_true : (b : Bool) (f : Front) → is_junk (cond b f Junk) ≡ false → b ≡ true
test_true true f is = refl
test_true false f is = absurd (cc is)

front_by-append : (h : HeaderAt) (x y : List ℕ) → is_junk (front_by h x) ≡ false → front_by h (x ++ y) ≡ front_by h x
front_by-append (Blob r size len) x y is =
    let bytes = take size (drop len x) in
    let test = and_parts _ _ (test_true (nat_le (len + size) (length x) && is_own_ref r bytes) (Kept r len bytes) is) in
    let fits : len + size ≤ length x = leb-true _ _ test.0 in
    let same : take size (drop len (x ++ y)) ≡ bytes =
    ap (take size) (drop-append-le len x y (omega arith)) ∙ take-append-le size (drop len x) y (omega (arith, length-drop len x)) in
    let longer : nat_le (len + size) (length (x ++ y)) ≡ true = le-leb _ _ (omega (arith, length-append x y)) in
    rw (same, longer, test.0) refl
front_by-append (Gone size len) x y is =
    let test = test_true (nat_le (len + size) (length x)) (Passed (len + size)) is in
    let fits : len + size ≤ length x = leb-true _ _ test in
    let longer : nat_le (len + size) (length (x ++ y)) ≡ true = le-leb _ _ (omega (arith, length-append x y)) in
    rw (longer, test) refl
front_by-append Missing x y is = absurd (cc is)

not_missing : (h : HeaderAt) (x : List ℕ) → is_junk (front_by h x) ≡ false → h ≢ Missing
not_missing (Blob r size len) x is e = cc e
not_missing (Gone size len) x is e = cc e
not_missing Missing x is e = cc is

pub front-append : (x y : List ℕ) → is_junk (front x) ≡ false → front (x ++ y) ≡ front x
unfolding front
front-append x y is =
    ap (λ h. front_by h (x ++ y)) (header_at-append x y (not_missing (header_at x) x is)) ∙ front_by-append (header_at x) x y is

-- a front lies within its text
width_by : (h : HeaderAt) (x : List ℕ) → 0 < header_len h → is_junk (front_by h x) ≡ false → (0 < width (front_by h x)) × (width (front_by h x) ≤ length x)
width_by (Blob r size len) x pos is =
    let bytes = take size (drop len x) in
    let tested = test_true (nat_le (len + size) (length x) && is_own_ref r bytes) (Kept r len bytes) is in
    let fits : len + size ≤ length x = leb-true _ _ (and_parts _ _ tested).0 in
    let sized : length bytes ≡ size = length-take-le size (drop len x) (omega (arith, length-drop len x)) in
    rw tested (omega (arith, sized), omega (arith, sized))
width_by (Gone size len) x pos is =
    let tested = test_true (nat_le (len + size) (length x)) (Passed (len + size)) is in
    let fits : len + size ≤ length x = leb-true _ _ tested in
    rw tested (omega arith, omega arith)
width_by Missing x pos is = absurd (cc is)

pub width-front : (x : List ℕ) → is_junk (front x) ≡ false → (0 < width (front x)) × (width (front x) ≤ length x)
unfolding front
width-front x is = width_by (header_at x) x (header_len-pos x) is

-- ---- records

pub length-record_under : (r bytes : List ℕ) → length (record_under r bytes) ≡ length (header r (length bytes)) + length bytes
unfolding record_under
length-record_under r bytes = length-append (header r (length bytes)) bytes

pub length-record : (bytes : List ℕ) → length (record_of bytes) ≡ length (header (ref_of bytes) (length bytes)) + length bytes
length-record bytes = length-record_under (ref_of bytes) bytes

pub record_under-split : (r bytes rest : List ℕ) → record_under r bytes ++ rest ≡ header r (length bytes) ++ (bytes ++ rest)
unfolding record_under
record_under-split r bytes rest = append_assoc (header r (length bytes)) bytes rest

pub record-split : (bytes rest : List ℕ) → record_of bytes ++ rest ≡ header (ref_of bytes) (length bytes) ++ (bytes ++ rest)
record-split bytes rest = record_under-split (ref_of bytes) bytes rest

-- the front of a text whose header was read
front_of-blob : (x head body rest r : List ℕ) → header_at x ≡ Blob r (length body) (length head) → x ≡ head ++ (body ++ rest) → IsOwnRef r body → front x ≡ Kept r (length head) body
unfolding front
front_of-blob x head body rest r at whole named =
    let behind : drop (length head) x ≡ body ++ rest = ap (drop (length head)) whole ∙ drop_at head (body ++ rest) (length head) refl in
    let same : take (length body) (drop (length head) x) ≡ body = ap (take (length body)) behind ∙ take_at body rest (length body) refl in
    let fits : nat_le (length head + length body) (length x) ≡ true = le-leb _ _ (omega (arith, ap length whole, length-append head (body ++ rest), length-append body rest)) in
    let ok : is_own_ref r body ≡ true = is_own_ref-own r body named in
    rw (at, same, fits, ok) refl

-- a record that stands at the front is found
pub front-record : (r bytes rest : List ℕ) → IsOwnRef r bytes → length bytes ≤ max_size → front (record_under r bytes ++ rest) ≡ Kept r (length (header r (length bytes))) bytes
front-record r bytes rest own small =
    let split = record_under-split r bytes rest in
    let at : header_at (record_under r bytes ++ rest) ≡ Blob r (length bytes) (length (header r (length bytes))) =
    ap header_at split ∙ header_at-header r (bytes ++ rest) (length bytes) (IsOwnRef-is_blobref r bytes own) small in
    front_of-blob (record_under r bytes ++ rest) (header r (length bytes)) bytes rest r at split own

-- and a deleted record is passed over
front_of-deleted : (x head body rest : List ℕ) → header_at x ≡ Gone (length body) (length head) → x ≡ head ++ (body ++ rest) → front x ≡ Passed (length head + length body)
unfolding front
front_of-deleted x head body rest at whole =
    let fits : nat_le (length head + length body) (length x) ≡ true = le-leb _ _ (omega (arith, ap length whole, length-append head (body ++ rest), length-append body rest)) in
    rw (at, fits) refl

pub front-deleted : (text rest : List ℕ) → IsDeletedRecord text → front (text ++ rest) ≡ Passed (length text)
front-deleted text rest form =
    let head = deleted_header form.letters form.digits (length form.body) in
    let split : text ++ rest ≡ head ++ (form.body ++ rest) = ap (λ l. l ++ rest) form.whole ∙ append_assoc head form.body rest in
    let at : header_at (text ++ rest) ≡ Gone (length form.body) (length head) = ap header_at split ∙ header_at-deleted form.letters form.digits (length form.body) (form.body ++ rest) form.form in
    let long : length text ≡ length head + length form.body = ap length form.whole ∙ length-append head form.body in
    front_of-deleted (text ++ rest) head form.body rest at split ∙ ap Passed (sym long)

-- ---- neither is empty

pub record_some : (r bytes : List ℕ) → 0 < length (record_under r bytes)
unfolding record_under header
record_some r bytes = omega arith

pub deleted_some : (text : List ℕ) → IsDeletedRecord text → 0 < length text
unfolding deleted_header
deleted_some text form = omega (arith, ap length form.whole)

-- ---- when a piece of a text settles what stands at its front

-- what the header says is all there
abbrev pub IsWhole : HeaderAt → List ℕ → Type 0
IsWhole (Blob r size len) x = len + size ≤ length x
IsWhole (Gone size len) x = len + size ≤ length x
IsWhole Missing x = Unit {0}

pub settled_by : (h : HeaderAt) (x y : List ℕ) → IsWhole h x → front_by h (x ++ y) ≡ front_by h x
settled_by (Blob r size len) x y fits =
    let same : take size (drop len (x ++ y)) ≡ take size (drop len x) =
    ap (take size) (drop-append-le len x y (omega arith)) ∙ take-append-le size (drop len x) y (omega (arith, length-drop len x)) in
    let here : nat_le (len + size) (length x) ≡ true = le-leb _ _ fits in
    let longer : nat_le (len + size) (length (x ++ y)) ≡ true = le-leb _ _ (omega (arith, length-append x y)) in
    rw (same, longer, here) refl
settled_by (Gone size len) x y fits =
    let here : nat_le (len + size) (length x) ≡ true = le-leb _ _ fits in
    let longer : nat_le (len + size) (length (x ++ y)) ≡ true = le-leb _ _ (omega (arith, length-append x y)) in
    rw (longer, here) refl
settled_by Missing x y fits = refl

pub front_settled : (x y : List ℕ) → header_max ≤ length x → IsWhole (header_at x) x → front (x ++ y) ≡ front x
unfolding front
front_settled x y long whole = ap (λ h. front_by h (x ++ y)) (header_at-long x y long) ∙ settled_by (header_at x) x y whole
