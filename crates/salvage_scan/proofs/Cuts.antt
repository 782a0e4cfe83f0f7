-- A clean text is salvaged first, whatever follows it.
use Rattle.std.proofs.Common.{◌≡◌, ◌≢◌, ℕ, zero, suc, ◌+◌, ◌-◌, ◌≤◌, ◌<◌, List, [], ◌∷◌, ◌++◌, length, drop, Bool, true, false, cond, Option, Some, None, refl, sym, ◌∙◌, ap, arith, append_assoc}
use Rattle.std.proofs.lemmas.List.{drop_at, append-nil}
use Rattle.blobref.specs.Blobref.{ref_of, IsOwnRef}
use Rattle.pack_format.specs.Header.{max_size, header, record_of, record_under, deleted_header, IsDeletedForm, IsDeletedRecord}
use Rattle.salvage_scan.specs.Salvage.{Front, front, width, found, is_junk, salvage_past, salvage, broken_past, broken, IsClean}
use Rattle.salvage_scan.specs.Rules.{finding, finding_under}
use Rattle.salvage_scan.proofs.Fronts.{front-append, width-front, front-record, front-deleted, length-record_under}
use Rattle.blobref.proofs.Digests.{IsOwnRef-ref_of}

-- a clean place isn't junk, and what follows is clean
clean_here : (b : Bool) (p : ℕ) (o : Option ℕ) → cond b (Some p) o ≡ None → (b ≡ false) × (o ≡ None)
clean_here true p o e = absurd (cc e)
clean_here false p o e = (refl, e)

-- what is passed over isn't looked at
pub salvage_past-drop : (skip p : ℕ) (x : List ℕ) → salvage_past p skip x ≡ salvage_past (p + skip) 0 (drop skip x)
unfolding salvage_past
salvage_past-drop zero p x = let e : p + 0 ≡ p = omega arith in rw e refl
salvage_past-drop (suc skip) p [] = refl
salvage_past-drop (suc skip) p (b ∷ x) = let e : p + suc skip ≡ suc p + skip = omega arith in rw e (salvage_past-drop skip (suc p) x)

pub broken_past-drop : (skip p : ℕ) (x : List ℕ) → broken_past p skip x ≡ broken_past (p + skip) 0 (drop skip x)
unfolding broken_past
broken_past-drop zero p x = let e : p + 0 ≡ p = omega arith in rw e refl
broken_past-drop (suc skip) p [] = refl
broken_past-drop (suc skip) p (b ∷ x) = let e : p + suc skip ≡ suc p + skip = omega arith in rw e (broken_past-drop skip (suc p) x)

-- The findings of a clean text come first, and then those of what follows it.
pub salvage_past-append : (x y : List ℕ) (p skip : ℕ) → skip ≤ length x → broken_past p skip x ≡ None → salvage_past p skip (x ++ y) ≡ salvage_past p skip x ++ salvage_past (p + length x) 0 y
unfolding salvage_past broken_past
salvage_past-append [] y p zero le is = let e : p + 0 ≡ p = omega arith in rw e refl
salvage_past-append [] y p (suc skip) le is = absurd (omega arith)
salvage_past-append (b ∷ x) y p (suc skip) le is =
    let e : p + length (b ∷ x) ≡ suc p + length x = omega arith in
    rw e (salvage_past-append x y (suc p) skip (omega arith) is)
salvage_past-append (b ∷ x) y p zero le is =
    let here = clean_here (is_junk (front (b ∷ x))) p _ is in
    let same = front-append (b ∷ x) y here.0 in
    let within = width-front (b ∷ x) here.0 in
    let more = salvage_past-append x y (suc p) (width (front (b ∷ x)) - 1) (omega arith) here.1 in
    let e : p + length (b ∷ x) ≡ suc p + length x = omega arith in
    rw (same, e, more) (sym (append_assoc (found p (front (b ∷ x))) _ _))

pub broken_past-append : (x y : List ℕ) (p skip : ℕ) → skip ≤ length x → broken_past p skip x ≡ None → broken_past p skip (x ++ y) ≡ broken_past (p + length x) 0 y
unfolding broken_past
broken_past-append [] y p zero le is = let e : p + 0 ≡ p = omega arith in rw e refl
broken_past-append [] y p (suc skip) le is = absurd (omega arith)
broken_past-append (b ∷ x) y p (suc skip) le is =
    let e : p + length (b ∷ x) ≡ suc p + length x = omega arith in
    rw e (broken_past-append x y (suc p) skip (omega arith) is)
broken_past-append (b ∷ x) y p zero le is =
    let here = clean_here (is_junk (front (b ∷ x))) p _ is in
    let same = front-append (b ∷ x) y here.0 in
    let within = width-front (b ∷ x) here.0 in
    let more = broken_past-append x y (suc p) (width (front (b ∷ x)) - 1) (omega arith) here.1 in
    let e : p + length (b ∷ x) ≡ suc p + length x = omega arith in
    rw (same, here.0, e) more

pub salvage-append : (x y : List ℕ) → IsClean x → salvage (x ++ y) ≡ salvage x ++ salvage_past (length x) 0 y
salvage-append x y clean = salvage_past-append x y 0 0 (omega arith) clean ∙ ap (λ n. salvage x ++ salvage_past n 0 y) (let e : 0 + length x ≡ length x = omega arith in e)

pub broken-append : (x y : List ℕ) → IsClean x → broken (x ++ y) ≡ broken_past (length x) 0 y
broken-append x y clean = broken_past-append x y 0 0 (omega arith) clean ∙ ap (λ n. broken_past n 0 y) (let e : 0 + length x ≡ length x = omega arith in e)

-- ---- one front at a time

pub salvage_past-front : (p : ℕ) (x : List ℕ) → x ≢ [] → 0 < width (front x) → salvage_past p 0 x ≡ found p (front x) ++ salvage_past (p + width (front x)) 0 (drop (width (front x)) x)
unfolding salvage_past
salvage_past-front p [] is pos = absurd (is refl)
salvage_past-front p (b ∷ x) is pos = go (width (front (b ∷ x))) pos
  where
    go : (n : ℕ) → 0 < n → found p (front (b ∷ x)) ++ salvage_past (suc p) (n - 1) x ≡ found p (front (b ∷ x)) ++ salvage_past (p + n) 0 (drop n (b ∷ x))
    go zero pos = absurd (omega arith)
    go (suc n) pos =
        let e : suc n - 1 ≡ n = omega arith in
        let f : p + suc n ≡ suc p + n = omega arith in
        rw (e, f) (ap (λ l. found p (front (b ∷ x)) ++ l) (salvage_past-drop n (suc p) x))

pub broken_past-front : (p : ℕ) (x : List ℕ) → x ≢ [] → is_junk (front x) ≡ false → broken_past p 0 x ≡ broken_past (p + width (front x)) 0 (drop (width (front x)) x)
unfolding broken_past
broken_past-front p [] is kept = absurd (is refl)
broken_past-front p (b ∷ x) is kept = rw kept (go (width (front (b ∷ x))) (width-front (b ∷ x) kept).0)
  where
    go : (n : ℕ) → 0 < n → broken_past (suc p) (n - 1) x ≡ broken_past (p + n) 0 (drop n (b ∷ x))
    go zero pos = absurd (omega arith)
    go (suc n) pos =
        let e : suc n - 1 ≡ n = omega arith in
        let f : p + suc n ≡ suc p + n = omega arith in
        rw (e, f) (broken_past-drop n (suc p) x)

-- ---- a record

-- a front that isn't junk has a text
some_text : (x : List ℕ) (n : ℕ) → 0 < n → n ≤ length x → x ≢ []
some_text x n pos within e = absurd (omega (arith, ap length e))

-- a front of this kind and width, and then what follows it
past_front : (p : ℕ) (head rest : List ℕ) (f : Front) → front (head ++ rest) ≡ f → is_junk f ≡ false → width f ≡ length head → (salvage_past p 0 (head ++ rest) ≡ found p f ++ salvage_past (p + length head) 0 rest) × (broken_past p 0 (head ++ rest) ≡ broken_past (p + length head) 0 rest)
past_front p head rest f is kept wide =
    let kept_here : is_junk (front (head ++ rest)) ≡ false = ap is_junk is ∙ kept in
    let within = width-front (head ++ rest) kept_here in
    let some = some_text (head ++ rest) (width (front (head ++ rest))) within.0 within.1 in
    let width_is : width (front (head ++ rest)) ≡ length head = ap width is ∙ wide in
    let past : drop (width (front (head ++ rest))) (head ++ rest) ≡ rest = drop_at head rest _ (sym width_is) in (
      salvage_past-front p (head ++ rest) some within.0 ∙ (λ i. found p (is i) ++ salvage_past (p + width_is i) 0 (past i)),
      broken_past-front p (head ++ rest) some kept_here ∙ (λ i. broken_past (p + width_is i) 0 (past i)),
    )

-- a record at the front is found, and then what follows it
pub salvage_past-record : (p : ℕ) (r bytes rest : List ℕ) → IsOwnRef r bytes → length bytes ≤ max_size → salvage_past p 0 (record_under r bytes ++ rest) ≡ finding_under p r bytes ∷ salvage_past (p + length (record_under r bytes)) 0 rest
salvage_past-record p r bytes rest own small = (past_front p (record_under r bytes) rest _ (front-record r bytes rest own small) refl (sym (length-record_under r bytes))).0

pub broken_past-record : (p : ℕ) (r bytes rest : List ℕ) → IsOwnRef r bytes → length bytes ≤ max_size → broken_past p 0 (record_under r bytes ++ rest) ≡ broken_past (p + length (record_under r bytes)) 0 rest
broken_past-record p r bytes rest own small = (past_front p (record_under r bytes) rest _ (front-record r bytes rest own small) refl (sym (length-record_under r bytes))).1

-- a deleted record is passed over
pub salvage_past-deleted : (p : ℕ) (text rest : List ℕ) → IsDeletedRecord text → salvage_past p 0 (text ++ rest) ≡ salvage_past (p + length text) 0 rest
salvage_past-deleted p text rest form = (past_front p text rest _ (front-deleted text rest form) refl refl).0

pub broken_past-deleted : (p : ℕ) (text rest : List ℕ) → IsDeletedRecord text → broken_past p 0 (text ++ rest) ≡ broken_past (p + length text) 0 rest
broken_past-deleted p text rest form = (past_front p text rest _ (front-deleted text rest form) refl refl).1

-- ---- the end

pub nothing-broken : (p : ℕ) → broken_past p 0 [] ≡ None
unfolding broken_past
nothing-broken p = refl

pub nothing-found : (p : ℕ) → salvage_past p 0 [] ≡ []
unfolding salvage_past
nothing-found p = refl

broken-record : (p : ℕ) (r bytes : List ℕ) → IsOwnRef r bytes → length bytes ≤ max_size → broken_past p 0 (record_under r bytes) ≡ None
broken-record p r bytes own small = ap (broken_past p 0) (sym (append-nil (record_under r bytes))) ∙ broken_past-record p r bytes [] own small ∙ nothing-broken (p + length (record_under r bytes))

-- ---- a record behind a clean text is found, whatever follows, and the text is clean again

pub salvage-append_record_under : (x r bytes y : List ℕ) → IsOwnRef r bytes → length bytes ≤ max_size → IsClean x → salvage (x ++ record_under r bytes ++ y) ≡ salvage x ++ finding_under (length x) r bytes ∷ salvage_past (length x + length (record_under r bytes)) 0 y
salvage-append_record_under x r bytes y own small clean =
    rw append_assoc (salvage-append x (record_under r bytes ++ y) clean ∙ ap (λ l. salvage x ++ l) (salvage_past-record (length x) r bytes y own small))

pub salvage-append_record : (x bytes y : List ℕ) → length bytes ≤ max_size → IsClean x → salvage (x ++ record_of bytes ++ y) ≡ salvage x ++ finding (length x) bytes ∷ salvage_past (length x + length (record_of bytes)) 0 y
salvage-append_record x bytes y small clean = salvage-append_record_under x (ref_of bytes) bytes y (IsOwnRef-ref_of bytes) small clean

pub IsClean-append_record_under : (x r bytes : List ℕ) → IsOwnRef r bytes → length bytes ≤ max_size → IsClean x → IsClean (x ++ record_under r bytes)
IsClean-append_record_under x r bytes own small clean = broken-append x (record_under r bytes) clean ∙ broken-record (length x) r bytes own small

pub IsClean-append_record : (x bytes : List ℕ) → length bytes ≤ max_size → IsClean x → IsClean (x ++ record_of bytes)
IsClean-append_record x bytes small clean = IsClean-append_record_under x (ref_of bytes) bytes (IsOwnRef-ref_of bytes) small clean

-- Why nothing is appended behind junk: the torn header of a longer blob takes the new record as that blob's bytes.
pub swallowed : (x q r bytes : List ℕ) → IsOwnRef q (record_under r bytes) → length (record_under r bytes) ≤ max_size → IsClean x → salvage (x ++ header q (length (record_under r bytes)) ++ record_under r bytes) ≡ salvage x ++ finding_under (length x) q (record_under r bytes) ∷ []
unfolding record_under
swallowed x q r bytes own small clean =
    let text = record_under r bytes in
    let e : x ++ header q (length text) ++ text ≡ x ++ record_under q text ++ [] = append_assoc x _ _ ∙ sym (append-nil (x ++ record_under q text)) in
    ap salvage e ∙ salvage-append_record_under x q text [] own small clean ∙ ap (λ l. salvage x ++ finding_under (length x) q text ∷ l) (nothing-found _)

-- and that of a torn deleted record passes it over
pub lost : (x r bytes : List ℕ) (letters digits : ℕ) → IsDeletedForm letters digits (length (record_under r bytes)) → IsClean x → salvage (x ++ deleted_header letters digits (length (record_under r bytes)) ++ record_under r bytes) ≡ salvage x
lost x r bytes letters digits form clean =
    let text = deleted_header letters digits (length (record_under r bytes)) ++ record_under r bytes in
    let is : IsDeletedRecord text = record { letters = letters; digits = digits; body = record_under r bytes; form = form; whole = refl } in
    let e : x ++ deleted_header letters digits (length (record_under r bytes)) ++ record_under r bytes ≡ x ++ text ++ [] = append_assoc x _ _ ∙ sym (append-nil (x ++ text)) in
    let none : salvage_past (length x) 0 (text ++ []) ≡ [] = salvage_past-deleted (length x) text [] is ∙ nothing-found (length x + length text) in
    ap salvage e ∙ ap salvage (append_assoc x text []) ∙ salvage-append x (text ++ []) clean ∙ ap (λ l. salvage x ++ l) none ∙ append-nil (salvage x)
