-- Parameters as texts: what is read is what is written, both ways.
use Rattle.std.proofs.Common.{◌≡◌, ◌==◌, ◌&&◌, ◌+◌, ◌<◌, ◌≤◌, ℕ, zero, suc, Bool, true, false, cond, List, [], ◌∷◌, ◌++◌}
use Rattle.std.proofs.Common.{length, drop, take, map, flat_map, refl, sym, ◌∙◌, ap, subst, arith, Option, Some, None, nat_lt}
use Rattle.std.specs.List.{list_all, prefix_len}
use Rattle.std.proofs.lemmas.Bool.{false≢true, false_from_ne_true, ne_eqb, eqb-true, ltb-true, and_from, or_from}
use Rattle.std.proofs.lemmas.List.{append-nil, append_assoc, take-append-drop, drop-drop, length-append, length-map}
use Rattle.std.proofs.lemmas.Slice.Eq.{bytes_eq-Decides}
use Rattle.std.specs.Char.{to_ascii_lowercase}
use Rattle.httparse.specs.Grammar.{is_token_byte, is_ows, skip_ows}
use Rattle.multipart_read.specs.Parameters.{is_like, is_quoted_byte, begins_with, token_at, quoted_at, value_at, Parameter, with_value, with_name, parameter_at}
use Rattle.multipart_read.specs.Parameters.{is_blank, first_of, value_behind, value_in, value_of}
use Rattle.multipart_read.specs.ParameterTexts.{Spelling, bare, quoted, value_text, meant, IsTokenText, IsSpelling, Written, IsWritten, written_text}
use Rattle.multipart_read.specs.ParameterTexts.{AreWritten, AreParameters, first_named, HasValue, ValuesAreFirst}

none_no_some : {X : Type 0} (x : X) → (let n : Option X = None in n) ≡ Some x → ⊥
none_no_some x e = cc

some_same : {X : Type 0} (x y : X) → (let a : Option X = Some x in a) ≡ Some y → x ≡ y
some_same x y e = cc

both : (a b : Bool) → (a && b) ≡ true → (a ≡ true) × (b ≡ true)
both true b e = (refl, e)
both false b e = absurd (false≢true e)

none_of : (l : List ℕ) → length l ≡ 0 → l ≡ []
none_of [] e = refl
none_of (x ∷ xs) e = absurd (omega (arith, e))

-- blanks
blanks_split : (text : List ℕ) → (front : List ℕ) × (text ≡ front ++ skip_ows text) × (list_all is_ows front ≡ true)
blanks_split [] = ([], refl, refl)
blanks_split (x ∷ xs) = split (is_ows x) refl (blanks_split xs)
  where
    split : (b : Bool) → is_ows x ≡ b → (front : List ℕ) × (xs ≡ front ++ skip_ows xs) × (list_all is_ows front ≡ true)
        → (front : List ℕ) × (x ∷ xs ≡ front ++ skip_ows (x ∷ xs)) × (list_all is_ows front ≡ true)
    split true is later = (
      x ∷ later.0,
      ap (λ l. x ∷ l) later.1 ∙ ap (λ b. x ∷ (later.0 ++ cond b (skip_ows xs) (x ∷ xs))) (sym is),
      and_from (is_ows x) (list_all is_ows later.0) is later.2,
    )
    split false is later = ([], ap (λ b. cond b (skip_ows xs) (x ∷ xs)) (sym is), refl)

blanks_skipped : (blanks rest : List ℕ) → list_all is_ows blanks ≡ true → skip_ows (blanks ++ rest) ≡ skip_ows rest
blanks_skipped [] rest all = refl
blanks_skipped (x ∷ xs) rest all =
    let parts = both (is_ows x) (list_all is_ows xs) all in
    ap (λ b. cond b (skip_ows (xs ++ rest)) (x ∷ xs ++ rest)) parts.0 ∙ blanks_skipped xs rest parts.1

-- bytes of a class, as many as there are
within_if : (b : Bool) (k n : ℕ) → k ≤ n → cond b (1 + k) 0 ≤ suc n
within_if true k n le = omega (arith, le)
within_if false k n le = omega arith

prefix_within : (test : ℕ → Bool) (l : List ℕ) → prefix_len test l ≤ length l
prefix_within test [] = omega arith
prefix_within test (x ∷ xs) = within_if (test x) (prefix_len test xs) (length xs) (prefix_within test xs)

all_taken : (test : ℕ → Bool) (l : List ℕ) → list_all test (take (prefix_len test l) l) ≡ true
all_taken test [] = refl
all_taken test (x ∷ xs) = taken (test x) refl (all_taken test xs)
  where
    taken : (b : Bool) → test x ≡ b → list_all test (take (prefix_len test xs) xs) ≡ true
        → list_all test (take (cond (test x) (1 + prefix_len test xs) 0) (x ∷ xs)) ≡ true
    taken true is later =
        let P : Bool → Type 0 = λ b. list_all test (take (cond b (1 + prefix_len test xs) 0) (x ∷ xs)) ≡ true in
        let Q : ℕ → Type 0 = λ n. list_all test (take n (x ∷ xs)) ≡ true in
        let one : suc (prefix_len test xs) ≡ 1 + prefix_len test xs = omega arith in
        subst P (sym is) (subst Q one (and_from (test x) (list_all test (take (prefix_len test xs) xs)) is later))
    taken false is later =
        let P : Bool → Type 0 = λ b. list_all test (take (cond b (1 + prefix_len test xs) 0) (x ∷ xs)) ≡ true in
        subst P (sym is) refl

all_counted : (test : ℕ → Bool) (t r : List ℕ) → list_all test t ≡ true → prefix_len test r ≡ 0 → prefix_len test (t ++ r) ≡ length t
all_counted test [] r all none = none
all_counted test (x ∷ xs) r all none =
    let parts = both (test x) (list_all test xs) all in
    let one : 1 + length xs ≡ suc (length xs) = omega arith in
    ap (λ b. cond b (1 + prefix_len test (xs ++ r)) 0) parts.0 ∙ ap (λ n. 1 + n) (all_counted test xs r parts.1 none) ∙ one

some_taken : (n : ℕ) (l : List ℕ) → (n == 0) ≡ false → n ≤ length l → 0 < length (take n l)
some_taken zero l some within = absurd (false≢true (sym some))
some_taken (suc n) [] some within = absurd (omega (arith, within))
some_taken (suc n) (x ∷ xs) some within = omega arith

take_front : (t r : List ℕ) → take (length t) (t ++ r) ≡ t
take_front [] r = refl
take_front (x ∷ xs) r = ap (λ l. x ∷ l) (take_front xs r)

drop_front : (t r : List ℕ) → drop (length t) (t ++ r) ≡ r
drop_front [] r = refl
drop_front (x ∷ xs) r = drop_front xs r

begins_is : (c : ℕ) (l : List ℕ) → begins_with c l ≡ true → l ≡ c ∷ drop 1 l
begins_is c [] is = absurd (false≢true is)
begins_is c (x ∷ xs) is = ap (λ y. y ∷ xs) (eqb-true x c is)

-- what is read is written so
token_read : (text : List ℕ) (p : List ℕ × List ℕ) → token_at text ≡ Some p → (text ≡ p.0 ++ p.1) × IsTokenText p.0
token_read text p is = read (prefix_len is_token_byte text == 0) refl is
  where
    read : (b : Bool) → (prefix_len is_token_byte text == 0) ≡ b
        → cond b None (Some (take (prefix_len is_token_byte text) text, drop (prefix_len is_token_byte text) text)) ≡ Some p
        → (text ≡ p.0 ++ p.1) × IsTokenText p.0
    read true none e = absurd (none_no_some p e)
    read false some e =
        let n : ℕ = prefix_len is_token_byte text in
        let P : List ℕ × List ℕ → Type 0 = λ q. (text ≡ q.0 ++ q.1) × IsTokenText q.0 in
        subst P (some_same (take n text, drop n text) p e)
        (sym (take-append-drop n text), (some_taken n text some (prefix_within is_token_byte text), all_taken is_token_byte text))

quoted_read : (text : List ℕ) (p : List ℕ × List ℕ) → quoted_at text ≡ Some p → (text ≡ p.0 ++ 34 ∷ p.1) × (list_all is_quoted_byte p.0 ≡ true)
quoted_read text p is = read (begins_with 34 (drop (prefix_len is_quoted_byte text) text)) refl is
  where
    read : (b : Bool) → begins_with 34 (drop (prefix_len is_quoted_byte text) text) ≡ b
        → cond b (Some (take (prefix_len is_quoted_byte text) text, drop (prefix_len is_quoted_byte text + 1) text)) None ≡ Some p
        → (text ≡ p.0 ++ 34 ∷ p.1) × (list_all is_quoted_byte p.0 ≡ true)
    read true begins e =
        let n : ℕ = prefix_len is_quoted_byte text in
        let P : List ℕ × List ℕ → Type 0 = λ q. (text ≡ q.0 ++ 34 ∷ q.1) × (list_all is_quoted_byte q.0 ≡ true) in
        let behind : drop n text ≡ 34 ∷ drop (n + 1) text = begins_is 34 (drop n text) begins ∙ ap (λ l. 34 ∷ l) (drop-drop 1 n text) in
        subst P (some_same (take n text, drop (n + 1) text) p e)
        (sym (take-append-drop n text) ∙ ap (λ l. take n text ++ l) behind, all_taken is_quoted_byte text)
    read false other e = absurd (none_no_some p e)

value_read : (text : List ℕ) (p : List ℕ × List ℕ) → value_at text ≡ Some p
    → (v : Spelling) × IsSpelling v × (text ≡ value_text v ++ p.1) × (meant v ≡ p.0)
unfolding value_at
value_read text p is = read (begins_with 34 text) refl is
  where
    read : (b : Bool) → begins_with 34 text ≡ b → cond b (quoted_at (drop 1 text)) (token_at text) ≡ Some p
        → (v : Spelling) × IsSpelling v × (text ≡ value_text v ++ p.1) × (meant v ≡ p.0)
    read true begins e =
        let q = quoted_read (drop 1 text) p e in
        (quoted p.0, q.1, begins_is 34 text begins ∙ ap (λ l. 34 ∷ l) (q.0 ∙ sym (append_assoc p.0 (34 ∷ []) p.1)), refl)
    read false other e =
        let t = token_read text p e in
        (bare p.0, t.1, t.0, refl)

with_value_read : (name : List ℕ) (o : Option (List ℕ × List ℕ)) (p : Parameter) → with_value name o ≡ Some p
    → (v : List ℕ × List ℕ) × (o ≡ Some v) × ((let q : Parameter = (name, v.0, v.1) in q) ≡ p)
with_value_read name None p is = absurd (none_no_some p is)
with_value_read name (Some v) p is = (v, refl, some_same (name, v.0, v.1) p is)

with_name_read : (o : Option (List ℕ × List ℕ)) (p : Parameter) → with_name o ≡ Some p
    → (n : List ℕ × List ℕ) × (o ≡ Some n) × (begins_with 61 n.1 ≡ true)
    × (v : List ℕ × List ℕ) × (value_at (drop 1 n.1) ≡ Some v) × ((let q : Parameter = (n.0, v.0, v.1) in q) ≡ p)
with_name_read None p is = absurd (none_no_some p is)
with_name_read (Some n) p is = read (begins_with 61 n.1) refl is
  where
    read : (b : Bool) → begins_with 61 n.1 ≡ b → cond b (with_value n.0 (value_at (drop 1 n.1))) None ≡ Some p
        → (m : List ℕ × List ℕ) × ((let o : Option (List ℕ × List ℕ) = Some n in o) ≡ Some m) × (begins_with 61 m.1 ≡ true)
        × (v : List ℕ × List ℕ) × (value_at (drop 1 m.1) ≡ Some v) × ((let q : Parameter = (m.0, v.0, v.1) in q) ≡ p)
    read true begins e =
        let v = with_value_read n.0 (value_at (drop 1 n.1)) p e in
        (n, refl, begins, v.0, v.1, v.2)
    read false other e = absurd (none_no_some p e)

regroup : (a b n v r : List ℕ) → (a ++ (59 ∷ (b ++ (n ++ (61 ∷ v))))) ++ r ≡ a ++ (59 ∷ (b ++ (n ++ (61 ∷ (v ++ r)))))
regroup a b n v r =
    append_assoc a (59 ∷ (b ++ (n ++ (61 ∷ v)))) r
    ∙ ap (λ l. a ++ (59 ∷ l)) (append_assoc b (n ++ (61 ∷ v)) r ∙ ap (λ l. b ++ l) (append_assoc n (61 ∷ v) r))

parameter_read : (text : List ℕ) (p : Parameter) → parameter_at text ≡ Some p
    → (w : Written) × IsWritten w × (text ≡ written_text w ++ p.2) × (w.name ≡ p.0) × (meant w.value ≡ p.1)
unfolding parameter_at
parameter_read text p is = read (begins_with 59 (skip_ows text)) refl is
  where
    read : (b : Bool) → begins_with 59 (skip_ows text) ≡ b
        → cond b (with_name (token_at (skip_ows (drop 1 (skip_ows text))))) None ≡ Some p
        → (w : Written) × IsWritten w × (text ≡ written_text w ++ p.2) × (w.name ≡ p.0) × (meant w.value ≡ p.1)
    read true begins e =
        let rest : List ℕ = drop 1 (skip_ows text) in
        let a = blanks_split text in
        let b = blanks_split rest in
        let n = with_name_read (token_at (skip_ows rest)) p e in
        let t = token_read (skip_ows rest) n.0 n.1 in
        let v = value_read (drop 1 n.0.1) n.3 n.4 in
        let named : skip_ows rest ≡ n.0.0 ++ (61 ∷ (value_text v.0 ++ n.3.1)) =
        t.0 ∙ ap (λ l. n.0.0 ++ l) (begins_is 61 n.0.1 n.2 ∙ ap (λ l. 61 ∷ l) v.2) in
        let whole : text ≡ a.0 ++ (59 ∷ (b.0 ++ (n.0.0 ++ (61 ∷ (value_text v.0 ++ n.3.1))))) =
        a.1 ∙ ap (λ l. a.0 ++ l) (begins_is 59 (skip_ows text) begins ∙ ap (λ l. 59 ∷ l) (b.1 ∙ ap (λ l. b.0 ++ l) named)) in
        let w : Written = record { before = a.0; after = b.0; name = n.0.0; value = v.0 } in
        let fits : IsWritten w = record { before = a.2; after = b.2; name = t.1; value = v.1 } in
        let P : Parameter → Type 0 = λ q.
        (w : Written) × IsWritten w × (text ≡ written_text w ++ q.2) × (w.name ≡ q.0) × (meant w.value ≡ q.1) in
        subst P n.5 (w, fits, whole ∙ sym (regroup a.0 b.0 n.0.0 (value_text v.0) n.3.1), refl, v.3)
    read false other e = absurd (none_no_some p e)

abbrev or_else : Option (List ℕ) → Option (List ℕ) → Option (List ℕ)
or_else (Some value) next = Some value
or_else None next = next

or_none : (found : Option (List ℕ)) → or_else found None ≡ found
or_none (Some value) = refl
or_none None = refl

or_first : (found : Option (List ℕ)) (fits : Bool) (value : List ℕ) (next : Option (List ℕ))
    → or_else (first_of found fits value) next ≡ or_else found (cond fits (Some value) next)
or_first (Some first) fits value next = refl
or_first None true value next = refl
or_first None false value next = refl

abbrev Read : List ℕ → Option (List ℕ) → List ℕ → List ℕ → Type 0
Read wanted found text value =
    (ps : List Written) × AreParameters text ps × (or_else found (first_named wanted ps) ≡ Some value)

blank_read : (wanted : List ℕ) (found : Option (List ℕ)) (text value : List ℕ) (b : Bool) → is_blank text ≡ b → cond b found None ≡ Some value
    → Read wanted found text value
blank_read wanted found text value true blank is =
    let s = blanks_split text in
    let none : skip_ows text ≡ [] = none_of (skip_ows text) (eqb-true (length (skip_ows text)) 0 blank) in
    ([], record { each = tt; last = s.0; blank = s.2; spelled = s.1 ∙ ap (λ l. s.0 ++ l) none ∙ append-nil s.0 }, or_none found ∙ is)
blank_read wanted found text value false blank is = absurd (none_no_some value is)

one_read : (wanted : List ℕ) (found : Option (List ℕ)) (text value : List ℕ) (p : Parameter) → parameter_at text ≡ Some p
    → Read wanted (first_of found (is_like p.0 wanted) p.1) p.2 value → Read wanted found text value
one_read wanted found text value p is (ps, are, first) =
    let w = parameter_read text p is in
    let fits : IsWritten w.0 = w.1 in (
      w.0 ∷ ps,
      record {
        each = (fits, are.each);
        last = are.last;
        blank = are.blank;
        spelled = w.2 ∙ ap (λ l. written_text w.0 ++ l) are.spelled ∙ sym (append_assoc (written_text w.0) (flat_map written_text ps) are.last);
      },
      (λ i. or_else found (cond (is_like (w.3 i) wanted) (Some (w.4 i)) (first_named wanted ps)))
          ∙ sym (or_first found (is_like p.0 wanted) p.1 (first_named wanted ps)) ∙ first,
    )

values_read : (fuel : ℕ) (wanted : List ℕ) (found : Option (List ℕ)) (text value : List ℕ) → value_in fuel wanted found text ≡ Some value
    → Read wanted found text value
unfolding value_in
values_read zero wanted found text value is = absurd (none_no_some value is)
values_read (suc n) wanted found text value is =
    read (parameter_at text) refl is (λ next rest seen. values_read n wanted next rest value seen)
  where
    read : (o : Option Parameter) → parameter_at text ≡ o
        → value_behind (λ next rest. value_in n wanted next rest) wanted found text o ≡ Some value
        → ((next : Option (List ℕ)) (rest : List ℕ) → value_in n wanted next rest ≡ Some value → Read wanted next rest value)
        → Read wanted found text value
    read None none seen later = blank_read wanted found text value (is_blank text) refl seen
    read (Some p) some seen later =
        one_read wanted found text value p some (later (first_of found (is_like p.0 wanted) p.1) p.2 seen)

value_read_of : (word wanted text value : List ℕ) → value_of word wanted text ≡ Some value → HasValue word wanted text value
unfolding value_of
value_read_of word wanted text value is = long (nat_lt (length text) (length word)) is
  where
    like : (b : Bool) → is_like (take (length word) text) word ≡ b
        → cond b (value_in (length (drop (length word) text) + 1) wanted None (drop (length word) text)) None ≡ Some value
        → HasValue word wanted text value
    like true likes e =
        let read = values_read (length (drop (length word) text) + 1) wanted None (drop (length word) text) value e in
        record {
          front = take (length word) text;
          rest = drop (length word) text;
          ps = read.0;
          spelled = sym (take-append-drop (length word) text);
          likes = likes;
          are = read.1;
          first = read.2;
        }
    like false other e = absurd (none_no_some value e)

    long : (b : Bool) → cond b None (cond (is_like (take (length word) text) word)
        (value_in (length (drop (length word) text) + 1) wanted None (drop (length word) text)) None) ≡ Some value
        → HasValue word wanted text value
    long true e = absurd (none_no_some value e)
    long false e = like (is_like (take (length word) text) word) refl e

-- what is written is read so; `rest` is what stands behind a token
abbrev Two : Type 0
Two = List ℕ × List ℕ

abbrev parted : ℕ → ℕ → List ℕ → Option Two
parted n k text = Some (take n text, drop k text)

abbrev two : List ℕ → List ℕ → Option Two
two t r = Some (t, r)

abbrev no_two : Option Two
no_two = None

token_whole : (t r : List ℕ) → IsTokenText t → prefix_len is_token_byte r ≡ 0 → token_at (t ++ r) ≡ two t r
token_whole [] r is stops = absurd (omega (arith, is.0))
token_whole (x ∷ xs) r is stops =
    let text : List ℕ = x ∷ xs ++ r in
    let n : ℕ = length (x ∷ xs) in
    let P : ℕ → Type 0 = λ n. cond (n == 0) no_two (parted n n text) ≡ two (x ∷ xs) r in
    let some : (n == 0) ≡ false = ne_eqb n 0 (λ e. absurd (omega (arith, e))) in
    let whole : P n = ap (λ b. cond b no_two (parted n n text)) some ∙ (λ i. two (take_front (x ∷ xs) r i) (drop_front (x ∷ xs) r i)) in
    subst P (sym (all_counted is_token_byte (x ∷ xs) r is.1 stops)) whole

quoted_whole : (t r : List ℕ) → list_all is_quoted_byte t ≡ true → quoted_at (t ++ 34 ∷ r) ≡ two t r
quoted_whole t r is =
    let text : List ℕ = t ++ 34 ∷ r in
    let P : ℕ → Type 0 = λ n. cond (begins_with 34 (drop n text)) (parted n (n + 1) text) no_two ≡ two t r in
    let behind : drop (length t) text ≡ 34 ∷ r = drop_front t (34 ∷ r) in
    let last : drop (length t + 1) text ≡ r = sym (drop-drop 1 (length t) text) ∙ ap (drop 1) behind in
    let whole : P (length t) = λ i. cond (begins_with 34 (behind i)) (two (take_front t (34 ∷ r) i) (last i)) no_two in
    subst P (sym (all_counted is_quoted_byte t (34 ∷ r) is refl)) whole

no_token_byte : (x c : ℕ) → is_token_byte x ≡ true → is_token_byte c ≡ false → (x == c) ≡ false
no_token_byte x c is other = ne_eqb x c (λ e. false≢true (sym other ∙ ap is_token_byte (sym e) ∙ is))

quote_is_none : is_token_byte 34 ≡ false
unfolding is_token_byte
quote_is_none = refl

equals_is_none : is_token_byte 61 ≡ false
unfolding is_token_byte
equals_is_none = refl

semicolon_is_none : is_token_byte 59 ≡ false
unfolding is_token_byte
semicolon_is_none = refl

space_is_none : is_token_byte 32 ≡ false
unfolding is_token_byte
space_is_none = refl

tab_is_none : is_token_byte 9 ≡ false
unfolding is_token_byte
tab_is_none = refl

-- a byte that ends a token
ends_token : (x : ℕ) (xs : List ℕ) → is_token_byte x ≡ false → prefix_len is_token_byte (x ∷ xs) ≡ 0
ends_token x xs is = ap (λ b. cond b (1 + prefix_len is_token_byte xs) 0) is

blank_is_none : (x : ℕ) → is_ows x ≡ true → is_token_byte x ≡ false
blank_is_none x is = false_from_ne_true (is_token_byte x) (λ token.
    let none : is_ows x ≡ false =
    or_from (x == 32) (x == 9) (no_token_byte x 32 token space_is_none) (no_token_byte x 9 token tab_is_none) in
    false≢true (sym none ∙ is))

token_is_no_blank : (x : ℕ) → is_token_byte x ≡ true → is_ows x ≡ false
token_is_no_blank x token =
    or_from (x == 32) (x == 9) (no_token_byte x 32 token space_is_none) (no_token_byte x 9 token tab_is_none)

token_is_kept : (t r : List ℕ) → IsTokenText t → skip_ows (t ++ r) ≡ t ++ r
token_is_kept [] r is = absurd (omega (arith, is.0))
token_is_kept (x ∷ xs) r is =
    let parts = both (is_token_byte x) (list_all is_token_byte xs) is.1 in
    ap (λ b. cond b (skip_ows (xs ++ r)) (x ∷ xs ++ r)) (token_is_no_blank x parts.0)

value_whole : (v : Spelling) (r : List ℕ) → IsSpelling v → prefix_len is_token_byte r ≡ 0 → value_at (value_text v ++ r) ≡ two (meant v) r
unfolding value_at
value_whole (bare []) r is stops = absurd (omega (arith, is.0))
value_whole (bare (x ∷ xs)) r is stops =
    let parts = both (is_token_byte x) (list_all is_token_byte xs) is.1 in
    ap (λ b. cond b (quoted_at (drop 1 (x ∷ xs ++ r))) (token_at (x ∷ xs ++ r))) (no_token_byte x 34 parts.0 quote_is_none)
    ∙ token_whole (x ∷ xs) r is stops
value_whole (quoted t) r is stops = ap quoted_at (append_assoc t (34 ∷ []) r) ∙ quoted_whole t r is

parameter_whole : (w : Written) (r : List ℕ) → IsWritten w → prefix_len is_token_byte r ≡ 0
    → parameter_at (written_text w ++ r) ≡ Some (w.name, meant w.value, r)
unfolding parameter_at
parameter_whole w r is stops =
    let value : List ℕ = value_text w.value ++ r in
    let named : List ℕ = w.name ++ (61 ∷ value) in
    let behind : List ℕ = 59 ∷ (w.after ++ named) in
    let blank : skip_ows (written_text w ++ r) ≡ behind =
    ap skip_ows (regroup w.before w.after w.name (value_text w.value) r) ∙ blanks_skipped w.before behind is.before in
    let name : skip_ows (w.after ++ named) ≡ named = blanks_skipped w.after named is.after ∙ token_is_kept w.name (61 ∷ value) is.name in
    (λ i. cond (begins_with 59 (blank i)) (with_name (token_at (skip_ows (drop 1 (blank i))))) None)
    ∙ ap (λ l. with_name (token_at l)) name
    ∙ ap with_name (token_whole w.name (61 ∷ value) is.name (ends_token 61 value equals_is_none))
    ∙ ap (with_value w.name) (value_whole w.value r is.value stops)

-- what follows a parameter ends a token
blanks_end : (blanks rest : List ℕ) → list_all is_ows blanks ≡ true → prefix_len is_token_byte rest ≡ 0 → prefix_len is_token_byte (blanks ++ rest) ≡ 0
blanks_end [] rest all stops = stops
blanks_end (x ∷ xs) rest all stops =
    let parts = both (is_ows x) (list_all is_ows xs) all in
    ends_token x (xs ++ rest) (blank_is_none x parts.0)

rest_ends : (ps : List Written) (last : List ℕ) → AreWritten ps → list_all is_ows last ≡ true → prefix_len is_token_byte (flat_map written_text ps ++ last) ≡ 0
rest_ends [] last are blank =
    let P : List ℕ → Type 0 = λ l. prefix_len is_token_byte l ≡ 0 in
    subst P (append-nil last) (blanks_end last [] blank refl)
rest_ends (p ∷ ps) last are blank =
    let rest : List ℕ = flat_map written_text ps ++ last in
    let P : List ℕ → Type 0 = λ l. prefix_len is_token_byte l ≡ 0 in
    let behind : List ℕ = p.after ++ (p.name ++ (61 ∷ (value_text p.value ++ rest))) in
    subst P (sym (append_assoc (written_text p) (flat_map written_text ps) last ∙ regroup p.before p.after p.name (value_text p.value) rest))
    (blanks_end p.before (59 ∷ behind) are.0.before (ends_token 59 behind semicolon_is_none))

blank_end : (last : List ℕ) → list_all is_ows last ≡ true → skip_ows last ≡ []
blank_end last blank = ap skip_ows (sym (append-nil last)) ∙ blanks_skipped last [] blank

no_parameter : (last : List ℕ) → list_all is_ows last ≡ true → parameter_at last ≡ None
unfolding parameter_at
no_parameter last blank =
    ap (λ l. cond (begins_with 59 l) (with_name (token_at (skip_ows (drop 1 l)))) None) (blank_end last blank)

values_whole : (ps : List Written) (last : List ℕ) → AreWritten ps → list_all is_ows last ≡ true → (fuel : ℕ) → length ps < fuel
    → (wanted : List ℕ) (found : Option (List ℕ))
    → value_in fuel wanted found (flat_map written_text ps ++ last) ≡ or_else found (first_named wanted ps)
unfolding value_in
values_whole [] last are blank zero more wanted found = absurd (omega (arith, more))
values_whole [] last are blank (suc n) more wanted found =
    ap (value_behind (λ next rest. value_in n wanted next rest) wanted found last) (no_parameter last blank)
    ∙ ap (λ l. cond (length l == 0) found None) (blank_end last blank) ∙ sym (or_none found)
values_whole (p ∷ ps) last are blank zero more wanted found = absurd (omega (arith, more))
values_whole (p ∷ ps) last are blank (suc n) more wanted found =
    let rest : List ℕ = flat_map written_text ps ++ last in
    let text : List ℕ = flat_map written_text (p ∷ ps) ++ last in
    let seen : parameter_at text ≡ Some (p.name, meant p.value, rest) =
    ap parameter_at (append_assoc (written_text p) (flat_map written_text ps) last)
    ∙ parameter_whole p rest are.0 (rest_ends ps last are.1 blank) in
    let next : Option (List ℕ) = first_of found (is_like p.name wanted) (meant p.value) in
    ap (value_behind (λ next rest. value_in n wanted next rest) wanted found text) seen
    ∙ values_whole ps last are.1 blank n (omega (arith, more)) wanted next
    ∙ or_first found (is_like p.name wanted) (meant p.value) (first_named wanted ps)

-- a text is longer than it has parameters
some_text : (p : Written) → 0 < length (written_text p)
some_text p =
    let long : length (written_text p) ≡ length p.before + suc (length (p.after ++ (p.name ++ (61 ∷ value_text p.value)))) =
    length-append p.before (59 ∷ (p.after ++ (p.name ++ (61 ∷ value_text p.value)))) in
    omega (arith, long)

few_parameters : (ps : List Written) (last : List ℕ) → length ps ≤ length (flat_map written_text ps ++ last)
few_parameters [] last = omega arith
few_parameters (p ∷ ps) last =
    let rest : List ℕ = flat_map written_text ps ++ last in
    let few : length ps ≤ length rest = few_parameters ps last in
    let some : 0 < length (written_text p) = some_text p in
    let grouped : length ((written_text p ++ flat_map written_text ps) ++ last) ≡ length (written_text p ++ rest) =
    ap length (append_assoc (written_text p) (flat_map written_text ps) last) in
    let long : length (written_text p ++ rest) ≡ length (written_text p) + length rest = length-append (written_text p) rest in
    omega (arith, few, some, grouped, long)

like_long : (a b : List ℕ) → is_like a b ≡ true → length a ≡ length b
like_long a b likes =
    let same : map to_ascii_lowercase a ≡ map to_ascii_lowercase b =
    (bytes_eq-Decides (map to_ascii_lowercase a) (map to_ascii_lowercase b)).0 likes in
    sym (length-map a to_ascii_lowercase) ∙ ap length same ∙ length-map b to_ascii_lowercase

not_less : (m n : ℕ) → n ≤ m → nat_lt m n ≡ false
not_less m n le = false_from_ne_true (nat_lt m n) (λ less. let below : m < n = ltb-true m n less in absurd (omega (arith, below, le)))

value_whole_of : (word wanted text value : List ℕ) → HasValue word wanted text value → value_of word wanted text ≡ Some value
unfolding value_of
value_whole_of word wanted text value has =
    let front : List ℕ = has.front in
    let rest : List ℕ = has.rest in
    let long : length front ≡ length word = like_long front word has.likes in
    let both_long : length text ≡ length front + length rest = ap length has.spelled ∙ length-append front rest in
    let taken : take (length word) text ≡ front = (λ i. take (sym long i) (has.spelled i)) ∙ take_front front rest in
    let dropped : drop (length word) text ≡ rest = (λ i. drop (sym long i) (has.spelled i)) ∙ drop_front front rest in
    let few : length has.ps ≤ length (flat_map written_text has.ps ++ has.are.last) = few_parameters has.ps has.are.last in
    let same : length rest ≡ length (flat_map written_text has.ps ++ has.are.last) = ap length has.are.spelled in
    let read : value_in (length rest + 1) wanted None rest ≡ Some value =
    ap (value_in (length rest + 1) wanted None) has.are.spelled
    ∙ values_whole has.ps has.are.last has.are.each has.are.blank (length rest + 1) (omega (arith, few, same)) wanted None ∙ has.first in
    ap (λ b. cond b None (cond (is_like (take (length word) text) word)
    (value_in (length (drop (length word) text) + 1) wanted None (drop (length word) text)) None))
    (not_less (length text) (length word) (omega (arith, long, both_long)))
    ∙ ap (λ b. cond b (value_in (length (drop (length word) text) + 1) wanted None (drop (length word) text)) None)
    (ap (λ l. is_like l word) taken ∙ has.likes)
    ∙ ap (λ l. value_in (length l + 1) wanted None l) dropped ∙ read

pub values_are_first : ValuesAreFirst
values_are_first word wanted text value = (value_read_of word wanted text value, value_whole_of word wanted text value)
