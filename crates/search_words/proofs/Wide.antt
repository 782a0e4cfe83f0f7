-- Characters beyond ASCII: all their bytes are from 128 on.
use Rattle.std.proofs.Common.{◌≡◌, ◌≢◌, ◌<◌, ◌≤◌, ◌⊎◌, inl, inr, ℕ, zero, suc, Bool, true, false, not, cond, ◌&&◌, ◌||◌, List, [], ◌∷◌, ◌++◌, map, replicate, length, get_or, nat_eq, nat_le, nat_lt, refl, sym, ap, ◌∙◌, Option, Some, None, arith}
use Rattle.std.proofs.lemmas.Bool.Decides.{eqb_tells}
use Rattle.std.proofs.lemmas.Bool.{ltb-true, ltb-false}
use Rattle.std.proofs.lemmas.List.{append_assoc, append-nil}
use Rattle.std.proofs.lemmas.Str.{inside_one, encode_ascii, length-encode, len_utf8_bounds}
use Rattle.std.specs.Char.{is_ascii, encode_utf8}
use Rattle.std.specs.List.{list_all}
use Rattle.blobref.specs.Blobref.{sha1_name, sha224_name, is_lower_digit}
use Rattle.blobref.proofs.Spelled.{small_digit}
use Rattle.search_query.specs.Mirror.{Asked}
use Rattle.search_words.specs.Grammar.{is_bare, is_escaped}
use Rattle.search_words.specs.Words.{Use, of_tag, of_title, of_name, of_value, of_has, of_ref, Aim, a_text, a_ref, Place, begins, in_t, spelling, text_begins, in_bare, in_quoted, in_escape, quoted_ends, in_ref, may_end, sha1_bytes, sha224_bytes, passes, is_ref_front, first_letter, after_t, reached, past, word_step, word_run, word_asks, then_on}
use Rattle.search_words.specs.Lines.{Form, State, stuck, at, fresh, with_atom, close, after, word_over, on_word, at_o, at_atom, at_between, in_place, form_asks, between, at_minus, in_word, in_o, in_or, closed, step, run}
use Rattle.search_words.specs.Characters.{wide_step, wide_on, wide_state, char_step}
use Rattle.search_words.proofs.Tests.{and_both, and_false, or_both, cond_true, cond_false}
use Rattle.search_words.proofs.Reaching.{bare_begins, bare_run}
use Rattle.search_words.proofs.Wholes.{stuck_stays, word_lift}
use Rattle.search_words.proofs.WordSound.{Read}
use Rattle.search_words.proofs.LineSound.{Was}

not_byte : (x c : ℕ) → c < x → nat_eq x c ≡ false
not_byte x c h = go (eqb_tells x c)
  where
    go : ((nat_eq x c ≡ true) × (x ≡ c)) ⊎ ((nat_eq x c ≡ false) × (x ≢ c)) → nat_eq x c ≡ false
    go (inl e) = absurd (omega (arith, h, e.1))
    go (inr e) = e.0

-- such bytes
pub data IsWide : List ℕ → Type 0 where
  no_more : IsWide []
  one_more : {x : ℕ} {xs : List ℕ} → 128 ≤ x → IsWide xs → IsWide (x ∷ xs)

below : (x c : ℕ) → 128 ≤ x → c < 128 → nat_eq x c ≡ false
below x c h k = not_byte x c (omega (arith, h, k))

wide_bare : (x : ℕ) → 128 ≤ x → is_bare x ≡ true
wide_bare x h =
    (λ i. not
    (below x 32 h (omega arith) i || below x 40 h (omega arith) i || below x 41 h (omega arith) i
    || below x 34 h (omega arith) i || below x 58 h (omega arith) i))

pub wide_escaped : (x : ℕ) → 128 ≤ x → is_escaped x ≡ false
wide_escaped x h = (λ i. below x 34 h (omega arith) i || below x 92 h (omega arith) i)

all_bare : {xs : List ℕ} → IsWide xs → list_all is_bare xs ≡ true
all_bare no_more = refl
all_bare (one_more {x} {xs} h r) = (λ i. wide_bare x h i && all_bare r i)

-- a bare text takes them all
pub wide_bare_run : (u : Use) (v : List ℕ) {xs : List ℕ} → IsWide xs
    → word_run (in_bare u v) xs ≡ Some (in_bare u (v ++ xs))
wide_bare_run u v {xs} r = bare_run u v xs (all_bare r)

-- so does a quoted one
pub wide_quoted_run : (u : Use) (v : List ℕ) {xs : List ℕ} → IsWide xs
    → word_run (in_quoted u v) xs ≡ Some (in_quoted u (v ++ xs))
wide_quoted_run u v no_more = ap (λ l. Some (in_quoted u l)) (sym (append-nil v))
wide_quoted_run u v (one_more {x} {xs} h r) =
    ap (λ (o : Option Place). then_on o (λ q. word_run q xs))
    (cond_false (nat_eq x 34) (cond (may_end u v) (Some (quoted_ends u v)) None)
    (cond (nat_eq x 92) (Some (in_escape u v)) (Some (in_quoted u (v ++ x ∷ [])))) (below x 34 h (omega arith))
    ∙ cond_false (nat_eq x 92) (Some (in_escape u v)) (Some (in_quoted u (v ++ x ∷ []))) (below x 92 h (omega arith)))
    ∙ wide_quoted_run u (v ++ x ∷ []) r
    ∙ ap (λ l. Some (in_quoted u l)) (append_assoc v (x ∷ []) xs)

wide_past : (u : Use) (v : List ℕ) (x : ℕ) → 128 ≤ x → past u v x ≡ None
wide_past of_name v x h = cond_false (nat_eq x 58) (Some (text_begins (of_value v))) None (below x 58 h (omega arith))
wide_past of_tag v x h = refl
wide_past of_title v x h = refl
wide_past (of_value n) v x h = refl
wide_past of_has v x h = refl
wide_past of_ref v x h = refl

-- after a unit, and where a unit may begin, such a byte is stuck
wide_after : (x : ℕ) → 128 ≤ x → (f : Form) (fs : List Form) → after x f fs ≡ stuck
wide_after x h f fs =
    cond_false (nat_eq x 32) (at between f fs) (cond (nat_eq x 41) (close (form_asks f) fs) stuck)
    (below x 32 h (omega arith))
    ∙ cond_false (nat_eq x 41) (close (form_asks f) fs) stuck (below x 41 h (omega arith))

wide_first : (x : ℕ) → 128 ≤ x → first_letter x ≡ None
wide_first x h =
    cond_false (nat_eq x 116) _ _ (below x 116 h (omega arith))
    ∙ cond_false (nat_eq x 97) _ _ (below x 97 h (omega arith))
    ∙ cond_false (nat_eq x 104) _ _ (below x 104 h (omega arith))
    ∙ cond_false (nat_eq x 114) _ _ (below x 114 h (omega arith))
    ∙ cond_false (nat_eq x 99) _ _ (below x 99 h (omega arith))

wide_second : (x : ℕ) → 128 ≤ x → after_t x ≡ None
wide_second x h =
    cond_false (nat_eq x 97) _ _ (below x 97 h (omega arith))
    ∙ cond_false (nat_eq x 105) _ _ (below x 105 h (omega arith))

wide_letter : (x y : ℕ) (ys : List ℕ) (aim : Aim) → 128 ≤ x → list_all is_ascii (y ∷ ys) ≡ true
    → word_step (spelling y ys aim) x ≡ None
wide_letter x y ys aim h r =
    cond_false (nat_eq x y) (Some (reached ys aim)) None
    (below x y h (ltb-true y 128 (and_both (is_ascii y) (list_all is_ascii ys) r).0))

-- no test of a blobref's bytes takes it

abbrev Rejects : List (ℕ → Bool) → ℕ → Type 0
Rejects [] x = Unit {0}
Rejects (test ∷ tests) x = (test x ≡ false) × Rejects tests x

rejects_append : (ps qs : List (ℕ → Bool)) (x : ℕ) → Rejects ps x → Rejects qs x → Rejects (ps ++ qs) x
rejects_append [] qs x r s = s
rejects_append (p ∷ ps) qs x r s = (r.0, rejects_append ps qs x r.1 s)

rejects_many : (n : ℕ) (test : ℕ → Bool) (x : ℕ) → test x ≡ false → Rejects (replicate n test) x
rejects_many zero test x h = tt
rejects_many (suc n) test x h = (h, rejects_many n test x h)

rejects_name : (name : List ℕ) (x : ℕ) → 128 ≤ x → list_all is_ascii name ≡ true
    → Rejects (map (λ c y. nat_eq y c) name) x
rejects_name [] x h r = tt
rejects_name (c ∷ name) x h r =
    let r2 = and_both (is_ascii c) (list_all is_ascii name) r in
    (below x c h (ltb-true c 128 r2.0), rejects_name name x h r2.1)

wide_digit : (x : ℕ) → 128 ≤ x → is_lower_digit x ≡ false
wide_digit x h = by (is_lower_digit x) refl
  where
    by : (b : Bool) → is_lower_digit x ≡ b → b ≡ false
    by true e = absurd (omega (arith, h, small_digit x e))
    by false e = refl

rejected : (tests : List (ℕ → Bool)) (t : List ℕ) (x : ℕ) → Rejects tests x → passes tests (t ++ x ∷ []) ≡ false
rejected [] [] x r = refl
rejected [] (y ∷ t) x r = refl
rejected (test ∷ tests) [] x r = ap (λ b. b && true) r.0
rejected (test ∷ tests) (y ∷ t) x r = and_false (test y) (passes tests (t ++ x ∷ [])) (rejected tests t x r.1)

wide_ref : (t : List ℕ) (x : ℕ) → 128 ≤ x → is_ref_front (t ++ x ∷ []) ≡ false
wide_ref t x h =
    let digit = wide_digit x h in
    or_both (passes sha224_bytes (t ++ x ∷ [])) (passes sha1_bytes (t ++ x ∷ []))
    (rejected sha224_bytes t x
    (rejects_append (map (λ c y. nat_eq y c) sha224_name) (replicate 56 is_lower_digit) x
    (rejects_name sha224_name x h refl) (rejects_many 56 is_lower_digit x digit)))
    (rejected sha1_bytes t x
    (rejects_append (map (λ c y. nat_eq y c) sha1_name) (replicate 40 is_lower_digit) x
    (rejects_name sha1_name x h refl) (rejects_many 40 is_lower_digit x digit)))

-- where a word doesn't go on, nor does the line
wide_off : (p : Place) (x : ℕ) → 128 ≤ x → word_step p x ≡ None → (f : Form) (fs : List Form)
    → in_place p x f fs ≡ stuck
wide_off p x h off f fs = ap (λ o. on_word o (word_asks p) x f fs) off ∙ over (word_asks p)
  where
    over : (o : Option Asked) → word_over o x f fs ≡ stuck
    over None = refl
    over (Some a) = wide_after x h (with_atom a f) fs

wide_atom : (x : ℕ) → 128 ≤ x → (f : Form) (fs : List Form) → at_atom x f fs ≡ stuck
wide_atom x h f fs =
    cond_false (nat_eq x 40) (at between fresh (f ∷ fs)) (in_place begins x f fs) (below x 40 h (omega arith))
    ∙ wide_off begins x h (wide_first x h) f fs

wide_between : (x : ℕ) → 128 ≤ x → (f : Form) (fs : List Form) → at_between x f fs ≡ stuck
wide_between x h f fs =
    cond_false (nat_eq x 32) _ _ (below x 32 h (omega arith))
    ∙ cond_false (nat_eq x 41) _ _ (below x 41 h (omega arith))
    ∙ cond_false (nat_eq x 45) _ _ (below x 45 h (omega arith))
    ∙ cond_false (nat_eq x 111) _ _ (below x 111 h (omega arith))
    ∙ wide_atom x h f fs

-- one such byte that is stuck, and what follows
stuck_at : (s : State) (x : ℕ) (xs : List ℕ) → step s x ≡ stuck → run s (x ∷ xs) ≡ stuck
stuck_at s x xs h = ap (λ t. run t xs) h ∙ stuck_stays xs

-- what such bytes do to a state that a reading led to
wide_word : (p : Place) (g : List ℕ) (x : ℕ) (xs : List ℕ) → 128 ≤ x → IsWide xs → Read p g
    → (f : Form) (fs : List Form) → run (at (in_word p) f fs) (x ∷ xs) ≡ wide_on (wide_step p (x ∷ xs)) f fs
wide_word begins g x xs h w r f fs =
    stuck_at (at (in_word begins) f fs) x xs (wide_off begins x h (wide_first x h) f fs)
wide_word in_t g x xs h w r f fs = stuck_at (at (in_word in_t) f fs) x xs (wide_off in_t x h (wide_second x h) f fs)
wide_word (spelling y ys (a_text u)) g x xs h w r f fs =
    stuck_at (at (in_word (spelling y ys (a_text u))) f fs) x xs
    (wide_off (spelling y ys (a_text u)) x h (wide_letter x y ys (a_text u) h r.1) f fs)
wide_word (spelling y ys a_ref) g x xs h w r f fs =
    stuck_at (at (in_word (spelling y ys a_ref)) f fs) x xs
    (wide_off (spelling y ys a_ref) x h (wide_letter x y ys a_ref h r.1) f fs)
wide_word (text_begins u) g x xs h w r f fs =
    word_lift (text_begins u) f fs (x ∷ xs) (in_bare u (x ∷ xs))
    (ap (λ (o : Option Place). then_on o (λ q. word_run q xs)) (bare_begins u x (wide_bare x h))
    ∙ wide_bare_run u (x ∷ []) w)
wide_word (in_bare u v) g x xs h w r f fs =
    word_lift (in_bare u v) f fs (x ∷ xs) (in_bare u (v ++ (x ∷ xs))) (wide_bare_run u v (one_more h w))
wide_word (in_quoted u v) g x xs h w r f fs =
    word_lift (in_quoted u v) f fs (x ∷ xs) (in_quoted u (v ++ (x ∷ xs))) (wide_quoted_run u v (one_more h w))
wide_word (in_escape u v) g x xs h w r f fs =
    stuck_at (at (in_word (in_escape u v)) f fs) x xs
    (wide_off (in_escape u v) x h (cond_false (is_escaped x) (Some (in_quoted u (v ++ x ∷ []))) None (wide_escaped x h))
    f fs)
wide_word (quoted_ends u v) g x xs h w r f fs =
    stuck_at (at (in_word (quoted_ends u v)) f fs) x xs (wide_off (quoted_ends u v) x h (wide_past u v x h) f fs)
wide_word (in_ref t) g x xs h w r f fs =
    stuck_at (at (in_word (in_ref t)) f fs) x xs
    (wide_off (in_ref t) x h
    (cond_false (is_ref_front (t ++ x ∷ [])) (Some (in_ref (t ++ x ∷ []))) None (wide_ref t x h)) f fs)

wide_run : (s : State) (p : List ℕ) (x : ℕ) (xs : List ℕ) → 128 ≤ x → IsWide xs → Was s p
    → run s (x ∷ xs) ≡ wide_state s (x ∷ xs)
wide_run stuck p x xs h w was = stuck_stays xs
wide_run (at between f fs) p x xs h w was = stuck_at (at between f fs) x xs (wide_between x h f fs)
wide_run (at at_minus f fs) p x xs h w was = stuck_at (at at_minus f fs) x xs (wide_atom x h f fs)
wide_run (at (in_word pl) f fs) p x xs h w (q, t, o, (u, g, opened, read, is), e) = wide_word pl g x xs h w read f fs
wide_run (at in_o f fs) p x xs h w was =
    stuck_at (at in_o f fs) x xs (cond_false (nat_eq x 114) (at in_or f fs) stuck (below x 114 h (omega arith)))
wide_run (at in_or f fs) p x xs h w was =
    stuck_at (at in_or f fs) x xs
    (cond_false (nat_eq x 32) (at between (record { ors = form_asks f; ands = None; negated = false }) fs) stuck
    (below x 32 h (omega arith)))
wide_run (at closed f fs) p x xs h w was = stuck_at (at closed f fs) x xs (wide_after x h f fs)

-- Characters

from_index : (xs : List ℕ) → ((k : ℕ) → k < length xs → 128 ≤ get_or xs k 0) → IsWide xs
from_index [] h = no_more
from_index (x ∷ xs) h = one_more (h 0 (omega arith)) (from_index xs (λ k l. h (suc k) (omega (arith, l))))

pub wide_bytes : (c : ℕ) → 128 ≤ c → IsWide (encode_utf8 c)
wide_bytes c h = from_index (encode_utf8 c) (λ k l. by k l (nat_lt (get_or (encode_utf8 c) k 0) 128) refl)
  where
    by : (k : ℕ) → k < length (encode_utf8 c) → (b : Bool) → nat_lt (get_or (encode_utf8 c) k 0) 128 ≡ b
        → 128 ≤ get_or (encode_utf8 c) k 0
    by k l true e =
        let low = ltb-true (get_or (encode_utf8 c) k 0) 128 e in
        let same = inside_one c [] (encode_utf8 c) k (sym (append-nil (encode_utf8 c))) l low in
        absurd (omega (arith, h, low, same))
    by k l false e = ltb-false (get_or (encode_utf8 c) k 0) 128 e

-- one character is its bytes
pub char_run : (s : State) (p : List ℕ) (c : ℕ) → Was s p → char_step s c ≡ run s (encode_utf8 c)
char_run s p c was = by (is_ascii c) refl
  where
    wide : (bytes : List ℕ) → IsWide bytes → 0 < length bytes → wide_state s bytes ≡ run s bytes
    wide [] w l = absurd (omega (arith, l))
    wide (x ∷ xs) (one_more h w) l = sym (wide_run s p x xs h w was)

    by : (b : Bool) → is_ascii c ≡ b → cond b (step s c) (wide_state s (encode_utf8 c)) ≡ run s (encode_utf8 c)
    by true e = sym (ap (run s) (encode_ascii c (ltb-true c 128 e)))
    by false e =
        let some : 0 < length (encode_utf8 c) = omega (arith, length-encode c, (len_utf8_bounds c).0) in
        wide (encode_utf8 c) (wide_bytes c (ltb-false c 128 e)) some
