-- What is said of a text that isn't read.
use Rattle.std.proofs.Common.{◌≡◌, ◌<◌, ◌≤◌, ◌+◌, ℕ, Bool, true, false, cond, List, [], ◌∷◌, ◌++◌, length, nat_le, nat_lt, refl, sym, ap, subst, ◌∙◌, Option, Some, None, arith, length-append}
use Rattle.std.proofs.lemmas.Bool.{leb-true, leb-false, ltb-true, ltb-false}
use Rattle.std.proofs.lemmas.List.{append-nil}
use Rattle.std.proofs.lemmas.Str.{encodes-chars}
use Rattle.std.specs.Char.{encode_utf8}
use Rattle.std.specs.Str.{IsUtf8, chars, encode_utf8_all}
use Rattle.search_query.specs.Mirror.{Asked}
use Rattle.search_query.specs.Valid.{nests}
use Rattle.search_words.specs.Grammar.{IsLine}
use Rattle.search_words.specs.Lines.{State, stuck, at, start, run, line_asks, reading, is_live}
use Rattle.search_words.specs.Characters.{char_step}
use Rattle.search_words.specs.Faults.{longest_line, deepest, IsFault, AsksTooDeep, Refuses, StandsAt, live_length, fault_of, words_fault, Says}
use Rattle.search_words.specs.declared.fault.WordsFault.{WordsFault}
use Rattle.search_words.specs.declared.fault.WordsFault.TheVariants.{TooLong, Bad, TooDeep, NoMemory}
use Rattle.search_words.proofs.Tests.{cond_true, cond_false}
use Rattle.search_words.proofs.Wholes.{run-append, line_reads}
use Rattle.search_words.proofs.LineSound.{reading_line}
use Rattle.search_words.proofs.Walking.{begun, read_char, reads_on, stops_at, all_read, ends_short}

dead_stuck : (s : State) → is_live s ≡ false → s ≡ stuck
dead_stuck stuck h = refl
dead_stuck (at spot f fs) h = absurd (cc h)

-- one place alone is the longest front's end
pub one_fault : (text : List ℕ) (n m : ℕ) → IsFault text n → IsFault text m → n ≡ m
one_fault text n m a b =
    let up = a.longest b.front b.rest b.cut b.whole b.is_front in
    let down = b.longest a.front a.rest a.cut a.whole a.is_front in
    omega (arith, up, down, a.long, b.long)

-- the reading goes on as far as it can
abbrev Later : List ℕ → State → ℕ → List ℕ → Type 0
Later text s n cs =
    StandsAt text s n (encode_utf8_all cs) → is_live s ≡ true → line_asks (run s (encode_utf8_all cs)) ≡ None
    → IsFault text (n + live_length s cs)

walked : (text : List ℕ) (s : State) (n : ℕ) (cs : List ℕ) → StandsAt text s n (encode_utf8_all cs) → is_live s ≡ true
    → line_asks (run s (encode_utf8_all cs)) ≡ None → IsFault text (n + live_length s cs)
walked text s n [] r live none =
    let whole : text ≡ r.front = r.cut ∙ append-nil r.front in
    let long : length text ≡ n + 0 = omega (arith, ap length whole, r.long) in
    subst (IsFault text) long
    (ends_short text s (subst IsUtf8 (sym whole) r.whole) (all_read text s n [] r refl) live none)
walked text s n (c ∷ cs) r live none =
    by (is_live (char_step s c)) refl (walked text (char_step s c) (n + length (encode_utf8 c)) cs)
  where
    by : (b : Bool) → is_live (char_step s c) ≡ b → Later text (char_step s c) (n + length (encode_utf8 c)) cs
        → IsFault text (n + cond b (length (encode_utf8 c) + live_length (char_step s c) cs) 0)
    by false e later =
        let same : n ≡ n + 0 = omega arith in
        subst (IsFault text) same
        (stops_at text s n c (encode_utf8_all (c ∷ cs)) (encode_utf8_all cs) r refl live
        (dead_stuck (char_step s c) e))
    by true e later =
        let next =
        reads_on text s (char_step s c) n (n + length (encode_utf8 c)) c (encode_utf8_all (c ∷ cs))
        (encode_utf8_all cs) r refl refl refl in
        let one : char_step s c ≡ run s (encode_utf8 c) =
        read_char text s n c (encode_utf8_all (c ∷ cs)) (encode_utf8_all cs) r refl
        ∙ ap (λ t. run t (encode_utf8 c)) (sym r.led) in
        let rest : line_asks (run (char_step s c) (encode_utf8_all cs)) ≡ None =
        ap (λ t. line_asks (run t (encode_utf8_all cs))) one
        ∙ sym (ap line_asks (run-append s (encode_utf8 c) (encode_utf8_all cs))) ∙ none in
        let same : (n + length (encode_utf8 c)) + live_length (char_step s c) cs
        ≡ n + (length (encode_utf8 c) + live_length (char_step s c) cs) = omega arith in
        subst (IsFault text) same (later next e rest)

pub first_fault : (text : List ℕ) → IsUtf8 text → reading text ≡ None → IsFault text (live_length start (chars text))
first_fault text utf8 none =
    let same = encodes-chars text utf8 in
    let bare : 0 + live_length start (chars text) ≡ live_length start (chars text) = omega arith in
    subst (IsFault text) bare
    (walked text start 0 (chars text) (subst (StandsAt text start 0) (sym same) (begun text utf8)) refl
    (ap (λ t. line_asks (run start t)) same ∙ none))

-- from what is so to what is said

no_reading : (text : List ℕ) → ((a : Asked) → IsLine text a → ⊥) → reading text ≡ None
no_reading text none = by (reading text) refl
  where
    by : (o : Option Asked) → reading text ≡ o → o ≡ None
    by None e = refl
    by (Some a) e = absurd (none a (reading_line text a e))

short_told : (text : List ℕ) → length text ≤ longest_line
    → words_fault text ≡ fault_of (reading text) (live_length start (chars text))
short_told text short =
    cond_false (nat_lt longest_line (length text)) (Some (TooLong (length text)))
    (fault_of (reading text) (live_length start (chars text))) (low (nat_lt longest_line (length text)) refl)
  where
    low : (b : Bool) → nat_lt longest_line (length text) ≡ b → b ≡ false
    low true e = absurd (omega (arith, short, ltb-true longest_line (length text) e))
    low false e = refl

deep_told : (a : Asked) (n : ℕ) → deepest < nests a → fault_of (Some a) n ≡ Some TooDeep
deep_told a n deep = cond_false (nat_le (nests a) deepest) None (Some TooDeep) (low (nat_le (nests a) deepest) refl)
  where
    low : (b : Bool) → nat_le (nests a) deepest ≡ b → b ≡ false
    low true e = absurd (omega (arith, deep, leb-true (nests a) deepest e))
    low false e = refl

pub refused_told : (text : List ℕ) → IsUtf8 text → (fault : WordsFault) → Refuses text fault
    → Says (words_fault text) fault
refused_told text utf8 (TooLong len) (long, is) =
    cond_true (nat_lt longest_line (length text)) (Some (TooLong (length text)))
    (fault_of (reading text) (live_length start (chars text))) (high (nat_lt longest_line (length text)) refl)
    ∙ ap (λ n. Some (TooLong n)) (sym is)
  where
    high : (b : Bool) → nat_lt longest_line (length text) ≡ b → b ≡ true
    high true e = refl
    high false e = absurd (omega (arith, long, ltb-false longest_line (length text) e))
refused_told text utf8 (Bad n) (short, f) =
    let none = no_reading text f.none in
    short_told text short ∙ ap (λ o. fault_of o (live_length start (chars text))) none
    ∙ ap (λ k. Some (Bad k)) (one_fault text (live_length start (chars text)) n (first_fault text utf8 none) f)
refused_told text utf8 TooDeep (short, (a, l, deep)) =
    short_told text short ∙ ap (λ o. fault_of o (live_length start (chars text))) (line_reads l)
    ∙ deep_told a (live_length start (chars text)) deep
refused_told text utf8 NoMemory why = tt

pub read_told : (text : List ℕ) (a : Asked) → IsLine text a → length text ≤ longest_line → nests a ≤ deepest
    → words_fault text ≡ None
read_told text a l short fits =
    short_told text short ∙ ap (λ o. fault_of o (live_length start (chars text))) (line_reads l)
    ∙ cond_true (nat_le (nests a) deepest) None (Some TooDeep) (low (nat_le (nests a) deepest) refl)
  where
    low : (b : Bool) → nat_le (nests a) deepest ≡ b → b ≡ true
    low true e = refl
    low false e = absurd (omega (arith, fits, leb-false (nests a) deepest e))

-- and back

told_reading : (text : List ℕ) (o : Option Asked) (fault : WordsFault) → IsUtf8 text → length text ≤ longest_line
    → reading text ≡ o → fault_of o (live_length start (chars text)) ≡ Some fault → Refuses text fault
told_reading text None fault utf8 short e h =
    let same : Bad (live_length start (chars text)) ≡ fault =
    cc h in subst (Refuses text) same (short, first_fault text utf8 e)
told_reading text (Some a) fault utf8 short e h = by (nat_le (nests a) deepest) refl h
  where
    by : (b : Bool) → nat_le (nests a) deepest ≡ b → cond b None (Some TooDeep) ≡ Some fault → Refuses text fault
    by true k h = absurd (cc h)
    by false k h =
        let same : TooDeep ≡ fault = cc h in
        subst (Refuses text) same (short, (a, reading_line text a e, leb-false (nests a) deepest k))

pub told_exactly : (text : List ℕ) (fault : WordsFault) → IsUtf8 text → words_fault text ≡ Some fault
    → Refuses text fault
told_exactly text fault utf8 h = by (nat_lt longest_line (length text)) refl h
  where
    by : (b : Bool) → nat_lt longest_line (length text) ≡ b
        → cond b (Some (TooLong (length text))) (fault_of (reading text) (live_length start (chars text))) ≡ Some fault
        → Refuses text fault
    by true e h =
        let same : TooLong (length text) ≡ fault = cc h in
        subst (Refuses text) same (ltb-true longest_line (length text) e, refl)
    by false e h = told_reading text (reading text) fault utf8 (ltb-false longest_line (length text) e) refl h

abbrev IsRead : List ℕ → Type 0
IsRead text = (a : Asked) × IsLine text a × (length text ≤ longest_line) × (nests a ≤ deepest)

deep_read : (text : List ℕ) (a : Asked) (b : Bool) → length text ≤ longest_line → reading text ≡ Some a
    → nat_le (nests a) deepest ≡ b → cond b None (Some TooDeep) ≡ None → IsRead text
deep_read text a true short e k h = (a, reading_line text a e, short, leb-true (nests a) deepest k)
deep_read text a false short e k h = absurd (cc h)

short_read : (text : List ℕ) (o : Option Asked) (n : ℕ) → length text ≤ longest_line → reading text ≡ o
    → fault_of o n ≡ None → IsRead text
short_read text None n short e h = absurd (cc h)
short_read text (Some a) n short e h = deep_read text a (nat_le (nests a) deepest) short e refl h

pub none_told : (text : List ℕ) → words_fault text ≡ None
    → (a : Asked) × IsLine text a × (length text ≤ longest_line) × (nests a ≤ deepest)
none_told text h = by (nat_lt longest_line (length text)) refl h
  where
    by : (b : Bool) → nat_lt longest_line (length text) ≡ b
        → cond b (Some (TooLong (length text))) (fault_of (reading text) (live_length start (chars text))) ≡ None
        → IsRead text
    by true e h = absurd (cc h)
    by false e h =
        short_read text (reading text) (live_length start (chars text)) (ltb-false longest_line (length text) e) refl h
