-- How far a text is the front of a line.
use Rattle.std.proofs.Common.{◌≡◌, ◌<◌, ◌≤◌, ◌⊎◌, ◌+◌, inl, inr, ℕ, zero, suc, Bool, true, false, ◌&&◌, List, [], ◌∷◌, ◌++◌, length, nat_le, refl, sym, ap, subst, ◌∙◌, Option, Some, None, arith, length-append}
use Rattle.std.proofs.lemmas.Bool.{leb-true, leb-false}
use Rattle.std.proofs.lemmas.List.{append_assoc, append-nil, nil_from_length}
use Rattle.std.proofs.lemmas.Str.{encode_same, cons_from_encodes, IsUtf8-append, IsUtf8-encode, IsUtf8-nil, IsUtf8-past_char}
use Rattle.std.specs.Char.{encode_utf8, IsScalar}
use Rattle.std.specs.Str.{IsUtf8, encode_utf8_all, all_scalars}
use Rattle.search_query.specs.Mirror.{Asked}
use Rattle.search_words.specs.Grammar.{IsLine}
use Rattle.search_words.specs.Lines.{State, stuck, start, run, line_asks, reading, is_live}
use Rattle.search_words.specs.Characters.{char_step}
use Rattle.search_words.specs.Fronts.{IsFront}
use Rattle.search_query.specs.Valid.{nests}
use Rattle.search_words.specs.Faults.{longest_line, deepest, IsFault, AsksTooDeep, RefusesShort, Refuses, StandsAt}
use Rattle.search_words.specs.declared.fault.WordsFault.{WordsFault}
use Rattle.search_words.specs.declared.fault.WordsFault.TheVariants.{TooLong, Bad, TooDeep, NoMemory}
use Rattle.search_words.proofs.Tests.{and_both}
use Rattle.search_words.proofs.Wholes.{run-append, stuck_stays, line_reads}
use Rattle.search_words.proofs.LineSound.{start_was, run_was}
use Rattle.search_words.proofs.Completing.{live_front, front_live}
use Rattle.search_words.proofs.Wide.{char_run}

-- A longer front in whole characters has the next character whole.

pub record Beyond (front longer : List ℕ) (c : ℕ) : Type 0 where
  pub more : List ℕ
  pub whole : longer ≡ front ++ (encode_utf8 c ++ more)

beyond : (fs ls : List ℕ) (c : ℕ) (rest more : List ℕ)
    → encode_utf8_all fs ++ (encode_utf8 c ++ rest) ≡ encode_utf8_all ls ++ more
    → length (encode_utf8_all fs) < length (encode_utf8_all ls) → Beyond (encode_utf8_all fs) (encode_utf8_all ls) c
beyond [] [] c rest more e less = absurd (omega (arith, less))
beyond [] (d ∷ ls) c rest more e less =
    let same =
    encode_same c d rest (encode_utf8_all ls ++ more)
    (e ∙ append_assoc (encode_utf8 d) (encode_utf8_all ls) more) in
    record { more = encode_utf8_all ls; whole = ap (λ k. encode_utf8 k ++ encode_utf8_all ls) (sym same.0) }
beyond (f ∷ fs) [] c rest more e less = absurd (omega (arith, less))
beyond (f ∷ fs) (d ∷ ls) c rest more e less =
    let apart : encode_utf8 f ++ (encode_utf8_all fs ++ (encode_utf8 c ++ rest))
    ≡ encode_utf8 d ++ (encode_utf8_all ls ++ more) =
    sym (append_assoc (encode_utf8 f) (encode_utf8_all fs) (encode_utf8 c ++ rest)) ∙ e
    ∙ append_assoc (encode_utf8 d) (encode_utf8_all ls) more in
    let same = encode_same f d (encode_utf8_all fs ++ (encode_utf8 c ++ rest)) (encode_utf8_all ls ++ more) apart in
    let long = ap (λ k. length (encode_utf8 k)) same.0 in
    let fewer : length (encode_utf8_all fs) < length (encode_utf8_all ls) =
    omega (
      arith,
      less,
      long,
      length-append (encode_utf8 f) (encode_utf8_all fs),
      length-append (encode_utf8 d) (encode_utf8_all ls),
    ) in
    let r = beyond fs ls c rest more same.1 fewer in
    record {
      more = r.more;
      whole = ap (λ k. encode_utf8 k ++ encode_utf8_all ls) (sym same.0) ∙ ap (λ l. encode_utf8 f ++ l) r.whole
          ∙ sym (append_assoc (encode_utf8 f) (encode_utf8_all fs) (encode_utf8 c ++ r.more));
    }

pub longer_has : (front longer : List ℕ) (c : ℕ) (rest more : List ℕ) → IsUtf8 front → IsUtf8 longer
    → front ++ (encode_utf8 c ++ rest) ≡ longer ++ more → length front < length longer → Beyond front longer c
longer_has front longer c rest more (fs, (fs_are, f)) (ls, (ls_are, l)) =
    subst (λ t. t ++ (encode_utf8 c ++ rest) ≡ longer ++ more → length t < length longer → Beyond t longer c) f
    (subst (λ t. encode_utf8_all fs ++ (encode_utf8 c ++ rest) ≡ t ++ more → length (encode_utf8_all fs) < length t
    → Beyond (encode_utf8_all fs) t c) l
    (beyond fs ls c rest more))

-- Where a reading is stuck, all longer texts are.

stuck_behind : (front cs more : List ℕ) → run (run start front) cs ≡ stuck → run start (front ++ (cs ++ more)) ≡ stuck
stuck_behind front cs more h =
    run-append start front (cs ++ more) ∙ run-append (run start front) cs more ∙ ap (λ s. run s more) h
    ∙ stuck_stays more

no_line : (text : List ℕ) → line_asks (run start text) ≡ None → (a : Asked) → IsLine text a → ⊥
no_line text h a l = let no : None ≡ Some a = sym h ∙ line_reads l in cc no

not_front : (text : List ℕ) → run start text ≡ stuck → IsFront text → ⊥
not_front text h f = let no : false ≡ true = sym (ap is_live h) ∙ front_live text f in cc no

at_most : (n m : ℕ) → (m < n → ⊥) → n ≤ m
at_most n m h = by (nat_le n m) refl
  where
    by : (b : Bool) → nat_le n m ≡ b → n ≤ m
    by true e = leb-true n m e
    by false e = absurd (h (leb-false n m e))

-- Steps of the reading, and its ends

first_scalar : (left rest : List ℕ) (c : ℕ) → IsUtf8 left → left ≡ encode_utf8 c ++ rest → IsScalar c
first_scalar left rest c (cs, (cs_are, is)) e =
    let first = cons_from_encodes cs rest c (is ∙ e) in
    (and_both _ _ (sym (ap all_scalars first.1) ∙ cs_are)).0

pub begun : (text : List ℕ) → IsUtf8 text → StandsAt text start 0 text
begun text utf8 = record { front = []; cut = refl; long = refl; whole = IsUtf8-nil; rest = utf8; led = refl }

-- the same of what a loop begins with
pub begun_at : (text left : List ℕ) (s : State) (n : ℕ) → IsUtf8 text → s ≡ start → n ≡ 0 → left ≡ text
    → StandsAt text s n left
begun_at text left s n utf8 is none whole = record {
  front = [];
  cut = sym whole;
  long = sym none;
  whole = IsUtf8-nil;
  rest = subst IsUtf8 (sym whole) utf8;
  led = is;
}

pub read_char : (text : List ℕ) (s : State) (at c : ℕ) (left rest : List ℕ) (r : StandsAt text s at left)
    → left ≡ encode_utf8 c ++ rest → char_step s c ≡ run (run start r.front) (encode_utf8 c)
read_char text s at c left rest r e =
    ap (λ t. char_step t c) r.led ∙ char_run (run start r.front) r.front c (run_was start [] r.front start_was)

pub reads_on : (text : List ℕ) (s t : State) (at next c : ℕ) (left rest : List ℕ) → StandsAt text s at left
    → left ≡ encode_utf8 c ++ rest → next ≡ at + length (encode_utf8 c) → t ≡ char_step s c → StandsAt text t next rest
reads_on text s t at next c left rest r e n h = record {
  front = r.front ++ encode_utf8 c;
  cut = r.cut ∙ ap (λ l. r.front ++ l) e ∙ sym (append_assoc r.front (encode_utf8 c) rest);
  long = length-append r.front (encode_utf8 c) ∙ ap (λ k. k + length (encode_utf8 c)) r.long ∙ sym n;
  whole = IsUtf8-append r.front (encode_utf8 c) r.whole (IsUtf8-encode c (first_scalar left rest c r.rest e));
  rest = IsUtf8-past_char left rest c r.rest e;
  led = h ∙ read_char text s at c left rest r e ∙ sym (run-append start r.front (encode_utf8 c));
}

pub stops_at : (text : List ℕ) (s : State) (at c : ℕ) (left rest : List ℕ) → StandsAt text s at left
    → left ≡ encode_utf8 c ++ rest → is_live s ≡ true → char_step s c ≡ stuck → IsFault text at
stops_at text s at c left rest r e live h =
    let front = r.front in
    let behind : run (run start front) (encode_utf8 c) ≡ stuck = sym (read_char text s at c left rest r e) ∙ h in
    let cut : text ≡ front ++ (encode_utf8 c ++ rest) = r.cut ∙ ap (λ l. front ++ l) e in
    let off : run start text ≡ stuck = ap (run start) cut ∙ stuck_behind front (encode_utf8 c) rest behind in
    record {
      none = no_line text (ap line_asks off);
      front = front;
      rest = left;
      cut = r.cut;
      long = r.long;
      whole = r.whole;
      is_front = live_front front r.whole (sym (ap is_live r.led) ∙ live);
      longest =
          λ longer more is utf8 is_front. subst (λ n. length longer ≤ n) r.long
          (at_most (length longer) (length front) (λ less.
          let b = longer_has front longer c rest more r.whole utf8 (sym cut ∙ is) less in
          not_front longer (ap (run start) b.whole ∙ stuck_behind front (encode_utf8 c) b.more behind) is_front));
    }

pub all_read : (text : List ℕ) (s : State) (at : ℕ) (left : List ℕ) → StandsAt text s at left → length left ≡ 0
    → s ≡ run start text
all_read text s at left r none =
    r.led ∙ ap (run start) (sym (r.cut ∙ ap (λ l. r.front ++ l) (nil_from_length left none) ∙ append-nil r.front))

pub ends_short : (text : List ℕ) (s : State) → IsUtf8 text → s ≡ run start text → is_live s ≡ true → line_asks s ≡ None
    → IsFault text (length text)
ends_short text s utf8 led live none = record {
  none = no_line text (sym (ap line_asks led) ∙ none);
  front = text;
  rest = [];
  cut = sym (append-nil text);
  long = refl;
  whole = utf8;
  is_front = live_front text utf8 (sym (ap is_live led) ∙ live);
  longest = λ longer more is utf8 is_front. let long = ap length is in omega (arith, long, length-append longer more);
}

-- Refusals

pub refuses_short : (text : List ℕ) (fault : WordsFault) → length text ≤ longest_line → RefusesShort text fault
    → Refuses text fault
refuses_short text (TooLong len) short why = absurd why
refuses_short text (Bad at) short why = (short, why)
refuses_short text TooDeep short why = (short, why)
refuses_short text NoMemory short why = tt

pub too_deep : (text : List ℕ) (a : Asked) → IsLine text a → nat_le (nests a) deepest ≡ false → AsksTooDeep text
too_deep text a l h = (a, l, leb-false (nests a) deepest h)
