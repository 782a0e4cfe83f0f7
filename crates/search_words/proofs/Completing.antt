-- A text is a front of a line exactly where its reading isn't stuck.
use Rattle.std.proofs.Common.{◌≡◌, ◌≢◌, ℕ, zero, suc, Bool, true, false, cond, List, [], ◌∷◌, ◌++◌, codes, length, drop, replicate, nat_eq, refl, sym, ap, subst, ◌∙◌, arith, Option, Some, None, option_map}
use Rattle.std.proofs.lemmas.List.{append_assoc, append-nil}
use Rattle.std.proofs.lemmas.Bool.{eq-eqb}
use Rattle.std.proofs.lemmas.List.Folds.{list_all-append}
use Rattle.std.proofs.lemmas.Bool.{and_from, ltb-true}
use Rattle.std.proofs.lemmas.Str.{IsUtf8-append, IsUtf8-from_ascii}
use Rattle.std.specs.Char.{is_ascii}
use Rattle.std.specs.List.{list_all}
use Rattle.std.specs.Str.{IsUtf8, IsAscii}
use Rattle.blobref.specs.Blobref.{is_blobref}
use Rattle.search_query.specs.Mirror.{Asked}
use Rattle.search_words.specs.Asking.{has_value, children_of}
use Rattle.search_words.specs.Grammar.{spaces, is_bare, IsText, bare, IsWord, tag, IsLine}
use Rattle.search_words.specs.Words.{Use, of_tag, of_title, of_name, of_value, of_has, of_ref, Aim, a_text, a_ref, Place, begins, in_t, spelling, text_begins, in_bare, in_quoted, in_escape, quoted_ends, in_ref, sha224_bytes, passes, reached, past, may_end, is_ref_front, word_step, word_run, word_asks, asks, then_on}
use Rattle.search_words.specs.Lines.{Form, Spot, between, at_minus, in_word, in_o, in_or, closed, State, stuck, at, start, with_atom, form_asks, close, step, run, line_asks, reading, is_live}
use Rattle.search_words.specs.Fronts.{IsFront, some_sha1, some_sha224, ref_rest, use_rest, aim_rest, word_rest, unit_rest, line_rest}
use Rattle.search_words.proofs.Tests.{and_both, cond_true, cond_false}
use Rattle.search_words.proofs.Refs.{front_completed}
use Rattle.search_words.proofs.Reaching.{WordRuns, word_runs, word_run-append, ref_run}
use Rattle.search_words.proofs.Wholes.{Behind, run-append, stuck_stays, behind_at, closed_behind, word_behind, word_lift, word_between, word_reads, line_reads}
use Rattle.search_words.proofs.WordSound.{Read}
use Rattle.search_words.proofs.LineSound.{Was, Closed, start_was, run_was, line_was}

-- a word that is whole after some more
record Runs (p : Place) (rest : List ℕ) : Type 0 where
  pub end : Place
  pub asked : Asked
  pub runs : word_run p rest ≡ Some end
  pub asks : word_asks end ≡ Some asked

bare_more : (u : Use) (v : List ℕ) → Runs (in_bare u v) (use_rest u)
bare_more of_tag v = record { end = in_bare of_tag v; asked = _; runs = refl; asks = refl }
bare_more of_title v = record { end = in_bare of_title v; asked = _; runs = refl; asks = refl }
bare_more of_name v = record { end = in_bare (of_value v) (97 ∷ []); asked = _; runs = refl; asks = refl }
bare_more (of_value n) v = record { end = in_bare (of_value n) v; asked = _; runs = refl; asks = refl }
bare_more of_has v = record { end = in_bare of_has v; asked = _; runs = refl; asks = refl }
bare_more of_ref v = record { end = in_bare of_ref v; asked = _; runs = refl; asks = refl }

quoted_more : (u : Use) (v : List ℕ) → Runs (quoted_ends u v) (use_rest u)
quoted_more of_tag v = record { end = quoted_ends of_tag v; asked = _; runs = refl; asks = refl }
quoted_more of_title v = record { end = quoted_ends of_title v; asked = _; runs = refl; asks = refl }
quoted_more of_name v = record { end = in_bare (of_value v) (97 ∷ []); asked = _; runs = refl; asks = refl }
quoted_more (of_value n) v = record { end = quoted_ends (of_value n) v; asked = _; runs = refl; asks = refl }
quoted_more of_has v = record { end = quoted_ends of_has v; asked = _; runs = refl; asks = refl }
quoted_more of_ref v = record { end = quoted_ends of_ref v; asked = _; runs = refl; asks = refl }

-- further bytes before
led_by : (p q : Place) (xs rest : List ℕ) → word_run p xs ≡ Some q → Runs q rest → Runs p (xs ++ rest)
led_by p q xs rest e r = record {
  end = r.end;
  asked = r.asked;
  runs = word_run-append p xs rest ∙ ap (λ o. then_on o (λ s. word_run s rest)) e ∙ r.runs;
  asks = r.asks;
}

snoc_may_end : (u : Use) (v : List ℕ) (x : ℕ) → may_end u (v ++ x ∷ []) ≡ true
snoc_may_end of_tag v x = refl
snoc_may_end of_title v x = refl
snoc_may_end of_name [] x = refl
snoc_may_end of_name (y ∷ v) x = refl
snoc_may_end (of_value n) v x = refl
snoc_may_end of_has [] x = refl
snoc_may_end of_has (y ∷ v) x = refl
snoc_may_end of_ref v x = refl

close_quote : (u : Use) (v : List ℕ) (x : ℕ)
    → word_run (in_quoted u (v ++ x ∷ [])) (34 ∷ []) ≡ Some (quoted_ends u (v ++ x ∷ []))
close_quote u v x =
    ap (λ o. then_on o (λ q. Some q))
    (cond_true (may_end u (v ++ x ∷ [])) (Some (quoted_ends u (v ++ x ∷ []))) None (snoc_may_end u v x))

ref_more : (r : List ℕ) → is_ref_front r ≡ true → Runs (in_ref r) (ref_rest r)
ref_more r front =
    let whole = front_completed r front in
    record {
      end = in_ref (r ++ ref_rest r);
      asked = children_of (r ++ ref_rest r);
      runs = ref_run r (ref_rest r) whole;
      asks = cond_true (is_blobref (r ++ ref_rest r)) (Some (children_of (r ++ ref_rest r))) None whole;
    }

same_byte : (y : ℕ) → nat_eq y y ≡ true
same_byte y = eq-eqb y y refl

aim_more : (aim : Aim) → Runs (reached [] aim) (aim_rest aim)
aim_more (a_text u) = led_by (text_begins u) (in_bare u (97 ∷ [])) (97 ∷ []) (use_rest u) refl (bare_more u (97 ∷ []))
aim_more a_ref = ref_more [] refl

spelling_more : (y : ℕ) (ys : List ℕ) (aim : Aim) → Runs (spelling y ys aim) (y ∷ ys ++ aim_rest aim)
spelling_more y [] aim =
    led_by (spelling y [] aim) (reached [] aim) (y ∷ []) (aim_rest aim)
    (ap (λ o. then_on o (λ q. Some q)) (cond_true (nat_eq y y) (Some (reached [] aim)) None (same_byte y)))
    (aim_more aim)
spelling_more y (z ∷ ys) aim =
    led_by (spelling y (z ∷ ys) aim) (spelling z ys aim) (y ∷ []) (z ∷ ys ++ aim_rest aim)
    (ap (λ o. then_on o (λ q. Some q)) (cond_true (nat_eq y y) (Some (spelling z ys aim)) None (same_byte y)))
    (spelling_more z ys aim)

word_more : (p : Place) (f : List ℕ) → Read p f → Runs p (word_rest p)
word_more begins f r = record { end = in_bare of_tag (97 ∷ []); asked = _; runs = refl; asks = refl }
word_more in_t f r = record { end = in_bare of_tag (97 ∷ []); asked = _; runs = refl; asks = refl }
word_more (spelling y ys aim) f r = spelling_more y ys aim
word_more (text_begins u) f r = aim_more (a_text u)
word_more (in_bare u v) f r = bare_more u v
word_more (in_quoted u v) f r =
    led_by (in_quoted u v) (quoted_ends u (v ++ 97 ∷ [])) (97 ∷ 34 ∷ []) (use_rest u) (close_quote u v 97)
    (quoted_more u (v ++ 97 ∷ []))
word_more (in_escape u v) f r =
    led_by (in_escape u v) (quoted_ends u (v ++ 34 ∷ [])) (34 ∷ 34 ∷ []) (use_rest u) (close_quote u v 34)
    (quoted_more u (v ++ 34 ∷ []))
word_more (quoted_ends u v) f r = quoted_more u v
word_more (in_ref t) f r = ref_more t r.1

-- the rest of a unit
record Wholes (fs : List Form) (s : State) : Type 0 where
  pub form : Form
  pub asked : Asked
  pub asks : form_asks form ≡ Some asked
  pub behind : Behind form fs s

tag_a : IsWord (codes "tag:a") (has_value (codes "tag") (97 ∷ []))
tag_a = tag (bare (97 ∷ []) (λ e. cc e) refl)

tag_behind : (f : Form) (fs : List Form)
    → Behind (with_atom (has_value (codes "tag") (97 ∷ [])) f) fs (run (at between f fs) (codes "tag:a"))
tag_behind f fs = behind_at (word_between tag_a f fs) (word_reads tag_a f fs)

unit_more : (spot : Spot) (f : Form) (fs : List Form) (p : List ℕ) → Was (at spot f fs) p
    → Wholes fs (run (at spot f fs) (unit_rest spot))
unit_more between f fs p w =
    record { form = with_atom (has_value (codes "tag") (97 ∷ [])) f; asked = _; asks = refl; behind = tag_behind f fs }
unit_more at_minus f fs p w =
    record {
      form = with_atom (has_value (codes "tag") (97 ∷ [])) f;
      asked = _;
      asks = refl;
      behind = word_reads tag_a f fs;
    }
unit_more (in_word pl) f fs p (q, t, o, (u, w, opened, read, is), e) =
    let r = word_more pl w read in
    record {
      form = with_atom r.asked f;
      asked = _;
      asks = refl;
      behind = behind_at (word_lift pl f fs (word_rest pl) r.end r.runs) (word_behind r.end r.asked r.asks f fs);
    }
unit_more in_o f fs p w =
    let g : Form = record { ors = form_asks f; ands = None; negated = false } in
    record { form = with_atom (has_value (codes "tag") (97 ∷ [])) g; asked = _; asks = refl; behind = tag_behind g fs }
unit_more in_or f fs p w =
    let g : Form = record { ors = form_asks f; ands = None; negated = false } in
    record { form = with_atom (has_value (codes "tag") (97 ∷ [])) g; asked = _; asks = refl; behind = tag_behind g fs }
unit_more closed f fs p (q, t, o, c, e) =
    record { form = f; asked = _; asks = ap (option_map _) c.is_last; behind = closed_behind f fs }

-- as many parentheses as are open
closes_more : (fs : List Form) (s : State) (f : Form) (a : Asked) → Behind f fs s → form_asks f ≡ Some a
    → (b : Asked) × (line_asks (run s (replicate (length fs) 41)) ≡ Some b)
closes_more [] s f a b h = (a, b.ended ∙ h)
closes_more (g ∷ fs) s f a b h =
    let r = closes_more fs (at closed (with_atom a g) fs) (with_atom a g) _ (closed_behind (with_atom a g) fs) refl in
    (r.0, ap (λ t. line_asks (run t (replicate (length fs) 41))) (b.on_close ∙ ap (λ o. close o (g ∷ fs)) h) ∙ r.1)

pub live_more : (s : State) (p : List ℕ) → Was s p → is_live s ≡ true
    → (a : Asked) × (line_asks (run s (line_rest s)) ≡ Some a)
live_more stuck p w h = absurd (cc h)
live_more (at spot f fs) p w h =
    let r = unit_more spot f fs p w in
    let c = closes_more fs (run (at spot f fs) (unit_rest spot)) r.form r.asked r.behind r.asks in
    (c.0, ap line_asks (run-append (at spot f fs) (unit_rest spot) (replicate (length fs) 41)) ∙ c.1)

-- what follows is ASCII, so the line is a text

use_ascii : (u : Use) → list_all is_ascii (use_rest u) ≡ true
use_ascii of_tag = refl
use_ascii of_title = refl
use_ascii of_name = refl
use_ascii (of_value n) = refl
use_ascii of_has = refl
use_ascii of_ref = refl

aim_ascii : (aim : Aim) → list_all is_ascii (aim_rest aim) ≡ true
aim_ascii (a_text u) = use_ascii u
aim_ascii a_ref = refl

drop_ascii : (n : ℕ) (xs : List ℕ) → list_all is_ascii xs ≡ true → list_all is_ascii (drop n xs) ≡ true
drop_ascii zero xs h = h
drop_ascii (suc n) [] h = refl
drop_ascii (suc n) (x ∷ xs) h = drop_ascii n xs (and_both (is_ascii x) (list_all is_ascii xs) h).1

ref_ascii : (r : List ℕ) → list_all is_ascii (ref_rest r) ≡ true
ref_ascii r = by (passes sha224_bytes r)
  where
    by : (b : Bool) → list_all is_ascii (cond b (drop (length r) some_sha224) (drop (length r) some_sha1)) ≡ true
    by true = drop_ascii (length r) some_sha224 refl
    by false = drop_ascii (length r) some_sha1 refl

both_ascii : (xs ys : List ℕ) → list_all is_ascii xs ≡ true → list_all is_ascii ys ≡ true
    → list_all is_ascii (xs ++ ys) ≡ true
both_ascii xs ys h k = list_all-append is_ascii xs ys ∙ and_from (list_all is_ascii xs) (list_all is_ascii ys) h k

word_ascii : (p : Place) (f : List ℕ) → Read p f → list_all is_ascii (word_rest p) ≡ true
word_ascii begins f r = refl
word_ascii in_t f r = refl
word_ascii (spelling y ys (a_text u)) f r = both_ascii (y ∷ ys) (aim_rest (a_text u)) r.1 (aim_ascii (a_text u))
word_ascii (spelling y ys a_ref) f r = both_ascii (y ∷ ys) (aim_rest a_ref) r.1 (aim_ascii a_ref)
word_ascii (text_begins u) f r = use_ascii u
word_ascii (in_bare u v) f r = use_ascii u
word_ascii (in_quoted u v) f r = use_ascii u
word_ascii (in_escape u v) f r = use_ascii u
word_ascii (quoted_ends u v) f r = use_ascii u
word_ascii (in_ref t) f r = ref_ascii t

unit_ascii : (spot : Spot) (f : Form) (fs : List Form) (p : List ℕ) → Was (at spot f fs) p
    → list_all is_ascii (unit_rest spot) ≡ true
unit_ascii between f fs p w = refl
unit_ascii at_minus f fs p w = refl
unit_ascii (in_word pl) f fs p (q, t, o, (u, w, opened, read, is), e) = word_ascii pl w read
unit_ascii in_o f fs p w = refl
unit_ascii in_or f fs p w = refl
unit_ascii closed f fs p w = refl

closes_ascii : (n : ℕ) → list_all is_ascii (replicate n 41) ≡ true
closes_ascii zero = refl
closes_ascii (suc n) = closes_ascii n

rest_ascii : (s : State) (p : List ℕ) → Was s p → list_all is_ascii (line_rest s) ≡ true
rest_ascii stuck p w = refl
rest_ascii (at spot f fs) p w =
    both_ascii (unit_rest spot) (replicate (length fs) 41) (unit_ascii spot f fs p w) (closes_ascii (length fs))

ascii_is : (xs : List ℕ) → list_all is_ascii xs ≡ true → IsAscii xs
ascii_is [] h i = omega arith
ascii_is (x ∷ xs) h zero = ltb-true x 128 (and_both (is_ascii x) (list_all is_ascii xs) h).0
ascii_is (x ∷ xs) h (suc i) = ascii_is xs (and_both (is_ascii x) (list_all is_ascii xs) h).1 i

-- where the reading isn't stuck, a line begins so
pub live_front : (text : List ℕ) → IsUtf8 text → is_live (run start text) ≡ true → IsFront text
live_front text utf8 h =
    let s = run start text in
    let was = run_was start [] text start_was in
    let r = live_more s text was h in (
      line_rest s,
      r.0,
      IsUtf8-append text (line_rest s) utf8
          (IsUtf8-from_ascii (line_rest s) (ascii_is (line_rest s) (rest_ascii s text was))),
      line_was (run s (line_rest s)) (text ++ line_rest s) r.0 (run_was s text (line_rest s) was) r.1,
    )

-- and only there
pub front_live : (text : List ℕ) → IsFront text → is_live (run start text) ≡ true
front_live text (rest, a, utf8, l) =
    go (run start text) (sym (ap line_asks (run-append start text rest)) ∙ line_reads l)
  where
    go : (s : State) → line_asks (run s rest) ≡ Some a → is_live s ≡ true
    go stuck h = let no : None ≡ Some a = sym (ap line_asks (stuck_stays rest)) ∙ h in absurd (cc no)
    go (at spot f fs) h = refl
