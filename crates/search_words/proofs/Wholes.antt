-- Each line is read.
use Rattle.std.proofs.Common.{◌≡◌, ◌≢◌, ℕ, zero, suc, Bool, true, false, cond, List, [], ◌∷◌, ◌++◌, codes, nat_eq, refl, sym, ap, subst, ◌∙◌, Option, Some, None, option_map, replicate}
use Rattle.std.proofs.lemmas.List.{append_assoc, append-nil}
use Rattle.search_query.specs.Mirror.{Asked}
use Rattle.blobref.specs.Blobref.{is_blobref}
use Rattle.search_words.specs.Asking.{both, either, negation, children_of}
use Rattle.search_words.specs.Grammar.{spaces, IsWord, tag, title, attr, has, ref, childrenof, IsAtom, word, group, IsUnit, atom, minus, IsAnd, unit, and, IsOr, one, or, IsLine, line}
use Rattle.search_words.specs.Words.{Use, of_tag, of_title, of_name, of_value, of_has, of_ref, Place, begins, in_t, spelling, text_begins, in_bare, in_quoted, in_escape, quoted_ends, in_ref, word_step, word_run, word_asks, then_on, is_ref_front}
use Rattle.search_words.specs.Lines.{Form, Spot, between, at_minus, in_word, in_o, in_or, closed, State, stuck, at, fresh, start, all_of, any_of, signed, with_atom, form_asks, close, after, word_over, on_word, in_place, at_o, at_atom, at_between, spot_step, step, run, ends, form_over, line_asks, reading}
use Rattle.search_words.proofs.Tests.{and_both, cond_true, cond_false}
use Rattle.search_words.proofs.Refs.{blobref_ends}
use Rattle.search_words.proofs.Reaching.{WordRuns, word_runs}

pub run-append : (s : State) (xs ys : List ℕ) → run s (xs ++ ys) ≡ run (run s xs) ys
run-append s [] ys = refl
run-append s (x ∷ xs) ys = run-append (step s x) xs ys

pub stuck_stays : (xs : List ℕ) → run stuck xs ≡ stuck
stuck_stays [] = refl
stuck_stays (x ∷ xs) = stuck_stays xs

pub spaces_stay : (n : ℕ) (f : Form) (fs : List Form) → run (at between f fs) (spaces n) ≡ at between f fs
spaces_stay zero f fs = refl
spaces_stay (suc n) f fs = spaces_stay n f fs

-- a state that is as good as one after a unit
pub record Behind (f : Form) (fs : List Form) (s : State) : Type 0 where
  pub on_space : step s 32 ≡ at between f fs
  pub on_close : step s 41 ≡ close (form_asks f) fs
  pub ended : line_asks s ≡ line_asks (at closed f fs)

pub closed_behind : (f : Form) (fs : List Form) → Behind f fs (at closed f fs)
closed_behind f fs = record { on_space = refl; on_close = refl; ended = refl }

-- words within a line

pub word_lift : (p : Place) (f : Form) (fs : List Form) (xs : List ℕ) (q : Place) → word_run p xs ≡ Some q
    → run (at (in_word p) f fs) xs ≡ at (in_word q) f fs
word_lift p f fs [] q h = let same : p ≡ q = cc h in ap (λ (r : Place). at (in_word r) f fs) same
word_lift p f fs (x ∷ xs) q h = on (word_step p x) (word_asks p) (λ r. word_lift r f fs xs q) h
  where
    on : (o : Option Place) (a : Option Asked)
        → ((r : Place) → word_run r xs ≡ Some q → run (at (in_word r) f fs) xs ≡ at (in_word q) f fs)
        → then_on o (λ r. word_run r xs) ≡ Some q → run (on_word o a x f fs) xs ≡ at (in_word q) f fs
    on None a next h = absurd (cc h)
    on (Some r) a next h = next r h

some_true : {A : Type 0} (b : Bool) (x y : A) → cond b (Some x) None ≡ Some y → b ≡ true
some_true true x y h = refl
some_true false x y h = absurd (cc h)

-- a whole word doesn't go on with a space, or with `)`
record Settled (q : Place) : Type 0 where
  pub no_space : word_step q 32 ≡ None
  pub no_close : word_step q 41 ≡ None

settled : (q : Place) (a : Asked) → word_asks q ≡ Some a → Settled q
settled begins a h = absurd (cc h)
settled in_t a h = absurd (cc h)
settled (spelling y ys aim) a h = absurd (cc h)
settled (text_begins u) a h = absurd (cc h)
settled (in_bare of_tag v) a h = record { no_space = refl; no_close = refl }
settled (in_bare of_title v) a h = record { no_space = refl; no_close = refl }
settled (in_bare of_name v) a h = absurd (cc h)
settled (in_bare (of_value n) v) a h = record { no_space = refl; no_close = refl }
settled (in_bare of_has v) a h = record { no_space = refl; no_close = refl }
settled (in_bare of_ref v) a h = record { no_space = refl; no_close = refl }
settled (in_quoted u v) a h = absurd (cc h)
settled (in_escape u v) a h = absurd (cc h)
settled (quoted_ends of_tag v) a h = record { no_space = refl; no_close = refl }
settled (quoted_ends of_title v) a h = record { no_space = refl; no_close = refl }
settled (quoted_ends of_name v) a h = absurd (cc h)
settled (quoted_ends (of_value n) v) a h = record { no_space = refl; no_close = refl }
settled (quoted_ends of_has v) a h = record { no_space = refl; no_close = refl }
settled (quoted_ends of_ref v) a h = record { no_space = refl; no_close = refl }
settled (in_ref r) a h =
    let is = some_true (is_blobref r) (children_of r) a h in
    record {
      no_space = cond_false (is_ref_front (r ++ 32 ∷ [])) (Some (in_ref (r ++ 32 ∷ []))) None (blobref_ends r 32 is);
      no_close = cond_false (is_ref_front (r ++ 41 ∷ [])) (Some (in_ref (r ++ 41 ∷ []))) None (blobref_ends r 41 is);
    }

pub word_behind : (q : Place) (a : Asked) → word_asks q ≡ Some a → (f : Form) (fs : List Form)
    → Behind (with_atom a f) fs (at (in_word q) f fs)
word_behind q a h f fs =
    let s = settled q a h in
    record {
      on_space = (λ i. on_word (s.no_space i) (h i) 32 f fs);
      on_close = (λ i. on_word (s.no_close i) (h i) 41 f fs);
      ended = ended fs;
    }
  where
    ended : (fs : List Form) → line_asks (at (in_word q) f fs) ≡ line_asks (at closed (with_atom a f) fs)
    ended [] = ap (λ (o : Option Asked). form_over (option_map (λ b. with_atom b f) o)) h
    ended (g ∷ fs) = refl

-- an atom begins where a word may

word_first : {text : List ℕ} {a : Asked} → IsWord text a → (f : Form) (fs : List Form)
    → run (at at_minus f fs) text ≡ run (at (in_word begins) f fs) text
word_first (tag t) f fs = refl
word_first (title t) f fs = refl
word_first (attr r some t) f fs = refl
word_first (has r some) f fs = refl
word_first (ref t) f fs = refl
word_first (childrenof r is) f fs = refl

pub word_between : {text : List ℕ} {a : Asked} → IsWord text a → (f : Form) (fs : List Form)
    → run (at between f fs) text ≡ run (at at_minus f fs) text
word_between (tag t) f fs = refl
word_between (title t) f fs = refl
word_between (attr r some t) f fs = refl
word_between (has r some) f fs = refl
word_between (ref t) f fs = refl
word_between (childrenof r is) f fs = refl

atom_between : {text : List ℕ} {a : Asked} → IsAtom text a → (f : Form) (fs : List Form)
    → run (at between f fs) text ≡ run (at at_minus f fs) text
atom_between (word w) f fs = word_between w f fs
atom_between (group n r m) f fs = refl

pub behind_at : {f : Form} {fs : List Form} {s t : State} → s ≡ t → Behind f fs t → Behind f fs s
behind_at {f} {fs} e b = subst (Behind f fs) (sym e) b

-- spaces after a unit, and then what comes at a space
space_then : {f : Form} {fs : List Form} {s : State} → Behind f fs s → (n : ℕ) (ys : List ℕ)
    → run s ((32 ∷ spaces n) ++ ys) ≡ run (at between f fs) ys
space_then {f} {fs} {s} b n ys =
    run-append s (32 ∷ spaces n) ys
    ∙ ap (λ (t : State). run (run t (spaces n)) ys) b.on_space
    ∙ ap (λ (t : State). run t ys) (spaces_stay n f fs)

-- spaces or none, and then `)`
spaces_close : {f : Form} {fs : List Form} {s : State} → Behind f fs s → (m : ℕ)
    → run s (spaces m ++ 41 ∷ []) ≡ close (form_asks f) fs
spaces_close b zero = b.on_close
spaces_close {f} {fs} b (suc m) = space_then b m (41 ∷ [])

-- spaces or none, and then the end
spaces_end : {f : Form} {fs : List Form} {s : State} → Behind f fs s → (m : ℕ)
    → line_asks (run s (spaces m)) ≡ line_asks (at closed f fs)
spaces_end b zero = b.ended
spaces_end {f} {fs} {s} b (suc m) =
    ap line_asks (ap (λ (t : State). run t (spaces m)) b.on_space ∙ spaces_stay m f fs) ∙ same fs
  where
    same : (gs : List Form) → line_asks (at between f gs) ≡ line_asks (at closed f gs)
    same [] = refl
    same (g ∷ gs) = refl

abbrev form : Option Asked → Option Asked → Form
form ors ands = record { ors = ors; ands = ands; negated = false }

-- what an or-form leaves: one that asks it
record Formed (a : Asked) (fs : List Form) (s : State) : Type 0 where
  pub ors : Option Asked
  pub last : Asked
  pub asks : any_of ors last ≡ a
  pub behind : Behind (form ors (Some last)) fs s

pub word_reads : {text : List ℕ} {a : Asked} → IsWord text a → (f : Form) (fs : List Form)
    → Behind (with_atom a f) fs (run (at at_minus f fs) text)
word_reads {text} {a} w f fs =
    let r = word_runs w in
    behind_at (word_first w f fs ∙ word_lift begins f fs text r.end r.runs) (word_behind r.end a r.asked f fs)

and_step : (left right : List ℕ) {ors : Option Asked} {a b : Asked} {fs : List Form}
    → Behind (form ors (Some a)) fs (run (at between (form ors None) fs) left)
    → (n : ℕ) → Behind (form ors (Some (both a b))) fs (run (at between (form ors (Some a)) fs) right)
    → Behind (form ors (Some (both a b))) fs (run (at between (form ors None) fs) (left ++ 32 ∷ spaces n ++ right))
and_step left right {ors} {a} {b} {fs} l n r =
    behind_at
    (ap (run (at between (form ors None) fs)) (append_assoc left (32 ∷ spaces n) right)
    ∙ run-append (at between (form ors None) fs) left ((32 ∷ spaces n) ++ right)
    ∙ space_then l n right)
    r

group_step : (text : List ℕ) {a : Asked} (n m : ℕ) (f : Form) (fs : List Form)
    → Formed a (f ∷ fs) (run (at between fresh (f ∷ fs)) text)
    → Behind (with_atom a f) fs (run (at at_minus f fs) (40 ∷ spaces n ++ text ++ spaces m ++ 41 ∷ []))
group_step text {a} n m f fs r =
    let s = at between fresh (f ∷ fs) in
    let apart : ((spaces n ++ text) ++ spaces m) ++ (41 ∷ []) ≡ spaces n ++ (text ++ (spaces m ++ (41 ∷ []))) =
    append_assoc (spaces n ++ text) (spaces m) (41 ∷ []) ∙ append_assoc (spaces n) text (spaces m ++ (41 ∷ [])) in
    behind_at
    (ap (run s) apart
    ∙ run-append s (spaces n) (text ++ (spaces m ++ (41 ∷ [])))
    ∙ ap (λ (t : State). run t (text ++ (spaces m ++ (41 ∷ [])))) (spaces_stay n fresh (f ∷ fs))
    ∙ run-append s text (spaces m ++ (41 ∷ []))
    ∙ spaces_close r.behind m
    ∙ ap (λ (b : Asked). close (Some b) (f ∷ fs)) r.asks)
    (closed_behind (with_atom a f) fs)

or_step : (left right : List ℕ) {a b : Asked} {fs : List Form} (n m : ℕ) → Formed a fs (run (at between fresh fs) left)
    → Behind (form (Some a) (Some b)) fs (run (at between (form (Some a) None) fs) right)
    → Formed (either a b) fs (run (at between fresh fs) (left ++ 32 ∷ spaces n ++ 111 ∷ 114 ∷ 32 ∷ spaces m ++ right))
or_step left right {a} {b} {fs} n m l r =
    let s = at between fresh fs in
    let apart : ((left ++ (32 ∷ spaces n)) ++ (111 ∷ 114 ∷ 32 ∷ spaces m)) ++ right
    ≡ left ++ ((32 ∷ spaces n) ++ (111 ∷ 114 ∷ 32 ∷ (spaces m ++ right))) =
    append_assoc (left ++ (32 ∷ spaces n)) (111 ∷ 114 ∷ 32 ∷ spaces m) right
    ∙ append_assoc left (32 ∷ spaces n) (111 ∷ 114 ∷ 32 ∷ (spaces m ++ right)) in
    record {
      ors = Some a;
      last = b;
      asks = refl;
      behind = behind_at
          (ap (run s) apart
          ∙ run-append s left ((32 ∷ spaces n) ++ (111 ∷ 114 ∷ 32 ∷ (spaces m ++ right)))
          ∙ space_then l.behind n (111 ∷ 114 ∷ 32 ∷ (spaces m ++ right))
          ∙ ap (λ (c : Asked). run (at between (form (Some c) None) fs) (spaces m ++ right)) l.asks
          ∙ run-append (at between (form (Some a) None) fs) (spaces m) right
          ∙ ap (λ (t : State). run t right) (spaces_stay m (form (Some a) None) fs))
          r;
    }

mutual
  and_reads : {text : List ℕ} {a : Asked} → IsAnd text a → (ors : Option Asked) (fs : List Form)
      → Behind (form ors (Some a)) fs (run (at between (form ors None) fs) text)
  and_reads (unit u) ors fs = unit_reads u ors None fs
  and_reads (and {left} {right} {a} {b} l n r) ors fs =
      and_step left right (and_reads l ors fs) n (unit_reads r ors (Some a) fs)

  unit_reads : {text : List ℕ} {a : Asked} → IsUnit text a → (ors ands : Option Asked) (fs : List Form)
      → Behind (form ors (Some (all_of ands a))) fs (run (at between (form ors ands) fs) text)
  unit_reads (atom t) ors ands fs = behind_at (atom_between t (form ors ands) fs) (atom_reads t (form ors ands) fs)
  unit_reads (minus t) ors ands fs = atom_reads t (record { ors = ors; ands = ands; negated = true }) fs

  atom_reads : {text : List ℕ} {a : Asked} → IsAtom text a → (f : Form) (fs : List Form)
      → Behind (with_atom a f) fs (run (at at_minus f fs) text)
  atom_reads (word w) f fs = word_reads w f fs
  atom_reads (group n {text} r m) f fs = group_step text n m f fs (or_reads r (f ∷ fs))

  or_reads : {text : List ℕ} {a : Asked} → IsOr text a → (fs : List Form) → Formed a fs (run (at between fresh fs) text)
  or_reads (one {text} {a} r) fs = record { ors = None; last = a; asks = refl; behind = and_reads r None fs }
  or_reads (or {left} {right} {a} {b} l n m r) fs = or_step left right n m (or_reads l fs) (and_reads r (Some a) fs)

-- the reading of a line is what the line asks
pub line_reads : {text : List ℕ} {a : Asked} → IsLine text a → reading text ≡ Some a
line_reads (line n {text} {a} r m) =
    let f = or_reads r [] in
    ap line_asks
    (ap (run start) (append_assoc (spaces n) text (spaces m))
    ∙ run-append start (spaces n) (text ++ spaces m)
    ∙ ap (λ (t : State). run t (text ++ spaces m)) (spaces_stay n fresh [])
    ∙ run-append start text (spaces m))
    ∙ spaces_end f.behind m
    ∙ ap (λ (b : Asked). Some b) f.asks
