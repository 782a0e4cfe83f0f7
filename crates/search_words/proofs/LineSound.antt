-- What is read byte by byte is a line.
use Rattle.std.proofs.Common.{◌≡◌, ◌≢◌, ℕ, zero, suc, Bool, true, false, cond, List, [], ◌∷◌, ◌++◌, replicate, nat_eq, refl, sym, ap, subst, ◌∙◌, Option, Some, None, option_map}
use Rattle.std.proofs.lemmas.List.{append_assoc, append-nil}
use Rattle.std.proofs.lemmas.Bool.{eqb-true}
use Rattle.search_query.specs.Mirror.{Asked}
use Rattle.search_words.specs.Asking.{both, either, negation}
use Rattle.search_words.specs.Grammar.{spaces, IsWord, IsAtom, word, group, IsUnit, atom, minus, IsAnd, unit, and, IsOr, one, or, IsLine, line}
use Rattle.search_words.specs.Words.{Place, begins, word_step, word_asks}
use Rattle.search_words.specs.Lines.{Form, Spot, between, at_minus, in_word, in_o, in_or, closed, State, stuck, at, fresh, start, all_of, any_of, signed, with_atom, form_asks, close, after, word_over, on_word, in_place, at_o, at_atom, at_between, spot_step, step, run, ends, form_over, line_asks, reading}
use Rattle.search_words.proofs.Wholes.{run-append, line_reads}
use Rattle.search_words.proofs.WordSound.{Read, read_step, word_read}

-- a state comes from one side of a choice
by_choice : (P : State → Type 0) (b : Bool) (s t : State) → (b ≡ true → P s) → (b ≡ false → P t) → P (cond b s t)
by_choice P true s t y n = y refl
by_choice P false s t y n = n refl

spaces_snoc : (n : ℕ) → spaces n ++ 32 ∷ [] ≡ spaces (suc n)
spaces_snoc zero = refl
spaces_snoc (suc n) = ap (λ l. 32 ∷ l) (spaces_snoc n)

-- what stands before the and-form that is read
pub data Lead : Option Asked → List ℕ → Type 0 where
  no_or : (n : ℕ) → Lead None (spaces n)
  past_or : (n : ℕ) {left : List ℕ} {a : Asked} → IsOr left a → (i j : ℕ)
      → Lead (Some a) (spaces n ++ left ++ (32 ∷ spaces i) ++ (111 ∷ 114 ∷ 32 ∷ spaces j))

-- what stands before a unit
pub data Before : Option Asked → Option Asked → List ℕ → Type 0 where
  no_unit : {ors : Option Asked} {t : List ℕ} → Lead ors t → Before ors None t
  past_unit : {ors : Option Asked} {t w : List ℕ} {b : Asked} → Lead ors t → IsAnd w b → (m : ℕ)
      → Before ors (Some b) (t ++ w ++ (32 ∷ spaces m))

-- what stands up to the end of a unit
pub record Ended (ors : Option Asked) (b : Asked) (text : List ℕ) : Type 0 where
  pub lead : List ℕ
  pub units : List ℕ
  pub leads : Lead ors lead
  pub is_and : IsAnd units b
  pub whole : text ≡ lead ++ units

lead_space : {ors : Option Asked} {t : List ℕ} → Lead ors t → Lead ors (t ++ 32 ∷ [])
lead_space (no_or n) = subst (Lead None) (sym (spaces_snoc n)) (no_or (suc n))
lead_space (past_or n {left} {a} r i j) =
    let front = spaces n ++ left ++ (32 ∷ spaces i) in
    let same : front ++ (111 ∷ 114 ∷ 32 ∷ spaces j) ++ 32 ∷ [] ≡ front ++ (111 ∷ 114 ∷ 32 ∷ spaces (suc j)) =
    append_assoc front (111 ∷ 114 ∷ 32 ∷ spaces j) (32 ∷ [])
    ∙ ap (λ l. front ++ (111 ∷ 114 ∷ 32 ∷ l)) (spaces_snoc j) in
    subst (Lead (Some a)) (sym same) (past_or n r i (suc j))

before_space : {ors ands : Option Asked} {t : List ℕ} → Before ors ands t → Before ors ands (t ++ 32 ∷ [])
before_space (no_unit l) = no_unit (lead_space l)
before_space (past_unit {ors} {t} {w} {b} l r m) =
    let same : t ++ w ++ (32 ∷ spaces m) ++ 32 ∷ [] ≡ t ++ w ++ (32 ∷ spaces (suc m)) =
    append_assoc (t ++ w) (32 ∷ spaces m) (32 ∷ []) ∙ ap (λ l. t ++ w ++ (32 ∷ l)) (spaces_snoc m) in
    subst (Before ors (Some b)) (sym same) (past_unit l r (suc m))

-- one more unit
add_unit : {ors ands : Option Asked} {t u : List ℕ} {a : Asked} → Before ors ands t → IsUnit u a
    → Ended ors (all_of ands a) (t ++ u)
add_unit (no_unit {ors} {t} l) r = record { lead = t; units = _; leads = l; is_and = unit r; whole = refl }
add_unit {u = u} (past_unit {ors} {t} {w} {b} l s m) r = record {
  lead = t;
  units = w ++ 32 ∷ spaces m ++ u;
  leads = l;
  is_and = and s m r;
  whole = append_assoc (t ++ w) (32 ∷ spaces m) u ∙ append_assoc t w ((32 ∷ spaces m) ++ u)
      ∙ ap (λ l. t ++ l) (sym (append_assoc w (32 ∷ spaces m) u));
}

ended_space : {ors : Option Asked} {b : Asked} {t : List ℕ} → Ended ors b t → Before ors (Some b) (t ++ 32 ∷ [])
ended_space {ors} {b} {t} e =
    subst (Before ors (Some b)) (sym (ap (λ l. l ++ 32 ∷ []) e.whole)) (past_unit e.leads e.is_and 0)

-- an or-form after spaces
record Or (a : Asked) (text : List ℕ) : Type 0 where
  pub ahead : ℕ
  pub form : List ℕ
  pub is_or : IsOr form a
  pub whole : text ≡ spaces ahead ++ form

ended_or : {ors : Option Asked} {b : Asked} {t : List ℕ} → Ended ors b t → Or (any_of ors b) t
ended_or {ors} {b} {t} e = by e.leads e.is_and e.whole
  where
    by : {o : Option Asked} {lead units : List ℕ} → Lead o lead → IsAnd units b → t ≡ lead ++ units → Or (any_of o b) t
    by (no_or n) r w = record { ahead = n; form = _; is_or = one r; whole = w }
    by {units = units} (past_or n {left} {a} s i j) r w = record {
      ahead = n;
      form = left ++ 32 ∷ spaces i ++ 111 ∷ 114 ∷ 32 ∷ spaces j ++ units;
      is_or = or s i j r;
      whole = w ∙ append_assoc (spaces n ++ left ++ (32 ∷ spaces i)) (111 ∷ 114 ∷ 32 ∷ spaces j) units
          ∙ append_assoc (spaces n ++ left) (32 ∷ spaces i) ((111 ∷ 114 ∷ 32 ∷ spaces j) ++ units)
          ∙ append_assoc (spaces n) left ((32 ∷ spaces i) ++ ((111 ∷ 114 ∷ 32 ∷ spaces j) ++ units))
          ∙ ap (λ l. spaces n ++ l)
          (sym (append_assoc (left ++ (32 ∷ spaces i)) (111 ∷ 114 ∷ 32 ∷ spaces j) units
          ∙ append_assoc left (32 ∷ spaces i) ((111 ∷ 114 ∷ 32 ∷ spaces j) ++ units)));
    }

-- Forms

abbrev pub sign : Bool → List ℕ
sign true = 45 ∷ []
sign false = []

-- a form in which an atom may begin
pub record Opened (f : Form) (text : List ℕ) : Type 0 where
  pub front : List ℕ
  pub before : Before f.ors f.ands front
  pub whole : text ≡ front ++ sign f.negated

-- a form whose last unit is whole
pub record Closed (f : Form) (text : List ℕ) : Type 0 where
  pub last : Asked
  pub is_last : f.ands ≡ Some last
  pub ended : Ended f.ors last text
  pub plain : f.negated ≡ false

signed_unit : (b : Bool) {text : List ℕ} {a : Asked} → IsAtom text a → IsUnit (sign b ++ text) (signed b a)
signed_unit true r = minus r
signed_unit false r = atom r

add_atom : (f : Form) {t text : List ℕ} {a : Asked} → Opened f t → IsAtom text a → Closed (with_atom a f) (t ++ text)
add_atom f {t} {text} {a} o r = record {
  last = all_of f.ands (signed f.negated a);
  is_last = refl;
  ended = subst (Ended f.ors (all_of f.ands (signed f.negated a)))
      (sym (ap (λ l. l ++ text) o.whole ∙ append_assoc o.front (sign f.negated) text))
      (add_unit o.before (signed_unit f.negated r));
  plain = refl;
}

-- the text before the innermost form
abbrev pub Outer : List Form → List ℕ → Type 0
Outer [] p = p ≡ []
Outer (f ∷ fs) p = (q : List ℕ) × (t : List ℕ) × Outer fs q × Opened f t × (p ≡ q ++ t ++ 40 ∷ [])

pub record InO (behind : List ℕ) (f : Form) (t : List ℕ) : Type 0 where
  pub front : List ℕ
  pub last : Asked
  pub before : Before f.ors (Some last) front
  pub is_last : f.ands ≡ Some last
  pub whole : t ≡ front ++ behind

abbrev pub Stands : Spot → Form → List ℕ → Type 0
Stands between f t = Before f.ors f.ands t × (f.negated ≡ false)
Stands at_minus f t = Opened f t
Stands (in_word p) f t = (u : List ℕ) × (w : List ℕ) × Opened f u × Read p w × (t ≡ u ++ w)
Stands in_o f t = InO (111 ∷ []) f t
Stands in_or f t = InO (111 ∷ 114 ∷ []) f t
Stands closed f t = Closed f t

-- what was read where a state is
abbrev pub Was : State → List ℕ → Type 0
Was stuck p = Unit {0}
Was (at spot f fs) p = (q : List ℕ) × (t : List ℕ) × Outer fs q × Stands spot f t × (p ≡ q ++ t)

-- the state is right after one more byte
abbrev Goes : List ℕ → ℕ → State → Type 0
Goes p x s = Was s (p ++ x ∷ [])

stay : (spot : Spot) (f : Form) (fs : List Form) (p q t : List ℕ) (x : ℕ) → Outer fs q → p ≡ q ++ t
    → Stands spot f (t ++ x ∷ []) → Goes p x (at spot f fs)
stay spot f fs p q t x o e s = (q, t ++ x ∷ [], o, s, ap (λ l. l ++ x ∷ []) e ∙ append_assoc q t (x ∷ []))

pub start_was : Was start []
start_was = ([], [], refl, (no_unit (no_or 0), refl), refl)

-- a parenthesis opens
opens : (f : Form) (fs : List Form) (p q t : List ℕ) → Outer fs q → p ≡ q ++ t → Opened f t
    → Was (at between fresh (f ∷ fs)) (p ++ 40 ∷ [])
opens f fs p q t o e s = (
  p ++ 40 ∷ [],
  [],
  (q, t, o, s, ap (λ l. l ++ 40 ∷ []) e),
  (no_unit (no_or 0), refl),
  sym (append-nil (p ++ 40 ∷ [])),
)

-- a parenthesis closes after a form and spaces
closes : (a : Asked) (f : Form) (fs : List Form) (p q t form : List ℕ) (n m : ℕ) → Outer (f ∷ fs) q → IsOr form a
    → p ≡ q ++ (spaces n ++ form ++ spaces m) → Was (at closed (with_atom a f) fs) (p ++ 41 ∷ [])
closes a f fs p q t form n m (q0, u, outer, opened, is) r e =
    let inner = spaces n ++ form ++ spaces m in (
      q0,
      u ++ (40 ∷ inner ++ 41 ∷ []),
      outer,
      add_atom f opened (group n r m),
      ap (λ l. l ++ 41 ∷ []) (e ∙ ap (λ l. l ++ inner) is)
          ∙ append_assoc (q0 ++ u ++ 40 ∷ []) inner (41 ∷ [])
          ∙ append_assoc (q0 ++ u) (40 ∷ []) (inner ++ 41 ∷ [])
          ∙ append_assoc q0 u (40 ∷ (inner ++ 41 ∷ [])),
    )

-- an or-form between spaces
record Spaced (a : Asked) (text : List ℕ) : Type 0 where
  pub ahead : ℕ
  pub form : List ℕ
  pub behind : ℕ
  pub is_or : IsOr form a
  pub whole : text ≡ spaces ahead ++ form ++ spaces behind

close_was : (o : Option Asked) (fs : List Form) (p q t : List ℕ) → ((a : Asked) → o ≡ Some a → Spaced a t) → Outer fs q
    → p ≡ q ++ t → Was (close o fs) (p ++ 41 ∷ [])
close_was None fs p q t s o e = tt
close_was (Some a) [] p q t s o e = tt
close_was (Some a) (f ∷ fs) p q t s o e =
    let r = s a refl in
    closes a f fs p q t r.form r.ahead r.behind o r.is_or (e ∙ ap (λ l. q ++ l) r.whole)

ended_spaced : {ors : Option Asked} {b a : Asked} {t text : List ℕ} (m : ℕ) → Ended ors b t → text ≡ t ++ spaces m
    → any_of ors b ≡ a → Spaced a text
ended_spaced {a = a} {t = t} {text = text} m e is same =
    let r = ended_or e in
    subst (λ c. Spaced c text) same
    (record {
      ahead = r.ahead;
      form = r.form;
      behind = m;
      is_or = r.is_or;
      whole = is ∙ ap (λ l. l ++ spaces m) r.whole;
    })

before_spaced : {ors ands : Option Asked} {t : List ℕ} → Before ors ands t → (a : Asked)
    → option_map (any_of ors) ands ≡ Some a → Spaced a t
before_spaced (no_unit l) a h = absurd (cc h)
before_spaced (past_unit {ors} {t} {w} {b} l r m) a h =
    let same : any_of ors b ≡ a = cc h in
    let e : Ended ors b (t ++ w) = record { lead = t; units = w; leads = l; is_and = r; whole = refl } in
    ended_spaced (suc m) e refl same

closed_spaced : (f : Form) (t : List ℕ) → Closed f t → (a : Asked) → form_asks f ≡ Some a → Spaced a t
closed_spaced f t c a h =
    let some : Some (any_of f.ors c.last) ≡ Some a = sym (ap (option_map (any_of f.ors)) c.is_last) ∙ h in
    let same : any_of f.ors c.last ≡ a = cc some in
    ended_spaced 0 c.ended (sym (append-nil t)) same

snoc_at : (p : List ℕ) (x c : ℕ) (s : State) → nat_eq x c ≡ true → Was s (p ++ c ∷ []) → Goes p x s
snoc_at p x c s h w = subst (λ y. Was s (p ++ y ∷ [])) (sym (eqb-true x c h)) w

after_was : (x : ℕ) (f : Form) (fs : List Form) (p q t : List ℕ) → Outer fs q → p ≡ q ++ t → Closed f t
    → Goes p x (after x f fs)
after_was x f fs p q t o e c =
    by_choice (Goes p x) (nat_eq x 32) (at between f fs) (cond (nat_eq x 41) (close (form_asks f) fs) stuck)
    (λ b. snoc_at p x 32 (at between f fs) b
    (stay between f fs p q t 32 o e
    (subst (λ d. Before f.ors d (t ++ 32 ∷ [])) (sym c.is_last) (ended_space c.ended), c.plain)))
    (λ n. by_choice (Goes p x) (nat_eq x 41) (close (form_asks f) fs) stuck
    (λ b. snoc_at p x 41 (close (form_asks f) fs) b (close_was (form_asks f) fs p q t (closed_spaced f t c) o e))
    (λ m. tt))

in_place_was : (pl : Place) (x : ℕ) (f : Form) (fs : List Form) (p q u w : List ℕ) → Outer fs q → p ≡ q ++ (u ++ w)
    → Opened f u → Read pl w → Goes p x (in_place pl x f fs)
in_place_was pl x f fs p q u w o e opened read = go (word_step pl x) refl (word_asks pl) refl
  where
    go : (r : Option Place) → word_step pl x ≡ r → (a : Option Asked) → word_asks pl ≡ a → Goes p x (on_word r a x f fs)
    go (Some r) is a h =
        stay (in_word r) f fs p q (u ++ w) x o e
        (u, w ++ x ∷ [], opened, read_step pl w x r read is, append_assoc u w (x ∷ []))
    go None is None h = tt
    go None is (Some a) h =
        after_was x (with_atom a f) fs p q (u ++ w) o e (add_atom f opened (word (word_read pl w a read h)))

at_atom_was : (x : ℕ) (f : Form) (fs : List Form) (p q t : List ℕ) → Outer fs q → p ≡ q ++ t → Opened f t
    → Goes p x (at_atom x f fs)
at_atom_was x f fs p q t o e opened =
    by_choice (Goes p x) (nat_eq x 40) (at between fresh (f ∷ fs)) (in_place begins x f fs)
    (λ b. snoc_at p x 40 (at between fresh (f ∷ fs)) b (opens f fs p q t o e opened))
    (λ n. in_place_was begins x f fs p q t [] o (e ∙ ap (λ l. q ++ l) (sym (append-nil t))) opened refl)

at_o_was : (ands : Option Asked) (f : Form) (fs : List Form) (p q t : List ℕ) → Outer fs q → p ≡ q ++ t
    → Before f.ors f.ands t → f.ands ≡ ands → Was (at_o ands f fs) (p ++ 111 ∷ [])
at_o_was None f fs p q t o e b h = tt
at_o_was (Some a) f fs p q t o e b h =
    stay in_o f fs p q t 111 o e
    (record { front = t; last = a; before = subst (λ d. Before f.ors d t) h b; is_last = h; whole = refl })

plain_opened : (f : Form) (t : List ℕ) → Before f.ors f.ands t → f.negated ≡ false → Opened f t
plain_opened f t b plain =
    record { front = t; before = b; whole = sym (append-nil t) ∙ ap (λ n. t ++ sign n) (sym plain) }

abbrev minus_form : Form → Form
minus_form f = record { ors = f.ors; ands = f.ands; negated = true }

between_was : (x : ℕ) (f : Form) (fs : List Form) (p q t : List ℕ) → Outer fs q → p ≡ q ++ t → Before f.ors f.ands t
    → f.negated ≡ false → Goes p x (at_between x f fs)
between_was x f fs p q t o e b plain =
    by_choice (Goes p x) (nat_eq x 32) (at between f fs) _
    (λ h. snoc_at p x 32 (at between f fs) h (stay between f fs p q t 32 o e (before_space b, plain)))
    (λ n1. by_choice (Goes p x) (nat_eq x 41) (close (form_asks f) fs) _
    (λ h. snoc_at p x 41 (close (form_asks f) fs) h (close_was (form_asks f) fs p q t (before_spaced b) o e))
    (λ n2. by_choice (Goes p x) (nat_eq x 45) (at at_minus (minus_form f) fs) _
    (λ h. snoc_at p x 45 (at at_minus (minus_form f) fs) h
    (stay at_minus (minus_form f) fs p q t 45 o e (record { front = t; before = b; whole = refl })))
    (λ n3. by_choice (Goes p x) (nat_eq x 111) (at_o f.ands f fs) (at_atom x f fs)
    (λ h. snoc_at p x 111 (at_o f.ands f fs) h (at_o_was f.ands f fs p q t o e b refl))
    (λ n4. at_atom_was x f fs p q t o e (plain_opened f t b plain)))))

in_o_was : (x : ℕ) (f : Form) (fs : List Form) (p q t : List ℕ) → Outer fs q → p ≡ q ++ t → InO (111 ∷ []) f t
    → Goes p x (spot_step in_o x f fs)
in_o_was x f fs p q t o e r =
    by_choice (Goes p x) (nat_eq x 114) (at in_or f fs) stuck
    (λ h. snoc_at p x 114 (at in_or f fs) h (stay in_or f fs p q t 114 o e (record {
      front = r.front;
      last = r.last;
      before = r.before;
      is_last = r.is_last;
      whole = ap (λ l. l ++ 114 ∷ []) r.whole ∙ append_assoc r.front (111 ∷ []) (114 ∷ []);
    }))) (λ n. tt)

-- after `or` and a space
led : {ors ands : Option Asked} {front : List ℕ} (last : Asked) → Before ors ands front → ands ≡ Some last
    → Lead (Some (any_of ors last)) (front ++ 111 ∷ 114 ∷ 32 ∷ [])
led last (no_unit l) h = absurd (cc h)
led last (past_unit {ors} {t} {w} {b} l r m) h =
    let same : b ≡ last = cc h in
    let e : Ended ors b (t ++ w) = record { lead = t; units = w; leads = l; is_and = r; whole = refl } in
    let s = ended_or e in
    subst (λ c. Lead (Some (any_of ors c)) (t ++ w ++ (32 ∷ spaces m) ++ 111 ∷ 114 ∷ 32 ∷ [])) same
    (subst (λ g. Lead (Some (any_of ors b)) (g ++ (32 ∷ spaces m) ++ 111 ∷ 114 ∷ 32 ∷ [])) (sym s.whole)
    (past_or s.ahead s.is_or m 0))

abbrev or_form : Form → Form
or_form f = record { ors = form_asks f; ands = None; negated = false }

in_or_was : (x : ℕ) (f : Form) (fs : List Form) (p q t : List ℕ) → Outer fs q → p ≡ q ++ t → InO (111 ∷ 114 ∷ []) f t
    → Goes p x (spot_step in_or x f fs)
in_or_was x f fs p q t o e r =
    let asks : form_asks f ≡ Some (any_of f.ors r.last) = ap (option_map (any_of f.ors)) r.is_last in
    let whole : t ++ 32 ∷ [] ≡ r.front ++ 111 ∷ 114 ∷ 32 ∷ [] =
    ap (λ l. l ++ 32 ∷ []) r.whole ∙ append_assoc r.front (111 ∷ 114 ∷ []) (32 ∷ []) in
    let lead : Lead (form_asks f) (t ++ 32 ∷ []) =
    subst (λ d. Lead d (t ++ 32 ∷ [])) (sym asks)
    (subst (Lead (Some (any_of f.ors r.last))) (sym whole) (led r.last r.before refl)) in
    by_choice (Goes p x) (nat_eq x 32) (at between (or_form f) fs) stuck
    (λ h. snoc_at p x 32 (at between (or_form f) fs) h (stay between (or_form f) fs p q t 32 o e (no_unit lead, refl)))
    (λ n. tt)

step_was : (s : State) (p : List ℕ) (x : ℕ) → Was s p → Was (step s x) (p ++ x ∷ [])
step_was stuck p x w = tt
step_was (at between f fs) p x (q, t, o, (b, plain), e) = between_was x f fs p q t o e b plain
step_was (at at_minus f fs) p x (q, t, o, opened, e) = at_atom_was x f fs p q t o e opened
step_was (at (in_word pl) f fs) p x (q, t, o, (u, w, opened, read, is), e) =
    in_place_was pl x f fs p q u w o (e ∙ ap (λ l. q ++ l) is) opened read
step_was (at in_o f fs) p x (q, t, o, r, e) = in_o_was x f fs p q t o e r
step_was (at in_or f fs) p x (q, t, o, r, e) = in_or_was x f fs p q t o e r
step_was (at closed f fs) p x (q, t, o, c, e) = after_was x f fs p q t o e c

pub run_was : (s : State) (p xs : List ℕ) → Was s p → Was (run s xs) (p ++ xs)
run_was s p [] w = subst (Was s) (sym (append-nil p)) w
run_was s p (x ∷ xs) w =
    subst (Was (run (step s x) xs)) (append_assoc p (x ∷ []) xs)
    (run_was (step s x) (p ++ x ∷ []) xs (step_was s p x w))

spaced_line : (q t p : List ℕ) (a : Asked) → q ≡ [] → p ≡ q ++ t → Spaced a t → IsLine p a
spaced_line q t p a none e s =
    subst (λ l. IsLine l a) (sym (e ∙ ap (λ l. l ++ t) none ∙ s.whole)) (line s.ahead s.is_or s.behind)

pub line_was : (s : State) (p : List ℕ) (a : Asked) → Was s p → line_asks s ≡ Some a → IsLine p a
line_was stuck p a w h = absurd (cc h)
line_was (at spot f (g ∷ fs)) p a w h = absurd (cc h)
line_was (at between f []) p a (q, t, o, (b, plain), e) h = spaced_line q t p a o e (before_spaced b a h)
line_was (at at_minus f []) p a w h = absurd (cc h)
line_was (at (in_word pl) f []) p a (q, t, o, (u, w, opened, read, is), e) h = go (word_asks pl) refl h
  where
    go : (r : Option Asked) → word_asks pl ≡ r → form_over (option_map (λ b. with_atom b f) r) ≡ Some a → IsLine p a
    go None k h = absurd (cc h)
    go (Some b) k h =
        spaced_line q (u ++ w) p a o (e ∙ ap (λ l. q ++ l) is)
        (closed_spaced (with_atom b f) (u ++ w) (add_atom f opened (word (word_read pl w b read k))) a h)
line_was (at in_o f []) p a w h = absurd (cc h)
line_was (at in_or f []) p a w h = absurd (cc h)
line_was (at closed f []) p a (q, t, o, c, e) h = spaced_line q t p a o e (closed_spaced f t c a h)

-- what is read of a text as a line is a reading of it
pub reading_line : (text : List ℕ) (a : Asked) → reading text ≡ Some a → IsLine text a
reading_line text a h = line_was (run start text) text a (run_was start [] text start_was) h

pub one_reading : (text : List ℕ) (a b : Asked) → IsLine text a → IsLine text b → a ≡ b
one_reading text a b l m = let same : Some a ≡ Some b = sym (line_reads l) ∙ line_reads m in cc same
