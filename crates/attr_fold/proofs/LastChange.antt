-- One entry more in a map, and the entries that pass a test.
use Rattle.std.proofs.Common.{◌≡◌, Bool, true, false, cond, List, [], ◌∷◌, ◌++◌, filter, None, Some, refl, sym, ap, ◌∙◌, Ordering, inl, inr}
use Rattle.std.proofs.lemmas.Bool.{and_parts, and_from, cond-true, cond-false, or_right, or_left, or_cases, false≢true}
use Rattle.std.specs.declared.cmp.Ordering.TheVariants.{Less, Equal, Greater}
use Rattle.std.specs.List.{list_any}
use Rattle.std.specs.Ordering.{is_eq, is_lt, eq_by_cmp}
use Rattle.std.specs.Cmp.{IsTotalOrder}
use Rattle.std.specs.FinMap.Entries.{by_order, below_all, is_sorted, find, put}

none_of : {A : Type 0} (b : Bool) (x : A) (xs : List A) → cond b (x ∷ xs) xs ≡ [] → xs ≡ []
none_of true x xs h = absurd (let e : x ∷ xs ≡ [] = h in cc e)
none_of false x xs h = h

pub is_less : (r : Ordering) → is_lt r ≡ true → r ≡ Less
is_less Less h = refl
is_less Equal h = absurd (false≢true h)
is_less Greater h = absurd (false≢true h)

module _ {K X : Type 0} {R : K → K → Ordering} (o : IsTotalOrder R) (f : K → Bool) (k : K) (v : X) where
  abbrev passing : List (K × X) → List (K × X)
  passing es = filter (λ e. f e.0) es

  pub new_here : (e : K × X) (es : List (K × X)) → find R k (e ∷ es) ≡ None → R k e.0 ≡ Equal → ⊥
  new_here e es h is =
      let g : Some e.1 ≡ None = sym (cond-true (eq_by_cmp R k e.0) (Some e.1) (find R k es) (ap is_eq is)) ∙ h in cc g

  pub new_there : (e : K × X) (es : List (K × X)) → find R k (e ∷ es) ≡ None → R k e.0 ≡ Greater → find R k es ≡ None
  new_there e es h is = sym (cond-false (eq_by_cmp R k e.0) (Some e.1) (find R k es) (ap is_eq is)) ∙ h

  -- a new entry that doesn't pass
  pub put_beside : f k ≡ false → (es : List (K × X)) → find R k es ≡ None → passing (put R k v es) ≡ passing es
  put_beside out [] h = cond-false (f k) ((k, v) ∷ []) [] out
  put_beside out (e ∷ es) h = by (R k e.0) refl (put_beside out es)
    where
      by : (r : Ordering) → R k e.0 ≡ r → (find R k es ≡ None → passing (put R k v es) ≡ passing es)
          → passing (by_order r ((k, v) ∷ e ∷ es) ((e.0, v) ∷ es) (e ∷ put R k v es)) ≡ passing (e ∷ es)
      by Less is more = cond-false (f k) ((k, v) ∷ passing (e ∷ es)) (passing (e ∷ es)) out
      by Equal is more = absurd (new_here e es h is)
      by Greater is more = ap (λ xs. cond (f e.0) (e ∷ xs) xs) (more (new_there e es h is))

  -- what passes stays
  pub put_more : (g : K → Bool) (es : List (K × X)) → find R k es ≡ None
      → list_any (λ e. g e.0) (passing es) ≡ true → list_any (λ e. g e.0) (passing (put R k v es)) ≡ true
  put_more g [] h t = absurd (false≢true t)
  put_more g (e ∷ es) h t = by (R k e.0) refl (put_more g es)
    where
      one_more : (b : Bool) (x : K × X) (xs : List (K × X)) → list_any (λ e. g e.0) xs ≡ true
          → list_any (λ e. g e.0) (cond b (x ∷ xs) xs) ≡ true
      one_more true x xs any = or_right (g x.0) (list_any (λ e. g e.0) xs) any
      one_more false x xs any = any

      there : (b : Bool) → (find R k es ≡ None → list_any (λ e. g e.0) (passing es) ≡ true
          → list_any (λ e. g e.0) (passing (put R k v es)) ≡ true) → find R k es ≡ None
          → list_any (λ e. g e.0) (cond b (e ∷ passing es) (passing es)) ≡ true
          → list_any (λ e. g e.0) (cond b (e ∷ passing (put R k v es)) (passing (put R k v es))) ≡ true
      there true more new any = elim (or_cases (g e.0) (list_any (λ e. g e.0) (passing es)) any) [
        | inl own ↦ or_left (g e.0) _ own
        | inr rest ↦ or_right (g e.0) _ (more new rest)
      ]
      there false more new any = more new any

      by : (r : Ordering) → R k e.0 ≡ r → (find R k es ≡ None → list_any (λ e. g e.0) (passing es) ≡ true
          → list_any (λ e. g e.0) (passing (put R k v es)) ≡ true)
          → list_any (λ e. g e.0) (passing (by_order r ((k, v) ∷ e ∷ es) ((e.0, v) ∷ es) (e ∷ put R k v es))) ≡ true
      by Less is more = one_more (f k) (k, v) (passing (e ∷ es)) t
      by Equal is more = absurd (new_here e es h is)
      by Greater is more = there (f e.0) more (new_there e es h is) t

  -- a new entry that passes, where none that passes is behind it
  module _ (l : K → Bool) (behind : (x : K) → f x ≡ true → is_lt (R k x) ≡ true → l x ≡ true) where
    pub below_less : (e : K) (es : List (K × X)) → R k e ≡ Less → below_all R e es ≡ true → below_all R k es ≡ true
    below_less e [] is h = refl
    below_less e (d ∷ es) is h =
        let parts = and_parts (is_lt (R e d.0)) (below_all R e es) h in
        and_from (is_lt (R k d.0)) (below_all R k es)
        (ap is_lt (o.trans k e d.0 is (is_less (R e d.0) parts.0))) (below_less e es is parts.1)

    none_behind : (es : List (K × X)) → below_all R k es ≡ true → filter (λ e. l e.0) es ≡ [] → passing es ≡ []
    none_behind [] low none = refl
    none_behind (e ∷ es) low none =
        by (f e.0) refl (none_behind es parts.1 (none_of (l e.0) e (filter (λ e. l e.0) es) none))
      where
        parts : (is_lt (R k e.0) ≡ true) × (below_all R k es ≡ true)
        parts = and_parts (is_lt (R k e.0)) (below_all R k es) low

        by : (b : Bool) → f e.0 ≡ b → passing es ≡ [] → cond b (e ∷ passing es) (passing es) ≡ []
        by true is rest =
            absurd (let g : e ∷ filter (λ e. l e.0) es ≡ [] =
            sym (cond-true (l e.0) (e ∷ filter (λ e. l e.0) es) (filter (λ e. l e.0) es) (behind e.0 is parts.0)) ∙ none in cc g)
        by false is rest = rest

    pub put_last : f k ≡ true → (es : List (K × X)) → is_sorted R es ≡ true → find R k es ≡ None
        → filter (λ e. l e.0) (put R k v es) ≡ [] → passing (put R k v es) ≡ passing es ++ (k, v) ∷ []
    put_last own [] sorted new none = cond-true (f k) ((k, v) ∷ []) [] own
    put_last own (e ∷ es) sorted new none = by (R k e.0) refl none (put_last own es parts.1)
      where
        parts : (below_all R e.0 es ≡ true) × (is_sorted R es ≡ true)
        parts = and_parts (below_all R e.0 es) (is_sorted R es) sorted

        joined : (b : Bool) (xs ys zs : List (K × X)) → xs ≡ ys ++ zs → cond b (e ∷ xs) xs ≡ cond b (e ∷ ys) ys ++ zs
        joined true xs ys zs h = ap (λ ws. e ∷ ws) h
        joined false xs ys zs h = h

        by : (r : Ordering) → R k e.0 ≡ r
            → filter (λ e. l e.0) (by_order r ((k, v) ∷ e ∷ es) ((e.0, v) ∷ es) (e ∷ put R k v es)) ≡ []
            → (find R k es ≡ None → filter (λ e. l e.0) (put R k v es) ≡ [] → passing (put R k v es) ≡ passing es ++ (k, v) ∷ [])
            → passing (by_order r ((k, v) ∷ e ∷ es) ((e.0, v) ∷ es) (e ∷ put R k v es)) ≡ passing (e ∷ es) ++ (k, v) ∷ []
        by Less is empty more =
            let low = and_from (is_lt (R k e.0)) (below_all R k es) (ap is_lt is) (below_less e.0 es is parts.0) in
            let gone : passing (e ∷ es) ≡ [] = none_behind (e ∷ es) low (none_of (l k) (k, v) (filter (λ e. l e.0) (e ∷ es)) empty) in
            cond-true (f k) ((k, v) ∷ passing (e ∷ es)) (passing (e ∷ es)) own ∙ ap (λ xs. (k, v) ∷ xs) gone ∙ sym (ap (λ xs. xs ++ (k, v) ∷ []) gone)
        by Equal is empty more = absurd (new_here e es new is)
        by Greater is empty more =
            joined (f e.0) (passing (put R k v es)) (passing es) ((k, v) ∷ [])
            (more (new_there e es new is) (none_of (l e.0) e (filter (λ e. l e.0) (put R k v es)) empty))

-- the entries that pass a narrower test, which the new entry doesn't, where what passes the wider test and not the third one passes it too
module _ {K X : Type 0} {R : K → K → Ordering} (o : IsTotalOrder R) (f g l : K → Bool) (k : K) (v : X)
    (narrower : (x : K) → g x ≡ true → f x ≡ true) (enough : (x : K) → f x ≡ true → l x ≡ false → eq_by_cmp R k x ≡ false → g x ≡ true) where
  as_many : (es : List (K × X)) → find R k es ≡ None → filter (λ e. l e.0) es ≡ [] → filter (λ e. g e.0) es ≡ filter (λ e. f e.0) es
  as_many [] h none = refl
  as_many (e ∷ es) h none = by (f e.0) refl (g e.0) refl (as_many es (there (eq_by_cmp R k e.0) h) (none_of (l e.0) e (filter (λ e. l e.0) es) none))
    where
      there : (b : Bool) → cond b (Some e.1) (find R k es) ≡ None → find R k es ≡ None
      there true h = absurd (let d : Some e.1 ≡ None = h in cc d)
      there false h = h

      apart : (b : Bool) → eq_by_cmp R k e.0 ≡ b → cond b (Some e.1) (find R k es) ≡ None → eq_by_cmp R k e.0 ≡ false
      apart true is h = absurd (let d : Some e.1 ≡ None = h in cc d)
      apart false is h = is

      out : (b : Bool) → l e.0 ≡ b → cond b (e ∷ filter (λ e. l e.0) es) (filter (λ e. l e.0) es) ≡ [] → l e.0 ≡ false
      out true is h = absurd (let d : e ∷ filter (λ e. l e.0) es ≡ [] = h in cc d)
      out false is h = is

      by : (a : Bool) → f e.0 ≡ a → (b : Bool) → g e.0 ≡ b → filter (λ e. g e.0) es ≡ filter (λ e. f e.0) es
          → cond b (e ∷ filter (λ e. g e.0) es) (filter (λ e. g e.0) es) ≡ cond a (e ∷ filter (λ e. f e.0) es) (filter (λ e. f e.0) es)
      by true fs true gs more = ap (λ xs. e ∷ xs) more
      by true fs false gs more = absurd (false≢true (sym gs ∙ enough e.0 fs (out (l e.0) refl none) (apart (eq_by_cmp R k e.0) refl h)))
      by false fs true gs more = absurd (false≢true (sym fs ∙ narrower e.0 gs))
      by false fs false gs more = more

  pub put_before : g k ≡ false → l k ≡ false → (es : List (K × X)) → find R k es ≡ None → filter (λ e. l e.0) (put R k v es) ≡ []
      → filter (λ e. g e.0) (put R k v es) ≡ filter (λ e. f e.0) es
  put_before beside_g beside_l es h none =
      put_beside o g k v beside_g es h ∙ as_many es h (sym (put_beside o l k v beside_l es h) ∙ none)
