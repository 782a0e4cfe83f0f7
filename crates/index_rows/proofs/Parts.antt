-- The part of a table whose keys pass a test, under what is left of these keys, as a map of its own.
use Rattle.std.proofs.Common.{◌≡◌, Bool, true, false, ◌||◌, cond, T, List, [], ◌∷◌, Option, None, Some, refl, sym, ap}
use Rattle.std.proofs.Common.{◌∙◌, subst, Ordering, is_some, option_map}
use Rattle.std.proofs.lemmas.Bool.{and_from, and_parts}
use Rattle.std.specs.List.{filter_map, cons_option}
use Rattle.std.specs.Ordering.{is_eq, is_lt, eq_by_cmp}
use Rattle.std.specs.Cmp.{IsTotalOrder}
use Rattle.std.specs.FinMap.Entries.{below_all, same_entries}
use Rattle.std.specs.FinMap.{FinMap, IsAntisymmetric, get, contains_key, entries, entries_sorted, find, get-entries}
use Rattle.std.specs.FinMap.{is_sorted}
use Rattle.index_look.proofs.Order.{is_Equal}

is_true : (b : Bool) → b ≡ true → T b
is_true b h = subst T (sym h) tt

true_of : (b : Bool) → T b → b ≡ true
true_of true t = refl
true_of false t = absurd t

module _ {K M Y : Type 0} (of : K → Bool) (part : K → M) (tell : M → Option Y) where
  abbrev told_at : K → Option (M × Y)
  told_at k = cond (of k) (option_map (λ y. (part k, y)) (tell (part k))) None

  -- what is told of the keys that pass, under what is left of each
  abbrev pub told : {X : Type 0} → List (K × X) → List (M × Y)
  told es = filter_map (λ e. told_at e.0) es

-- the keys that pass are those that can be made from what is left of them, and are in its order
pub record IsPart {K M : Type 0} (R : K → K → Ordering) (P : M → M → Ordering) (of : K → Bool) (part : K → M)
    (key : M → K) : Type 0 where
  pub tied : (m : M) (k : K) → of k ≡ true → R (key m) k ≡ P m (part k)
  pub apart : (m : M) (k : K) → of k ≡ false → is_eq (R (key m) k) ≡ false
  pub own : (k : K) → of k ≡ true → key (part k) ≡ k

some_or : {X : Type 0} (b : Bool) (x : X) (o : Option X) → is_some (cond b (Some x) o) ≡ (b || is_some o)
some_or true x o = refl
some_or false x o = refl

module _ {K M : Type 0} {R : K → K → Ordering} {P : M → M → Ordering} (total : IsTotalOrder P)
    (same : IsAntisymmetric P) {of : K → Bool} {part : K → M} {key : M → K} (is_part : IsPart R P of part key) where
  module _ {Y : Type 0} (tell : M → Option Y) where
    -- what is found there
    found_here : (q m : M) (o : Option Y) → tell m ≡ o → (b : Bool) → eq_by_cmp P q m ≡ b
        → (fs : List (M × Y)) (u : Bool) → find P q fs ≡ cond u (tell q) None
        → find P q (cons_option (option_map (λ y. (m, y)) o) fs) ≡ cond (b || u) (tell q) None
    found_here q m None is true e fs true h = h
    found_here q m None is true e fs false h = h ∙ sym is ∙ ap tell (sym (same q m (is_Equal (P q m) e)))
    found_here q m None is false e fs u h = h
    found_here q m (Some y) is true e fs u h = ap (λ b. cond b (Some y) (find P q fs)) e ∙ sym is
        ∙ ap tell (sym (same q m (is_Equal (P q m) e)))
    found_here q m (Some y) is false e fs u h = ap (λ b. cond b (Some y) (find P q fs)) e ∙ h

    pub found : {X : Type 0} (q : M) (es : List (K × X))
        → find P q (told of part tell es) ≡ cond (is_some (find R (key q) es)) (tell q) None
    found q [] = refl
    found q (e ∷ es) = by (of e.0) refl (found q es)
        ∙ ap (λ b. cond b (tell q) None) (sym (some_or (eq_by_cmp R (key q) e.0) e.1 (find R (key q) es)))
      where
        by : (b : Bool) → of e.0 ≡ b → find P q (told of part tell es)
            ≡ cond (is_some (find R (key q) es)) (tell q) None
            → find P q (cons_option (cond b (option_map (λ y. (part e.0, y)) (tell (part e.0))) None)
            (told of part tell es)) ≡ cond (eq_by_cmp R (key q) e.0 || is_some (find R (key q) es)) (tell q) None
        by true is h =
            found_here q (part e.0) (tell (part e.0)) refl (eq_by_cmp P q (part e.0)) refl (told of part tell es)
            (is_some (find R (key q) es)) h
            ∙ ap (λ r. cond (is_eq r || is_some (find R (key q) es)) (tell q) None) (sym (is_part.tied q e.0 is))
        by false is h = h ∙ ap (λ b. cond (b || is_some (find R (key q) es)) (tell q) None)
            (sym (is_part.apart q e.0 is))

    -- in their order
    below_here : (m k : M) (o : Option Y) (fs : List (M × Y)) → is_lt (P m k) ≡ true → below_all P m fs ≡ true
        → below_all P m (cons_option (option_map (λ y. (k, y)) o) fs) ≡ true
    below_here m k None fs less h = h
    below_here m k (Some y) fs less h = and_from (is_lt (P m k)) (below_all P m fs) less h

    below : {X : Type 0} (m : M) (es : List (K × X)) → below_all R (key m) es ≡ true
        → below_all P m (told of part tell es) ≡ true
    below m [] h = refl
    below m (e ∷ es) h = by (of e.0) refl (below m es parts.1)
      where
        parts : (is_lt (R (key m) e.0) ≡ true) × (below_all R (key m) es ≡ true)
        parts = and_parts (is_lt (R (key m) e.0)) (below_all R (key m) es) h

        by : (b : Bool) → of e.0 ≡ b → below_all P m (told of part tell es) ≡ true
            → below_all P m (cons_option (cond b (option_map (λ y. (part e.0, y)) (tell (part e.0))) None)
            (told of part tell es)) ≡ true
        by true is rest =
            below_here m (part e.0) (tell (part e.0)) (told of part tell es)
            (ap is_lt (sym (is_part.tied m e.0 is)) ∙ parts.0) rest
        by false is rest = rest

    sorted_here : (k : M) (o : Option Y) (fs : List (M × Y)) → below_all P k fs ≡ true → is_sorted P fs ≡ true
        → is_sorted P (cons_option (option_map (λ y. (k, y)) o) fs) ≡ true
    sorted_here k None fs low h = h
    sorted_here k (Some y) fs low h = and_from (below_all P k fs) (is_sorted P fs) low h

    sorted : {X : Type 0} (es : List (K × X)) → is_sorted R es ≡ true → is_sorted P (told of part tell es) ≡ true
    sorted [] h = refl
    sorted (e ∷ es) h = by (of e.0) refl (sorted es parts.1)
      where
        parts : (below_all R e.0 es ≡ true) × (is_sorted R es ≡ true)
        parts = and_parts (below_all R e.0 es) (is_sorted R es) h

        by : (b : Bool) → of e.0 ≡ b → is_sorted P (told of part tell es) ≡ true
            → is_sorted P (cons_option (cond b (option_map (λ y. (part e.0, y)) (tell (part e.0))) None)
            (told of part tell es)) ≡ true
        by true is rest =
            sorted_here (part e.0) (tell (part e.0)) (told of part tell es)
            (below (part e.0) es (ap (λ k. below_all R k es) (is_part.own e.0 is) ∙ parts.0)) rest
        by false is rest = rest

    pub sorted_of : {X : Type 0} (table : FinMap R X) → T (is_sorted P (told of part tell (entries table)))
    sorted_of table = is_true (is_sorted P (told of part tell (entries table)))
        (sorted (entries table) (true_of (is_sorted R (entries table)) (entries_sorted table)))

    pub find_of : {X : Type 0} (table : FinMap R X) (q : M)
        → find P q (told of part tell (entries table)) ≡ cond (contains_key table (key q)) (tell q) None
    find_of table q = found q (entries table)
        ∙ ap (λ o. cond (is_some o) (tell q) None) (sym (get-entries table (key q)))

    -- a map with these look-ups has just these entries
    pub entries_told : {X : Type 0} (table : FinMap R X) (m : FinMap P Y)
        → ((q : M) → get m q ≡ cond (contains_key table (key q)) (tell q) None)
        → told of part tell (entries table) ≡ entries m
    entries_told table m h =
        same_entries P total same (told of part tell (entries table)) (entries m) (sorted_of table) (entries_sorted m)
        (λ q. find_of table q ∙ sym (h q) ∙ get-entries m q)

  -- where two tables tell the same of each key, they tell the same
  pub same_told : {X Y : Type 0} (tell other : M → Option Y) (table more : FinMap R X)
      → ((q : M) → cond (contains_key table (key q)) (tell q) None ≡ cond (contains_key more (key q)) (other q) None)
      → told of part tell (entries table) ≡ told of part other (entries more)
  same_told tell other table more h =
      same_entries P total same (told of part tell (entries table)) (told of part other (entries more))
      (sorted_of tell table) (sorted_of other more)
      (λ q. find_of tell table q ∙ h q ∙ sym (find_of other more q))
