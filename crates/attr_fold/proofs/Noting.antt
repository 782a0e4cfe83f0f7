-- What one change more does to the turns.
use Rattle.std.proofs.Common.{◌≡◌, ◌≤◌, ◌==◌, ℕ, suc, Bool, true, false, not, ◌&&◌, ◌||◌, cond, List, [], ◌∷◌, ◌++◌}
use Rattle.std.proofs.Common.{map, filter, length, Option, Some, None, refl, sym, ap, subst, ◌∙◌, inl, inr, is_some}
use Rattle.std.proofs.Common.{unwrap_or, nat_lt, arith, Ordering}
use Rattle.std.proofs.Math.Bool.{or-false, or-true, and-true}
use Rattle.std.proofs.lemmas.Bool.{false≢true, or_cases, and_parts, not-true, lt-ltb, le-ltb}
use Rattle.std.proofs.lemmas.List.{append-nil}
use Rattle.std.proofs.lemmas.List.Folds.{list_any-append}
use Rattle.std.proofs.lemmas.Map.Text.{is_eq-slice_cmp}
use Rattle.std.proofs.lemmas.Slice.Eq.{bytes_eq-Decides}
use Rattle.std.specs.declared.cmp.Ordering.TheVariants.{Less, Equal, Greater}
use Rattle.std.specs.List.{list_any}
use Rattle.std.specs.Str.{bytes_eq}
use Rattle.std.specs.Ordering.{is_eq, eq_by_cmp, ordering_then}
use Rattle.std.specs.Cmp.{IsTotalOrder}
use Rattle.std.specs.FinMap.{FinMap, get, insert, empty, contains_key, get-insert, get-empty}
use Rattle.blobref.specs.Blobref.{ref_cmp}
use Rattle.schema_fact.specs.declared.changes.Act.{Act}
use Rattle.schema_fact.specs.declared.changes.Change.{Change}
use Rattle.schema_fact.specs.declared.changes.Act.TheVariants.{Set as sets, Add as adds, Del as removes}
use Rattle.claim_model.specs.Changes.{counting, gives, is_removal}
use Rattle.index_look.proofs.Order.{is_Equal}
use Rattle.index_rows.specs.Holders.{HolderKey, holder_cmp, holder_total}
use Rattle.index_rows.proofs.Counting.{contains-insert}
use Rattle.index_rows.proofs.Orders.{holder_same, ref_total}
use Rattle.attr_fold.specs.declared.turns.Turns.{Turns}
use Rattle.attr_fold.specs.Times.{change_times, times_after}
use Rattle.attr_fold.specs.Turns.{ValueTurns, given_at, turn_at, times_there, known, noted, Tells}
use Rattle.attr_fold.proofs.Times.{times-last}

then_equal : (x y : Ordering) → is_eq (ordering_then x y) ≡ (is_eq x && is_eq y)
then_equal Less y = refl
then_equal Equal y = refl
then_equal Greater y = refl

-- keys of one permanode are the same where the attributes and the values are
pub same_key : (p name value a v : List ℕ)
    → eq_by_cmp holder_cmp (name, value, p) (a, v, p) ≡ (bytes_eq name a && bytes_eq value v)
same_key p name value a v =
    then_equal (ref_cmp name a) (ordering_then (ref_cmp value v) (ref_cmp p p))
    ∙ (λ i. is_eq-slice_cmp name a i && then_equal (ref_cmp value v) (ref_cmp p p) i)
    ∙ (λ i. bytes_eq name a && (is_eq-slice_cmp value v i && is_eq-slice_cmp p p i))
    ∙ (λ i. bytes_eq name a && (bytes_eq value v && (bytes_eq-Decides p p).1 refl i))
    ∙ ap (λ b. bytes_eq name a && b) (and-true (bytes_eq value v))

-- what is under a key, or else d, after another is put
at-insert : {K X : Type 0} {R : K → K → Ordering} (o : IsTotalOrder R) (d : X) (m : FinMap R X) (k : K) (t : X) (q : K)
    → unwrap_or (get (insert m k t) q) d ≡ cond (eq_by_cmp R q k) t (unwrap_or (get m q) d)
at-insert {K} {X} {R} o d m k t q = ap (λ (o : Option X). unwrap_or o d) (get-insert o m k t q) ∙ by (eq_by_cmp R q k)
  where
    by : (b : Bool) → unwrap_or (cond b (Some t) (get m q)) d ≡ cond b t (unwrap_or (get m q) d)
    by true = refl
    by false = refl

turn-insert : {K : Type 0} {R : K → K → Ordering} (o : IsTotalOrder R) (m : FinMap R ℕ) (k : K) (t : ℕ) (q : K)
    → turn_at (insert m k t) q ≡ cond (eq_by_cmp R q k) t (turn_at m q)
turn-insert o m k t q = at-insert o 0 m k t q

given-insert : (m : ValueTurns) (k : HolderKey) (t : ℕ × ℕ) (q : HolderKey)
    → given_at (insert m k t) q ≡ cond (eq_by_cmp holder_cmp q k) t (given_at m q)
given-insert m k t q = at-insert holder_total (0, 0) m k t q

no_turn : (m : ValueTurns) (k : HolderKey) → contains_key m k ≡ false → given_at m k ≡ (0, 0)
no_turn m k h = by (get m k) h
  where
    by : (o : Option (ℕ × ℕ)) → is_some o ≡ false → unwrap_or o (0, 0) ≡ (0, 0)
    by None h = refl
    by (Some t) h = absurd (false≢true (sym h))

given-known : (m : ValueTurns) (k q : HolderKey) → given_at (known m k) q ≡ given_at m q
given-known m k q = by (contains_key m k) refl
  where
    at : contains_key m k ≡ false → (b : Bool) → eq_by_cmp holder_cmp q k ≡ b
        → cond b (0, 0) (given_at m q) ≡ given_at m q
    at h true e = sym (ap (given_at m) (holder_same q k (is_Equal (holder_cmp q k) e)) ∙ no_turn m k h)
    at h false e = refl

    by : (b : Bool) → contains_key m k ≡ b → given_at (cond b m (insert m k (0, 0))) q ≡ given_at m q
    by true h = refl
    by false h = given-insert m k (0, 0) q ∙ at h (eq_by_cmp holder_cmp q k) refl

contains-known : (m : ValueTurns) (k q : HolderKey)
    → contains_key (known m k) q ≡ (eq_by_cmp holder_cmp q k || contains_key m q)
contains-known m k q = by (contains_key m k) refl
  where
    at : contains_key m k ≡ true → (b : Bool) → eq_by_cmp holder_cmp q k ≡ b
        → contains_key m q ≡ (b || contains_key m q)
    at h true e = ap (contains_key m) (holder_same q k (is_Equal (holder_cmp q k) e)) ∙ h
    at h false e = refl

    by : (b : Bool) → contains_key m k ≡ b
        → contains_key (cond b m (insert m k (0, 0))) q ≡ (eq_by_cmp holder_cmp q k || contains_key m q)
    by true h = at h (eq_by_cmp holder_cmp q k) refl
    by false h = contains-insert holder_total holder_same m k (0, 0) q

pub counting-append : (cs : List (Change × Bool)) (c : Change) (b : Bool)
    → counting (cs ++ (c, b) ∷ []) ≡ counting cs ++ cond b (c ∷ []) []
counting-append [] c true = refl
counting-append [] c false = refl
counting-append (d ∷ ds) c b = by d.1 (counting-append ds c b)
  where
    by : (t : Bool) → counting (ds ++ (c, b) ∷ []) ≡ counting ds ++ cond b (c ∷ []) []
        → map (λ (e : Change × Bool). e.0)
        (cond t (d ∷ filter (λ (e : Change × Bool). e.1) (ds ++ (c, b) ∷ []))
        (filter (λ (e : Change × Bool). e.1) (ds ++ (c, b) ∷ [])))
        ≡ map (λ (e : Change × Bool). e.0)
        (cond t (d ∷ filter (λ (e : Change × Bool). e.1) ds) (filter (λ (e : Change × Bool). e.1) ds)) ++ cond b
        (c ∷ []) []
    by true h = ap (λ xs. d.0 ∷ xs) h
    by false h = h

module _ (p : List ℕ) (cs : List (Change × Bool)) (turns : Turns) (n : ℕ) (is : Tells p cs turns n) (on a v : List ℕ)
  where
    abbrev key : HolderKey
    key = (a, v, p)

    abbrev one : Act → Change
    one act = record { on = on; act = act; attr = a; value = v }

    abbrev since : List ℕ → ℕ
    since name = turn_at turns.emptied name

    abbrev last : List ℕ → List ℕ → ℕ × ℕ
    last name value = given_at turns.given (name, value, p)

    abbrev had : List ℕ → List ℕ → ℕ
    had name value = times_after name value (counting cs)

    -- what a value gives whose turn is greater than that of its attribute
    abbrev by_turn : ℕ → ℕ × ℕ → ℕ
    by_turn t given = cond (nat_lt t given.0) given.1 0

    -- with its own turn where it is the key
    last_now : (t : ℕ × ℕ) (name value : List ℕ)
        → given_at (insert turns.given key t) (name, value, p)
        ≡ cond (bytes_eq name a && bytes_eq value v) t (last name value)
    last_now t name value = given-insert turns.given key t (name, value, p)
        ∙ ap (λ b. cond b t (last name value)) (same_key p name value a v)

    since_now : (name : List ℕ) → turn_at (insert turns.emptied a n) name ≡ cond (bytes_eq name a) n (since name)
    since_now name =
        turn-insert ref_total turns.emptied a n name ∙ ap (λ b. cond b n (since name)) (is_eq-slice_cmp name a)

    counted : (act : Act) (name value : List ℕ)
        → times_after name value (counting (cs ++ (one act, true) ∷ []))
        ≡ change_times name value (had name value) (one act)
    counted act name value = ap (times_after name value) (counting-append cs (one act) true)
        ∙ times-last name value (counting cs) (one act)

    uncounted : (act : Act) (name value : List ℕ)
        → times_after name value (counting (cs ++ (one act, false) ∷ [])) ≡ had name value
    uncounted act name value =
        ap (times_after name value) (counting-append cs (one act) false ∙ append-nil (counting cs))

    -- what a removal leaves, of all values or of one
    abbrev removal : Bool → Turns
    removal none =
        cond none (record { given = turns.given; emptied = insert turns.emptied a n })
        (record { given = insert turns.given key (0, 0); emptied = turns.emptied })

    abbrev more : ℕ
    more = suc (times_there turns.given turns.emptied key)

    -- ---- what is there

    own_times : (name value : List ℕ) → bytes_eq name a ≡ true → bytes_eq value v ≡ true
        → times_there turns.given turns.emptied key ≡ had name value
    own_times name value s t = is.there a v
        ∙ (λ i. had (sym ((bytes_eq-Decides name a).0 s) i) (sym ((bytes_eq-Decides value v).0 t) i))

    none_left : (b : Bool) → ◌≡◌ {A = ℕ} (cond b 0 0) 0
    none_left true = refl
    none_left false = refl

    there : (act : Act) (b : Bool) (name value : List ℕ)
        → times_there (noted turns act b key n).given (noted turns act b key n).emptied (name, value, p)
        ≡ times_after name value (counting (cs ++ (one act, b) ∷ []))
    there sets true name value =
        (λ i. by_turn (since_now name i) (last_now (suc n, 1) name value i))
        ∙ by (bytes_eq name a) (bytes_eq value v) (is.there name value) ∙ sym (counted sets name value)
      where
        by : (s t : Bool) → by_turn (since name) (last name value) ≡ had name value
            → by_turn (cond s n (since name)) (cond (s && t) (suc n, 1) (last name value))
            ≡ cond s (cond t 1 0) (had name value)
        by true true h = ap (λ b. cond b 1 0) (lt-ltb n (suc n) (omega arith))
        by true false h = ap (λ b. cond b (last name value).1 0)
            (le-ltb n (last name value).0 (is.given (name, value, p)))
        by false t h = h
    there sets false name value =
        ap (by_turn (since name)) (given-known turns.given key (name, value, p)) ∙ is.there name value
        ∙ sym (uncounted sets name value)
    there adds true name value =
        ap (by_turn (since name)) (last_now (suc n, more) name value)
        ∙ by (bytes_eq name a) refl (bytes_eq value v) refl (is.there name value) ∙ sym (counted adds name value)
      where
        by : (s : Bool) → bytes_eq name a ≡ s → (t : Bool) → bytes_eq value v ≡ t
            → by_turn (since name) (last name value) ≡ had name value
            → by_turn (since name) (cond (s && t) (suc n, more) (last name value))
            ≡ cond s (cond t (suc (had name value)) (had name value)) (had name value)
        by true hs true ht h = let le : since name ≤ n = is.emptied name in
            ap (λ b. cond b more 0) (lt-ltb (since name) (suc n) (omega arith)) ∙ ap suc (own_times name value hs ht)
        by true hs false ht h = h
        by false hs t ht h = h
    there adds false name value =
        ap (by_turn (since name)) (given-known turns.given key (name, value, p)) ∙ is.there name value
        ∙ sym (uncounted adds name value)
    there removes true name value = by (length v == 0) ∙ sym (counted removes name value)
      where
        all : (s : Bool) → by_turn (since name) (last name value) ≡ had name value
            → by_turn (cond s n (since name)) (last name value) ≡ cond s 0 (had name value)
        all true h = ap (λ b. cond b (last name value).1 0) (le-ltb n (last name value).0 (is.given (name, value, p)))
        all false h = h

        alone : (s t : Bool) → by_turn (since name) (last name value) ≡ had name value
            → by_turn (since name) (cond (s && t) (0, 0) (last name value))
            ≡ cond s (cond t 0 (had name value)) (had name value)
        alone true true h = none_left (nat_lt (since name) 0)
        alone true false h = h
        alone false t h = h

        by : (none : Bool)
            → times_there (removal none).given (removal none).emptied (name, value, p)
            ≡ cond (bytes_eq name a) (cond none 0 (cond (bytes_eq value v) 0 (had name value))) (had name value)
        by true = ap (λ t. by_turn t (last name value)) (since_now name) ∙ all (bytes_eq name a) (is.there name value)
        by false = ap (by_turn (since name)) (last_now (0, 0) name value)
            ∙ alone (bytes_eq name a) (bytes_eq value v) (is.there name value)
    there removes false name value = is.there name value ∙ sym (uncounted removes name value)

    -- ---- what is known

    kept : (act : Act) (b : Bool) (k : HolderKey) → contains_key turns.given k ≡ true
        → contains_key (noted turns act b key n).given k ≡ true
    kept act b k h = by act b
      where
        put : (t : ℕ × ℕ) → contains_key (insert turns.given key t) k ≡ true
        put t = contains-insert holder_total holder_same turns.given key t k ∙ ap (λ x. eq_by_cmp holder_cmp k key || x) h
            ∙ or-true (eq_by_cmp holder_cmp k key)

        told : contains_key (known turns.given key) k ≡ true
        told = contains-known turns.given key k ∙ ap (λ x. eq_by_cmp holder_cmp k key || x) h
            ∙ or-true (eq_by_cmp holder_cmp k key)

        taken : (none : Bool) → contains_key (removal none).given k ≡ true
        taken true = h
        taken false = put (0, 0)

        by : (act : Act) (b : Bool) → contains_key (noted turns act b key n).given k ≡ true
        by sets true = put (suc n, 1)
        by sets false = told
        by adds true = put (suc n, more)
        by adds false = told
        by removes true = taken (length v == 0)
        by removes false = h

    own_key : (act : Act) (b : Bool) → is_removal act ≡ false → contains_key (noted turns act b key n).given key ≡ true
    own_key act b = by act b
      where
        same : eq_by_cmp holder_cmp key key ≡ true
        same = same_key p a v a v ∙ (λ i. (bytes_eq-Decides a a).1 refl i && (bytes_eq-Decides v v).1 refl i)

        put : (t : ℕ × ℕ) → contains_key (insert turns.given key t) key ≡ true
        put t = contains-insert holder_total holder_same turns.given key t key
            ∙ ap (λ x. x || contains_key turns.given key) same

        told : contains_key (known turns.given key) key ≡ true
        told = contains-known turns.given key key ∙ ap (λ x. x || contains_key turns.given key) same

        by : (act : Act) (b : Bool) → is_removal act ≡ false → contains_key (noted turns act b key n).given key ≡ true
        by sets true h = put (suc n, 1)
        by sets false h = told
        by adds true h = put (suc n, more)
        by adds false h = told
        by removes b h = absurd (false≢true (sym h))

    known_more : (act : Act) (b : Bool) (name value : List ℕ)
        → list_any (λ (c : Change × Bool). gives name value c.0) (cs ++ (one act, b) ∷ []) ≡ true
        → contains_key (noted turns act b key n).given (name, value, p) ≡ true
    known_more act b name value h =
        elim (or_cases (list_any (λ (c : Change × Bool). gives name value c.0) cs) (gives name value (one act) || false)
        (sym (list_any-append (λ (c : Change × Bool). gives name value c.0) cs ((one act, b) ∷ [])) ∙ h)) [
          | inl old ↦ kept act b (name, value, p) (is.known name value old)
          | inr new ↦
              let given : gives name value (one act) ≡ true = sym (or-false (gives name value (one act))) ∙ new in
              let parts = and_parts (not (is_removal act)) (bytes_eq name a && bytes_eq value v) given in
              let both = and_parts (bytes_eq name a) (bytes_eq value v) parts.1 in
              let k : (name, value, p) ≡ key =
              λ i. ((bytes_eq-Decides name a).0 both.0 i, (bytes_eq-Decides value v).0 both.1 i, p) in
              ap (contains_key (noted turns act b key n).given) k ∙ own_key act b (not-true (is_removal act) parts.0)
        ]

    own_more : (act : Act) (b : Bool) (k : HolderKey) → contains_key (noted turns act b key n).given k ≡ true → k.2 ≡ p
    own_more act b k = by act b
      where
        at : (eq_by_cmp holder_cmp k key || contains_key turns.given k) ≡ true → k.2 ≡ p
        at h = elim (or_cases (eq_by_cmp holder_cmp k key) (contains_key turns.given k) h) [
          | inl same ↦ ap (λ (q : HolderKey). q.2) (holder_same k key (is_Equal (holder_cmp k key) same))
          | inr old ↦ is.own k old
        ]

        put : (t : ℕ × ℕ) → contains_key (insert turns.given key t) k ≡ true → k.2 ≡ p
        put t h = at (sym (contains-insert holder_total holder_same turns.given key t k) ∙ h)

        told : contains_key (known turns.given key) k ≡ true → k.2 ≡ p
        told h = at (sym (contains-known turns.given key k) ∙ h)

        taken : (none : Bool) → contains_key (removal none).given k ≡ true → k.2 ≡ p
        taken true h = is.own k h
        taken false h = put (0, 0) h

        by : (act : Act) (b : Bool) → contains_key (noted turns act b key n).given k ≡ true → k.2 ≡ p
        by sets true h = put (suc n, 1) h
        by sets false h = told h
        by adds true h = put (suc n, more) h
        by adds false h = told h
        by removes true h = taken (length v == 0) h
        by removes false h = is.own k h

    -- ---- no turn is later than the change

    at_most : {K : Type 0} {R : K → K → Ordering} (o : IsTotalOrder R) (m : FinMap R ℕ) (t : ℕ) → t ≤ suc n → (k q : K)
        → turn_at m q ≤ n → turn_at (insert m k t) q ≤ suc n
    at_most {K} {R} o m t small k q old =
        subst (λ x. x ≤ suc n) (sym (turn-insert o m k t q)) (by (eq_by_cmp R q k))
      where
        by : (b : Bool) → cond b t (turn_at m q) ≤ suc n
        by true = small
        by false = omega (arith, old)

    given_put : (t : ℕ × ℕ) → t.0 ≤ suc n → (k : HolderKey) → (given_at turns.given k).0 ≤ n
        → (given_at (insert turns.given key t) k).0 ≤ suc n
    given_put t small k old =
        subst (λ (x : ℕ × ℕ). x.0 ≤ suc n) (sym (given-insert turns.given key t k)) (by (eq_by_cmp holder_cmp k key))
      where
        by : (b : Bool) → (cond b t (given_at turns.given k)).0 ≤ suc n
        by true = small
        by false = omega (arith, old)

    given_more : (act : Act) (b : Bool) (k : HolderKey) → (given_at (noted turns act b key n).given k).0 ≤ suc n
    given_more act b k = by act b
      where
        old : (given_at turns.given k).0 ≤ n
        old = is.given k

        told : (given_at (known turns.given key) k).0 ≤ suc n
        told = subst (λ (x : ℕ × ℕ). x.0 ≤ suc n) (sym (given-known turns.given key k)) (omega (arith, old))

        taken : (none : Bool) → (given_at (removal none).given k).0 ≤ suc n
        taken true = omega (arith, old)
        taken false = given_put (0, 0) (omega arith) k old

        by : (act : Act) (b : Bool) → (given_at (noted turns act b key n).given k).0 ≤ suc n
        by sets true = given_put (suc n, 1) (omega arith) k old
        by sets false = told
        by adds true = given_put (suc n, more) (omega arith) k old
        by adds false = told
        by removes true = taken (length v == 0)
        by removes false = omega (arith, old)

    emptied_more : (act : Act) (b : Bool) (name : List ℕ) → turn_at (noted turns act b key n).emptied name ≤ suc n
    emptied_more act b name = by act b
      where
        old : turn_at turns.emptied name ≤ n
        old = is.emptied name

        put : turn_at (insert turns.emptied a n) name ≤ suc n
        put = at_most ref_total turns.emptied n (omega arith) a name old

        taken : (none : Bool) → turn_at (removal none).emptied name ≤ suc n
        taken true = put
        taken false = omega (arith, old)

        by : (act : Act) (b : Bool) → turn_at (noted turns act b key n).emptied name ≤ suc n
        by sets true = put
        by sets false = omega (arith, old)
        by adds true = omega (arith, old)
        by adds false = omega (arith, old)
        by removes true = taken (length v == 0)
        by removes false = omega (arith, old)

    pub tells_more : (act : Act) (b : Bool)
        → Tells p (cs ++ (record { on = on; act = act; attr = a; value = v }, b) ∷ []) (noted turns act b (a, v, p) n)
        (suc n)
    tells_more act b = record {
      there = there act b;
      known = known_more act b;
      own = own_more act b;
      given = given_more act b;
      emptied = emptied_more act b;
    }

none_turn : {K X : Type 0} {R : K → K → Ordering} (m : FinMap R X) → m ≡ empty → (k : K) → get m k ≡ None
none_turn {K} {X} {R} m is k = ap (λ n. get n k) is ∙ get-empty R k

pub tells_none : (p : List ℕ) (turns : Turns) → turns.given ≡ empty → turns.emptied ≡ empty → Tells p [] turns 0
tells_none p turns no_given no_emptied = record {
  there = λ name value. λ i. cond (nat_lt (unwrap_or (none_turn turns.emptied no_emptied name i) 0)
      (unwrap_or (none_turn turns.given no_given (name, value, p) i) (0, 0)).0)
      (unwrap_or (none_turn turns.given no_given (name, value, p) i) (0, 0)).1 0;
  known = λ name value h. absurd (false≢true h);
  own = λ k h. absurd (false≢true (sym (ap is_some (none_turn turns.given no_given k)) ∙ h));
  given = λ k. subst (λ (o : Option (ℕ × ℕ)). (unwrap_or o (0, 0)).0 ≤ 0) (sym (none_turn turns.given no_given k))
      (omega arith);
  emptied = λ name. subst (λ o. unwrap_or o 0 ≤ 0) (sym (none_turn turns.emptied no_emptied name)) (omega arith);
}
