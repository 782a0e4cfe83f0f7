-- A table of facts with loose rows beside it.
use Rattle.std.proofs.Common.{◌≡◌, ◌==◌, ℕ, Bool, true, false, ◌||◌, cond, List, [], ◌∷◌, Option, None, Some, option_copied, is_some, refl, sym, ap, subst, ◌∙◌, Bor, IfSome}
use Rattle.std.specs.Option.{option_or}
use Rattle.std.proofs.lemmas.Bool.{false≢true, cond-true, cond-false}
use Rattle.std.proofs.lemmas.Option.{same_Some}
use Rattle.std.proofs.lemmas.Slice.Eq.{bytes_eq-Decides}
use Rattle.std.proofs.lemmas.Map.Text.{is_eq-slice_cmp}
use Rattle.std.specs.List.{list_any}
use Rattle.std.specs.Str.{bytes_eq}
use Rattle.std.specs.FinMap.{get, contains_key, insert, get-insert, same_map}
use Rattle.schema_fact.specs.declared.kinds.Fact.{Fact}
use Rattle.schema_fact.specs.Validity.{IsValid}
use Rattle.claim_model.specs.Facts.{Facts}
use Rattle.index_rows.specs.declared.fact_rows.FactRows.{FactRows}
use Rattle.index_rows.specs.Loose.{LooseRow, AreLooseValid, is_number, loose_fact, numbers_of, with_first, with_row, with_loose}
use Rattle.index_rows.proofs.Orders.{ref_total, ref_same}

-- the same tables have the same facts in order
pub in_order : {a b : FactRows} → a ≡ b → a.ordered ≡ b.ordered
in_order same = ap (λ (rows : FactRows). rows.ordered) same

-- the fact of a row, where it is that of the ref
abbrev own_fact : LooseRow → List ℕ → Option Fact
own_fact row q = cond (bytes_eq row.1 q) (Some row.2) None

turned_bytes : (a b : List ℕ) → bytes_eq a b ≡ bytes_eq b a
turned_bytes a b = by (bytes_eq a b) refl (bytes_eq b a) refl
  where
    by : (s : Bool) → bytes_eq a b ≡ s → (t : Bool) → bytes_eq b a ≡ t → bytes_eq a b ≡ bytes_eq b a
    by true st true tt = st ∙ sym tt
    by false st false tt = st ∙ sym tt
    by true st false tt = absurd (false≢true (sym tt ∙ (bytes_eq-Decides b a).1 (sym ((bytes_eq-Decides a b).0 st))))
    by false st true tt = absurd (false≢true (sym st ∙ (bytes_eq-Decides a b).1 (sym ((bytes_eq-Decides b a).0 tt))))

get-with_row : (facts : Facts) (row : LooseRow) (q : List ℕ) → get (with_row facts row) q ≡ option_or (get facts q) (own_fact row q)
get-with_row facts row q = by (get facts row.1) refl (bytes_eq row.1 q) refl
  where
    none : (o : Option Fact) → option_or o None ≡ o
    none None = refl
    none (Some fact) = refl

    kept : (f : Fact) (o : Option Fact) → is_some o ≡ true → option_or o (Some f) ≡ o
    kept f None h = absurd (false≢true h)
    kept f (Some fact) h = refl

    at : get (insert facts row.1 row.2) q ≡ cond (bytes_eq row.1 q) (Some row.2) (get facts q)
    at = get-insert ref_total facts row.1 row.2 q
        ∙ ap (λ b. cond b (Some row.2) (get facts q)) (is_eq-slice_cmp q row.1 ∙ turned_bytes q row.1)

    by : (o : Option Fact) → get facts row.1 ≡ o → (own : Bool) → bytes_eq row.1 q ≡ own
        → get (cond (is_some (get facts row.1)) facts (insert facts row.1 row.2)) q ≡ option_or (get facts q) (cond (bytes_eq row.1 q) (Some row.2) None)
    by (Some fact) there true is =
        ap (λ (m : Facts). get m q) (cond-true (is_some (get facts row.1)) facts (insert facts row.1 row.2) (ap is_some there))
        ∙ sym (kept row.2 (get facts q) (ap (λ r. is_some (get facts r)) (sym ((bytes_eq-Decides row.1 q).0 is)) ∙ ap is_some there))
        ∙ ap (λ b. option_or (get facts q) (cond b (Some row.2) None)) (sym is)
    by (Some fact) there false is =
        ap (λ (m : Facts). get m q) (cond-true (is_some (get facts row.1)) facts (insert facts row.1 row.2) (ap is_some there))
        ∙ sym (none (get facts q)) ∙ ap (λ b. option_or (get facts q) (cond b (Some row.2) None)) (sym is)
    by None there true is =
        ap (λ (m : Facts). get m q) (cond-false (is_some (get facts row.1)) facts (insert facts row.1 row.2) (ap is_some there))
        ∙ at ∙ ap (λ b. cond b (Some row.2) (get facts q)) is
        ∙ (λ i. option_or ((sym there ∙ ap (get facts) ((bytes_eq-Decides row.1 q).0 is)) i) (cond (sym is i) (Some row.2) None))
    by None there false is =
        ap (λ (m : Facts). get m q) (cond-false (is_some (get facts row.1)) facts (insert facts row.1 row.2) (ap is_some there))
        ∙ at ∙ ap (λ b. cond b (Some row.2) (get facts q)) is
        ∙ sym (none (get facts q)) ∙ ap (λ b. option_or (get facts q) (cond b (Some row.2) None)) (sym is)

-- the fact of a ref is that of the table, or else the first one of the chain
pub get-with_loose : (rows : List LooseRow) (facts : Facts) (q : List ℕ) → get (with_loose rows facts) q ≡ option_or (get facts q) (loose_fact rows q)
get-with_loose [] facts q = none (get facts q)
  where
    none : (o : Option Fact) → o ≡ option_or o None
    none None = refl
    none (Some fact) = refl
get-with_loose (row ∷ rows) facts q =
    get-with_loose rows (with_row facts row) q ∙ ap (λ o. option_or o (loose_fact rows q)) (get-with_row facts row q)
    ∙ by (get facts q) (bytes_eq row.1 q)
  where
    by : (o : Option Fact) (own : Bool) → option_or (option_or o (cond own (Some row.2) None)) (loose_fact rows q)
        ≡ option_or o (cond own (Some row.2) (loose_fact rows q))
    by None true = refl
    by None false = refl
    by (Some fact) own = refl

module _ (rows : List LooseRow) (facts : Facts) where
  -- a row of a new ref in front
  pub one_hung : (row : LooseRow) → contains_key (with_loose rows facts) row.1 ≡ false → with_loose (row ∷ rows) facts ≡ insert (with_loose rows facts) row.1 row.2
  one_hung row fresh = same_map ref_total ref_same _ _ (λ q.
      get-with_loose (row ∷ rows) facts q ∙ by q (bytes_eq row.1 q) refl
      ∙ sym (get-insert ref_total (with_loose rows facts) row.1 row.2 q
      ∙ ap (λ b. cond b (Some row.2) (get (with_loose rows facts) q)) (is_eq-slice_cmp q row.1 ∙ turned_bytes q row.1)))
    where
      none_before : (o p : Option Fact) → is_some (option_or o p) ≡ false → o ≡ None
      none_before None p h = refl
      none_before (Some fact) p h = absurd (false≢true (sym h))

      by : (q : List ℕ) (own : Bool) → bytes_eq row.1 q ≡ own → option_or (get facts q) (cond (bytes_eq row.1 q) (Some row.2) (loose_fact rows q))
          ≡ cond (bytes_eq row.1 q) (Some row.2) (get (with_loose rows facts) q)
      by q true is =
          let at : row.1 ≡ q = (bytes_eq-Decides row.1 q).0 is in
          let nothing : get facts q ≡ None =
          none_before (get facts q) (loose_fact rows q) (ap is_some (sym (get-with_loose rows facts q)) ∙ ap (λ r. contains_key (with_loose rows facts) r) (sym at) ∙ fresh) in
          (λ i. option_or (nothing i) (cond (is i) (Some row.2) (loose_fact rows q))) ∙ ap (λ b. cond b (Some row.2) (get (with_loose rows facts) q)) (sym is)
      by q false is =
          ap (λ b. option_or (get facts q) (cond b (Some row.2) (loose_fact rows q))) is ∙ sym (get-with_loose rows facts q)
          ∙ ap (λ b. cond b (Some row.2) (get (with_loose rows facts) q)) (sym is)

  -- what a look-up finds
  pub in_table : (r : List ℕ) (fact : Fact) → Some fact ≡ get facts r → Some fact ≡ get (with_loose rows facts) r
  in_table r fact found = ap (λ o. option_or o (loose_fact rows r)) found ∙ sym (get-with_loose rows facts r)

  pub in_chain : (r : List ℕ) (o : Option Fact) → None ≡ get facts r → o ≡ loose_fact rows r → o ≡ get (with_loose rows facts) r
  in_chain r o none found = found ∙ ap (λ p. option_or p (loose_fact rows r)) none ∙ sym (get-with_loose rows facts r)

pub numbers_any : (n : ℕ) (rows : List LooseRow) → list_any (is_number n) rows ≡ list_any (λ m. m == n) (numbers_of rows)
numbers_any n [] = refl
numbers_any n (row ∷ rows) = ap (λ b. row.0 == n || b) (numbers_any n rows)

-- ---- no loose rows

pub alone : (rows : List LooseRow) (facts : Facts) → numbers_of rows ≡ [] → with_loose rows facts ≡ facts
alone [] facts none = refl
alone (row ∷ rows) facts none = absurd (let e : row.0 ∷ numbers_of rows ≡ [] = none in cc e)

-- ---- what is valid

fact_valid : (rows : List LooseRow) (r : List ℕ) → AreLooseValid rows → (fact : Fact) → Some fact ≡ loose_fact rows r → IsValid fact
fact_valid [] r all fact found = absurd (let e : Some fact ≡ None = found in cc e)
fact_valid (row ∷ rows) r all fact found = by (bytes_eq row.1 r) found (fact_valid rows r all.1 fact)
  where
    by : (own : Bool) → Some fact ≡ cond own (Some row.2) (loose_fact rows r) → (Some fact ≡ loose_fact rows r → IsValid fact) → IsValid fact
    by true is more = subst IsValid (sym (same_Some fact row.2 is)) all.0
    by false is more = more is

pub loose_valid : (rows : List LooseRow) (r : List ℕ) → AreLooseValid rows → (o : Option (Bor Fact)) → option_copied o ≡ loose_fact rows r
    → IfSome o (λ (fact : Bor Fact). IsValid fact.now)
loose_valid rows r all None found = tt
loose_valid rows r all (Some fact) found = fact_valid rows r all fact.now found

-- ---- the first row is moved

pub same_with_first : (rows : List LooseRow) (facts : Facts) → with_loose rows (with_first facts rows) ≡ with_loose rows facts
same_with_first [] facts = refl
same_with_first (row ∷ rows) facts = ap (with_loose rows) (same_map ref_total ref_same _ _ (λ q.
    get-with_row (with_row facts row) row q ∙ ap (λ o. option_or o (own_fact row q)) (get-with_row facts row q)
    ∙ by (get facts q) (own_fact row q) ∙ sym (get-with_row facts row q)))
  where
    by : (o p : Option Fact) → option_or (option_or o p) p ≡ option_or o p
    by None None = refl
    by None (Some f) = refl
    by (Some e) p = refl

-- the map is the same once it was taken off
pub taken_off : (before after : List LooseRow) (made : LooseRow) (facts now : Facts) → before ≡ made ∷ after → now ≡ with_first facts before
    → with_loose after now ≡ with_loose before facts
taken_off before after made facts now is put =
    ap (with_loose after) (put ∙ ap (with_first facts) is) ∙ ap (λ (rows : List LooseRow). with_loose rows facts) (sym is)
