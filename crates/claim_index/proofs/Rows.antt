-- The rows that a judgment puts.
use Rattle.std.proofs.Common.{◌≡◌, ℕ, zero, suc, Bool, true, false, ◌&&◌, ◌||◌, cond, List, [], ◌∷◌, Some, ℤ}
use Rattle.std.proofs.Common.{option_map, nat_eq, take, arith, refl, sym, ap, ◌∙◌, ◌⊎◌, inl, inr}
use Rattle.std.specs.Prelude.{slice_get}
use Rattle.std.proofs.lemmas.Bool.{cases_Bool, false≢true, and_parts, eqb-true, eq-eqb, ne_eqb}
use Rattle.std.proofs.lemmas.Slice.Eq.{bytes_eq-Decides}
use Rattle.std.proofs.lemmas.Cmp.{tied_itself, int_cmp_total}
use Rattle.std.specs.Str.{bytes_eq}
use Rattle.std.specs.Ordering.{is_eq, eq_by_cmp, int_cmp}
use Rattle.std.specs.FinMap.{get, insert, contains_key, get-insert, int_cmp-IsAntisymmetric}
use Rattle.blobref.specs.Blobref.{ref_cmp}
use Rattle.claim_model.specs.Facts.{passes}
use Rattle.schema_fact.specs.declared.changes.Change.{Change}
use Rattle.claim_model.specs.Claims.{Moment}
use Rattle.index_look.proofs.Order.{is_Equal}
use Rattle.index_rows.specs.declared.rows.StateRow.{StateRow}
use Rattle.index_rows.specs.Changes.{Changes, ChangeKey, change_cmp}
use Rattle.index_rows.specs.Removals.{Removals, RemovalKey, removal_cmp}
use Rattle.index_rows.specs.States.{States}
use Rattle.index_rows.proofs.Orders.{ref_total, ref_same, change_total, change_same, removal_total, removal_same}
use Rattle.index_rows.proofs.Counting.{contains-insert}
use Rattle.claim_index.specs.Judging.{marked, with_marks}
use Rattle.claim_index.proofs.Marks.{alike}

swap : (a b : Bool) → (a || b) ≡ (b || a)
swap true true = refl
swap true false = refl
swap false true = refl
swap false false = refl

-- the row of the change at a place of a claim
module _ (on claim : List ℕ) (date : ℤ) (n : ℕ) (p : List ℕ) (k : Moment) where
  abbrev key : ChangeKey
  key = (on, (date, claim, n))

  -- whether the key is that of this change
  abbrev own : Bool
  own = bytes_eq k.1 claim && (is_eq (int_cmp k.0 date) && (bytes_eq p on && nat_eq k.2 n))

  there : eq_by_cmp change_cmp (p, k) key ≡ true → own ≡ true
  there h =
      let is : ◌≡◌ {A = ChangeKey} (p, k) key = change_same (p, k) key (is_Equal (change_cmp (p, k) key) h) in
      λ i. (ap (λ (q : ChangeKey). bytes_eq q.1.1 claim) is ∙ (bytes_eq-Decides claim claim).1 refl) i
      && ((ap (λ (q : ChangeKey). is_eq (int_cmp q.1.0 date)) is ∙ ap is_eq (tied_itself int_cmp_total date)) i
      && ((ap (λ (q : ChangeKey). bytes_eq q.0 on) is ∙ (bytes_eq-Decides on on).1 refl) i
      && (ap (λ (q : ChangeKey). nat_eq q.1.2 n) is ∙ eq-eqb n n refl) i))

  back : own ≡ true → eq_by_cmp change_cmp (p, k) key ≡ true
  back h =
      let one = and_parts (bytes_eq k.1 claim) (is_eq (int_cmp k.0 date) && (bytes_eq p on && nat_eq k.2 n)) h in
      let two = and_parts (is_eq (int_cmp k.0 date)) (bytes_eq p on && nat_eq k.2 n) one.1 in
      let three = and_parts (bytes_eq p on) (nat_eq k.2 n) two.1 in
      let is : ◌≡◌ {A = ChangeKey} (p, k) key = λ i. (
        (bytes_eq-Decides p on).0 three.0 i,
        (
          int_cmp-IsAntisymmetric k.0 date (is_Equal (int_cmp k.0 date) two.0) i,
          (bytes_eq-Decides k.1 claim).0 one.0 i,
          eqb-true k.2 n three.1 i,
        ),
      ) in
      ap (λ (q : ChangeKey). eq_by_cmp change_cmp q key) is ∙ ap is_eq (tied_itself change_total key)

  pub listed : (changes : Changes) → contains_key (insert changes key tt) (p, k) ≡ (contains_key changes (p, k) || own)
  listed changes =
      contains-insert change_total change_same changes key tt (p, k)
      ∙ ap (λ b. b || contains_key changes (p, k)) (alike (eq_by_cmp change_cmp (p, k) key) own there back)
      ∙ swap own (contains_key changes (p, k))

-- what isn't put has no row
pub none_listed : (f a b c : Bool) → f ≡ (f || (a && (b && (false && c))))
none_listed true a b c = refl
none_listed false true true c = refl
none_listed false true false c = refl
none_listed false false b c = refl

-- whether one of the first n changes of a list passes and stands at this place
abbrev pub on_among : (Change → Bool) → ℕ → ℕ → List Change → Bool
on_among test place n cs = passes test (slice_get (take n cs) place)

-- with one more
abbrev on_more : (Change → Bool) → ℕ → ℕ → List Change → Bool
on_more test place n cs = on_among test place n cs || (passes test (slice_get cs n) && nat_eq place n)

and_true : (b : Bool) → b ≡ (b && true)
and_true true = refl
and_true false = refl

and_false : (b : Bool) → false ≡ (b && false)
and_false true = refl
and_false false = refl

or_none : (b c : Bool) → b ≡ (b || (c && false))
or_none true c = refl
or_none false c = and_false c

both_suc : (a b : ℕ) → nat_eq a b ≡ nat_eq (suc a) (suc b)
both_suc a b =
    alike (nat_eq a b) (nat_eq (suc a) (suc b)) (λ h. eq-eqb (suc a) (suc b) (ap suc (eqb-true a b h)))
    (λ h. let e : suc a ≡ suc b = eqb-true (suc a) (suc b) h in eq-eqb a b (omega (arith, e)))

among_more : (test : Change → Bool) (place n : ℕ) (cs : List Change)
    → on_among test place (suc n) cs ≡ on_more test place n cs
among_more test place zero [] = refl
among_more test place (suc n) [] = refl
among_more test zero zero (d ∷ ds) = and_true (test d)
among_more test (suc place) zero (d ∷ ds) =
    let apart : nat_eq (suc place) 0 ≡ false = ne_eqb (suc place) 0 (λ e. absurd (omega (arith, e))) in
    and_false (test d) ∙ sym (ap (λ b. test d && b) apart)
among_more test zero (suc n) (d ∷ ds) =
    let there : Bool = passes test (slice_get ds n) in
    let apart : nat_eq 0 (suc n) ≡ false = ne_eqb 0 (suc n) (λ e. absurd (omega (arith, e))) in
    or_none (test d) there ∙ sym (ap (λ b. test d || (there && b)) apart)
among_more test (suc place) (suc n) (d ∷ ds) =
    among_more test place n ds
    ∙ ap (λ b. on_among test place n ds || (passes test (slice_get ds n) && b)) (both_suc place n)

-- whether a row is there once one more of a claim's changes was put
pub listed_more : (test : Change → Bool) (claim : List ℕ) (date : ℤ) (n : ℕ) (cs : List Change) (k : Moment)
    (first now more : Bool)
    → more ≡ (now || (bytes_eq k.1 claim && (is_eq (int_cmp k.0 date) &&
    (passes test (slice_get cs n) && nat_eq k.2 n))))
    → now ≡ (first || (bytes_eq k.1 claim && (is_eq (int_cmp k.0 date) && on_among test k.2 n cs)))
    → more ≡ (first || (bytes_eq k.1 claim && (is_eq (int_cmp k.0 date) && on_among test k.2 (suc n) cs)))
listed_more test claim date n cs k first now more put so_far =
    put ∙ ap (λ b. b || (mine && (dated && here))) so_far
    ∙ joined first mine dated (on_among test k.2 n cs) here
    ∙ ap (λ b. first || (mine && (dated && b))) (sym (among_more test k.2 n cs))
  where
    mine : Bool
    mine = bytes_eq k.1 claim

    dated : Bool
    dated = is_eq (int_cmp k.0 date)

    here : Bool
    here = passes test (slice_get cs n) && nat_eq k.2 n

    joined : (f a b x y : Bool) → ((f || (a && (b && x))) || (a && (b && y))) ≡ (f || (a && (b && (x || y))))
    joined true a b x y = refl
    joined false true true x y = refl
    joined false true false x y = refl
    joined false false b x y = refl

-- the row of the change at a place of a claim among those that may take values away
module _ (on claim : List ℕ) (date : ℤ) (m n : ℕ) (p : List ℕ) (mark : ℕ) (k : Moment) where
  abbrev taking : RemovalKey
  taking = (on, m, (date, claim, n))

  abbrev taken : Bool
  taken = bytes_eq k.1 claim && (is_eq (int_cmp k.0 date) && ((bytes_eq p on && nat_eq m mark) && nat_eq k.2 n))

  taken_there : eq_by_cmp removal_cmp (p, mark, k) taking ≡ true → taken ≡ true
  taken_there h =
      let is : ◌≡◌ {A = RemovalKey} (p, mark, k) taking = removal_same (p, mark, k) taking
      (is_Equal (removal_cmp (p, mark, k) taking) h) in
      λ i. (ap (λ (q : RemovalKey). bytes_eq q.2.1 claim) is ∙ (bytes_eq-Decides claim claim).1 refl) i
      && ((ap (λ (q : RemovalKey). is_eq (int_cmp q.2.0 date)) is ∙ ap is_eq (tied_itself int_cmp_total date)) i
      && (((ap (λ (q : RemovalKey). bytes_eq q.0 on) is ∙ (bytes_eq-Decides on on).1 refl) i
      && (ap (λ (q : RemovalKey). nat_eq m q.1) is ∙ eq-eqb m m refl) i)
      && (ap (λ (q : RemovalKey). nat_eq q.2.2 n) is ∙ eq-eqb n n refl) i))

  taken_back : taken ≡ true → eq_by_cmp removal_cmp (p, mark, k) taking ≡ true
  taken_back h =
      let one = and_parts (bytes_eq k.1 claim) (is_eq (int_cmp k.0 date) &&
      ((bytes_eq p on && nat_eq m mark) && nat_eq k.2 n)) h in
      let two = and_parts (is_eq (int_cmp k.0 date)) ((bytes_eq p on && nat_eq m mark) && nat_eq k.2 n) one.1 in
      let three = and_parts (bytes_eq p on && nat_eq m mark) (nat_eq k.2 n) two.1 in
      let four = and_parts (bytes_eq p on) (nat_eq m mark) three.0 in
      let is : ◌≡◌ {A = RemovalKey} (p, mark, k) taking = λ i. (
        (bytes_eq-Decides p on).0 four.0 i,
        sym (eqb-true m mark four.1) i,
        (
          int_cmp-IsAntisymmetric k.0 date (is_Equal (int_cmp k.0 date) two.0) i,
          (bytes_eq-Decides k.1 claim).0 one.0 i,
          eqb-true k.2 n three.1 i,
        ),
      ) in
      ap (λ (q : RemovalKey). eq_by_cmp removal_cmp q taking) is ∙ ap is_eq (tied_itself removal_total taking)

  pub removed : (removals : Removals) → contains_key (insert removals taking tt)
      (p, mark, k) ≡ (contains_key removals (p, mark, k) || taken)
  removed removals =
      contains-insert removal_total removal_same removals taking tt (p, mark, k)
      ∙ ap (λ b. b || contains_key removals (p, mark, k)) (alike (eq_by_cmp removal_cmp (p, mark, k) taking) taken
      taken_there taken_back)
      ∙ swap taken (contains_key removals (p, mark, k))

-- what takes nothing away has no row there
pub none_removed : (f a b c d : Bool) → f ≡ (f || (a && (b && ((c && false) && d))))
none_removed true a b c d = refl
none_removed false true true true d = refl
none_removed false true true false d = refl
none_removed false true false c d = refl
none_removed false false b c d = refl

-- the row of x with what was found
pub put_marked : (state : States) (x : List ℕ) (row : StateRow) (genuine sound : Bool) → get state x ≡ Some row
    → (genuine || sound) ≡ true
    → (y : List ℕ)
    → get (insert state x (with_marks genuine sound row)) y ≡ marked (bytes_eq y x) genuine sound (get state y)
put_marked state x row genuine sound found some y =
    get-insert ref_total state x (with_marks genuine sound row) y ∙ by (cases_Bool (eq_by_cmp ref_cmp y x))
  where
    by : (eq_by_cmp ref_cmp y x ≡ true) ⊎ (eq_by_cmp ref_cmp y x ≡ false)
        → cond (eq_by_cmp ref_cmp y x) (Some (with_marks genuine sound row)) (get state y)
        ≡ marked (bytes_eq y x) genuine sound (get state y)
    by (inl t) =
        let is : y ≡ x = ref_same y x (is_Equal (ref_cmp y x) t) in
        ap (λ b. cond b (Some (with_marks genuine sound row)) (get state y)) t
        ∙ sym (λ i. cond ((bytes_eq-Decides y x).1 is i
        && some i) (option_map (with_marks genuine sound) ((ap (get state) is ∙ found) i)) (get state y))
    by (inr f) =
        ap (λ b. cond b (Some (with_marks genuine sound row)) (get state y)) f
        ∙ sym (ap (λ b. cond (b
        && (genuine
        || sound)) (option_map (with_marks genuine sound) (get state y)) (get state y))
        (apart (cases_Bool (bytes_eq y x))))
      where
        apart : (bytes_eq y x ≡ true) ⊎ (bytes_eq y x ≡ false) → bytes_eq y x ≡ false
        apart (inl t) = absurd (false≢true (sym f ∙ ap (eq_by_cmp ref_cmp y) (sym ((bytes_eq-Decides y x).0 t))
            ∙ ap is_eq (tied_itself ref_total y)))
        apart (inr g) = g

pub either_found : (a b : Bool) → ((a ≡ false) × (b ≡ true)) ⊎ (a ≡ true) → (a || b) ≡ true
either_found a b (inl h) = λ i. h.0 i || h.1 i
either_found a b (inr h) = ap (λ c. c || b) h
