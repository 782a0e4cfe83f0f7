-- The rows of an attribute's values, dropped by a walk back over the changes.
use Rattle.std.proofs.Common.{◌≡◌, ◌≤◌, ◌+◌, ◌==◌, ℕ, Bool, true, false, not, ◌&&◌, ◌||◌, cond, List, [], ◌∷◌, ◌++◌}
use Rattle.std.proofs.Common.{length, map, filter, Option, Some, None, Result, Ok, Err, OnOk, refl, sym, ap, subst}
use Rattle.std.proofs.Common.{◌∙◌, ◌⊎◌, inl, inr, is_some, nat_lt, zero, suc, arith, length-append}
use Rattle.std.proofs.Math.Bool.{and-false}
use Rattle.std.proofs.lemmas.Bool.{and_parts, or_left, false≢true, cases_Bool, cond-true, cond-false, lt-ltb}
use Rattle.std.proofs.lemmas.List.{map-append}
use Rattle.std.proofs.lemmas.List.Elements.{filter-append, filter_map-append}
use Rattle.std.proofs.lemmas.List.Sums.{fold-append}
use Rattle.std.proofs.lemmas.Slice.Eq.{bytes_eq-Decides}
use Rattle.std.specs.List.{filter_map, list_any, cons_option, AllByRecursion}
use Rattle.std.specs.Ordering.{is_lt}
use Rattle.std.specs.Str.{bytes_eq}
use Rattle.std.specs.FinMap.{get, remove, entries, contains_key}
use Rattle.schema_date.specs.declared.date.When.TheVariants.{Always}
use Rattle.schema_fact.specs.declared.changes.Act.{Act}
use Rattle.schema_fact.specs.declared.changes.Act.TheVariants.{Set as sets, Add as adds, Del as removes}
use Rattle.schema_fact.specs.declared.changes.Change.{Change}
use Rattle.claim_model.specs.Facts.{Facts}
use Rattle.claim_model.specs.Changes.{change_values, left_by, values_after, has_after}
use Rattle.claim_model.specs.Claims.{Moment, moment_cmp}
use Rattle.claim_model.proofs.Changes.{add_last, del_last}
use Rattle.index_look.proofs.Keys.{entries_held}
use Rattle.index_rows.specs.Changes.{Changes, ChangeKey, changes_after, changes_before}
use Rattle.index_rows.specs.Deletes.{Deletes, row_deleted}
use Rattle.index_rows.specs.Counted.{IsCounted}
use Rattle.index_rows.specs.Holders.{Holders, times_at, with_times}
use Rattle.index_rows.specs.States.{States}
use Rattle.index_rows.proofs.LooseFacts.{in_order}
use Rattle.index_rows.specs.declared.rows.Rows.{Rows}
use Rattle.index_rows.specs.Values.{change_at, moment_counts, IsListed}
use Rattle.index_rows.proofs.Orders.{change_total, change_same}
use Rattle.index_rows.proofs.WalksBack.{all_passing, all_last}
use Rattle.attr_fold.specs.Following.{counted, counted_before, is_end, is_row, AreFewer, AreGone, IsFollowed}
use Rattle.attr_fold.specs.Following.{IsTakenBack}
use Rattle.attr_fold.specs.Times.{act_times, times_after}
use Rattle.attr_fold.proofs.OneChange.{own_bytes, drop_beside, drop_own, drop_fewer, with_beside, with_given, with_own}
use Rattle.attr_fold.proofs.HeldTimes.{no_row}
use Rattle.attr_fold.proofs.Times.{has_by_times, times-last}

-- a change of another attribute leaves the values
pub beside : (name value : List ℕ) (c : Change) (cs : List Change) → bytes_eq name c.attr ≡ false
    → has_after name value (cs ++ c ∷ []) ≡ has_after name value cs
beside name value c cs out =
    ap (list_any (bytes_eq value)) (fold-append (change_values name) [] cs (c ∷ []))
    ∙ ap (list_any (bytes_eq value))
    (cond-false (bytes_eq name c.attr) (left_by c.act c.value (values_after name cs)) (values_after name cs) out)

-- if there is a row with the smaller number, there is one with the greater
row_less : (n m : ℕ) → n ≤ m → nat_lt 0 n ≡ true → nat_lt 0 m ≡ true
row_less zero m le t = absurd (false≢true t)
row_less (suc n) zero le t = absurd (omega (arith, le))
row_less (suc n) (suc m) le t = lt-ltb 0 (suc m) (omega arith)

-- ---- the changes that count

module _ (facts : Facts) (deletes : Deletes) where
  pub counted-append : (ks js : List Moment) → counted facts deletes (ks ++ js) ≡ counted facts deletes ks ++ counted facts deletes js
  counted-append ks js =
      ap (filter_map (change_at facts)) (filter-append (moment_counts facts deletes Always) ks js)
      ∙ filter_map-append (change_at facts) (filter (moment_counts facts deletes Always) ks) (filter (moment_counts facts deletes Always) js)

  pub counted_front : (changes : Changes) (p : List ℕ) (k j : Moment) → changes_before changes p k ≡ changes_before changes p j ++ ((p, j), tt) ∷ []
      → counted_before facts deletes changes p k ≡ counted_before facts deletes changes p j ++ counted facts deletes (j ∷ [])
  counted_front changes p k j h =
      ap (λ (es : List (ChangeKey × Unit {0})). counted facts deletes (map (λ (e : ChangeKey × Unit {0}). e.0.1) es)) h
      ∙ ap (counted facts deletes) (map-append (λ (e : ChangeKey × Unit {0}). e.0.1) (changes_before changes p j) (((p, j), tt) ∷ []))
      ∙ counted-append (map (λ (e : ChangeKey × Unit {0}). e.0.1) (changes_before changes p j)) (j ∷ [])

  -- a change that counts, and one that doesn't
  pub one_counted : (k : Moment) (c : Change) → change_at facts k ≡ Some c → row_deleted facts deletes Always k.1 ≡ false → counted facts deletes (k ∷ []) ≡ c ∷ []
  one_counted k c is live =
      ap (λ (b : Bool). filter_map (change_at facts) (cond (not b) (k ∷ []) [])) live
      ∙ ap (λ (o : Option Change). cons_option o []) is

  pub none_counted_of : (k : Moment) → row_deleted facts deletes Always k.1 ≡ true → counted facts deletes (k ∷ []) ≡ []
  none_counted_of k gone = ap (λ (b : Bool). filter_map (change_at facts) (cond (not b) (k ∷ []) [])) gone

  pub none_or_one : (k : Moment) (c : Change) → change_at facts k ≡ Some c → (counted facts deletes (k ∷ []) ≡ []) ⊎ (counted facts deletes (k ∷ []) ≡ c ∷ [])
  none_or_one k c is = by (cases_Bool (row_deleted facts deletes Always k.1))
    where
      by : (row_deleted facts deletes Always k.1 ≡ true) ⊎ (row_deleted facts deletes Always k.1 ≡ false)
          → (counted facts deletes (k ∷ []) ≡ []) ⊎ (counted facts deletes (k ∷ []) ≡ c ∷ [])
      by (inl gone) = inl (none_counted_of k gone)
      by (inr live) = inr (one_counted k c is live)

-- what two clauses say together
pub on_both : {X E P Q S : Type 0} (r : Result X E) → (P → Q → S) → OnOk r P → OnOk r Q → OnOk r S
on_both (Ok x) f p q = f p q
on_both (Err e) f p q = tt

-- one change that leaves its value alone
pub set_last : (attr value on v : List ℕ) (cs : List Change) → has_after attr value (cs ++ record { on = on; act = sets; attr = attr; value = v } ∷ []) ≡ (bytes_eq value v || false)
set_last attr value on v cs =
    ap (list_any (bytes_eq value)) (fold-append (change_values attr) [] cs (record { on = on; act = sets; attr = attr; value = v } ∷ []))
    ∙ ap (list_any (bytes_eq value)) (cond-true (bytes_eq attr attr) (v ∷ []) (values_after attr cs) (own_bytes attr))

-- ---- whether two texts are one

pub same_bytes : (b : Bool) → false ≡ not b → b ≡ true
same_bytes true h = refl
same_bytes false h = absurd (false≢true h)

pub other_bytes : (x y a b : List ℕ) → x ≡ a → y ≡ b → true ≡ not (bytes_eq x y) → bytes_eq b a ≡ false
other_bytes x y a b one two h = by (bytes_eq b a) refl
  where
    by : (c : Bool) → bytes_eq b a ≡ c → bytes_eq b a ≡ false
    by true t = absurd (false≢true (sym (ap not ((bytes_eq-Decides x y).1 (one ∙ sym ((bytes_eq-Decides b a).0 t) ∙ sym two))) ∙ sym h))
    by false f = f

-- ---- the row of one change taken back

append_none : {A : Type 0} (xs : List A) → xs ++ [] ≡ xs
append_none [] = refl
append_none (x ∷ xs) = ap (λ ys. x ∷ ys) (append_none xs)

module _ (attr p : List ℕ) (holders : Holders) where
  pub same_fewer : AreFewer attr p holders holders
  same_fewer = record { others = λ name value q h. refl; fewer = λ value. omega arith }

  -- of a change that doesn't count, or is of another attribute
  pub back_none : (said : List Change) → said ≡ [] → IsTakenBack attr p said false holders
  back_none said none value front t h = (refl, ap (has_after attr value) (sym (ap (λ cs. front ++ cs) none ∙ append_none front)) ∙ h)

  pub back_other : (c : Change) → bytes_eq attr c.attr ≡ false → (said : List Change) → (said ≡ []) ⊎ (said ≡ c ∷ []) → IsTakenBack attr p said false holders
  back_other c out said one value front t h = (refl, by one)
    where
      by : (said ≡ []) ⊎ (said ≡ c ∷ []) → has_after attr value front ≡ true
      by (inl none) = (back_none said none value front t h).1
      by (inr own) = sym (beside attr value c front out) ∙ ap (λ cs. has_after attr value (front ++ cs)) (sym own) ∙ h

  module _ (v : List ℕ) where
    pub drop_is_fewer : AreFewer attr p holders (remove holders (attr, v, p))
    drop_is_fewer = record {
      others = drop_beside p attr v holders;
      fewer = drop_fewer p attr v holders;
    }

    -- of one that does
    pub back_taken : (on : List ℕ) (act : Act) (said : List Change) → said ≡ record { on = on; act = act; attr = attr; value = v } ∷ []
        → IsTakenBack attr p said (is_end act v) (remove holders (attr, v, p))
    back_taken on act said one value front t h =
        by act (not_it (bytes_eq value v) (ap (nat_lt 0) (sym (drop_own p attr v holders value)) ∙ t))
        (ap (λ cs. has_after attr value (front ++ cs)) (sym one) ∙ h)
      where
        not_it : (b : Bool) → nat_lt 0 (cond b 0 (times_at holders (attr, value, p))) ≡ true → b ≡ false
        not_it true h = absurd (false≢true h)
        not_it false h = refl

        by : (act : Act) → bytes_eq value v ≡ false → has_after attr value (front ++ record { on = on; act = act; attr = attr; value = v } ∷ []) ≡ true
            → (is_end act v ≡ false) × (has_after attr value front ≡ true)
        by sets other h = absurd (false≢true (ap (λ b. b || false) (sym other) ∙ sym (set_last attr value on v front) ∙ h))
        by adds other h = (refl, only (has_after attr value front) (ap (λ b. has_after attr value front || (bytes_eq attr attr && b)) (sym other) ∙ sym (add_last attr value on attr v front) ∙ h))
          where
            only : (a : Bool) → (a || (bytes_eq attr attr && false)) ≡ true → a ≡ true
            only true u = refl
            only false u = absurd (false≢true (sym (and-false (bytes_eq attr attr)) ∙ u))
        by removes other h =
            let parts = and_parts (has_after attr value front) (not (bytes_eq attr attr && (length v == 0 || bytes_eq value v))) (sym (del_last attr value on attr v front) ∙ h) in
            (none (length v == 0) (ap (λ b. not (b && (length v == 0 || bytes_eq value v))) (sym (own_bytes attr)) ∙ parts.1), parts.0)
          where
            none : (b : Bool) → not (b || bytes_eq value v) ≡ true → b ≡ false
            none true u = absurd (false≢true u)
            none false u = refl

-- ---- the walk

-- what is there behind the changes of the first moment was there behind those of the one at hand
abbrev pub IsLeft : Facts → Deletes → Changes → List ℕ → List ℕ → Moment → Moment → Holders → Type 0
IsLeft facts deletes changes attr p moment at holders = (value : List ℕ) → is_row holders (attr, value, p) ≡ true
    → has_after attr value (counted_before facts deletes changes p moment) ≡ true → has_after attr value (counted_before facts deletes changes p at) ≡ true

pub fewer_then : (attr p : List ℕ) (a b c : Holders) → AreFewer attr p a b → AreFewer attr p b c → AreFewer attr p a c
fewer_then attr p a b c one two = record {
  others = λ name value q out. two.others name value q out ∙ one.others name value q out;
  fewer = λ value. let a = one.fewer value in let b = two.fewer value in omega (arith, a, b);
}

pub before_stands : (changes : Changes) (p : List ℕ) (k j : Moment) (es : List (ChangeKey × Unit {0})) → changes_before changes p k ≡ es ++ ((p, j), tt) ∷ []
    → contains_key changes (p, j) ≡ true
before_stands changes p k j es h =
    ap is_some (all_last (λ (e : ChangeKey × Unit {0}). get changes e.0 ≡ Some e.1) es ((p, j), tt)
    (subst (AllByRecursion (λ (e : ChangeKey × Unit {0}). get changes e.0 ≡ Some e.1)) h
    (all_passing (λ (e : ChangeKey × Unit {0}). get changes e.0 ≡ Some e.1) (λ (e : ChangeKey × Unit {0}). bytes_eq p e.0.0 && is_lt (moment_cmp e.0.1 k)) (entries changes)
    (entries_held change_total change_same changes))))

module _ (facts : Facts) (deletes : Deletes) (changes : Changes) (attr p : List ℕ) (moment : Moment) where
  -- one step back
  pub one_back : (at before : Moment) → changes_before changes p at ≡ changes_before changes p before ++ ((p, before), tt) ∷ []
      → (old new : Holders) (done : Bool) → IsLeft facts deletes changes attr p moment at old → AreFewer attr p old new
      → IsTakenBack attr p (counted facts deletes (before ∷ [])) done new
      → (value : List ℕ) → is_row new (attr, value, p) ≡ true
      → has_after attr value (counted_before facts deletes changes p moment) ≡ true
      → (done ≡ false) × (has_after attr value (counted_before facts deletes changes p before) ≡ true)
  one_back at before h old new done left fewer back value t u =
      back value (counted_before facts deletes changes p before) t
      (ap (has_after attr value) (sym (counted_front facts deletes changes p at before h))
      ∙ left value (row_less (times_at new (attr, value, p)) (times_at old (attr, value, p)) (fewer.fewer value) t) u)

  -- at the end of the walk
  pub gone_at_last : (at : Moment) (holders : Holders) → changes_before changes p at ≡ [] → IsLeft facts deletes changes attr p moment at holders
      → AreGone attr p (counted_before facts deletes changes p moment) holders
  gone_at_last at holders none left value t = by (has_after attr value (counted_before facts deletes changes p moment)) refl
    where
      by : (b : Bool) → has_after attr value (counted_before facts deletes changes p moment) ≡ b → has_after attr value (counted_before facts deletes changes p moment) ≡ false
      by true u = absurd (false≢true (ap (λ (es : List (ChangeKey × Unit {0})). has_after attr value (counted facts deletes (map (λ (e : ChangeKey × Unit {0}). e.0.1) es))) (sym none) ∙ left value t u))
      by false u = u

  pub gone_at_end : (holders : Holders) (done : Bool) → done ≡ true
      → ((value : List ℕ) → is_row holders (attr, value, p) ≡ true
      → has_after attr value (counted_before facts deletes changes p moment) ≡ true → done ≡ false)
      → AreGone attr p (counted_before facts deletes changes p moment) holders
  gone_at_end holders done is ends value t = by (has_after attr value (counted_before facts deletes changes p moment)) refl
    where
      by : (b : Bool) → has_after attr value (counted_before facts deletes changes p moment) ≡ b → has_after attr value (counted_before facts deletes changes p moment) ≡ false
      by true u = absurd (false≢true (sym (ends value t u) ∙ is))
      by false u = u

pub fewer_before : (changes : Changes) (p : List ℕ) (k : Moment) → length (changes_before changes p k) ≤ length (changes_after changes p None)
fewer_before changes p k = go (entries changes)
  where
    go : (es : List (ChangeKey × Unit {0})) → length (filter (λ (e : ChangeKey × Unit {0}). bytes_eq p e.0.0 && is_lt (moment_cmp e.0.1 k)) es) ≤ length (filter (λ (e : ChangeKey × Unit {0}). bytes_eq p e.0.0 && true) es)
    go [] = omega arith
    go (e ∷ es) = by (bytes_eq p e.0.0) (is_lt (moment_cmp e.0.1 k)) (go es)
      where
        by : (a b : Bool) → length (filter (λ (e : ChangeKey × Unit {0}). bytes_eq p e.0.0 && is_lt (moment_cmp e.0.1 k)) es) ≤ length (filter (λ (e : ChangeKey × Unit {0}). bytes_eq p e.0.0 && true) es)
            → length (cond (a && b) (e ∷ filter (λ (e : ChangeKey × Unit {0}). bytes_eq p e.0.0 && is_lt (moment_cmp e.0.1 k)) es) (filter (λ (e : ChangeKey × Unit {0}). bytes_eq p e.0.0 && is_lt (moment_cmp e.0.1 k)) es))
            ≤ length (cond (a && true) (e ∷ filter (λ (e : ChangeKey × Unit {0}). bytes_eq p e.0.0 && true) es) (filter (λ (e : ChangeKey × Unit {0}). bytes_eq p e.0.0 && true) es))
        by true true h = omega (arith, h)
        by true false h = omega (arith, h)
        by false b h = h

-- ---- all of an attribute's values dropped

module _ (p attr v on : List ℕ) (said : List Change) (old mid : Holders) (fewer : AreFewer attr p old mid) (gone : AreGone attr p said mid) where
  nothing : (value : List ℕ) → times_at old (attr, value, p) ≡ times_after attr value said
      → times_at mid (attr, value, p) ≡ 0
  nothing value h = by (cases_Bool (is_row mid (attr, value, p)))
    where
      by : (is_row mid (attr, value, p) ≡ true) ⊎ (is_row mid (attr, value, p) ≡ false)
          → times_at mid (attr, value, p) ≡ 0
      by (inl t) =
          let none = no_row (times_after attr value said) (sym (has_by_times attr value said) ∙ gone value t) in
          let le = fewer.fewer value in
          omega (arith, none, le, h)
      by (inr f) = no_row (times_at mid (attr, value, p)) f

  abbrev this : Act → Change
  this act = record { on = on; act = act; attr = attr; value = v }

  last_is : (act : Act) (value : List ℕ) → times_after attr value (said ++ this act ∷ [])
      ≡ act_times act v value (times_after attr value said)
  last_is act value = times-last attr value said (this act)
      ∙ ap (λ b. cond b (act_times act v value (times_after attr value said)) (times_after attr value said))
      (own_bytes attr)

  -- a row that is there now was there before, or is that of the value itself
  still : (value : List ℕ) → is_row mid (attr, value, p) ≡ true → is_row old (attr, value, p) ≡ true
  still value t = row_less (times_at mid (attr, value, p)) (times_at old (attr, value, p)) (fewer.fewer value) t

  -- and one put again
  pub set_alone : IsFollowed p (this sets) said old (with_times mid (attr, v, p) 1)
  set_alone = record {
    others = λ name value q out. with_beside p attr v mid 1 name value q out ∙ fewer.others name value q out;
    own = λ value h. with_own p attr v mid 1 value ∙ ap (λ n. cond (bytes_eq value v) 1 n) (nothing value h)
        ∙ sym (last_is sets value);
    given = λ value t. by value (is_row mid (attr, value, p)) refl (with_given p attr v mid 1 value t);
  }
    where
      by : (value : List ℕ) (b : Bool) → is_row mid (attr, value, p) ≡ b
          → (b || (bytes_eq attr attr && bytes_eq value v)) ≡ true
          → (is_row old (attr, value, p) || (bytes_eq attr attr && bytes_eq value v)) ≡ true
      by value true is t = or_left (is_row old (attr, value, p)) _ (still value is)
      by value false is t = ap (λ b. is_row old (attr, value, p) || b) t ∙ or_true (is_row old (attr, value, p))
        where
          or_true : (b : Bool) → (b || true) ≡ true
          or_true true = refl
          or_true false = refl

  pub all_removed : (length v == 0) ≡ true → IsFollowed p (this removes) said old mid
  all_removed none = record {
    others = fewer.others;
    own = λ value h. nothing value h ∙ sym (last_is removes value
        ∙ ap (λ b. cond b 0 (cond (bytes_eq value v) 0 (times_after attr value said))) none);
    given = λ value t. or_left (is_row old (attr, value, p)) _ (still value t);
  }

-- the tables where only the rows of holders may have changed

module _ (old now : Rows) (facts : now.facts ≡ old.facts) (state : now.state ≡ old.state) where
  pub counted_still : now.deletes ≡ old.deletes → IsCounted old.facts.ordered old.deletes old.state → IsCounted now.facts.ordered now.deletes now.state
  counted_still deletes is = subst (λ (f : Facts). IsCounted f now.deletes now.state) (sym (in_order facts))
      (subst (λ (d : Deletes). IsCounted old.facts.ordered d now.state) (sym deletes) (subst (λ (s : States). IsCounted old.facts.ordered old.deletes s) (sym state) is))

  pub listed_still : now.changes ≡ old.changes → IsListed old.facts.ordered old.state old.changes → IsListed now.facts.ordered now.state now.changes
  listed_still changes is = subst (λ (f : Facts). IsListed f now.state now.changes) (sym (in_order facts))
      (subst (λ (s : States). IsListed old.facts.ordered s now.changes) (sym state) (subst (λ (cs : Changes). IsListed old.facts.ordered old.state cs) (sym changes) is))

pub one_less : (changes : Changes) (p : List ℕ) (at before : Moment) → changes_before changes p at ≡ changes_before changes p before ++ ((p, before), tt) ∷ []
    → length (changes_before changes p at) ≡ length (changes_before changes p before) + 1
one_less changes p at before h = ap length h ∙ length-append (changes_before changes p before) (((p, before), tt) ∷ [])

pub prev_in : (old now : Changes) (p q : List ℕ) (at before : Moment) → now ≡ old → q ≡ p
    → changes_before now q at ≡ changes_before now q before ++ ((q, before), tt) ∷ []
    → changes_before old p at ≡ changes_before old p before ++ ((p, before), tt) ∷ []
prev_in old now p q at before same own h =
    subst (λ (cs : Changes). changes_before cs p at ≡ changes_before cs p before ++ ((p, before), tt) ∷ []) same
    (subst (λ (r : List ℕ). changes_before now r at ≡ changes_before now r before ++ ((r, before), tt) ∷ []) own h)

pub first_in : (old now : Changes) (p q : List ℕ) (at : Moment) → now ≡ old → q ≡ p → changes_before now q at ≡ [] → changes_before old p at ≡ []
first_in old now p q at same own h =
    subst (λ (cs : Changes). changes_before cs p at ≡ []) same (subst (λ (r : List ℕ). changes_before now r at ≡ []) own h)

pub back_in : (attr p : List ℕ) (old_facts facts : Facts) (old_deletes deletes : Deletes) (k : Moment) (done : Bool) (holders : Holders) → facts ≡ old_facts → deletes ≡ old_deletes
    → IsTakenBack attr p (counted facts deletes (k ∷ [])) done holders → IsTakenBack attr p (counted old_facts old_deletes (k ∷ [])) done holders
back_in attr p old_facts facts old_deletes deletes k done holders same_facts same_deletes h =
    subst (λ (f : Facts). IsTakenBack attr p (counted f old_deletes (k ∷ [])) done holders) same_facts
    (subst (λ (d : Deletes). IsTakenBack attr p (counted facts d (k ∷ [])) done holders) same_deletes h)
