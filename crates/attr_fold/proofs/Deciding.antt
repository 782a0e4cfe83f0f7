-- What one change among others does to the rows of its own attribute.
use Rattle.std.proofs.Common.{◌≡◌, ◌+◌, ◌-◌, ◌==◌, ℕ, suc, Bool, true, false, not, ◌&&◌, ◌||◌, cond, List, [], ◌∷◌}
use Rattle.std.proofs.Common.{◌++◌, length, refl, sym}
use Rattle.std.proofs.Common.{ap, subst, ◌∙◌, ◌⊎◌, inl, inr, append-nil, arith}
use Rattle.std.proofs.lemmas.Bool.{or_left, false≢true, cases_Bool}
use Rattle.std.proofs.lemmas.Slice.Eq.{bytes_eq-Decides}
use Rattle.std.specs.List.{list_any}
use Rattle.std.specs.Str.{bytes_eq}
use Rattle.std.specs.FinMap.{remove}
use Rattle.schema_fact.specs.declared.changes.Act.{Act}
use Rattle.schema_fact.specs.declared.changes.Act.TheVariants.{Set as sets, Add as adds, Del as removes}
use Rattle.schema_fact.specs.declared.changes.Change.{Change}
use Rattle.index_rows.specs.Holders.{Holders, times_at, with_times}
use Rattle.attr_fold.specs.Following.{decides, is_end, is_row, takes, AreRight, IsFollowed, IsSettled, IsTurned}
use Rattle.attr_fold.specs.Times.{act_times, times_after, times_from}
use Rattle.attr_fold.proofs.OneChange.{own_bytes, drop_beside, drop_own, with_beside, with_own, with_given, with_less}
use Rattle.attr_fold.proofs.Dropping.{other_bytes}
use Rattle.attr_fold.proofs.HeldTimes.{no_row}
use Rattle.attr_fold.proofs.Times.{any_take, left_from, other_way, taken_from, times-append, times-among, times-last}

-- ---- the rows

module _ (p attr v on : List ℕ) (front back : List Change) (holders : Holders) where
  abbrev this : Act → Change
  this act = record { on = on; act = act; attr = attr; value = v }

  abbrev before : List ℕ → ℕ
  before value = times_after attr value front

  abbrev behind : List ℕ → ℕ → ℕ
  behind value n = times_from attr value n back

  abbrev without : List ℕ → ℕ
  without value = times_after attr value (front ++ back)

  abbrev with_it : Act → List ℕ → ℕ
  with_it act value = times_after attr value (front ++ this act ∷ back)

  without_is : (value : List ℕ) → without value ≡ behind value (before value)
  without_is value = times-append attr value front back

  with_is : (act : Act) (value : List ℕ) → with_it act value ≡ behind value (act_times act v value (before value))
  with_is act value = times-among attr value front (this act) back
      ∙ ap (λ b. behind value (cond b (act_times act v value (before value)) (before value))) (own_bytes attr)

  -- if a later change takes the value, nothing is to be done
  same : (act : Act) (value : List ℕ) → list_any (takes attr value) back ≡ true → without value ≡ with_it act value
  same act value t = without_is value
      ∙ taken_from attr value back t (before value) (act_times act v value (before value))
      ∙ sym (with_is act value)

  -- nor for values other than its own
  beside : (act : Act) → is_end act v ≡ false → (value : List ℕ) → bytes_eq value v ≡ false
      → without value ≡ with_it act value
  beside act one value other = without_is value ∙ ap (behind value) (by act one) ∙ sym (with_is act value)
    where
      by : (act : Act) → is_end act v ≡ false → before value ≡ act_times act v value (before value)
      by sets e = absurd (false≢true (sym e))
      by adds e = sym (ap (λ b. cond b (suc (before value)) (before value)) other)
      by removes e =
          let h : act_times removes v value (before value) ≡ before value
          = λ i. cond (e i) 0 (cond (other i) 0 (before value)) in
          sym h

  abbrev IsSame : Act → Type 0
  IsSame act = (value : List ℕ) → without value ≡ with_it act value

  emptied : (act : Act) → list_any (decides true attr v) back ≡ true → IsSame act
  emptied act t value = same act value (any_take attr value v back t)

  taken : (act : Act) → is_end act v ≡ false → list_any (takes attr v) back ≡ true → IsSame act
  taken act one t value = by (cases_Bool (bytes_eq value v))
    where
      by : (bytes_eq value v ≡ true) ⊎ (bytes_eq value v ≡ false) → without value ≡ with_it act value
      by (inl own) = same act value (ap (λ w. list_any (takes attr w) back) ((bytes_eq-Decides value v).0 own) ∙ t)
      by (inr other) = beside act one value other

  -- then the rows are right as they are
  as_they_are : (act : Act) → IsSame act → IsSettled p (this act) front back holders holders
  as_they_are act h = record {
    others = λ name value q out. refl;
    own = λ value was. was ∙ h value;
    given = λ value t. or_left (is_row holders (attr, value, p)) _ t;
  }

  pub untouched_all : (act : Act) → list_any (decides true attr v) back ≡ true
      → IsSettled p (this act) front back holders holders
  untouched_all act t = as_they_are act (emptied act t)

  pub untouched : (act : Act) → is_end act v ≡ false → list_any (takes attr v) back ≡ true
      → IsSettled p (this act) front back holders holders
  untouched act one t = as_they_are act (taken act one t)

  unturned : list_any (takes attr v) back ≡ true
      → AreRight p (this adds) (front ++ this adds ∷ back) (front ++ back) holders holders
  unturned t = record {
    others = λ name value q out. refl;
    own = λ value was. was ∙ sym (taken adds refl t value);
    given = λ value t. or_left (is_row holders (attr, value, p)) _ t;
  }

  pub turned_none : list_any (takes attr v) back ≡ true → (gone : Bool)
      → IsTurned gone p (this adds) front back holders holders
  turned_none t true = unturned t
  turned_none t false = untouched adds refl t

  abbrev at : List ℕ → ℕ
  at value = times_at holders (attr, value, p)

  module _ (none : list_any (takes attr v) back ≡ false) where
    left : (n : ℕ) → behind v n ≡ n + behind v 0
    left n = left_from attr v back none n

    -- an addition that no later change takes away counts once more
    one_more : with_it adds v ≡ suc (without v)
    one_more =
        let now = left (suc (before v)) in
        let was = left (before v) in
        let a = with_is adds v ∙ ap (λ b. behind v (cond b (suc (before v)) (before v))) (own_bytes v) in
        let b = without_is v in
        omega (arith, now, was, a, b)

    pub added_late : IsSettled p (this adds) front back holders (with_times holders (attr, v, p) (suc (at v)))
    added_late = record {
      others = with_beside p attr v holders (suc (at v));
      own = λ value was. with_own p attr v holders (suc (at v)) value ∙ by value was (cases_Bool (bytes_eq value v));
      given = with_given p attr v holders (suc (at v));
    }
      where
        by : (value : List ℕ) → at value ≡ without value → (bytes_eq value v ≡ true) ⊎ (bytes_eq value v ≡ false)
            → cond (bytes_eq value v) (suc (at v)) (at value) ≡ with_it adds value
        by value was (inl own) =
            let is : value ≡ v = (bytes_eq-Decides value v).0 own in
            ap (λ b. cond b (suc (at v)) (at value)) own
            ∙ subst (λ w. at w ≡ without w → suc (at v) ≡ with_it adds w) (sym is)
            (λ here. ap suc here ∙ sym one_more) was
        by value was (inr other) =
            ap (λ b. cond b (suc (at v)) (at value)) other ∙ was ∙ beside adds refl value other

    -- and once less if it is gone
    gone_late : AreRight p (this adds) (front ++ this adds ∷ back) (front ++ back) holders
        (with_times holders (attr, v, p) (at v - 1))
    gone_late = record {
      others = with_beside p attr v holders (at v - 1);
      own = λ value was. with_own p attr v holders (at v - 1) value ∙ by value was (cases_Bool (bytes_eq value v));
      given = with_given p attr v holders (at v - 1);
    }
      where
        by : (value : List ℕ) → at value ≡ with_it adds value → (bytes_eq value v ≡ true) ⊎ (bytes_eq value v ≡ false)
            → cond (bytes_eq value v) (at v - 1) (at value) ≡ without value
        by value was (inl own) =
            let is : value ≡ v = (bytes_eq-Decides value v).0 own in
            ap (λ b. cond b (at v - 1) (at value)) own
            ∙ subst (λ w. at w ≡ with_it adds w → (at v - 1) ≡ without w) (sym is)
            (λ here. let e = here ∙ one_more in omega (arith, e)) was
        by value was (inr other) =
            ap (λ b. cond b (at v - 1) (at value)) other ∙ was ∙ sym (beside adds refl value other)

    -- either way
    pub turned_less : (gone : Bool) → gone ≡ true
        → IsTurned gone p (this adds) front back holders (with_times holders (attr, v, p) (at v - 1))
    turned_less true h = gone_late
    turned_less false h = absurd (false≢true h)

    pub turned_more : (gone : Bool) → gone ≡ false
        → IsTurned gone p (this adds) front back holders (with_times holders (attr, v, p) (suc (at v)))
    turned_more true h = absurd (false≢true (sym h))
    turned_more false h = added_late

    module _ (one : (length v == 0) ≡ false) where
      removed : with_it removes v ≡ behind v 0
      removed = with_is removes v ∙ (λ i. behind v (cond (one i) 0 (cond (own_bytes v i) 0 (before v))))

      -- the removal of a value leaves the later additions
      pub removed_late : is_row holders (attr, v, p) ≡ true
          → IsSettled p (this removes) front back holders (with_times holders (attr, v, p) (behind v 0))
      removed_late there = record {
        others = with_beside p attr v holders (behind v 0);
        own = λ value was. with_own p attr v holders (behind v 0) value ∙ by value was (cases_Bool (bytes_eq value v));
        given = λ value t. or_left (is_row holders (attr, value, p)) _
            (with_less p attr v holders (behind v 0) (λ h. there) value t);
      }
        where
          by : (value : List ℕ) → at value ≡ without value → (bytes_eq value v ≡ true) ⊎ (bytes_eq value v ≡ false)
              → cond (bytes_eq value v) (behind v 0) (at value) ≡ with_it removes value
          by value was (inl own) =
              ap (λ b. cond b (behind v 0) (at value)) own
              ∙ subst (λ w. behind v 0 ≡ with_it removes w) (sym ((bytes_eq-Decides value v).0 own)) (sym removed)
          by value was (inr other) =
              ap (λ b. cond b (behind v 0) (at value)) other ∙ was ∙ beside removes one value other

  -- the removal of one value that isn't there
  pub absent_late : (length v == 0) ≡ false → is_row holders (attr, v, p) ≡ false
      → IsSettled p (this removes) front back holders holders
  absent_late one out = record {
    others = λ name value q out. refl;
    own = λ value was. was ∙ by value was (cases_Bool (bytes_eq value v));
    given = λ value t. or_left (is_row holders (attr, value, p)) _ t;
  }
    where
      none_there : at v ≡ without v → (list_any (takes attr v) back ≡ true) ⊎ (list_any (takes attr v) back ≡ false)
          → without v ≡ with_it removes v
      none_there was (inl t) = taken removes one t v
      none_there was (inr f) =
          let zero_now = no_row (at v) out in
          let a = without_is v in
          let b = left f (before v) in
          let c = removed f one in
          omega (arith, zero_now, was, a, b, c)

      by : (value : List ℕ) → at value ≡ without value → (bytes_eq value v ≡ true) ⊎ (bytes_eq value v ≡ false)
          → without value ≡ with_it removes value
      by value was (inl own) =
          subst (λ w. at w ≡ without w → without w ≡ with_it removes w) (sym ((bytes_eq-Decides value v).0 own))
          (λ here. none_there here (cases_Bool (list_any (takes attr v) back))) was
      by value was (inr other) = beside removes one value other

-- a change of another attribute leaves the values, also where others are behind it
pub beside_late : (name value : List ℕ) (c : Change) (front back : List Change) → bytes_eq name c.attr ≡ false
    → times_after name value (front ++ c ∷ back) ≡ times_after name value (front ++ back)
beside_late name value c front back out =
    times-among name value front c back
    ∙ ap (λ b. times_from name value (cond b (act_times c.act c.value value (times_after name value front))
    (times_after name value front)) back) out
    ∙ sym (times-append name value front back)

-- whether two texts are one, as the code asks it
pub not_own : (all : Bool) (name value : List ℕ) (c : Change) (x y : List ℕ) → x ≡ c.attr → y ≡ name
    → true ≡ not (bytes_eq x y) → false ≡ decides all name value c
not_own all name value c x y hx hy differ =
    sym (ap (λ b. b && (is_end c.act c.value || (not all && bytes_eq c.value value)))
    (other_way c.attr name ∙ other_bytes x y c.attr name hx hy differ))

-- ---- the last change

module _ (p attr v on : List ℕ) (said : List Change) (holders : Holders) where
  -- an addition
  pub added : IsFollowed p (record { on = on; act = adds; attr = attr; value = v }) said holders
      (with_times holders (attr, v, p) (suc (times_at holders (attr, v, p))))
  added = subst (λ was. AreRight p (record { on = on; act = adds; attr = attr; value = v }) was
      (said ++ record { on = on; act = adds; attr = attr; value = v } ∷ []) holders
      (with_times holders (attr, v, p) (suc (times_at holders (attr, v, p)))))
      (append-nil said) (added_late p attr v on said [] holders refl)

  -- the removal of one value
  pub dropped : (length v == 0) ≡ false
      → IsFollowed p (record { on = on; act = removes; attr = attr; value = v }) said holders
      (remove holders (attr, v, p))
  dropped one = record {
    others = drop_beside p attr v holders;
    own = λ value h. drop_own p attr v holders value
        ∙ (λ i. cond (bytes_eq value v) 0 (h i))
        ∙ sym (times-last attr value said (record { on = on; act = removes; attr = attr; value = v })
        ∙ (λ i. cond (own_bytes attr i) (cond (one i) 0 (cond (bytes_eq value v) 0 (times_after attr value said)))
        (times_after attr value said)));
    given = λ value t. or_left (is_row holders (attr, value, p)) _
        (with_less p attr v holders 0 (λ h. absurd (false≢true h)) value t);
  }
