-- The rows of a permanode stay right if a claim that adds a value is deleted, or is no longer deleted.
use Rattle.std.proofs.Common.{◌≡◌, ◌≤◌, ◌+◌, ◌*◌, length, length-append, arith, ℕ, Bool, true, false, not, ◌&&◌, cond}
use Rattle.std.proofs.Common.{List, [], ◌∷◌, ◌++◌, map, filter, Some, None, refl, sym, ap, subst, ◌∙◌, ◌⊎◌, inl, inr}
use Rattle.std.proofs.Common.{is_some, Option}
use Rattle.std.proofs.Math.Bool.{and-false}
use Rattle.std.proofs.lemmas.Bool.{and_parts, false≢true, cases_Bool}
use Rattle.std.proofs.lemmas.Cmp.{tied_itself}
use Rattle.std.specs.List.{AllByRecursion, filter_map}
use Rattle.std.specs.Ordering.{is_lt, eq_by_cmp}
use Rattle.std.specs.Cmp.{eq_by_cmp_equiv}
use Rattle.std.specs.Str.{bytes_eq}
use Rattle.std.specs.FinMap.{get, insert, remove, entries, contains_key, get-insert, get-remove, same_map}
use Rattle.schema_date.specs.declared.date.When.TheVariants.{Always}
use Rattle.schema_fact.specs.declared.changes.Change.{Change}
use Rattle.claim_model.specs.Facts.{Facts}
use Rattle.claim_model.specs.Changes.{gives}
use Rattle.claim_model.specs.Claims.{Moment, moment_cmp}
use Rattle.index_look.proofs.Keys.{entries_held}
use Rattle.index_look.proofs.Order.{is_Equal}
use Rattle.index_rows.specs.Changes.{Changes, ChangeKey, change_cmp, changes_after, changes_before}
use Rattle.index_rows.specs.Deletes.{Deletes, row_deleted}
use Rattle.index_rows.specs.Holders.{Holders, is_given, says_permanode, times_at, AllCounted, IsHeldBut}
use Rattle.index_rows.specs.States.{States}
use Rattle.index_rows.specs.Values.{change_at, IsChange}
use Rattle.index_rows.proofs.Counting.{contains-remove}
use Rattle.index_rows.proofs.Orders.{change_total, change_same, moment_total}
use Rattle.attr_fold.specs.Following.{counted, counted_after, counted_before, holds_values, is_row, AreRight}
use Rattle.attr_fold.specs.Following.{IsFlipped, IsTurned}
use Rattle.attr_fold.specs.Times.{times_after}
use Rattle.attr_fold.specs.Refolded.{refold_steps}
use Rattle.attr_fold.proofs.Among.{all_now, given_now, given_rows, right_rows, said_now}
use Rattle.attr_fold.proofs.Deciding.{beside_late}
use Rattle.attr_fold.proofs.Dropping.{counted-append, none_counted_of, one_counted}
use Rattle.attr_fold.proofs.HeldTimes.{right_after, row_times}
use Rattle.attr_fold.proofs.Walking.{Row, change_is}

-- a row taken out and put back
put_back : (changes : Changes) (k : ChangeKey) → contains_key changes k ≡ true
    → changes ≡ insert (remove changes k) k tt
put_back changes k there = same_map change_total change_same _ _ (λ q. by q (cases_Bool (eq_by_cmp change_cmp q k))
    ∙ sym (get-insert change_total (remove changes k) k tt q
    ∙ ap (cond (eq_by_cmp change_cmp q k) (Some tt)) (get-remove change_total changes k q)))
  where
    here : get changes k ≡ Some tt
    here = at (get changes k) there
      where
        at : (o : Option (Unit {0})) → is_some o ≡ true → o ≡ Some tt
        at None h = absurd (false≢true h)
        at (Some u) h = refl

    by : (q : ChangeKey) → (eq_by_cmp change_cmp q k ≡ true) ⊎ (eq_by_cmp change_cmp q k ≡ false)
        → get changes q ≡ cond (eq_by_cmp change_cmp q k) (Some tt)
        (cond (eq_by_cmp change_cmp q k) None (get changes q))
    by q (inl t) = ap (get changes) (change_same q k (is_Equal (change_cmp q k) t)) ∙ here
        ∙ sym (ap (λ b. cond b (Some tt) (cond b None (get changes q))) t)
    by q (inr f) = sym (ap (λ b. cond b (Some tt) (cond b None (get changes q))) f)

taken_out : (changes : Changes) (k : ChangeKey) → contains_key (remove changes k) k ≡ false
taken_out changes k = contains-remove change_total change_same changes k k
    ∙ ap (λ b. not b && contains_key changes k) ((eq_by_cmp_equiv change_total).refl k)

-- ---- the steps

module _ (facts : Facts) (state : States) (changes : Changes) (p : List ℕ) where
  abbrev steps : Bool → ℕ
  steps says = cond says (3 + 4 * length (changes_after changes p None)) 2

  pub least_steps : 2 ≤ refold_steps facts state changes p
  least_steps = by (says_permanode facts state p)
    where
      by : (b : Bool) → 2 ≤ steps b
      by true = omega arith
      by false = omega arith

  -- the changes after one are fewer than all
  pub whole_steps : (deletes : Deletes) → holds_values facts state deletes p ≡ true → (k : Moment)
      → contains_key changes (p, k) ≡ true
      → 7 + 3 * length (changes_after changes p (Some k)) ≤ refold_steps facts state changes p
  whole_steps deletes holds k there =
      subst (λ b. 7 + 3 * length (changes_after changes p (Some k)) ≤ steps b)
      (sym (and_parts (says_permanode facts state p) (not (row_deleted facts deletes Always p)) holds).0)
      (omega (arith, more))
    where
      all : changes_after changes p None ≡ changes_before changes p k ++ ((p, k), tt) ∷ changes_after changes p (Some k)
      all = subst (λ (cs : Changes). changes_after cs p None
          ≡ changes_before cs p k ++ ((p, k), tt) ∷ changes_after cs p (Some k))
          (sym (put_back changes (p, k) there)) (all_now (remove changes (p, k)) p k (taken_out changes (p, k)))

      more : length (changes_after changes p None)
          ≡ length (changes_before changes p k) + length (((p, k), tt) ∷ changes_after changes p (Some k))
      more = ap (λ (es : List Row). length es) all
          ∙ length-append (changes_before changes p k) (((p, k), tt) ∷ changes_after changes p (Some k))

module _ (facts : Facts) (state : States) (changes : Changes) (before after : Deletes) (p : List ℕ) (k : Moment)
    (flip : IsFlipped facts state changes before after p k) where
  holds_same : (q : List ℕ) → holds_values facts state after q ≡ holds_values facts state before q
  holds_same q = by (says_permanode facts state q) refl
    where
      by : (b : Bool) → says_permanode facts state q ≡ b
          → (b && not (row_deleted facts after Always q)) ≡ (b && not (row_deleted facts before Always q))
      by true t = ap not (sym (flip.permanodes q t))
      by false f = refl

  -- moments of other changes count as they did
  same_of : (test : Row → Bool) → ((e : Row) → test e ≡ true → eq_by_cmp change_cmp e.0 (p, k) ≡ false)
      → (es : List Row) → AllByRecursion (λ (e : Row). get changes e.0 ≡ Some e.1) es
      → counted facts before (map (λ (e : Row). e.0.1) (filter test es))
      ≡ counted facts after (map (λ (e : Row). e.0.1) (filter test es))
  same_of test apart [] held = refl
  same_of test apart (e ∷ es) held = by (test e) refl (same_of test apart es held.1)
    where
      rest : List Moment
      rest = map (λ (d : Row). d.0.1) (filter test es)

      by : (b : Bool) → test e ≡ b
          → counted facts before (map (λ (d : Row). d.0.1) (filter test es))
          ≡ counted facts after (map (λ (d : Row). d.0.1) (filter test es))
          → counted facts before (map (λ (d : Row). d.0.1) (cond b (e ∷ filter test es) (filter test es)))
          ≡ counted facts after (map (λ (d : Row). d.0.1) (cond b (e ∷ filter test es) (filter test es)))
      by true t more =
          let same = flip.others e.0.0 e.0.1 (ap is_some held.0) (apart e t) in
          counted-append facts before (e.0.1 ∷ []) (map (λ (d : Row). d.0.1) (filter test es))
          ∙ (λ i. filter_map (change_at facts) (cond (not (same i)) (e.0.1 ∷ []) []) ++ more i)
          ∙ sym (counted-append facts after (e.0.1 ∷ []) (map (λ (d : Row). d.0.1) (filter test es)))
      by false f more = more

  held : AllByRecursion (λ (e : Row). get changes e.0 ≡ Some e.1) (entries changes)
  held = entries_held change_total change_same changes

  beside : (name value q : List ℕ) → bytes_eq q p ≡ false
      → row_times facts state after changes name value q ≡ row_times facts state before changes name value q
  beside name value q out =
      (λ i. cond (holds_same q i) (times_after name value (sym (same_of (λ (e : Row). bytes_eq q e.0.0 && true) other
      (entries changes) held) i)) 0)
    where
      other : (e : Row) → (bytes_eq q e.0.0 && true) ≡ true → eq_by_cmp change_cmp e.0 (p, k) ≡ false
      other e t = elim (cases_Bool (eq_by_cmp change_cmp e.0 (p, k))) [
        | inl same ↦ absurd (false≢true (sym out ∙ ap (bytes_eq q)
            (sym (ap (λ (x : ChangeKey). x.0) (change_same e.0 (p, k) (is_Equal (change_cmp e.0 (p, k)) same))))
            ∙ (and_parts (bytes_eq q e.0.0) true t).0))
        | inr apart ↦ apart
      ]

  -- a change before or after it is another one
  not_it : (e : Row) (r : Bool) → r ≡ is_lt (moment_cmp k k) → (eq_by_cmp change_cmp e.0 (p, k) ≡ true → r ≡ true)
      → eq_by_cmp change_cmp e.0 (p, k) ≡ false
  not_it e r is lt = elim (cases_Bool (eq_by_cmp change_cmp e.0 (p, k))) [
    | inl same ↦ absurd (false≢true (ap is_lt (sym (tied_itself moment_total k)) ∙ sym is ∙ lt same))
    | inr apart ↦ apart
  ]

  moment_of : (e : Row) → eq_by_cmp change_cmp e.0 (p, k) ≡ true → e.0.1 ≡ k
  moment_of e same = ap (λ (x : ChangeKey). x.1) (change_same e.0 (p, k) (is_Equal (change_cmp e.0 (p, k)) same))

  front_same : counted_before facts before changes p k ≡ counted_before facts after changes p k
  front_same = same_of (λ (e : Row). bytes_eq p e.0.0 && is_lt (moment_cmp e.0.1 k))
      (λ e t. not_it e (is_lt (moment_cmp k k)) refl
      (λ same. ap (λ j. is_lt (moment_cmp j k)) (sym (moment_of e same))
      ∙ (and_parts (bytes_eq p e.0.0) (is_lt (moment_cmp e.0.1 k)) t).1))
      (entries changes) held

  back_same : counted_after facts before changes p k ≡ counted_after facts after changes p k
  back_same = same_of (λ (e : Row). bytes_eq p e.0.0 && is_lt (moment_cmp k e.0.1))
      (λ e t. not_it e (is_lt (moment_cmp k k)) refl
      (λ same. ap (λ j. is_lt (moment_cmp k j)) (sym (moment_of e same))
      ∙ (and_parts (bytes_eq p e.0.0) (is_lt (moment_cmp k e.0.1)) t).1))
      (entries changes) held

  module _ (there : contains_key changes (p, k) ≡ true) where
    abbrev said : Deletes → List Change
    said deletes = counted facts deletes (map (λ (e : Row). e.0.1) (changes_after changes p None))

    -- the changes of p that count, by these delete claims
    said_is : (deletes : Deletes) → said deletes
        ≡ counted_before facts deletes changes p k
        ++ (counted facts deletes (k ∷ []) ++ counted_after facts deletes changes p k)
    said_is deletes = subst (λ (cs : Changes).
        counted facts deletes (map (λ (e : Row). e.0.1) (changes_after cs p None))
        ≡ counted_before facts deletes cs p k ++ (counted facts deletes (k ∷ []) ++ counted_after facts deletes cs p k))
        (sym (put_back changes (p, k) there))
        (said_now (remove changes (p, k)) p k (taken_out changes (p, k)) facts state deletes)

    abbrev front : List Change
    front = counted_before facts after changes p k

    abbrev back : List Change
    back = counted_after facts after changes p k

    said_before : said before ≡ front ++ (counted facts before (k ∷ []) ++ back)
    said_before = said_is before ∙ (λ i. front_same i ++ (counted facts before (k ∷ []) ++ back_same i))

    module _ (but : List (List ℕ)) (old new : Holders) (was : IsHeldBut but facts state before changes old)
        (counted_old : AllCounted old) (counted_new : AllCounted new) where
      -- p holds nothing, before and after
      pub nothing_settled : old ≡ new → holds_values facts state after p ≡ false
          → IsHeldBut but facts state after changes new
      nothing_settled same none = right_after facts state before after changes changes p but old new was counted_old
          counted_new beside (λ name value q h. h)
          (λ name value q f. ap (λ (m : Holders). times_at m (name, value, q)) (sym same))
          (λ name value h. ap (λ (m : Holders). times_at m (name, value, p)) (sym same) ∙ h
          ∙ (λ i. cond ((sym (holds_same p) ∙ none) i) (times_after name value (said before)) 0)
          ∙ sym (ap (λ b. cond b (times_after name value (said after)) 0) none))
          (λ name value h. inl (ap (λ (m : Holders). is_row m (name, value, p)) same ∙ h))

      module _ (is : IsChange facts state p k) (holds : holds_values facts state after p ≡ true) where
        alone : (deletes : Deletes) → holds_values facts state deletes p ≡ true → (name value : List ℕ)
            → row_times facts state deletes changes name value p ≡ times_after name value (said deletes)
        alone deletes h name value = ap (λ b. cond b (times_after name value (said deletes)) 0) h

        holds_before : holds_values facts state before p ≡ true
        holds_before = sym (holds_same p) ∙ holds

        counts : (deletes : Deletes) → row_deleted facts deletes Always k.1 ≡ false
            → counted facts deletes (k ∷ []) ≡ is.change ∷ []
        counts deletes live = one_counted facts deletes k is.change (change_is facts state p k is) live

        -- the rows of the change's attribute are right, and so are all
        right_both : (then_ now : List Change) → said before ≡ then_ → said after ≡ now
            → ((name value : List ℕ) → bytes_eq name is.change.attr ≡ false
            → times_after name value then_ ≡ times_after name value now)
            → AreRight p is.change then_ now old new → IsHeldBut but facts state after changes new
        right_both then_ now was_said now_said out f =
            right_after facts state before after changes changes p but old new was counted_old counted_new beside
            (λ name value q h. h)
            (λ name value q apart. f.others name value q (ap (λ b. bytes_eq name is.change.attr && b) apart
            ∙ and-false (bytes_eq name is.change.attr)))
            (λ name value h. right_rows p is.change then_ now old new f out name value
            (h ∙ alone before holds_before name value ∙ ap (times_after name value) was_said)
            ∙ sym (alone after holds name value ∙ ap (times_after name value) now_said))
            (λ name value h. elim (given_rows p is.change then_ now old new f name value h) [
              | inl row ↦ inl row
              | inr own ↦ inr (
                (and_parts (says_permanode facts state p) (not (row_deleted facts after Always p)) holds).0,
                given name value own,
              )
            ])
          where
            given : (name value : List ℕ) → gives name value is.change ≡ true
                → is_given facts changes name value p ≡ true
            given name value h = subst (λ (cs : Changes). is_given facts cs name value p ≡ true)
                (sym (put_back changes (p, k) there))
                (given_now (remove changes (p, k)) p k (taken_out changes (p, k)) facts state after is name value h)

        pub settled_rows : (gone : Bool) → gone ≡ row_deleted facts after Always k.1
            → IsTurned gone p is.change front back old new → IsHeldBut but facts state after changes new
        settled_rows true h f =
            right_both (front ++ is.change ∷ back) (front ++ back)
            (said_before ∙ ap (λ cs. front ++ (cs ++ back)) (counts before (flip.own ∙ ap not (sym h))))
            (said_is after ∙ ap (λ cs. front ++ (cs ++ back)) (none_counted_of facts after k (sym h)))
            (λ name value out. beside_late name value is.change front back out) f
        settled_rows false h f =
            right_both (front ++ back) (front ++ is.change ∷ back)
            (said_before
            ∙ ap (λ cs. front ++ (cs ++ back)) (none_counted_of facts before k (flip.own ∙ ap not (sym h))))
            (said_is after ∙ ap (λ cs. front ++ (cs ++ back)) (counts after (sym h)))
            (λ name value out. sym (beside_late name value is.change front back out)) f
