-- The rows of a permanode stay right where one change more is written among others.
use Rattle.std.proofs.Common.{◌≡◌, ℕ, Bool, true, false, not, ◌&&◌, ◌||◌, cond, List, [], ◌∷◌, ◌++◌, map, filter}
use Rattle.std.proofs.Common.{Option, Some, None, refl, sym, ap, subst, ◌∙◌, ◌⊎◌, inl, inr, nat_lt}
use Rattle.std.proofs.Math.Bool.{and-false}
use Rattle.std.proofs.lemmas.Bool.{and_parts, or_cases, false≢true, cases_Bool}
use Rattle.std.proofs.lemmas.Cmp.{tied_itself}
use Rattle.std.proofs.lemmas.List.{append-nil, map-append}
use Rattle.std.proofs.lemmas.List.Folds.{list_any-append}
use Rattle.std.proofs.lemmas.Slice.Eq.{bytes_eq-Decides}
use Rattle.std.specs.declared.cmp.Ordering.TheVariants.{Less, Greater}
use Rattle.std.specs.List.{list_any}
use Rattle.std.specs.Ordering.{is_lt, ordering_then, ordering_reverse}
use Rattle.std.specs.Str.{bytes_eq}
use Rattle.std.specs.FinMap.{insert, entries, contains_key, entries-insert, entries_sorted, is_sorted}
use Rattle.blobref.specs.Blobref.{ref_cmp}
use Rattle.schema_date.specs.declared.date.When.TheVariants.{Always}
use Rattle.schema_fact.specs.declared.changes.Change.{Change}
use Rattle.claim_model.specs.Facts.{Facts, passes}
use Rattle.claim_model.specs.Changes.{gives}
use Rattle.claim_model.specs.Claims.{Moment, moment_cmp}
use Rattle.index_rows.specs.Changes.{Changes, ChangeKey, change_cmp, changes_after, changes_before}
use Rattle.index_rows.specs.Deletes.{Deletes, row_deleted}
use Rattle.index_rows.specs.Holders.{Holders, is_given, says_permanode, times_at, AllCounted, IsHeldBut}
use Rattle.index_rows.specs.States.{States}
use Rattle.index_rows.specs.Values.{change_at, IsChange}
use Rattle.index_rows.proofs.Orders.{ref_total, change_total, moment_total}
use Rattle.attr_fold.specs.Following.{counted, counted_after, counted_before, holds_values, is_row, AreRight}
use Rattle.attr_fold.specs.Following.{IsFollowed, IsSettled}
use Rattle.attr_fold.specs.Times.{times_after}
use Rattle.attr_fold.proofs.Deciding.{beside_late}
use Rattle.attr_fold.proofs.Dropping.{counted-append, none_counted_of, one_counted}
use Rattle.attr_fold.proofs.Followed.{new, right_now, true_of}
use Rattle.attr_fold.proofs.OneChange.{own_bytes}
use Rattle.attr_fold.proofs.Splitting.{parts_with, parts_without}
use Rattle.attr_fold.proofs.Walking.{Row, change_is}

-- ---- the rows of an attribute that are right, among all of p

module _ (p : List ℕ) (c : Change) (was now : List Change) (before after : Holders)
    (f : AreRight p c was now before after)
  where
    still : (name value : List ℕ) → bytes_eq name c.attr ≡ false
        → times_at after (name, value, p) ≡ times_at before (name, value, p)
    still name value out = f.others name value p (ap (λ b. b && bytes_eq p p) out)

    pub right_rows : ((name value : List ℕ) → bytes_eq name c.attr ≡ false
        → times_after name value was ≡ times_after name value now)
        → (name value : List ℕ) → times_at before (name, value, p) ≡ times_after name value was
        → times_at after (name, value, p) ≡ times_after name value now
    right_rows beside name value h = by (cases_Bool (bytes_eq name c.attr))
      where
        by : (bytes_eq name c.attr ≡ true) ⊎ (bytes_eq name c.attr ≡ false)
            → times_at after (name, value, p) ≡ times_after name value now
        by (inl t) = subst (λ n. times_at before (n, value, p) ≡ times_after n value was
            → times_at after (n, value, p) ≡ times_after n value now) (sym ((bytes_eq-Decides name c.attr).0 t))
            (f.own value) h
        by (inr out) = still name value out ∙ h ∙ beside name value out

    pub given_rows : (name value : List ℕ) → is_row after (name, value, p) ≡ true
        → (is_row before (name, value, p) ≡ true) ⊎ (gives name value c ≡ true)
    given_rows name value h = by (cases_Bool (bytes_eq name c.attr))
      where
        own : is_row after (c.attr, value, p) ≡ true
            → (is_row before (c.attr, value, p) ≡ true) ⊎ (gives c.attr value c ≡ true)
        own t = or_cases (is_row before (c.attr, value, p)) (gives c.attr value c) (f.given value t)

        by : (bytes_eq name c.attr ≡ true) ⊎ (bytes_eq name c.attr ≡ false)
            → (is_row before (name, value, p) ≡ true) ⊎ (gives name value c ≡ true)
        by (inl t) = subst (λ n. is_row after (n, value, p) ≡ true
            → (is_row before (n, value, p) ≡ true) ⊎ (gives n value c ≡ true))
            (sym ((bytes_eq-Decides name c.attr).0 t)) own h
        by (inr out) = inl (ap (nat_lt 0) (sym (still name value out)) ∙ h)

-- the last change is one with none after it
pub followed_is_settled : (p : List ℕ) (c : Change) (said : List Change) (before after : Holders)
    → IsFollowed p c said before after → IsSettled p c said [] before after
followed_is_settled p c said before after f =
    subst (λ was. AreRight p c was (said ++ c ∷ []) before after) (sym (append-nil said)) f

-- ---- the changes of p before one of them, that one, and those behind it

module _ (p : List ℕ) (k : Moment) where
  abbrev of_p : ChangeKey → Bool
  of_p x = bytes_eq p x.0 && true

  abbrev earlier : ChangeKey → Bool
  earlier x = bytes_eq p x.0 && is_lt (moment_cmp x.1 k)

  abbrev later : ChangeKey → Bool
  later x = bytes_eq p x.0 && is_lt (moment_cmp k x.1)

  tied : (x : ChangeKey) → bytes_eq p x.0 ≡ true → change_cmp (p, k) x ≡ moment_cmp k x.1
  tied x own = ap (λ r. ordering_then r (moment_cmp k x.1)) (ap (λ y. ref_cmp y x.0) ((bytes_eq-Decides p x.0).0 own) ∙ tied_itself ref_total x.0)

  module _ (x : ChangeKey) where
    before_it : change_cmp (p, k) x ≡ Greater → earlier x ≡ of_p x
    before_it is = by (bytes_eq p x.0) refl
      where
        by : (b : Bool) → bytes_eq p x.0 ≡ b → (b && is_lt (moment_cmp x.1 k)) ≡ (b && true)
        by true own = ap is_lt (moment_total.antisymm x.1 k ∙ ap ordering_reverse (sym (tied x own) ∙ is))
        by false out = refl

    not_before_it : change_cmp (p, k) x ≡ Less → earlier x ≡ false
    not_before_it is = by (bytes_eq p x.0) refl
      where
        by : (b : Bool) → bytes_eq p x.0 ≡ b → (b && is_lt (moment_cmp x.1 k)) ≡ false
        by true own = ap is_lt (moment_total.antisymm x.1 k ∙ ap ordering_reverse (sym (tied x own) ∙ is))
        by false out = refl

    behind_it : change_cmp (p, k) x ≡ Less → later x ≡ of_p x
    behind_it is = by (bytes_eq p x.0) refl
      where
        by : (b : Bool) → bytes_eq p x.0 ≡ b → (b && is_lt (moment_cmp k x.1)) ≡ (b && true)
        by true own = ap is_lt (sym (tied x own) ∙ is)
        by false out = refl

    not_behind_it : change_cmp (p, k) x ≡ Greater → later x ≡ false
    not_behind_it is = by (bytes_eq p x.0) refl
      where
        by : (b : Bool) → bytes_eq p x.0 ≡ b → (b && is_lt (moment_cmp k x.1)) ≡ false
        by true own = ap is_lt (sym (tied x own) ∙ is)
        by false out = refl

  own_of : of_p (p, k) ≡ true
  own_of = ap (λ b. b && true) (own_bytes p)

  own_earlier : earlier (p, k) ≡ false
  own_earlier = ap (λ r. bytes_eq p p && is_lt r) (tied_itself moment_total k) ∙ and-false (bytes_eq p p)

  own_later : later (p, k) ≡ false
  own_later = own_earlier

module _ (before : Changes) (p : List ℕ) (k : Moment) (fresh : contains_key before (p, k) ≡ false) where
  abbrev now : Changes
  now = insert before (p, k) tt

  abbrev passing : (ChangeKey → Bool) → List Row → List Row
  passing f es = filter (λ (e : Row). f e.0) es

  pub all_now : changes_after now p None ≡ changes_before now p k ++ ((p, k), tt) ∷ changes_after now p (Some k)
  all_now =
      ap (passing (of_p p k)) (entries-insert change_total before (p, k) tt)
      ∙ parts_with change_total (of_p p k) (earlier p k) (later p k) (p, k) tt (before_it p k) (not_before_it p k) (behind_it p k) (not_behind_it p k)
      (own_of p k) (own_earlier p k) (own_later p k) (entries before) (true_of (is_sorted change_cmp (entries before)) (entries_sorted before)) (new before p k fresh)
      ∙ sym (λ i. passing (earlier p k) (entries-insert change_total before (p, k) tt i) ++ ((p, k), tt) ∷ passing (later p k) (entries-insert change_total before (p, k) tt i))

  all_before : changes_after before p None ≡ changes_before now p k ++ changes_after now p (Some k)
  all_before =
      parts_without change_total (of_p p k) (earlier p k) (later p k) (p, k) tt (before_it p k) (not_before_it p k) (behind_it p k) (not_behind_it p k)
      (own_of p k) (own_earlier p k) (own_later p k) (entries before) (true_of (is_sorted change_cmp (entries before)) (entries_sorted before)) (new before p k fresh)
      ∙ sym (λ i. passing (earlier p k) (entries-insert change_total before (p, k) tt i) ++ passing (later p k) (entries-insert change_total before (p, k) tt i))

  module _ (facts : Facts) (state : States) (deletes : Deletes) where
    abbrev moment_of : Row → Moment
    moment_of e = e.0.1

    abbrev front : List Change
    front = counted_before facts deletes now p k

    abbrev back : List Change
    back = counted_after facts deletes now p k

    abbrev said : List Row → List Change
    said es = counted facts deletes (map moment_of es)

    said-append : (es fs : List Row) → said (es ++ fs) ≡ said es ++ said fs
    said-append es fs =
        ap (counted facts deletes) (map-append moment_of es fs) ∙ counted-append facts deletes (map moment_of es) (map moment_of fs)

    pub said_before : said (changes_after before p None) ≡ front ++ back
    said_before = ap said all_before ∙ said-append (changes_before now p k) (changes_after now p (Some k))

    pub said_now : said (changes_after now p None) ≡ front ++ (counted facts deletes (k ∷ []) ++ back)
    said_now =
        ap said all_now
        ∙ said-append (changes_before now p k) (((p, k), tt) ∷ changes_after now p (Some k))
        ∙ ap (λ cs. front ++ cs) (counted-append facts deletes (k ∷ []) (map moment_of (changes_after now p (Some k))))

    -- the change gives its value
    module _ (is : IsChange facts state p k) where
      abbrev gives_it : List ℕ → List ℕ → Row → Bool
      gives_it name value e = passes (gives name value) (change_at facts e.0.1)

      pub given_now : (name value : List ℕ) → gives name value is.change ≡ true → is_given facts now name value p ≡ true
      given_now name value h =
          ap (list_any (gives_it name value)) all_now
          ∙ list_any-append (gives_it name value) (changes_before now p k) (((p, k), tt) ∷ changes_after now p (Some k))
          ∙ ap (λ (o : Option Change). list_any (gives_it name value) (changes_before now p k)
          || (passes (gives name value) o || list_any (gives_it name value) (changes_after now p (Some k))))
          (change_is facts state p k is)
          ∙ by (list_any (gives_it name value) (changes_before now p k)) (gives name value is.change)
          (list_any (gives_it name value) (changes_after now p (Some k))) h
        where
          by : (a b c : Bool) → b ≡ true → (a || (b || c)) ≡ true
          by true b c t = refl
          by false true c t = refl
          by false false c t = absurd (false≢true t)

    module _ (but : List (List ℕ)) (holders : Holders) (was : IsHeldBut but facts state deletes before holders)
        (counted_rows : AllCounted holders) where
      -- a change that doesn't count changes nothing
      pub not_counted : row_deleted facts deletes Always k.1 ≡ true → IsHeldBut but facts state deletes now holders
      not_counted gone = right_now before p k fresh facts state deletes but holders was counted_rows holders
          counted_rows
          (λ name value q h. refl)
          (λ name value h. h ∙ ap (λ cs. cond (holds_values facts state deletes p) (times_after name value cs) 0)
          (said_before ∙ sym (said_now ∙ ap (λ cs. front ++ (cs ++ back)) (none_counted_of facts deletes k gone))))
          (λ name value h. inl h)

      module _ (is : IsChange facts state p k) (live : row_deleted facts deletes Always k.1 ≡ false) (holds : holds_values facts state deletes p ≡ true) where
        with_it : said (changes_after now p None) ≡ front ++ is.change ∷ back
        with_it = said_now ∙ ap (λ cs. front ++ (cs ++ back)) (one_counted facts deletes k is.change (change_is facts state p k is) live)

        alone_times : (cs : List Change) (name value : List ℕ)
            → cond (holds_values facts state deletes p) (times_after name value cs) 0 ≡ times_after name value cs
        alone_times cs name value = ap (λ b. cond b (times_after name value cs) 0) holds

        -- the rows of its own attribute are right with it, and the others of p stay
        pub settled_late : (after : Holders) → AllCounted after → IsSettled p is.change front back holders after
            → IsHeldBut but facts state deletes now after
        settled_late after counted' f =
            right_now before p k fresh facts state deletes but holders was counted_rows after
            counted'
            (λ name value q out. f.others name value q (ap (λ b. bytes_eq name is.change.attr && b) out
            ∙ and-false (bytes_eq name is.change.attr)))
            (λ name value h. right_rows p is.change (front ++ back) (front ++ is.change ∷ back) holders after f
            (λ name value out. sym (beside_late name value is.change front back out)) name value
            (h ∙ ap (λ cs. cond (holds_values facts state deletes p) (times_after name value cs) 0) said_before
            ∙ alone_times (front ++ back) name value)
            ∙ sym (ap (λ cs. cond (holds_values facts state deletes p) (times_after name value cs) 0) with_it
            ∙ alone_times (front ++ is.change ∷ back) name value))
            (λ name value h. elim
            (given_rows p is.change (front ++ back) (front ++ is.change ∷ back) holders after f name value h) [
              | inl old ↦ inl old
              | inr own ↦ inr (
                (and_parts (says_permanode facts state p) (not (row_deleted facts deletes Always p)) holds).0,
                given_now is name value own,
              )
            ])
