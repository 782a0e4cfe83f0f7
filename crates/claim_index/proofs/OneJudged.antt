-- What the tables mean once one ref more was judged.
use Rattle.std.proofs.Common.{◌≡◌, ℕ, ℤ, Bool, true, false, ◌&&◌, ◌||◌, not, cond, List, [], ◌∷◌, ◌++◌, map, Option}
use Rattle.std.proofs.Common.{Some, None, option_and_then, is_some, refl, sym, ap, subst, ◌∙◌, ◌⊎◌, inl, inr, Result}
use Rattle.std.proofs.Common.{Ok, Err, OnOk}
use Rattle.std.proofs.lemmas.Bool.{and_parts, or_cases, false≢true}
use Rattle.std.proofs.lemmas.List.Folds.{list_any-append}
use Rattle.std.proofs.lemmas.Slice.Eq.{bytes_eq-Decides}
use Rattle.std.specs.List.{list_any}
use Rattle.std.specs.Str.{bytes_eq}
use Rattle.std.specs.FinMap.{get, contains_key}
use Rattle.claim_verify.specs.Verifier.{Accepts}
use Rattle.schema_fact.specs.declared.kinds.Fact.{Fact}
use Rattle.schema_fact.specs.declared.kinds.What.TheVariants.{Set, Add, Del, Delete, Multi}
use Rattle.schema_fact.specs.declared.kinds.Kind.{Kind}
use Rattle.schema_fact.specs.declared.kinds.Kind.TheVariants.{Plain, Key, File, Bytes, Directory, StaticSet, Permanode}
use Rattle.schema_fact.specs.declared.kinds.Kind.TheVariants.{Claim, Unread}
use Rattle.claim_model.specs.Facts.{Facts, passes}
use Rattle.claim_model.specs.Ready.{is_ready}
use Rattle.claim_model.specs.Genuine.{is_signed, is_genuine}
use Rattle.claim_model.specs.Least.{IsWithin, passes_or_in, AreReached}
use Rattle.schema_fact.specs.Changes.{changes_of}
use Rattle.claim_model.proofs.Least.{has_all-implies}
use Rattle.index_rows.specs.declared.rows.Rows.{Rows}
use Rattle.index_rows.specs.declared.rows.StateRow.{StateRow}
use Rattle.index_rows.specs.Changes.{Changes}
use Rattle.index_rows.specs.Once.{AreOnce}
use Rattle.index_rows.specs.Removals.{AreRemovals, Removals}
use Rattle.index_rows.specs.States.{States, says_genuine}
use Rattle.index_rows.specs.Values.{IsListed}
use Rattle.index_rows.specs.Waiting.{arrived}
use Rattle.index_rows.proofs.Arrived.{get-arrived, arrived_same}
use Rattle.index_rows.proofs.Once.{new-push}
use Rattle.index_meaning.specs.Meaning.{delete_date, genuine_delete, IsJudged, IsChangesOf}
use Rattle.index_meaning.specs.Steps.{IsDeletesBut}
use Rattle.index_meaning.proofs.Arriving.{arrived_is_known}
use Rattle.index_meaning.proofs.Growth.{rows_stay_listed}
use Rattle.index_meaning.proofs.Left.{fewer_are_left}
use Rattle.index_meaning.proofs.Listing.{rows_are_listed}
use Rattle.claim_index.specs.declared.judging.Judged.{Judged}
use Rattle.claim_index.specs.declared.judging.Judged.TheVariants as judged
use Rattle.claim_index.specs.Judging.{kind_judged, judged_in, fact_judged, is_signed_at, IsMarked, IsChanged, CanJudge}
use Rattle.index_meaning.specs.Touching.{concerned_by, fact_concerns}
use Rattle.claim_index.specs.Halfway.{taken, was_judged, IsGenuineDelete, IsHalfway, CanBeJudged}
use Rattle.claim_index.proofs.Judgments.{has_fact, signed_is}
use Rattle.claim_index.proofs.Orders.{new_to_fewer, new_apart, reached_from_more, not_true}
use Rattle.claim_index.proofs.Marking.{keys_stay, waits_still, counts_still}
use Rattle.claim_index.proofs.Concerning.{concerned_of, fact_concerned, held_once_judged}

pub arrived_within : (facts : Facts) (state : States) → IsWithin (arrived facts state) facts
arrived_within facts state r fact h = by (contains_key state r) (sym (get-arrived facts state r) ∙ h)
  where
    by : (b : Bool) → cond b (get facts r) None ≡ Some fact → get facts r ≡ Some fact
    by true e = e
    by false e = let d : None ≡ Some fact = e in absurd (cc d)

own : (x : List ℕ) → bytes_eq x x ≡ true
own x = (bytes_eq-Decides x x).1 refl

or_right : (a b : Bool) → b ≡ true → (a || b) ≡ true
or_right true b h = refl
or_right false b h = h

or_left : (a b : Bool) → a ≡ true → (a || b) ≡ true
or_left a b h = ap (λ c. c || b) h

not_or : (a b : Bool) → not (a || b) ≡ true → not b ≡ true
not_or true b h = absurd (false≢true h)
not_or false b h = h

or_false_right : (a b : Bool) → (a || b) ≡ false → b ≡ false
or_false_right true b h = absurd (false≢true (sym h))
or_false_right false b h = h

-- ---- what a judgment says of the kind

not_delete : (t : List ℕ) (kind : Kind) → (kind_judged kind ≡ judged.Delete → ⊥) → delete_date t kind ≡ None
not_delete t Plain h = refl
not_delete t (Key name) h = refl
not_delete t (File name parts) h = refl
not_delete t (Bytes parts) h = refl
not_delete t (Directory name listing) h = refl
not_delete t (StaticSet members) h = refl
not_delete t (Permanode signed) h = refl
not_delete t (Claim signed date (Set on attr value)) h = refl
not_delete t (Claim signed date (Add on attr value)) h = refl
not_delete t (Claim signed date (Del on attr value)) h = refl
not_delete t (Claim signed date (Delete target)) h = absurd (h refl)
not_delete t (Claim signed date (Multi changes)) h = refl
not_delete t (Unread name) h = refl

nothing_is_delete : judged.Nothing ≡ judged.Delete → ⊥
nothing_is_delete e = cc e

some_delete : (kind : Kind) → kind_judged kind ≡ judged.Delete → (target : List ℕ) × (date : ℤ)
    × (delete_date target kind ≡ Some date)
some_delete Plain h = absurd (nothing_is_delete h)
some_delete (Key name) h = absurd (nothing_is_delete h)
some_delete (File name parts) h = absurd (nothing_is_delete h)
some_delete (Bytes parts) h = absurd (nothing_is_delete h)
some_delete (Directory name listing) h = absurd (nothing_is_delete h)
some_delete (StaticSet members) h = absurd (nothing_is_delete h)
some_delete (Permanode signed) h = let e : judged.Permanode ≡ judged.Delete = h in absurd (cc e)
some_delete (Claim signed date (Set on attr value)) h = let e : judged.Changes ≡ judged.Delete = h in absurd (cc e)
some_delete (Claim signed date (Add on attr value)) h = let e : judged.Changes ≡ judged.Delete = h in absurd (cc e)
some_delete (Claim signed date (Del on attr value)) h = let e : judged.Changes ≡ judged.Delete = h in absurd (cc e)
some_delete (Claim signed date (Multi changes)) h = let e : judged.Changes ≡ judged.Delete = h in absurd (cc e)
some_delete (Claim signed date (Delete target)) h = (target, date, ap (λ b. cond b (Some date) None) (own target))
some_delete (Unread name) h = absurd (nothing_is_delete h)

-- neither a delete claim nor what is nothing concerns anyone
concerns_none : (x : List ℕ) (kind : Kind) → (kind_judged kind ≡ judged.Nothing) ⊎ (kind_judged kind ≡ judged.Delete)
    → concerned_of x kind ≡ []
concerns_none x Plain h = refl
concerns_none x (Key name) h = refl
concerns_none x (File name parts) h = refl
concerns_none x (Bytes parts) h = refl
concerns_none x (Directory name listing) h = refl
concerns_none x (StaticSet members) h = refl
concerns_none x (Permanode signed) (inl h) = let e : judged.Permanode ≡ judged.Nothing = h in absurd (cc e)
concerns_none x (Permanode signed) (inr h) = let e : judged.Permanode ≡ judged.Delete = h in absurd (cc e)
concerns_none x (Claim signed date (Set on attr value)) (inl h) = let e : judged.Changes ≡ judged.Nothing = h in
    absurd (cc e)
concerns_none x (Claim signed date (Set on attr value)) (inr h) = let e : judged.Changes ≡ judged.Delete = h in absurd
    (cc e)
concerns_none x (Claim signed date (Add on attr value)) (inl h) = let e : judged.Changes ≡ judged.Nothing = h in
    absurd (cc e)
concerns_none x (Claim signed date (Add on attr value)) (inr h) = let e : judged.Changes ≡ judged.Delete = h in absurd
    (cc e)
concerns_none x (Claim signed date (Del on attr value)) (inl h) = let e : judged.Changes ≡ judged.Nothing = h in
    absurd (cc e)
concerns_none x (Claim signed date (Del on attr value)) (inr h) = let e : judged.Changes ≡ judged.Delete = h in absurd
    (cc e)
concerns_none x (Claim signed date (Delete target)) h = refl
concerns_none x (Claim signed date (Multi changes)) (inl h) = let e : judged.Changes ≡ judged.Nothing = h in absurd
    (cc e)
concerns_none x (Claim signed date (Multi changes)) (inr h) = let e : judged.Changes ≡ judged.Delete = h in absurd
    (cc e)
concerns_none x (Unread name) h = refl

-- whom it concerns is added, where its row says that it is genuine
kind_concerns_same : (state : States) (x : List ℕ) (o : Option Fact) → says_genuine state x ≡ true
    → fact_concerns state x o ≡ fact_concerned x o
kind_concerns_same state x None h = refl
kind_concerns_same state x (Some fact) h = by fact.kind
  where
    by : (kind : Kind) → fact_concerns state x (Some (record { size = fact.size; kind = kind })) ≡ concerned_of x kind
    by Plain = refl
    by (Key name) = refl
    by (File name parts) = refl
    by (Bytes parts) = refl
    by (Directory name listing) = refl
    by (StaticSet members) = refl
    by (Permanode signed) = refl
    by (Claim signed date what) = ap (λ b. cond b (map (λ change. change.on) (changes_of what)) []) h
    by (Unread name) = refl

-- ---- one step

abbrev pub with_judged : Rows → States → Changes → Removals → Rows
with_judged rows state changes removals = record {
  facts = rows.facts;
  state = state;
  waiters = rows.waiters;
  deletes
      = rows.deletes;
  changes = changes;
  removals = removals;
  holders = rows.holders;
}

module _ (accepts : Accepts) (rows : Rows) (x : List ℕ) (left deletes concerned : List (List ℕ))
    (h : IsHalfway accepts (x ∷ left) deletes concerned rows) (can : CanBeJudged (x ∷ left) rows) where
  x_apart : list_any (bytes_eq x) left ≡ false
  x_apart = new_apart (λ r. false) (x ∷ []) left can.once.1 x (or_left (bytes_eq x x) false (own x))

  left_once : AreOnce left
  left_once = new_to_fewer (λ r. false) (λ r. false) (x ∷ []) [] left (λ y t. t) (λ y t. absurd (false≢true t))
      can.once.1

  x_ready : is_ready (taken rows) x ≡ true
  x_ready = can.ready x (or_left (bytes_eq x x) (list_any (bytes_eq x) left) (own x))

  pub can_judge : CanJudge (taken rows) rows.facts.ordered rows.state left x
  can_judge = record {
    within = arrived_within rows.facts.ordered rows.state;
    ready = x_ready;
    known = λ y t. arrived_is_known rows.facts.ordered rows.state h.waiting.known y ∙ t;
    before = has_all-implies (taken rows) (passes_or_in (was_judged rows (x ∷ left)) [])
        (λ d. not (list_any (bytes_eq d) (x ∷ left)))
        (λ d t. (and_parts (is_ready (taken rows) d) (not (list_any (bytes_eq d) (x ∷ left)))
        (one (was_judged rows (x ∷ left) d) t)).1) x can.reached.0;
    once = x_apart;
  }
    where
      one : (a : Bool) → (a || false) ≡ true → a ≡ true
      one true t = refl
      one false t = t

  pub fresh : says_genuine rows.state x ≡ false
  fresh = by (get rows.state x) refl
    where
      by : (o : Option StateRow) → get rows.state x ≡ o → passes (λ (row : StateRow). row.genuine) o ≡ false
      by None is = refl
      by (Some row) is = h.judged.genuine x row is ∙ none (is_genuine (taken rows) accepts x)
          (list_any (bytes_eq x) (x ∷ left)) (or_left (bytes_eq x x) _ (own x))
        where
          none : (a b : Bool) → b ≡ true → (a && not b) ≡ false
          none true b t = ap not t
          none false b t = refl

  pub listed_now : IsListed rows.facts.ordered rows.state rows.changes
  listed_now = rows_stay_listed (taken rows) rows.facts.ordered rows.state rows.state rows.changes
      (arrived_within rows.facts.ordered rows.state) (λ y t. t)
      (rows_are_listed (taken rows) accepts (x ∷ left) rows.state rows.changes
      (arrived_is_known rows.facts.ordered rows.state h.waiting.known) h.judged h.changed)

  module _ (state : States) (changes : Changes) (removals : Removals)
      (marks : IsMarked rows.facts.ordered accepts rows.state state x)
      (puts : IsChanged rows.facts.ordered accepts rows.changes changes x)
      (removed : AreRemovals rows.facts.ordered changes removals)
      (judged_now : IsJudged (taken rows) accepts left state)
      (changed_now : IsChangesOf (taken rows) accepts left changes) where
    keys : (y : List ℕ) → contains_key state y ≡ contains_key rows.state y
    keys = keys_stay rows.facts.ordered accepts rows.state state x marks

    same : taken rows ≡ taken (with_judged rows state changes removals)
    same = sym (arrived_same rows.facts.ordered state rows.state keys)

    -- what is left can be judged next
    pub can_go_on : CanBeJudged left (with_judged rows state changes removals)
    can_go_on = record {
      ready = λ y t. ap (λ (at : Facts). is_ready at y) (sym same)
          ∙ can.ready y (or_right (bytes_eq y x) (list_any (bytes_eq y) left) t);
      reached = subst (λ (at : Facts). AreReached at (λ y. is_ready at y && not (list_any (bytes_eq y) left)) [] left)
          same
          (reached_from_more (taken rows) (was_judged rows (x ∷ left)) (was_judged rows left) (x ∷ []) [] left more
          can.reached.1);
      once = left_once;
    }
      where
        more : (y : List ℕ) → passes_or_in (was_judged rows (x ∷ left)) (x ∷ []) y ≡ true
            → passes_or_in (was_judged rows left) [] y ≡ true
        more y t = or_left (was_judged rows left y) false (by
            (or_cases (was_judged rows (x ∷ left) y) (list_any (bytes_eq y) (x ∷ [])) t))
          where
            by : (was_judged rows (x ∷ left) y ≡ true) ⊎ (list_any (bytes_eq y) (x ∷ []) ≡ true)
                → was_judged rows left y ≡ true
            by (inl a) =
                let parts = and_parts (is_ready (taken rows) y) (not (list_any (bytes_eq y) (x ∷ left))) a in
                λ i. parts.0 i && not_or (bytes_eq y x) (list_any (bytes_eq y) left) parts.1 i
            by (inr b) = ap (was_judged rows left) ((bytes_eq-Decides y x).0 (sure (bytes_eq y x) b))
                ∙ (λ i. x_ready i && not (x_apart i))
              where
                sure : (a : Bool) → (a || false) ≡ true → a ≡ true
                sure true t = refl
                sure false t = t

    -- whatever of the delete claims is left, and whoever is concerned
    after : (deletes_now concerned_now : List (List ℕ)) → IsDeletesBut (left ++ deletes_now) (taken rows) accepts
        rows.deletes
        → ((d : List ℕ) → list_any (bytes_eq d) deletes_now ≡ true → IsGenuineDelete (taken rows) accepts d)
        → AreOnce deletes_now → ((d : List ℕ) → list_any (bytes_eq d) deletes_now ≡ true
        → list_any (bytes_eq d) left ≡ false)
        → ((q : List ℕ) → list_any (bytes_eq q) concerned ≡ true → list_any (bytes_eq q) concerned_now ≡ true)
        → ((q : List ℕ) → is_signed_at rows.facts.ordered accepts x ≡ true
        → list_any (bytes_eq q) (fact_concerned x (get rows.facts.ordered x)) ≡ true
        → list_any (bytes_eq q) concerned_now ≡ true)
        → IsHalfway accepts left deletes_now concerned_now (with_judged rows state changes removals)
    after deletes_now concerned_now but claims once apart wider covers = record {
      waiting = waits_still rows.facts.ordered accepts rows.state state x marks rows.facts.ordered rows.waiters
          h.waiting;
      counted = counts_still rows.facts.ordered accepts rows.state state x marks rows.facts.ordered rows.deletes
          h.counted;
      judged = subst (λ (at : Facts). IsJudged at accepts left state) same judged_now;
      changed = subst (λ (at : Facts). IsChangesOf at accepts left changes) same changed_now;
      deleted = subst (λ (at : Facts). IsDeletesBut (left ++ deletes_now) at accepts rows.deletes) same but;
      claims = λ d t. subst (λ (at : Facts). IsGenuineDelete at accepts d) same (claims d t);
      once = once;
      apart = apart;
      held = held_once_judged rows.facts.ordered accepts rows.state state rows.changes changes x marks puts fresh
          concerned_now covers concerned rows.deletes rows.holders wider listed_now h.held;
      removals = removed;
    }

    still_apart : (d : List ℕ) → list_any (bytes_eq d) deletes ≡ true → list_any (bytes_eq d) left ≡ false
    still_apart d t = or_false_right (bytes_eq d x) (list_any (bytes_eq d) left) (h.apart d t)

    held_fact : (fact : Fact) × (get (taken rows) x ≡ Some fact)
    held_fact = let own_fact = has_fact (taken rows) x x_ready in (own_fact.0, own_fact.1)

    in_facts : get rows.facts.ordered x ≡ Some held_fact.0
    in_facts = arrived_within rows.facts.ordered rows.state x held_fact.0 held_fact.1

    signed_same : is_signed_at rows.facts.ordered accepts x ≡ is_genuine (taken rows) accepts x
    signed_same = signed_is (taken rows) rows.facts.ordered accepts rows.state left x can_judge

    -- it is judged by its kind where it is signed
    by_kind : is_signed_at rows.facts.ordered accepts x ≡ true
        → judged_in rows.facts.ordered accepts x ≡ kind_judged held_fact.0.kind
    by_kind t = ap (fact_judged rows.facts.ordered accepts) in_facts
        ∙ ap (λ b. cond b (kind_judged held_fact.0.kind) judged.Nothing)
        (sym (ap (passes (is_signed rows.facts.ordered accepts)) in_facts) ∙ t)

    concerned_here : fact_concerned x (get rows.facts.ordered x) ≡ concerned_of x held_fact.0.kind
    concerned_here = ap (fact_concerned x) in_facts

    -- where it is no genuine delete claim, none is left more or less
    pub stays_as_it_is : (concerned_now : List (List ℕ)) → (judged_in rows.facts.ordered accepts x ≡ judged.Delete → ⊥)
        → ((q : List ℕ) → list_any (bytes_eq q) concerned ≡ true → list_any (bytes_eq q) concerned_now ≡ true)
        → ((q : List ℕ) → is_signed_at rows.facts.ordered accepts x ≡ true
        → list_any (bytes_eq q) (fact_concerned x (get rows.facts.ordered x)) ≡ true
        → list_any (bytes_eq q) concerned_now ≡ true)
        → IsHalfway accepts left deletes concerned_now (with_judged rows state changes removals)
    stays_as_it_is concerned_now never wider covers =
        after deletes concerned_now
        (fewer_are_left ((x ∷ left) ++ deletes) (left ++ deletes) (taken rows) accepts rows.deletes h.deleted
        (λ d t. or_right (bytes_eq d x) (list_any (bytes_eq d) (left ++ deletes)) t)
        (λ t d there out. none t d (sure (bytes_eq d x) (list_any (bytes_eq d) (left ++ deletes)) there out)))
        h.claims h.once still_apart wider covers
      where
        sure : (a b : Bool) → (a || b) ≡ true → b ≡ false → a ≡ true
        sure true b t f = refl
        sure false b t f = absurd (false≢true (sym f ∙ t))

        no_date : (t : List ℕ) (b : Bool) → is_genuine (taken rows) accepts x ≡ b
            → cond b (option_and_then (λ (fact : Fact). delete_date t fact.kind) (get (taken rows) x)) None ≡ None
        no_date t true is = ap (option_and_then (λ (fact : Fact). delete_date t fact.kind)) held_fact.1
            ∙ not_delete t held_fact.0.kind (λ e. never (by_kind (signed_same ∙ is) ∙ e))
        no_date t false is = refl

        none : (t d : List ℕ) → bytes_eq d x ≡ true → genuine_delete (taken rows) accepts t d ≡ None
        none t d e = ap (genuine_delete (taken rows) accepts t) ((bytes_eq-Decides d x).0 e)
            ∙ no_date t (is_genuine (taken rows) accepts x) refl

    pub nothing_more : judged_in rows.facts.ordered accepts x ≡ judged.Nothing
        → IsHalfway accepts left deletes concerned (with_judged rows state changes removals)
    nothing_more is = stays_as_it_is concerned (λ e. nothing_is_delete (sym is ∙ e)) (λ q t. t)
        (λ q signed t. absurd (false≢true
        (sym (ap (list_any (bytes_eq q)) (concerned_here ∙ concerns_none x held_fact.0.kind
        (inl (sym (by_kind signed) ∙ is)))) ∙ t)))

    pub concerns_more : (judged_in rows.facts.ordered accepts x ≡ judged.Delete → ⊥)
        → IsHalfway accepts left deletes (concerned ++ concerned_by rows.facts.ordered state x)
        (with_judged rows state changes removals)
    concerns_more never = stays_as_it_is (concerned ++ concerned_by rows.facts.ordered state x) never
        (λ q t. list_any-append (bytes_eq q) concerned _ ∙ or_left (list_any (bytes_eq q) concerned) _ t)
        (λ q signed t. list_any-append (bytes_eq q) concerned _
        ∙ or_right (list_any (bytes_eq q) concerned) _ (ap (list_any (bytes_eq q))
        (kind_concerns_same state x (get rows.facts.ordered x) (genuine_now signed)) ∙ t))
      where
        genuine_now : is_signed_at rows.facts.ordered accepts x ≡ true → says_genuine state x ≡ true
        genuine_now signed = by (get state x) refl
          where
            there : is_some (get state x) ≡ true
            there = keys x ∙ arrived_is_known rows.facts.ordered rows.state h.waiting.known x ∙ ap is_some held_fact.1

            by : (o : Option StateRow) → get state x ≡ o → passes (λ (row : StateRow). row.genuine) o ≡ true
            by None is = absurd (false≢true (sym (ap is_some is) ∙ there))
            by (Some row) is = judged_now.genuine x row is ∙ (λ i. (sym signed_same ∙ signed) i && not (x_apart i))

    -- a genuine delete claim joins those that are left to be entered
    pub delete_more : judged_in rows.facts.ordered accepts x ≡ judged.Delete
        → IsHalfway accepts left (deletes ++ x ∷ []) concerned (with_judged rows state changes removals)
    delete_more is =
        after (deletes ++ x ∷ []) concerned
        (fewer_are_left ((x ∷ left) ++ deletes) (left ++ (deletes ++ x ∷ [])) (taken rows) accepts rows.deletes
        h.deleted
        (λ d t. sym (moved d) ∙ t) (λ t d there out. absurd (false≢true (sym out ∙ (moved d ∙ there)))))
        (λ d t. by d (or_cases (list_any (bytes_eq d) deletes) (list_any (bytes_eq d) (x ∷ []))
        (sym (list_any-append (bytes_eq d) deletes (x ∷ [])) ∙ t)))
        (new-push (λ r. false) [] deletes x h.once (not_true (list_any (bytes_eq x) deletes)
        (λ t. false≢true (sym (h.apart x t) ∙ or_left (bytes_eq x x) _ (own x)))))
        (λ d t. apart d (or_cases (list_any (bytes_eq d) deletes) (list_any (bytes_eq d) (x ∷ []))
        (sym (list_any-append (bytes_eq d) deletes (x ∷ [])) ∙ t)))
        (λ q t. t)
        (λ q signed t. absurd (false≢true (sym (ap (list_any (bytes_eq q))
        (concerned_here ∙ concerns_none x held_fact.0.kind (inr (sym (by_kind signed) ∙ is)))) ∙ t)))
      where
        sure : (a : Bool) → (a || false) ≡ true → a ≡ true
        sure true t = refl
        sure false t = t

        -- the same refs, in another order
        turned : (a b c : Bool) → (b || (c || (a || false))) ≡ (a || (b || c))
        turned true true c = refl
        turned true false true = refl
        turned true false false = refl
        turned false true c = refl
        turned false false true = refl
        turned false false false = refl

        moved : (d : List ℕ) → list_any (bytes_eq d) (left ++ (deletes ++ x ∷ [])) ≡ list_any (bytes_eq d)
            ((x ∷ left) ++ deletes)
        moved d =
            list_any-append (bytes_eq d) left (deletes ++ x ∷ [])
            ∙ ap (λ b. list_any (bytes_eq d) left || b) (list_any-append (bytes_eq d) deletes (x ∷ []))
            ∙ turned (bytes_eq d x) (list_any (bytes_eq d) left) (list_any (bytes_eq d) deletes)
            ∙ ap (λ b. bytes_eq d x || b) (sym (list_any-append (bytes_eq d) left deletes))

        signed_true : is_signed_at rows.facts.ordered accepts x ≡ true
        signed_true = from (passes (is_signed rows.facts.ordered accepts) (get rows.facts.ordered x)) refl
          where
            from : (b : Bool) → passes (is_signed rows.facts.ordered accepts) (get rows.facts.ordered x) ≡ b
                → is_signed_at rows.facts.ordered accepts x ≡ true
            from true e = e
            from false e = absurd (nothing_is_delete (sym (ap (fact_judged rows.facts.ordered accepts) in_facts
                ∙ ap (λ b. cond b (kind_judged held_fact.0.kind) judged.Nothing)
                (sym (ap (passes (is_signed rows.facts.ordered accepts)) in_facts) ∙ e)) ∙ is))

        this_one : IsGenuineDelete (taken rows) accepts x
        this_one =
            let found = some_delete held_fact.0.kind (sym (by_kind signed_true) ∙ is) in
            record {
              target = found.0;
              date = found.1;
              says = ap (λ b. cond b (option_and_then (λ (fact : Fact). delete_date found.0 fact.kind)
                  (get (taken rows) x)) None) (sym signed_same ∙ signed_true)
                  ∙ ap (option_and_then (λ (fact : Fact). delete_date found.0 fact.kind)) held_fact.1 ∙ found.2;
            }

        by : (d : List ℕ) → (list_any (bytes_eq d) deletes ≡ true) ⊎ (list_any (bytes_eq d) (x ∷ []) ≡ true)
            → IsGenuineDelete (taken rows) accepts d
        by d (inl a) = h.claims d a
        by d (inr b) = subst (IsGenuineDelete (taken rows) accepts)
            (sym ((bytes_eq-Decides d x).0 (sure (bytes_eq d x) b))) this_one

        apart : (d : List ℕ) → (list_any (bytes_eq d) deletes ≡ true) ⊎ (list_any (bytes_eq d) (x ∷ []) ≡ true)
            → list_any (bytes_eq d) left ≡ false
        apart d (inl a) = still_apart d a
        apart d (inr b) = ap (λ z. list_any (bytes_eq z) left) ((bytes_eq-Decides d x).0 (sure (bytes_eq d x) b))
            ∙ x_apart

-- where nothing but these two tables changed
pub judged_is : (rows new : Rows) → new.facts ≡ rows.facts → new.waiters ≡ rows.waiters → new.deletes ≡ rows.deletes
    → new.holders ≡ rows.holders
    → with_judged rows new.state new.changes new.removals ≡ new
judged_is rows new facts waiters deletes holders = λ i.
    record {
      facts = sym facts i;
      state = new.state;
      waiters = sym waiters i;
      deletes = sym deletes i;
      changes =
          new.changes;
      removals = new.removals;
      holders = sym holders i;
    }

-- a permanode or attribute claim is no delete claim
pub others_are_no_delete : {j : Judged} → (j ≡ judged.Permanode) ⊎ (j ≡ judged.Changes) → j ≡ judged.Delete → ⊥
others_are_no_delete (inl is) e = let d : judged.Permanode ≡ judged.Delete = sym is ∙ e in cc d
others_are_no_delete (inr is) e = let d : judged.Changes ≡ judged.Delete = sym is ∙ e in cc d

pub ok_then : {T E P Q : Type 0} (r : Result T E) → (P → Q) → OnOk r P → OnOk r Q
ok_then (Ok x) f p = f p
ok_then (Err e) f p = tt
