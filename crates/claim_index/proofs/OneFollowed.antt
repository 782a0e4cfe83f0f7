-- What the tables mean once a claim was judged, and what its change does to the rows of holders was written at once.
use Rattle.std.proofs.Common.{◌≡◌, ℕ, ℤ, zero, suc, Bool, true, false, ◌&&◌, ◌||◌, not, cond, List, [], ◌∷◌, ◌++◌, map}
use Rattle.std.proofs.Common.{arith, Option, Some, None, option_and_then, is_some, refl, sym, ap, subst, ◌∙◌, ◌⊎◌, inl}
use Rattle.std.proofs.Common.{inr}
use Rattle.std.specs.Prelude.{slice_get}
use Rattle.std.proofs.lemmas.Bool.{and_parts, and_from, false≢true, cases_Bool}
use Rattle.std.proofs.lemmas.Option.{same_Some}
use Rattle.std.proofs.lemmas.Slice.Eq.{bytes_eq-Decides}
use Rattle.std.proofs.lemmas.Cmp.{int_cmp_total}
use Rattle.std.specs.List.{list_any}
use Rattle.std.specs.Str.{bytes_eq}
use Rattle.std.specs.Ordering.{is_eq, int_cmp, eq_by_cmp}
use Rattle.std.specs.Cmp.{eq_by_cmp_equiv, both_ways}
use Rattle.std.specs.FinMap.{get, insert, contains_key, same_map, int_cmp-IsAntisymmetric}
use Rattle.claim_verify.specs.Verifier.{Accepts}
use Rattle.schema_fact.specs.declared.kinds.Fact.{Fact}
use Rattle.schema_fact.specs.declared.kinds.Signed.{Signed}
use Rattle.schema_fact.specs.declared.kinds.What.{What}
use Rattle.schema_fact.specs.declared.kinds.Kind.{Kind}
use Rattle.schema_fact.specs.declared.kinds.Kind.TheVariants.{Plain, Key, File, Bytes, Directory, StaticSet, Permanode}
use Rattle.schema_fact.specs.declared.kinds.Kind.TheVariants.{Claim, Unread}
use Rattle.claim_model.specs.Facts.{Facts, passes, is_permanode}
use Rattle.schema_fact.specs.Changes.{changes_of}
use Rattle.schema_fact.specs.declared.changes.Change.{Change}
use Rattle.claim_model.specs.Claims.{Moment}
use Rattle.claim_model.specs.Genuine.{is_signed}
use Rattle.index_look.proofs.Order.{is_Equal}
use Rattle.index_rows.specs.declared.rows.Rows.{Rows}
use Rattle.index_rows.specs.declared.rows.StateRow.{StateRow}
use Rattle.index_rows.specs.Changes.{Changes, ChangeKey, change_cmp}
use Rattle.index_rows.specs.Holders.{Holders, says_permanode, IsHeldBut}
use Rattle.index_rows.specs.Removals.{AreRemovals, Removals}
use Rattle.index_rows.specs.States.{States, says_genuine}
use Rattle.index_rows.specs.Values.{IsListed, row_values}
use Rattle.index_rows.specs.Deletes.{row_deleted}
use Rattle.schema_date.specs.declared.date.When.TheVariants.{Always}
use Rattle.index_rows.specs.Touched.{kind_changes, fact_changes, changed_by}
use Rattle.index_rows.proofs.Counting.{contains-insert}
use Rattle.index_rows.proofs.Orders.{change_total, change_same}
use Rattle.index_meaning.specs.Meaning.{is_change_on, IsJudged, IsChangesOf}
use Rattle.index_meaning.specs.Touching.{concerned_by}
use Rattle.index_meaning.proofs.Arriving.{arrived_is_known, all_have_arrived}
use Rattle.index_meaning.proofs.Grouped.{group_count}
use Rattle.index_meaning.proofs.Growth.{rows_stay_listed}
use Rattle.index_meaning.proofs.Listing.{rows_are_listed}
use Rattle.attr_fold.specs.Following.{IsOneMore}
use Rattle.claim_index.specs.declared.judging.Judged.TheVariants as judged
use Rattle.claim_index.specs.Judging.{kind_judged, judged_in, fact_judged, is_signed_at, fits_at, marked, IsMarked}
use Rattle.claim_index.specs.Judging.{IsChanged}
use Rattle.claim_index.specs.Following.{only_change, kind_change, change_by, AreFew, CanBeFollowed, IsNumbered, IsTaken}
use Rattle.claim_index.specs.Following.{written, left as was_left}
use Rattle.claim_index.specs.Costs.{AddsFor, AreTaken}
use Rattle.claim_index.specs.Halfway.{taken, IsHalfway, CanBeJudged}
use Rattle.claim_index.proofs.AddTicks.{adds_nothing, adds_concerned}
use Rattle.claim_index.proofs.OneJudged.{arrived_within, fresh, listed_now, with_judged, concerns_more}
use Rattle.claim_index.proofs.OneJudged.{others_are_no_delete}
use Rattle.claim_index.proofs.Refolds.{same_rows, IsSameBeside}

pub own_bytes : (x : List ℕ) → bytes_eq x x ≡ true
own_bytes x = (bytes_eq-Decides x x).1 refl

-- ---- the change of a claim

-- the moment is that of the only change of x, which is no permanode
pub record IsItsChange (x : List ℕ) (kind : Kind) (p : List ℕ) (k : Moment) : Type 0 where
  pub claim : k.1 ≡ x
  pub own : is_change_on p k kind ≡ true
  pub one : (q : List ℕ) (j : Moment) → is_change_on q j kind ≡ true → j.1 ≡ x → ◌≡◌ {A = ChangeKey} (q, j) (p, k)
  pub none : is_permanode kind ≡ false

module _ (x : List ℕ) (signed : Signed) (date : ℤ) (what : What) (change : Change) where
  abbrev claim_kind : Kind
  claim_kind = Claim signed date what

  abbrev moment : Moment
  moment = (date, x, 0)

  module _ (alone : changes_of what ≡ change ∷ []) where
    first_alone : (q : List ℕ) (n : ℕ) → passes (λ (c : Change). bytes_eq q c.on) (slice_get (change ∷ []) n) ≡ true
        → (q ≡ change.on) × (n ≡ 0)
    first_alone q zero h = ((bytes_eq-Decides q change.on).0 h, refl)
    first_alone q (suc n) h = absurd (false≢true h)

    its_change : IsItsChange x claim_kind change.on moment
    its_change = record {
      claim = refl;
      own = and_from (is_eq (int_cmp date date)) _ ((eq_by_cmp_equiv int_cmp_total).refl date)
          (ap (λ (cs : List Change). passes (λ (c : Change). bytes_eq change.on c.on) (slice_get cs 0)) alone
          ∙ own_bytes change.on);
      one = λ q j h of.
          let parts = and_parts (is_eq (int_cmp j.0 date)) (passes (λ (c : Change). bytes_eq q c.on)
          (slice_get (changes_of what) j.2)) h in
          let there = first_alone q j.2 (ap (λ (cs : List Change). passes (λ (c : Change). bytes_eq q c.on)
          (slice_get cs j.2)) (sym alone) ∙ parts.1) in
          let day = int_cmp-IsAntisymmetric j.0 date (is_Equal (int_cmp j.0 date) parts.0) in
          λ i. (there.0 i, (day i, of i, there.1 i));
      none = refl;
    }

    of_change : (p : List ℕ) (k : Moment) → ◌≡◌ {A = Option (List ℕ × Moment)} (Some (change.on, moment))
        (Some (p, k)) → IsItsChange x claim_kind p k
    of_change p k h =
        let same : ◌≡◌ {A = List ℕ × Moment} (change.on, moment) (p, k) = same_Some (change.on, moment) (p, k) h in
        subst (λ (t : List ℕ × Moment). IsItsChange x claim_kind t.0 t.1) same its_change

changes_its : (x : List ℕ) (signed : Signed) (date : ℤ) (what : What) (p : List ℕ) (k : Moment) (cs : List Change)
    → changes_of what ≡ cs
    → ◌≡◌ {A = Option (List ℕ × Moment)} (only_change x date cs) (Some (p, k))
    → IsItsChange x (Claim signed date what) p k
changes_its x signed date what p k [] alone h = absurd (false≢true (ap is_some h))
changes_its x signed date what p k (c ∷ []) alone h = of_change x signed date what c alone p k h
changes_its x signed date what p k (c ∷ d ∷ cs) alone h = absurd (false≢true (ap is_some h))

kind_its : (x : List ℕ) (kind : Kind) (p : List ℕ) (k : Moment)
    → ◌≡◌ {A = Option (List ℕ × Moment)} (kind_change x kind) (Some (p, k)) → IsItsChange x kind p k
kind_its x Plain p k h = absurd (false≢true (ap is_some h))
kind_its x (Key name) p k h = absurd (false≢true (ap is_some h))
kind_its x (File name parts) p k h = absurd (false≢true (ap is_some h))
kind_its x (Bytes parts) p k h = absurd (false≢true (ap is_some h))
kind_its x (Directory name listing) p k h = absurd (false≢true (ap is_some h))
kind_its x (StaticSet members) p k h = absurd (false≢true (ap is_some h))
kind_its x (Permanode signed) p k h = absurd (false≢true (ap is_some h))
kind_its x (Claim signed date what) p k h = changes_its x signed date what p k (changes_of what) refl h
kind_its x (Unread name) p k h = absurd (false≢true (ap is_some h))

-- the same of what stands under x
pub record IsChangeOf (facts : Facts) (x p : List ℕ) (k : Moment) : Type 0 where
  pub fact : Fact
  pub found : get facts x ≡ Some fact
  pub its : IsItsChange x fact.kind p k

pub change_of : (facts : Facts) (x p : List ℕ) (k : Moment) → ◌≡◌ {A = Option (List ℕ × Moment)} (change_by facts x)
    (Some (p, k)) → IsChangeOf facts x p k
change_of facts x p k h = by (get facts x) refl
    h
  where
    by : (o : Option Fact) → get facts x ≡ o → ◌≡◌ {A = Option (List ℕ × Moment)}
        (option_and_then (λ (fact : Fact). kind_change x fact.kind) o) (Some (p, k)) → IsChangeOf facts x p k
    by None is h = absurd (false≢true (ap is_some h))
    by (Some fact) is h = record { fact = fact; found = is; its = kind_its x fact.kind p k h }

-- ---- judged

unit_same : (a b : Option (Unit {0})) → is_some a ≡ is_some b → a ≡ b
unit_same None None h = refl
unit_same None (Some x) h = absurd (false≢true h)
unit_same (Some x) None h = absurd (false≢true (sym h))
unit_same (Some x) (Some y) h = refl

-- what is known once x was judged to be an attribute claim
pub record IsJudgedClaim (accepts : Accepts) (old : Rows) (left deletes concerned : List (List ℕ)) (x : List ℕ)
    (rows : Rows) : Type 0 where
  pub more : IsHalfway accepts left deletes (concerned ++ concerned_by rows.facts.ordered rows.state x) rows
  pub able : CanBeFollowed rows x
  pub one : (p : List ℕ) (k : Moment) → ◌≡◌ {A = Option (List ℕ × Moment)} (change_by rows.facts.ordered x)
      (Some (p, k)) → IsOneMore old.changes rows.changes p k
  pub held : (p : List ℕ) (k : Moment) → ◌≡◌ {A = Option (List ℕ × Moment)} (change_by rows.facts.ordered x)
      (Some (p, k))
      → IsHeldBut concerned rows.facts.ordered rows.state rows.deletes old.changes rows.holders

module _ (accepts : Accepts) (rows : Rows) (x : List ℕ) (left deletes concerned : List (List ℕ))
    (h : IsHalfway accepts (x ∷ left) deletes concerned rows) (can : CanBeJudged (x ∷ left) rows)
    (state : States) (changes : Changes) (removals : Removals)
    (marks : IsMarked rows.facts.ordered accepts rows.state state x)
    (puts : IsChanged rows.facts.ordered accepts rows.changes changes x)
    (removed : AreRemovals rows.facts.ordered changes removals)
    (judged_now : IsJudged (taken rows) accepts left state)
    (changed_now : IsChangesOf (taken rows) accepts left changes)
    (is : judged_in rows.facts.ordered accepts x ≡ judged.Changes) where
  abbrev rows_now : Rows
  rows_now = with_judged rows state changes removals

  more_now : IsHalfway accepts left deletes (concerned ++ concerned_by rows.facts.ordered state x) rows_now
  more_now = concerns_more accepts rows x left deletes concerned h can state changes removals marks puts removed
      judged_now changed_now (others_are_no_delete (inr is))

  listed_after : IsListed rows.facts.ordered state changes
  listed_after = rows_stay_listed (taken rows_now) rows.facts.ordered state state changes
      (arrived_within rows.facts.ordered state) (λ y t. t)
      (rows_are_listed (taken rows_now) accepts left state changes
      (arrived_is_known rows.facts.ordered state more_now.waiting.known) more_now.judged more_now.changed)

  signed_here : is_signed_at rows.facts.ordered accepts x ≡ true
  signed_here = by (get rows.facts.ordered x) is
    where
      by : (o : Option Fact) → fact_judged rows.facts.ordered accepts o ≡ judged.Changes
          → passes (is_signed rows.facts.ordered accepts) o ≡ true
      by None e = let d : judged.Nothing ≡ judged.Changes = e in absurd (cc d)
      by (Some fact) e = on (is_signed rows.facts.ordered accepts fact) e
        where
          on : (b : Bool) → cond b (kind_judged fact.kind) judged.Nothing ≡ judged.Changes → b ≡ true
          on true e = refl
          on false e = let d : judged.Nothing ≡ judged.Changes = e in absurd (cc d)

  module _ (p : List ℕ) (k : Moment) (says : ◌≡◌ {A = Option (List ℕ × Moment)} (change_by rows.facts.ordered x)
      (Some (p, k))) where
    of : IsChangeOf rows.facts.ordered x p k
    of = change_of rows.facts.ordered x p k says

    abbrev on_it : List ℕ → Moment → Bool
    on_it q j = passes (λ (fact : Fact). is_change_on q j fact.kind) (get rows.facts.ordered x)

    own_here : (bytes_eq k.1 x && (is_signed_at rows.facts.ordered accepts x && on_it p k)) ≡ true
    own_here = and_from (bytes_eq k.1 x) _ (ap (λ r. bytes_eq r x) of.its.claim ∙ own_bytes x)
        (and_from (is_signed_at rows.facts.ordered accepts x) (on_it p k) signed_here
        (ap (passes (λ (fact : Fact). is_change_on p k fact.kind)) of.found ∙ of.its.own))

    put_here : contains_key changes (p, k) ≡ true
    put_here = puts p k ∙ ap (λ b. contains_key rows.changes (p, k) || b) own_here
        ∙ always (contains_key rows.changes (p, k))
      where
        always : (b : Bool) → (b || true) ≡ true
        always true = refl
        always false = refl

    -- it had no row before
    was_new : contains_key rows.changes (p, k) ≡ false
    was_new = by (contains_key rows.changes (p, k)) refl
      where
        by : (b : Bool) → contains_key rows.changes (p, k) ≡ b → contains_key rows.changes (p, k) ≡ false
        by true t = absurd (false≢true (sym (fresh accepts rows x left deletes concerned h can)
            ∙ ap (says_genuine rows.state) (sym of.its.claim)
            ∙ (listed_now accepts rows x left deletes concerned h can p k t).genuine))
        by false f = f

    same_test : (q : ChangeKey) → (bytes_eq q.1.1 x && (is_signed_at rows.facts.ordered accepts x && on_it q.0 q.1))
        ≡ eq_by_cmp change_cmp q (p, k)
    same_test q = both_ways (bytes_eq q.1.1 x && (is_signed_at rows.facts.ordered accepts x && on_it q.0 q.1))
        (eq_by_cmp change_cmp q (p, k))
        (λ t. let first = and_parts (bytes_eq q.1.1 x) (is_signed_at rows.facts.ordered accepts x && on_it q.0 q.1) t in
        let second = and_parts (is_signed_at rows.facts.ordered accepts x) (on_it q.0 q.1) first.1 in
        let same : ◌≡◌ {A = ChangeKey} q (p, k) = of.its.one q.0 q.1
        (ap (passes (λ (fact : Fact). is_change_on q.0 q.1 fact.kind)) (sym of.found) ∙ second.1)
        ((bytes_eq-Decides q.1.1 x).0 first.0) in
        ap (λ (r : ChangeKey). eq_by_cmp change_cmp r (p, k)) same ∙ (eq_by_cmp_equiv change_total).refl (p, k))
        (λ t. let same : ◌≡◌ {A = ChangeKey} q (p, k) = change_same q (p, k) (is_Equal (change_cmp q (p, k)) t) in
        ap (λ (r : ChangeKey). bytes_eq r.1.1 x && (is_signed_at rows.facts.ordered accepts x && on_it r.0 r.1)) same
        ∙ own_here)

    turned : (a b : Bool) → (a || b) ≡ (b || a)
    turned true true = refl
    turned true false = refl
    turned false true = refl
    turned false false = refl

    one_more : IsOneMore rows.changes changes p k
    one_more = record {
      fresh = was_new;
      more = same_map change_total change_same changes (insert rows.changes (p, k) tt)
          (λ q. unit_same (get changes q) (get (insert rows.changes (p, k) tt) q)
          (puts q.0 q.1 ∙ ap (λ b. contains_key rows.changes q || b) (same_test q)
          ∙ turned (contains_key rows.changes q) (eq_by_cmp change_cmp q (p, k))
          ∙ sym (contains-insert change_total change_same rows.changes (p, k) tt q)));
    }

    -- a claim is no permanode, so its mark leaves what permanodes' rows say
    same_says : (q : List ℕ) → says_permanode rows.facts.ordered state q ≡ says_permanode rows.facts.ordered
        rows.state q
    same_says q = by (cases_Bool (bytes_eq q x))
      where
        by : (bytes_eq q x ≡ true) ⊎ (bytes_eq q x ≡ false) → says_permanode rows.facts.ordered state
            q ≡ says_permanode rows.facts.ordered rows.state q
        by (inl t) =
            let own : q ≡ x = (bytes_eq-Decides q x).0 t in
            let out : passes (λ (fact : Fact). is_permanode fact.kind) (get rows.facts.ordered q) ≡ false =
            ap (λ r. passes (λ (fact : Fact). is_permanode fact.kind) (get rows.facts.ordered r)) own
            ∙ ap (passes (λ (fact : Fact). is_permanode fact.kind)) of.found ∙ of.its.none in
            ap (λ b. b && says_genuine state q) out ∙ sym (ap (λ b. b && says_genuine rows.state q) out)
        by (inr f) = ap (λ b. passes (λ (fact : Fact). is_permanode fact.kind) (get rows.facts.ordered q) && b)
            (still q f)
          where
            still : (y : List ℕ) → bytes_eq y x ≡ false → says_genuine state y ≡ says_genuine rows.state y
            still y out = ap (passes (λ (row : StateRow). row.genuine))
                (marks y ∙ ap (λ b. marked b (is_signed_at rows.facts.ordered accepts x)
                (fits_at rows.facts.ordered rows.state x) (get rows.state y)) out)

    held_still : IsHeldBut concerned rows.facts.ordered state rows.deletes rows.changes rows.holders
    held_still = record {
      held = λ name value q out. h.held.held name value q out
          ∙ ap (λ b. (b && not (row_deleted rows.facts.ordered rows.deletes Always q)) && list_any (bytes_eq value)
          (row_values rows.facts.ordered rows.deletes rows.changes Always q name)) (sym (same_says q));
      times = h.held.times;
      permanode = λ name value q t. same_says q ∙ h.held.permanode name value q t;
      given = h.held.given;
    }

  judged_here : IsJudgedClaim accepts rows left deletes concerned x rows_now
  judged_here = record {
    more = more_now;
    able = record { counted = more_now.counted; listed = listed_after; removals = more_now.removals; there = put_here };
    one = one_more;
    held = held_still;
  }

  pub judged_claim : (new : Rows) → rows_now ≡ new → IsJudgedClaim accepts rows left deletes concerned x new
  judged_claim new same = subst (IsJudgedClaim accepts rows left deletes concerned x) same judged_here

-- ---- written

module _ (accepts : Accepts) (left deletes : List (List ℕ)) (mid new : Rows) (same : IsSameBeside mid new) where
  pub half_with : (any concerned : List (List ℕ)) → IsHalfway accepts left deletes any mid
      → IsHeldBut concerned mid.facts.ordered mid.state mid.deletes mid.changes new.holders
      → IsHalfway accepts left deletes concerned new
  half_with any concerned half held = subst (IsHalfway accepts left deletes concerned) (same_rows mid new same)
      (record {
        waiting = half.waiting;
        counted = half.counted;
        judged = half.judged;
        changed = half.changed;
        deleted = half.deleted;
        claims = half.claims;
        once = half.once;
        apart = half.apart;
        held = held;
        removals = half.removals;
      })

  pub can_still : CanBeJudged left mid → CanBeJudged left new
  can_still can = subst (CanBeJudged left) (same_rows mid new same)
      (record { ready = can.ready; reached = can.reached; once = can.once })

  pub half_taken : (old : Rows) (concerned after : List (List ℕ)) (x : List ℕ)
      → IsJudgedClaim accepts old left deletes concerned x mid
      → IsTaken mid new.holders x concerned after → IsHalfway accepts left deletes after new
  half_taken old concerned after x judged (written did as_before) =
      half_with (concerned ++ concerned_by mid.facts.ordered mid.state x) after judged.more
      (did.held after old.changes (judged.one did.on did.moment did.says)
      (subst (λ (cs : List (List ℕ)). IsHeldBut cs mid.facts.ordered mid.state mid.deletes old.changes mid.holders)
      (sym as_before) (judged.held did.on did.moment did.says)))
  half_taken old concerned after x judged (was_left is) =
      half_with (concerned ++ concerned_by mid.facts.ordered mid.state x) after judged.more
      (subst (λ (hs : Holders). IsHeldBut after mid.facts.ordered mid.state mid.deletes mid.changes hs) (sym is.same)
      (subst (λ (cs : List (List ℕ)). IsHeldBut cs mid.facts.ordered mid.state mid.deletes mid.changes mid.holders)
      (sym is.added) judged.more.held))

-- ---- how many changes there are

only_here : (x : List ℕ) (date : ℤ) (cs : List Change) (p : List ℕ) (k : Moment)
    → ◌≡◌ {A = Option (List ℕ × Moment)} (only_change x date cs) (Some (p, k))
    → list_any (bytes_eq p) (map (λ (c : Change). c.on) cs) ≡ true
only_here x date [] p k h = absurd (false≢true (ap is_some h))
only_here x date (c ∷ []) p k h =
    let same : c.on ≡ p = ap (λ (t : List ℕ × Moment). t.0) (same_Some (c.on, (date, x, 0)) (p, k) h) in
    ap (λ b. b || false) ((bytes_eq-Decides p c.on).1 (sym same))
only_here x date (c ∷ d ∷ cs) p k h = absurd (false≢true (ap is_some h))

kind_here : (x : List ℕ) (kind : Kind) (p : List ℕ) (k : Moment)
    → ◌≡◌ {A = Option (List ℕ × Moment)} (kind_change x kind) (Some (p, k))
    → list_any (bytes_eq p) (map (λ (c : Change). c.on) (kind_changes kind)) ≡ true
kind_here x Plain p k h = absurd (false≢true (ap is_some h))
kind_here x (Key name) p k h = absurd (false≢true (ap is_some h))
kind_here x (File name parts) p k h = absurd (false≢true (ap is_some h))
kind_here x (Bytes parts) p k h = absurd (false≢true (ap is_some h))
kind_here x (Directory name listing) p k h = absurd (false≢true (ap is_some h))
kind_here x (StaticSet members) p k h = absurd (false≢true (ap is_some h))
kind_here x (Permanode signed) p k h = absurd (false≢true (ap is_some h))
kind_here x (Claim signed date what) p k h = only_here x date (changes_of what) p k h
kind_here x (Unread name) p k h = absurd (false≢true (ap is_some h))

pub changed_here : (facts : Facts) (x p : List ℕ) (k : Moment) → ◌≡◌ {A = Option (List ℕ × Moment)} (change_by facts x)
    (Some (p, k))
    → list_any (bytes_eq p) (changed_by facts x) ≡ true
changed_here facts x p k h = by (get facts x) h
  where
    by : (o : Option Fact) → ◌≡◌ {A = Option (List ℕ × Moment)}
        (option_and_then (λ (fact : Fact). kind_change x fact.kind) o) (Some (p, k))
        → list_any (bytes_eq p) (map (λ (c : Change). c.on) (fact_changes o)) ≡ true
    by None h = absurd (false≢true (ap is_some h))
    by (Some fact) h = kind_here x fact.kind p k h

pub are_numbered : (accepts : Accepts) (rows : Rows) → AreTaken rows
    → IsChangesOf (taken rows) accepts [] rows.changes → (x : List ℕ) (n : ℕ)
    → AreFew rows.facts.ordered accepts x n → IsNumbered rows.facts.ordered rows.changes x n
are_numbered accepts rows all changed x n few p k says =
    let g = group_count rows.facts.ordered accepts rows.changes
    (subst (λ (f : Facts). IsChangesOf f accepts [] rows.changes) (all_have_arrived rows.facts.ordered rows.state all)
    changed) p in
    let f = few p (changed_here rows.facts.ordered x p k says) in
    omega (arith, g, f)

pub few_still : (accepts : Accepts) (old new : Facts) → new ≡ old → (x : List ℕ) (n : ℕ) → AreFew old accepts x n
    → AreFew new accepts x n
few_still accepts old new same x n few = subst (λ (f : Facts). AreFew f accepts x n) (sym same) few

-- what was written concerns no one
pub adds_taken : (facts : Facts) (accepts : Accepts) (x : List ℕ) (ds cs : List (List ℕ))
    → is_signed_at facts accepts x ≡ true
    → (rows : Rows) (holders : Holders) (cs' : List (List ℕ)) → rows.facts.ordered ≡ facts
    → IsTaken rows holders x cs cs' → AddsFor facts accepts (x ∷ []) ds ds cs cs'
adds_taken facts accepts x ds cs signed rows holders cs' same (written did as_before) =
    subst (λ (rs : List (List ℕ)). AddsFor facts accepts (x ∷ []) ds ds cs rs) (sym as_before)
    (adds_nothing facts accepts x ds cs)
adds_taken facts accepts x ds cs signed rows holders cs' same (was_left is) =
    adds_concerned facts accepts x ds cs signed rows.facts.ordered rows.state cs' same is.added
