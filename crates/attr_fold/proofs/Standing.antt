-- What counts tell of a permanode and of a claim.
use Rattle.std.proofs.Common.{arith, ◌≡◌, ℕ, zero, suc, Bool, true, false, not, ◌&&◌, List, Option, Some, None, nat_eq, nat_lt, refl, sym, ap, ◌∙◌}
use Rattle.std.proofs.lemmas.Bool.{false≢true, cond-true, lt-ltb, ne_eqb}
use Rattle.std.specs.FinMap.{get}
use Rattle.schema_date.specs.declared.date.When.TheVariants.{Always}
use Rattle.schema_fact.specs.declared.kinds.Fact.{Fact}
use Rattle.schema_fact.specs.declared.changes.Change.{Change}
use Rattle.schema_fact.specs.declared.kinds.Kind.{Kind}
use Rattle.schema_fact.specs.declared.kinds.Kind.TheVariants.{Plain, Key, File, Bytes, Directory, StaticSet, Permanode, Claim, Unread}
use Rattle.claim_model.specs.Facts.{Facts, passes, is_permanode}
use Rattle.claim_model.specs.Claims.{Moment}
use Rattle.claim_model.specs.Deleted.{can_be_deleted}
use Rattle.index_look.specs.Claims.{change_said}
use Rattle.index_rows.specs.declared.rows.StateRow.{StateRow}
use Rattle.index_rows.specs.Counted.{is_deletable, has_deleters, IsCounted}
use Rattle.index_rows.specs.Deletes.{Deletes, row_deleted}
use Rattle.index_rows.specs.Holders.{says_permanode}
use Rattle.index_rows.specs.States.{States}
use Rattle.index_rows.specs.Values.{IsChange}
use Rattle.index_rows.proofs.DeletionCounts.{counts_are_deletion}
use Rattle.attr_fold.specs.declared.turns.Turns.{Turns}
use Rattle.attr_fold.specs.Turns.{standing, noted, change_noted, moment_noted}

permanode_deletable : (kind : Kind) → is_permanode kind ≡ true → can_be_deleted kind ≡ true
permanode_deletable Plain h = absurd (false≢true h)
permanode_deletable (Key name) h = absurd (false≢true h)
permanode_deletable (File name parts) h = absurd (false≢true h)
permanode_deletable (Bytes parts) h = absurd (false≢true h)
permanode_deletable (Directory name entries) h = absurd (false≢true h)
permanode_deletable (StaticSet members) h = absurd (false≢true h)
permanode_deletable (Permanode signed) h = refl
permanode_deletable (Claim signed date what) h = absurd (false≢true h)
permanode_deletable (Unread name) h = absurd (false≢true h)

none_counted : (n : ℕ) → nat_eq n 0 ≡ not (nat_lt 0 n)
none_counted zero = refl
none_counted (suc n) = ne_eqb (suc n) 0 (λ e. absurd (omega arith)) ∙ ap not (sym (lt-ltb 0 (suc n) (omega arith)))

module _ (facts : Facts) (state : States) (deletes : Deletes) (counted : IsCounted facts deletes state) where
  -- of what can be deleted the count alone tells whether it is
  by_count : (y : List ℕ) → is_deletable facts y ≡ true → has_deleters state y ≡ row_deleted facts deletes Always y
  by_count y can = ap (λ b. b && has_deleters state y) (sym can) ∙ counts_are_deletion facts deletes state counted y

  deletable : (p : List ℕ) (k : Moment) → IsChange facts state p k → is_deletable facts k.1 ≡ true
  deletable p k change = ap (passes (λ (f : Fact). can_be_deleted f.kind)) change.found ∙ ap can_be_deleted change.says

  -- of the claim of a change the count tells it
  pub by_deleters : (p : List ℕ) (k : Moment) → IsChange facts state p k → has_deleters state k.1 ≡ row_deleted facts deletes Always k.1
  by_deleters p k change = by_count k.1 (deletable p k change)

  -- a change whose claim has no delete claim that counts isn't deleted
  pub lives : (p : List ℕ) (k : Moment) → IsChange facts state p k → false ≡ has_deleters state k.1
      → row_deleted facts deletes Always k.1 ≡ false
  lives p k change none = sym (by_count k.1 (deletable p k change)) ∙ sym none

  -- and one with such a claim is
  pub dies : (p : List ℕ) (k : Moment) → IsChange facts state p k → true ≡ has_deleters state k.1
      → row_deleted facts deletes Always k.1 ≡ true
  dies p k change some = sym (by_count k.1 (deletable p k change)) ∙ sym some

  pub stands_is : (p : List ℕ) (row : StateRow) → true ≡ passes (λ fact. is_permanode fact.kind) (get facts p)
      → Some row ≡ get state p → row.genuine ≡ true
      → Some (nat_eq row.deleters 0) ≡ standing facts state deletes p
  stands_is p row permanode found genuine =
      ap Some (none_counted row.deleters
      ∙ ap not (ap (passes (λ (r : StateRow). nat_lt 0 r.deleters)) found
      ∙ by_count p (can (get facts p) permanode)))
      ∙ sym (cond-true (says_permanode facts state p) (Some (not (row_deleted facts deletes Always p))) None says)
    where
      can : (o : Option Fact) → true ≡ passes (λ fact. is_permanode fact.kind) o
          → passes (λ fact. can_be_deleted fact.kind) o ≡ true
      can None h = absurd (false≢true (sym h))
      can (Some fact) h = permanode_deletable fact.kind (sym h)

      says : says_permanode facts state p ≡ true
      says = λ i. sym permanode i && (ap (passes (λ (r : StateRow). r.genuine)) (sym found) ∙ genuine) i

  pub noted_is : (p : List ℕ) (turns : Turns) (k : Moment) (n : ℕ) → IsChange facts state p k
      → (c : Change) (has : Bool) → Some c ≡ change_said facts k.1 k.2 → has ≡ has_deleters state k.1
      → noted turns c.act (not has) (c.attr, c.value, p) n ≡ moment_noted facts deletes p turns k n
  noted_is p turns k n change c has found is =
      let can : is_deletable facts k.1 ≡ true = deletable p k change in
      (λ i. change_noted turns p (found i) (not ((is ∙ by_count k.1 can) i)) n)
