-- The last ref whose deletion changed: a value that it adds is settled, or the permanodes that it concerns are listed.
use Rattle.std.proofs.Common.{◌≡◌, ◌≤◌, ◌+◌, ◌++◌, ◌∙◌, ℕ, Bool, true, false, cond, List, [], map, Option, Some}
use Rattle.std.proofs.Common.{None, option_and_then, is_some, refl, sym, ap, subst}
use Rattle.std.specs.Prelude.{slice_get}
use Rattle.std.proofs.lemmas.Bool.{false≢true}
use Rattle.std.proofs.lemmas.List.{append-nil}
use Rattle.std.proofs.lemmas.Option.{same_Some}
use Rattle.std.specs.FinMap.{get, contains_key}
use Rattle.schema_fact.specs.Changes.{changes_of}
use Rattle.schema_fact.specs.declared.changes.Act.TheVariants.{Add as adds}
use Rattle.schema_fact.specs.declared.changes.Change.{Change}
use Rattle.schema_fact.specs.declared.kinds.Fact.{Fact}
use Rattle.schema_fact.specs.declared.kinds.Kind.{Kind}
use Rattle.schema_fact.specs.declared.kinds.Kind.TheVariants.{Plain, Key, File, Bytes, Directory, StaticSet, Permanode}
use Rattle.schema_fact.specs.declared.kinds.Kind.TheVariants.{Claim, Unread}
use Rattle.schema_fact.specs.declared.kinds.What.{What}
use Rattle.schema_fact.specs.declared.kinds.What.TheVariants.{Set, Add, Del, Delete, Multi}
use Rattle.claim_model.specs.Claims.{Moment}
use Rattle.claim_model.specs.Facts.{Facts}
use Rattle.index_look.specs.Claims.{change_said, claim_says}
use Rattle.index_rows.specs.declared.rows.Rows.{Rows}
use Rattle.index_rows.specs.Deletes.{Deletes}
use Rattle.index_rows.specs.Holders.{Holders, IsHeldBut}
use Rattle.index_rows.specs.States.{States, says_genuine}
use Rattle.index_rows.specs.Values.{change_at}
use Rattle.index_meaning.specs.Touching.{kind_concerns, fact_concerns}
use Rattle.attr_fold.specs.Following.{IsFlipped}
use Rattle.claim_index.specs.Following.{is_addition, kind_change, kind_addition, change_by, addition_by, CanBeSettled}
use Rattle.claim_index.specs.Following.{IsSeen, settled, unsettled}

-- an addition, by its claim's only change
abbrev Place : Type 0
Place = Option (List ℕ × Moment)

-- ---- the change of an addition

-- the moment is that of a claim x of this kind, and its change adds a value
pub record IsAdded (x : List ℕ) (kind : Kind) (k : Moment) : Type 0 where
  pub change : Change
  pub claim : k.1 ≡ x
  pub here : option_and_then (λ (what : What). slice_get (changes_of what) k.2) (claim_says kind) ≡ Some change
  pub act : change.act ≡ adds

kind_added : (x : List ℕ) (kind : Kind) (p : List ℕ) (k : Moment)
    → ◌≡◌ {A = Place} (kind_addition x kind) (Some (p, k)) → IsAdded x kind k
kind_added x Plain p k h = absurd (false≢true (ap is_some h))
kind_added x (Key name) p k h = absurd (false≢true (ap is_some h))
kind_added x (File name parts) p k h = absurd (false≢true (ap is_some h))
kind_added x (Bytes parts) p k h = absurd (false≢true (ap is_some h))
kind_added x (Directory name listing) p k h = absurd (false≢true (ap is_some h))
kind_added x (StaticSet members) p k h = absurd (false≢true (ap is_some h))
kind_added x (Permanode signed) p k h = absurd (false≢true (ap is_some h))
kind_added x (Claim signed date (Set on attr value)) p k h = absurd (false≢true (ap is_some h))
kind_added x (Claim signed date (Add on attr value)) p k h =
    let same : ◌≡◌ {A = List ℕ × Moment} (on, (date, x, 0)) (p, k) = same_Some (on, (date, x, 0)) (p, k) h in
    subst (λ (t : List ℕ × Moment). IsAdded x (Claim signed date (Add on attr value)) t.1) same
    (record {
      change = record { on = on; act = adds; attr = attr; value = value };
      claim = refl;
      here = refl;
      act = refl;
    })
kind_added x (Claim signed date (Del on attr value)) p k h = absurd (false≢true (ap is_some h))
kind_added x (Claim signed date (Delete target)) p k h = absurd (false≢true (ap is_some h))
kind_added x (Claim signed date (Multi changes)) p k h = absurd (false≢true (ap is_some h))
kind_added x (Unread name) p k h = absurd (false≢true (ap is_some h))

-- an addition is the only change of its claim
addition_change : (x : List ℕ) (kind : Kind) (p : List ℕ) (k : Moment)
    → ◌≡◌ {A = Place} (kind_addition x kind) (Some (p, k)) → ◌≡◌ {A = Place} (kind_change x kind) (Some (p, k))
addition_change x kind p k h = by (is_addition kind) h
  where
    by : (b : Bool) → ◌≡◌ {A = Place} (cond b (kind_change x kind) None) (Some (p, k))
        → ◌≡◌ {A = Place} (kind_change x kind) (Some (p, k))
    by true h = h
    by false h = absurd (false≢true (ap is_some h))

pub addition_is_change : (facts : Facts) (x p : List ℕ) (k : Moment)
    → ◌≡◌ {A = Place} (addition_by facts x) (Some (p, k)) → ◌≡◌ {A = Place} (change_by facts x) (Some (p, k))
addition_is_change facts x p k h = by (get facts x) h
  where
    by : (o : Option Fact)
        → ◌≡◌ {A = Place} (option_and_then (λ (fact : Fact). kind_addition x fact.kind) o) (Some (p, k))
        → ◌≡◌ {A = Place} (option_and_then (λ (fact : Fact). kind_change x fact.kind) o) (Some (p, k))
    by None h = absurd (false≢true (ap is_some h))
    by (Some fact) h = addition_change x fact.kind p k h

-- a claim of one addition that isn't genuine concerns nobody
no_doubt : (state : States) (x : List ℕ) (kind : Kind) (p : List ℕ) (k : Moment)
    → ◌≡◌ {A = Place} (kind_addition x kind) (Some (p, k)) → says_genuine state x ≡ false
    → kind_concerns state x kind ≡ []
no_doubt state x Plain p k h doubt = absurd (false≢true (ap is_some h))
no_doubt state x (Key name) p k h doubt = absurd (false≢true (ap is_some h))
no_doubt state x (File name parts) p k h doubt = absurd (false≢true (ap is_some h))
no_doubt state x (Bytes parts) p k h doubt = absurd (false≢true (ap is_some h))
no_doubt state x (Directory name listing) p k h doubt = absurd (false≢true (ap is_some h))
no_doubt state x (StaticSet members) p k h doubt = absurd (false≢true (ap is_some h))
no_doubt state x (Permanode signed) p k h doubt = absurd (false≢true (ap is_some h))
no_doubt state x (Claim signed date what) p k h doubt =
    ap (λ b. cond b (map (λ (c : Change). c.on) (changes_of what)) []) doubt
no_doubt state x (Unread name) p k h doubt = absurd (false≢true (ap is_some h))

-- ---- the cases of `settle_or_concern`

module _ (rows : Rows) (y : List ℕ) (before : List (List ℕ)) (first last : ℕ) where
  pub none_seen : get rows.facts.ordered y ≡ None → last ≤ first + 2
      → IsSeen rows rows.holders y before before first last
  none_seen none few = unsettled
      (record {
        added = sym (ap (λ (o : Option Fact). before ++ fact_concerns rows.state y o) none ∙ append-nil before);
        same = refl;
      }) few

  module _ (fact : Fact) (found : get rows.facts.ordered y ≡ Some fact) where
    pub kind_seen : (concerned : List (List ℕ)) → concerned ≡ before ++ kind_concerns rows.state y fact.kind
        → last ≤ first + 2 → IsSeen rows rows.holders y before concerned first last
    kind_seen concerned added few = unsettled
        (record {
          added = added ∙ ap (λ (o : Option Fact). before ++ fact_concerns rows.state y o) (sym found);
          same = refl;
        }) few

    module _ (p : List ℕ) (k : Moment)
        (says : ◌≡◌ {A = Place} (kind_addition y fact.kind) (Some (p, k))) where
      pub doubt_seen : says_genuine rows.state y ≡ false → last ≤ first + 2
          → IsSeen rows rows.holders y before before first last
      doubt_seen doubt few = kind_seen before
          (sym (ap (λ cs. before ++ cs) (no_doubt rows.state y fact.kind p k says doubt) ∙ append-nil before)) few

      pub addition_here : ◌≡◌ {A = Place} (addition_by rows.facts.ordered y) (Some (p, k))
      addition_here = ap (option_and_then (λ (f : Fact). kind_addition y f.kind)) found ∙ says

      pub row_there : CanBeSettled rows → says_genuine rows.state y ≡ true
          → contains_key rows.changes (p, k) ≡ true
      row_there able genuine =
          able.there y p k genuine (addition_is_change rows.facts.ordered y p k addition_here)

      pub added : IsAdded y fact.kind k
      added = kind_added y fact.kind p k says

      pub change_here : change_at rows.facts.ordered k ≡ Some added.change
      change_here = ap (λ (r : List ℕ). change_said rows.facts.ordered r k.2) added.claim
          ∙ ap (λ (o : Option Fact). option_and_then (λ (what : What). slice_get (changes_of what) k.2)
          (option_and_then (λ (f : Fact). claim_says f.kind) o)) found
          ∙ added.here

      pub settled_seen : (holders : Holders) → says_genuine rows.state y ≡ true
          → ((but : List (List ℕ)) (deletes : Deletes)
          → IsFlipped rows.facts.ordered rows.state rows.changes deletes rows.deletes p k
          → IsHeldBut but rows.facts.ordered rows.state deletes rows.changes rows.holders
          → IsHeldBut but rows.facts.ordered rows.state rows.deletes rows.changes holders)
          → IsSeen rows holders y before before first last
      settled_seen holders genuine held = settled
          (record { on = p; moment = k; genuine = genuine; says = addition_here; held = held }) refl
