-- Counts of delete claims stay right as facts are added.
use Rattle.std.proofs.Common.{◌≡◌, ℕ, ℤ, Bool, true, false, not, ◌&&◌, List, [], ◌∷◌, Option, None, Some, refl, sym, ap, ◌∙◌, is_some, arith}
use Rattle.std.proofs.lemmas.Bool.{false≢true, false_from_ne_true, and_left}
use Rattle.std.proofs.lemmas.Slice.Eq.{bytes_eq-Decides}
use Rattle.std.specs.Prelude.{nat_lt}
use Rattle.std.specs.Option.{option_map_or}
use Rattle.std.specs.Str.{bytes_eq}
use Rattle.std.specs.FinMap.{get, contains_key, entries}
use Rattle.schema_fact.specs.declared.kinds.Fact.{Fact}
use Rattle.claim_model.specs.Facts.{Facts, passes}
use Rattle.claim_model.specs.Least.{IsWithin}
use Rattle.claim_model.specs.Deleted.{can_be_deleted}
use Rattle.index_rows.specs.declared.rows.StateRow.{StateRow}
use Rattle.index_rows.specs.Pairs.{Pair, number}
use Rattle.index_rows.specs.Deletes.{Deletes}
use Rattle.index_rows.specs.States.{States}
use Rattle.index_rows.specs.Counted.{is_gone, has_deleters, live_rows, IsCounted}
use Rattle.index_rows.proofs.Orders.{pair_total, pair_same}
use Rattle.index_rows.proofs.Counting.{number_same, number_held}
use Rattle.index_meaning.specs.Steps.{CountsAsBefore, CountedStays}
use Rattle.index_meaning.proofs.Said.{and_false}
use Rattle.index_meaning.proofs.Growth.{fact_stays, rows_stay_ringless}

number_never : {A : Type 0} (es : List A) → number (λ e. false) es ≡ 0
number_never [] = refl
number_never (e ∷ es) = omega (arith, number_never es)

module _ (facts more : Facts) (deletes : Deletes) (before after : States) (within : IsWithin facts more)
    (known : (y : List ℕ) → contains_key before y ≡ true → contains_key facts y ≡ true)
    (as_before : CountsAsBefore before after) (counted : IsCounted facts deletes before) where
  abbrev count : Option StateRow → ℕ
  count o = option_map_or (λ (r : StateRow). r.deleters) o 0

  abbrev some_count : Option StateRow → Bool
  some_count o = passes (λ (r : StateRow). nat_lt 0 r.deleters) o

  above_none : (o : Option StateRow) → nat_lt 0 (count o) ≡ some_count o
  above_none None = refl
  above_none (Some row) = refl

  -- a ref without a row had none before
  absent : (y : List ℕ) → get after y ≡ None → get before y ≡ None
  absent y h = by (get before y) refl
    where
      by : (o : Option StateRow) → get before y ≡ o → o ≡ None
      by None is = refl
      by (Some row) is = absurd (false≢true (sym (ap is_some h) ∙ as_before.stays y (ap is_some is)))

  deleters_same : (y : List ℕ) → has_deleters after y ≡ has_deleters before y
  deleters_same y = by (get after y) refl
    where
      by : (o : Option StateRow) → get after y ≡ o → some_count o ≡ has_deleters before y
      by None is = sym (ap some_count (absent y is))
      by (Some row) is = ap (nat_lt 0) (as_before.deleters y row is) ∙ above_none (get before y)

  row_there : (o : Option StateRow) → some_count o ≡ true → is_some o ≡ true
  row_there None h = absurd (false≢true h)
  row_there (Some row) h = refl

  abbrev deletable : Option Fact → Bool
  deletable o = passes (λ (fact : Fact). can_be_deleted fact.kind) o

  gone_same : (y : List ℕ) → is_gone more after y ≡ is_gone facts before y
  gone_same y = ap (λ b. deletable (get more y) && b) (deleters_same y) ∙ by (has_deleters before y) refl
    where
      by : (b : Bool) → has_deleters before y ≡ b
          → (deletable (get more y) && b) ≡ (deletable (get facts y) && has_deleters before y)
      by true is = ap (λ o. deletable o && true) (fact_stays facts more within y
          (known y (row_there (get before y) is))) ∙ ap (λ b. deletable (get facts y) && b) (sym is)
      by false is = and_false (deletable (get more y))
          ∙ sym (ap (λ b. deletable (get facts y) && b) is ∙ and_false (deletable (get facts y)))

  live_same : (y : List ℕ) → live_rows deletes (is_gone facts before) y ≡ live_rows deletes (is_gone more after) y
  live_same y = number_same _ _ (λ (e : Pair × ℤ). ap (λ b. bytes_eq y e.0.0 && not b) (sym (gone_same e.0.1)))
      (entries deletes)

  -- a ref that had no row is the target of none
  none_live : (y : List ℕ) → get before y ≡ None → 0 ≡ live_rows deletes (is_gone facts before) y
  none_live y h =
      sym (number_held pair_total pair_same deletes (λ (e : Pair × ℤ). bytes_eq y e.0.0
      && not (is_gone facts before e.0.1)) (λ e. false)
      (λ e held. and_left (bytes_eq y e.0.0) (not (is_gone facts before e.0.1))
      (false_from_ne_true (bytes_eq y e.0.0) (λ t.
      false≢true (sym (ap is_some h) ∙ ap (contains_key before) ((bytes_eq-Decides y e.0.0).0 t)
      ∙ counted.arrived.target e.0.0 e.0.1 (ap is_some held)))))
      ∙ number_never (entries deletes))

  still_counted : IsCounted more deletes after
  still_counted = record {
    ringless = rows_stay_ringless facts more deletes within counted.ringless;
    arrived = record {
      target = λ x d h. as_before.stays x (counted.arrived.target x d h);
      claim = λ x d h. as_before.stays d (counted.arrived.claim x d h);
    };
    counts = λ y row found. as_before.deleters y row found ∙ by y (get before y) refl ∙ live_same y;
  }
    where
      by : (y : List ℕ) (o : Option StateRow) → get before y ≡ o → count o ≡ live_rows deletes (is_gone facts before) y
      by y None is = none_live y is
      by y (Some row) is = counted.counts y row is

pub counted_stays : CountedStays
counted_stays facts more deletes before after within known as_before counted =
    still_counted facts more deletes before after within known as_before counted
