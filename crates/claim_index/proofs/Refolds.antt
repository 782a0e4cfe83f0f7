-- What permanodes that are looked at again leave of what the tables mean.
use Rattle.std.proofs.Common.{◌≡◌, ℕ, List, [], refl, sym, subst, ◌∙◌}
use Rattle.std.proofs.lemmas.Bool.{false≢true}
use Rattle.std.specs.List.{list_any}
use Rattle.std.specs.Str.{bytes_eq}
use Rattle.claim_verify.specs.Verifier.{Accepts}
use Rattle.index_rows.specs.declared.rows.Rows.{Rows}
use Rattle.index_rows.specs.Holders.{Holders, IsHeldBut}
use Rattle.claim_index.specs.Halfway.{IsHalfway, CanBeFinished}

-- the tables with these rows of holders
abbrev pub with_holders : Rows → Holders → Rows
with_holders rows holders = record {
  facts = rows.facts;
  state = rows.state;
  waiters = rows.waiters;
  deletes = rows.deletes;
  changes = rows.changes;
  removals = rows.removals;
  holders = holders;
}

-- only the rows of holders changed
pub record IsSameBeside (rows new : Rows) : Type 0 where
  pub facts : new.facts ≡ rows.facts
  pub state : new.state ≡ rows.state
  pub waiters : new.waiters ≡ rows.waiters
  pub deletes : new.deletes ≡ rows.deletes
  pub changes : new.changes ≡ rows.changes
  pub removals : new.removals ≡ rows.removals

pub same-refl : (rows : Rows) → IsSameBeside rows rows
same-refl rows = record { facts = refl; state = refl; waiters = refl; deletes = refl; changes = refl; removals = refl }

pub same-trans : (rows mid new : Rows) → IsSameBeside rows mid → IsSameBeside mid new → IsSameBeside rows new
same-trans rows mid new a b = record {
  facts = b.facts ∙ a.facts;
  state = b.state ∙ a.state;
  waiters = b.waiters ∙ a.waiters;
  deletes = b.deletes ∙ a.deletes;
  changes = b.changes ∙ a.changes;
  removals = b.removals ∙ a.removals;
}

-- the rows of holders are right but for these permanodes
abbrev pub AreHeldBut : List (List ℕ) → Rows → Type 0
AreHeldBut but rows = IsHeldBut but rows.facts.ordered rows.state rows.deletes rows.changes rows.holders

module _ (rows new : Rows) (same : IsSameBeside rows new) where
  pub same_rows : with_holders rows new.holders ≡ new
  same_rows i = record {
    facts = sym same.facts i;
    state = sym same.state i;
    waiters = sym same.waiters i;
    deletes = sym same.deletes i;
    changes = sym same.changes i;
    removals = sym same.removals i;
    holders = new.holders;
  }

  -- right for the tables as they were is right for them now
  pub held_now : (but : List (List ℕ))
      → IsHeldBut but rows.facts.ordered rows.state rows.deletes rows.changes new.holders → AreHeldBut but new
  held_now but held = subst (AreHeldBut but) same_rows held

  held_before : (but : List (List ℕ)) → AreHeldBut but new
      → IsHeldBut but rows.facts.ordered rows.state rows.deletes rows.changes new.holders
  held_before but held = subst (AreHeldBut but) (sym same_rows) held

  pub still_finished : (but concerned : List (List ℕ)) → CanBeFinished [] concerned rows → AreHeldBut but new
      → CanBeFinished [] but new
  still_finished but concerned can held =
      subst (λ (r : Rows). CanBeFinished [] but r) same_rows
      (record {
        counted = can.counted;
        listed = can.listed;
        fresh = λ d h. absurd (false≢true h);
        once = can.once;
        held = held_before but held;
      })

  pub still_halfway : (accepts : Accepts) (concerned : List (List ℕ)) → AreHeldBut [] new
      → IsHalfway accepts [] [] concerned rows → IsHalfway accepts [] [] [] new
  still_halfway accepts concerned held half =
      subst (λ (r : Rows). IsHalfway accepts [] [] [] r) same_rows
      (record {
        waiting = half.waiting;
        counted = half.counted;
        judged = half.judged;
        changed = half.changed;
        deleted = half.deleted;
        claims = half.claims;
        once = half.once;
        apart = half.apart;
        held = held_before [] held;
        removals = half.removals;
      })

-- which permanodes may be wrong is told by the refs of a list, whatever their order
pub held_by_members : (but refs : List (List ℕ)) (rows : Rows)
    → ((q : List ℕ) → list_any (bytes_eq q) refs ≡ list_any (bytes_eq q) but) → AreHeldBut but rows
    → AreHeldBut refs rows
held_by_members but refs rows same held = record {
  held = λ name value p h. held.held name value p (sym (same p) ∙ h);
  times = λ name value p n h found. held.times name value p n (sym (same p) ∙ h) found;
  permanode = held.permanode;
  given = held.given;
}
