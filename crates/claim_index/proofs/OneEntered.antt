-- What one delete claim that is entered leaves of what the tables mean.
use Rattle.std.proofs.Common.{◌≡◌, ℕ, true, false, ◌||◌, cond, option_and_then, List, [], ◌∷◌, ◌++◌, map, Option, Some}
use Rattle.std.proofs.Common.{None}
use Rattle.std.proofs.Common.{refl, sym, ap, subst, ◌∙◌, Ordering}
use Rattle.std.proofs.lemmas.Bool.{false≢true, or_left, or_right}
use Rattle.std.proofs.lemmas.List.Folds.{list_any-append}
use Rattle.std.proofs.lemmas.Slice.Eq.{bytes_eq-Decides}
use Rattle.std.specs.declared.cmp.Ordering.TheVariants.{Less, Equal, Greater}
use Rattle.std.specs.List.{list_any, flat_map}
use Rattle.std.specs.Ordering.{is_eq, eq_by_cmp}
use Rattle.std.specs.Str.{bytes_eq}
use Rattle.std.specs.FinMap.{get, insert, get-insert}
use Rattle.claim_verify.specs.Verifier.{Accepts}
use Rattle.schema_fact.specs.declared.kinds.Fact.{Fact}
use Rattle.schema_fact.specs.declared.kinds.Kind.{Kind}
use Rattle.schema_fact.specs.declared.kinds.Kind.TheVariants.{Plain, Key, File, Bytes, Directory, StaticSet, Permanode}
use Rattle.schema_fact.specs.declared.kinds.Kind.TheVariants.{Claim, Unread}
use Rattle.claim_model.specs.Facts.{Facts}
use Rattle.claim_model.specs.Genuine.{is_genuine}
use Rattle.schema_fact.specs.declared.changes.Change.{Change}
use Rattle.schema_fact.specs.Changes.{changes_of}
use Rattle.index_rows.specs.declared.rows.Rows.{Rows}
use Rattle.index_rows.specs.Once.{AreOnce}
use Rattle.index_rows.specs.Pairs.{Pair, pair_cmp}
use Rattle.index_rows.specs.Deletes.{Deletes, IsDelete}
use Rattle.index_rows.specs.States.{States, says_genuine}
use Rattle.index_rows.specs.Values.{IsListed}
use Rattle.index_rows.specs.Holders.{IsHeldBut}
use Rattle.index_rows.proofs.Arrived.{arrived_same}
use Rattle.index_rows.proofs.Orders.{pair_total, pair_same}
use Rattle.delete_claims.specs.Entered.{IsEntered}
use Rattle.index_meaning.specs.Meaning.{delete_date, genuine_delete, IsJudged, IsChangesOf}
use Rattle.index_meaning.specs.Steps.{IsDeletesBut}
use Rattle.index_meaning.specs.Progress.{beside_count, Enters}
use Rattle.index_meaning.specs.Concerns.{AreAmong}
use Rattle.index_meaning.proofs.Arriving.{given}
use Rattle.index_meaning.proofs.Concerning.{entering_concerns}
use Rattle.index_meaning.proofs.Deletions.{delete_of}
use Rattle.index_meaning.proofs.Growth.{rows_stay_listed}
use Rattle.index_meaning.proofs.Keeping.{same_refs, was_row, waiting_kept, genuine_kept}
use Rattle.index_meaning.proofs.Left.{one_less_is_left}
use Rattle.index_meaning.specs.Touching.{kind_concerns, fact_concerns, concerned_by}
use Rattle.claim_index.specs.Halfway.{taken, IsGenuineDelete, IsHalfway, CanBeFinished}
use Rattle.claim_index.proofs.Members.{among_more, among_front, among_last, among_apart, once_front, among_all}
use Rattle.claim_index.proofs.Finishable.{arrived_within, can_be_finished}
use Rattle.index_rows.proofs.LooseFacts.{in_order}

module _ (rows : Rows) (entered : Deletes) (state : States) (d : List ℕ) (changed : List (List ℕ))
    (is : IsEntered rows.facts.ordered rows.deletes entered rows.state state d changed) where
  -- the tables behind it
  abbrev pub after : Rows
  after = record {
    facts = rows.facts;
    state = state;
    waiters = rows.waiters;
    deletes = entered;
    changes = rows.changes;
    removals = rows.removals;
    holders = rows.holders;
  }

  -- whom it concerns
  abbrev pub touched : List (List ℕ)
  touched = flat_map (concerned_by rows.facts.ordered state) changed

  enters : Enters rows.facts.ordered rows.state state rows.deletes entered is.target d is.date changed
  enters = record { is = is.is; row = is.row; counted = is.counted; kept = is.kept; turns = is.turns }

  pub same_genuine : (y : List ℕ) → says_genuine state y ≡ says_genuine rows.state y
  same_genuine = genuine_kept beside_count rows.state state is.kept (λ t. t.1) (λ row. refl)

  -- ---- whom it concerns

  same_kind : (y : List ℕ) (kind : Kind) → kind_concerns rows.state y kind ≡ kind_concerns state y kind
  same_kind y Plain = refl
  same_kind y (Key name) = refl
  same_kind y (File name parts) = refl
  same_kind y (Bytes parts) = refl
  same_kind y (Directory name listing) = refl
  same_kind y (StaticSet members) = refl
  same_kind y (Permanode signed) = refl
  same_kind y (Claim signed date what) =
      ap (λ b. cond b (map (λ (c : Change). c.on) (changes_of what)) []) (sym (same_genuine y))
  same_kind y (Unread name) = refl

  same_concerns : (y : List ℕ) → concerned_by rows.facts.ordered rows.state y ≡ concerned_by rows.facts.ordered state y
  same_concerns y = by (get rows.facts.ordered y)
    where
      by : (o : Option Fact) → fact_concerns rows.state y o ≡ fact_concerns state y o
      by None = refl
      by (Some fact) = same_kind y fact.kind

  module _ (concerned : List (List ℕ)) where
    abbrev more : List (List ℕ)
    more = concerned ++ touched

    in_more : (q : List ℕ)
        → list_any (bytes_eq q) more ≡ (list_any (bytes_eq q) concerned || list_any (bytes_eq q) touched)
    in_more q = list_any-append (bytes_eq q) concerned touched

    touches : (y : List ℕ) → list_any (bytes_eq y) changed ≡ true
        → AreAmong (concerned_by rows.facts.ordered rows.state y) more
    touches y turned q h =
        in_more q ∙ or_right (list_any (bytes_eq q) concerned) (list_any (bytes_eq q) touched)
        (among_all (concerned_by rows.facts.ordered state) q y changed turned
        (ap (list_any (bytes_eq q)) (sym (same_concerns y)) ∙ h))

    pub held_after : IsListed rows.facts.ordered rows.state rows.changes
        → IsHeldBut concerned rows.facts.ordered rows.state rows.deletes rows.changes rows.holders
        → IsHeldBut more rows.facts.ordered state entered rows.changes rows.holders
    held_after listed held =
        entering_concerns concerned more changed rows.facts.ordered rows.state state rows.deletes entered rows.changes
        rows.holders is.target d is.date enters listed
        (λ q h. in_more q ∙ or_left (list_any (bytes_eq q) concerned) (list_any (bytes_eq q) touched) h) touches held

  -- ---- what is left

  other_row : (x y : List ℕ) → bytes_eq y d ≡ false → get entered (x, y) ≡ get rows.deletes (x, y)
  other_row x y other =
      ap (λ m. get m (x, y)) is.row ∙ get-insert pair_total rows.deletes (is.target, d) is.date (x, y)
      ∙ ap (λ b. cond b (Some is.date) (get rows.deletes (x, y))) (by (pair_cmp (x, y) (is.target, d)) refl)
    where
      same : ◌≡◌ {A = Pair} (x, y) (is.target, d) → bytes_eq y d ≡ true
      same e = (bytes_eq-Decides y d).1 (ap (λ (p : Pair). p.1) e)

      by : (r : Ordering) → pair_cmp (x, y) (is.target, d) ≡ r → eq_by_cmp pair_cmp (x, y) (is.target, d) ≡ false
      by Less e = ap is_eq e
      by Equal e = absurd (false≢true (sym other ∙ same (pair_same (x, y) (is.target, d) e)))
      by Greater e = ap is_eq e

  module _ (others concerned : List (List ℕ)) where
    once_before : AreOnce (others ++ d ∷ []) → AreOnce others × (list_any (bytes_eq d) others ≡ false)
    once_before once = once_front (λ r. false) [] others d once

    pub finished_after : CanBeFinished (others ++ d ∷ []) concerned rows
        → CanBeFinished others (concerned ++ touched) after
    finished_after can = record {
      counted = is.counted;
      listed = rows_stay_listed rows.facts.ordered rows.facts.ordered rows.state state rows.changes (λ r fact h. h)
          (λ y h. same_genuine y ∙ h) can.listed;
      fresh = λ y h.
          let was = can.fresh y (among_front others d y h) in
          record {
            target = was.target;
            date = was.date;
            is = was.is;
            target_arrived = same_refs beside_count rows.state state is.kept was.target ∙ was.target_arrived;
            arrived = same_refs beside_count rows.state state is.kept y ∙ was.arrived;
            fresh = other_row was.target y (among_apart others d (once_before can.once).1 y h) ∙ was.fresh;
          };
      once = (once_before can.once).0;
      held = held_after concerned can.listed can.held;
    }

  -- ---- what the tables mean

  same_taken : taken rows ≡ taken after
  same_taken = arrived_same rows.facts.ordered rows.state state
      (λ y. sym (same_refs beside_count rows.state state is.kept y))

  module _ (accepts : Accepts) where
    still_judged : IsJudged (taken rows) accepts [] rows.state → IsJudged (taken rows) accepts [] state
    still_judged judged = record {
      genuine = λ y row found.
          let was = was_row beside_count rows.state state is.kept y row found in
          ap (λ t. t.1) was.2 ∙ judged.genuine y was.0 was.1;
      sound = λ y row found.
          let was = was_row beside_count rows.state state is.kept y row found in
          ap (λ t. t.2) was.2 ∙ judged.sound y was.0 was.1;
    }

    module _ (others concerned : List (List ℕ))
        (half : IsHalfway accepts [] (others ++ d ∷ []) concerned rows) where
      claim : IsGenuineDelete (taken rows) accepts d
      claim = half.claims d (among_last others d)

      same_claim : IsDelete (taken rows) is.target d is.date
      same_claim =
          let there = delete_of (taken rows) accepts claim.target d claim.date claim.says in
          let both : Some there.fact ≡ Some is.is.fact
          = sym (arrived_within rows.facts.ordered rows.state d there.fact there.found) ∙ is.is.found in
          let same : there.fact ≡ is.is.fact = cc both in
          record {
            fact = there.fact;
            signed = is.is.signed;
            found = there.found;
            says = ap (λ (fact : Fact). fact.kind) same ∙ is.is.says;
            ready = there.ready;
          }

      own_genuine : is_genuine (taken rows) accepts d ≡ true
      own_genuine =
          (given (is_genuine (taken rows) accepts d)
          (option_and_then (λ (fact : Fact). delete_date claim.target fact.kind) (get (taken rows) d)) claim.date
          claim.says).0

      one_less : IsDeletesBut others (taken rows) accepts (insert rows.deletes (is.target, d) is.date)
      one_less =
          one_less_is_left (others ++ d ∷ []) others (taken rows) accepts rows.deletes is.target d is.date half.deleted
          (among_more others d) (once_before others concerned half.once).1 same_claim own_genuine

      pub halfway_after : IsHalfway accepts [] others (concerned ++ touched) after
      halfway_after =
          let can = finished_after others concerned
          (can_be_finished accepts (others ++ d ∷ []) concerned rows half) in
          record {
            waiting = waiting_kept beside_count rows.state state is.kept rows.facts.ordered rows.waiters half.waiting
                (λ t. t.0) (λ t. t.3) (λ row. refl) (λ row. refl);
            counted = is.counted;
            judged = subst (λ (facts : Facts). IsJudged facts accepts [] state) same_taken (still_judged half.judged);
            changed = subst (λ (facts : Facts). IsChangesOf facts accepts [] rows.changes) same_taken half.changed;
            deleted = subst (λ (facts : Facts). IsDeletesBut others facts accepts entered) same_taken
                (subst (λ (m : Deletes). IsDeletesBut others (taken rows) accepts m) (sym is.row) one_less);
            claims = λ y h.
                let was = half.claims y (among_front others d y h) in
                record {
                  target = was.target;
                  date = was.date;
                  says = ap (λ facts. genuine_delete facts accepts was.target y) (sym same_taken) ∙ was.says;
                };
            once = can.once;
            apart = λ y h. refl;
            held = can.held;
            removals = half.removals;
          }

-- the same where the tables behind it are given
module _ (rows new : Rows) (d : List ℕ) (changed : List (List ℕ))
    (is : IsEntered rows.facts.ordered rows.deletes new.deletes rows.state new.state d changed)
    (same_facts : new.facts ≡ rows.facts) (same_waiters : new.waiters ≡ rows.waiters)
    (same_changes : new.changes ≡ rows.changes) (same_removals : new.removals ≡ rows.removals)
    (same_holders : new.holders ≡ rows.holders)
    (slice concerned more : List (List ℕ)) (all : slice ≡ changed)
    (told : more ≡ concerned ++ flat_map (concerned_by new.facts.ordered new.state) slice) where
  abbrev behind : Rows
  behind = after rows new.deletes new.state d changed is

  same_rows : behind ≡ new
  same_rows i = record {
    facts = sym same_facts i;
    state = new.state;
    waiters = sym same_waiters i;
    deletes = new.deletes;
    changes = sym same_changes i;
    removals = sym same_removals i;
    holders = sym same_holders i;
  }

  same_told : concerned ++ touched rows new.deletes new.state d changed is ≡ more
  same_told = sym (told ∙ (λ i. concerned ++ flat_map (concerned_by (in_order same_facts i) new.state) (all i)))

  pub can_go_on : (others : List (List ℕ)) → CanBeFinished (others ++ d ∷ []) concerned rows
      → CanBeFinished others more new
  can_go_on others can =
      subst (λ (r : Rows). CanBeFinished others more r) same_rows
      (subst (λ (refs : List (List ℕ)). CanBeFinished others refs behind) same_told
      (finished_after rows new.deletes new.state d changed is others concerned can))

  pub goes_on : (accepts : Accepts) (others : List (List ℕ)) → IsHalfway accepts [] (others ++ d ∷ []) concerned rows
      → IsHalfway accepts [] others more new
  goes_on accepts others half =
      subst (λ (r : Rows). IsHalfway accepts [] others more r) same_rows
      (subst (λ (refs : List (List ℕ)). IsHalfway accepts [] others refs behind) same_told
      (halfway_after rows new.deletes new.state d changed is accepts others concerned half))
