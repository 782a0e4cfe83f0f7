-- What the tables mean after a single delete claim was entered, and the last ref whose deletion changed was looked at.
use Rattle.std.proofs.Common.{◌≡◌, ◌&&◌, ◌||◌, ◌++◌, ◌∙◌, ◌⊎◌, inl, inr, ℕ, suc, zero, Bool, true, false}
use Rattle.std.proofs.Common.{not, cond, List, [], ◌∷◌, flat_map, Option, Some, None, refl, sym, ap, subst}
use Rattle.std.proofs.Common.{append_assoc}
use Rattle.std.specs.Prelude.{slice_get}
use Rattle.std.proofs.lemmas.Bool.{and_parts, and_from, false≢true, false_from_ne_true}
use Rattle.std.proofs.lemmas.Cmp.{int_cmp_total}
use Rattle.std.proofs.lemmas.Grind.{flat_map-append}
use Rattle.std.proofs.lemmas.List.{append-nil}
use Rattle.std.proofs.lemmas.Slice.Eq.{bytes_eq-Decides}
use Rattle.std.specs.List.{list_any}
use Rattle.std.specs.Str.{bytes_eq}
use Rattle.std.specs.Ordering.{is_eq, int_cmp, eq_by_cmp}
use Rattle.std.specs.Cmp.{eq_by_cmp_equiv}
use Rattle.std.specs.FinMap.{get, contains_key, len}
use Rattle.claim_verify.specs.Verifier.{Accepts}
use Rattle.schema_date.specs.declared.date.When.TheVariants.{Always}
use Rattle.schema_fact.specs.Changes.{changes_of}
use Rattle.schema_fact.specs.declared.changes.Change.{Change}
use Rattle.schema_fact.specs.declared.kinds.Fact.{Fact}
use Rattle.schema_fact.specs.declared.kinds.Kind.{Kind}
use Rattle.schema_fact.specs.declared.kinds.Kind.TheVariants.{Plain, Key, File, Bytes, Directory, StaticSet, Permanode}
use Rattle.schema_fact.specs.declared.kinds.Kind.TheVariants.{Claim, Unread}
use Rattle.schema_fact.specs.declared.kinds.What.TheVariants.{Set, Add, Del, Delete, Multi}
use Rattle.claim_model.specs.Claims.{Moment}
use Rattle.claim_model.specs.Facts.{Facts, passes, is_permanode}
use Rattle.index_rows.specs.declared.rows.Rows.{Rows}
use Rattle.index_rows.specs.Changes.{ChangeKey, change_cmp}
use Rattle.index_rows.specs.Deletes.{Deletes, row_deleted, row_stands, kind_has_row, target_in}
use Rattle.index_rows.specs.Holders.{Holders, says_permanode, IsHeldBut}
use Rattle.index_rows.specs.States.{States, says_genuine}
use Rattle.index_rows.specs.Touched.{chain_within, is_delete}
use Rattle.index_rows.specs.Values.{IsChange, IsListed, row_values}
use Rattle.index_rows.proofs.Orders.{change_total}
use Rattle.delete_claims.specs.Entered.{with_row, entered_targets, IsEntered}
use Rattle.delete_claims.specs.Flipping.{turned, IsFront}
use Rattle.index_meaning.specs.Meaning.{is_change_on}
use Rattle.index_meaning.specs.Touching.{concerned_by}
use Rattle.attr_fold.specs.Following.{IsFlipped}
use Rattle.claim_index.specs.Following.{change_by, IsSeen, settled, unsettled}
use Rattle.claim_index.specs.Halfway.{IsHalfway, CanBeFinished}
use Rattle.claim_index.proofs.EnterOne.{no_one}
use Rattle.claim_index.proofs.Finishable.{can_be_finished}
use Rattle.claim_index.proofs.LoopTicks.{or_cases, left, in_either, in_second}
use Rattle.claim_index.proofs.OneEntered.{after, touched, same_genuine, held_after, finished_after, halfway_after}
use Rattle.claim_index.proofs.OneFollowed.{own_bytes, change_of, IsChangeOf, half_with}
use Rattle.claim_index.proofs.Refolds.{AreHeldBut, IsSameBeside, held_now, still_finished}
use Rattle.claim_index.proofs.SeenAlone.{addition_is_change}

-- ---- all refs of a chain but the last one are delete claims

module _ (facts : Facts) (q : List ℕ → Bool) (rest : List (List ℕ)) (last y : List ℕ) where
  front_stands : (n : ℕ) (at : List ℕ) (front : List (List ℕ)) → front ++ last ∷ rest ≡ chain_within facts q n at
      → list_any (bytes_eq y) front ≡ true → q y ≡ true
  front_stands n at [] e h = absurd (false≢true h)
  front_stands zero at (f ∷ fs) e h =
      let d : ◌≡◌ {A = List (List ℕ)} (f ∷ (fs ++ last ∷ rest)) [] = e in
      absurd (cc d)
  front_stands (suc n) at (f ∷ fs) e h = by (q at) refl e (front_stands n (target_in facts at) fs)
    where
      nothing : (fs : List (List ℕ)) → fs ++ last ∷ rest ≡ [] → ⊥
      nothing [] e =
          let d : ◌≡◌ {A = List (List ℕ)} (last ∷ rest) [] = e in
          absurd (cc d)
      nothing (x ∷ xs) e =
          let d : ◌≡◌ {A = List (List ℕ)} (x ∷ (xs ++ last ∷ rest)) [] = e in
          absurd (cc d)

      by : (b : Bool) → q at ≡ b
          → ◌≡◌ {A = List (List ℕ)} (f ∷ (fs ++ last ∷ rest))
          (at ∷ cond b (chain_within facts q n (target_in facts at)) [])
          → (fs ++ last ∷ rest ≡ chain_within facts q n (target_in facts at) → list_any (bytes_eq y) fs ≡ true
          → q y ≡ true)
          → q y ≡ true
      by false is e later =
          let d : ◌≡◌ {A = List (List ℕ)} (f ∷ (fs ++ last ∷ rest)) (at ∷ []) = e in
          let none : fs ++ last ∷ rest ≡ [] = cc d in
          absurd (nothing fs none)
      by true is e later =
          let d : ◌≡◌ {A = List (List ℕ)} (f ∷ (fs ++ last ∷ rest))
          (at ∷ chain_within facts q n (target_in facts at)) = e in
          let same : f ≡ at = cc d in
          let next : fs ++ last ∷ rest ≡ chain_within facts q n (target_in facts at) = cc d in
          go (or_cases (bytes_eq y f) (list_any (bytes_eq y) fs) h) same next
        where
          go : (bytes_eq y f ≡ true) ⊎ (list_any (bytes_eq y) fs ≡ true) → f ≡ at
              → fs ++ last ∷ rest ≡ chain_within facts q n (target_in facts at) → q y ≡ true
          go (inl u) same next = ap q ((bytes_eq-Decides y f).0 u ∙ same) ∙ is
          go (inr u) same next = later next u

row_of_delete : (deletes : Deletes) (y : List ℕ) (kind : Kind) → kind_has_row deletes y kind ≡ true
    → is_delete kind ≡ true
row_of_delete deletes y Plain h = absurd (false≢true h)
row_of_delete deletes y (Key name) h = absurd (false≢true h)
row_of_delete deletes y (File name parts) h = absurd (false≢true h)
row_of_delete deletes y (Bytes parts) h = absurd (false≢true h)
row_of_delete deletes y (Directory name listing) h = absurd (false≢true h)
row_of_delete deletes y (StaticSet members) h = absurd (false≢true h)
row_of_delete deletes y (Permanode signed) h = absurd (false≢true h)
row_of_delete deletes y (Claim signed date (Set on attr value)) h = absurd (false≢true h)
row_of_delete deletes y (Claim signed date (Add on attr value)) h = absurd (false≢true h)
row_of_delete deletes y (Claim signed date (Del on attr value)) h = absurd (false≢true h)
row_of_delete deletes y (Claim signed date (Delete target)) h = refl
row_of_delete deletes y (Claim signed date (Multi changes)) h = absurd (false≢true h)
row_of_delete deletes y (Unread name) h = absurd (false≢true h)

stands_delete : (facts : Facts) (deletes : Deletes) (y : List ℕ) → row_stands facts deletes y ≡ true
    → passes (λ (fact : Fact). is_delete fact.kind) (get facts y) ≡ true
stands_delete facts deletes y h = by (get facts y) h
  where
    by : (o : Option Fact) → passes (λ (fact : Fact). kind_has_row deletes y fact.kind) o ≡ true
        → passes (λ (fact : Fact). is_delete fact.kind) o ≡ true
    by None t = absurd (false≢true t)
    by (Some fact) t = row_of_delete deletes y fact.kind t

-- ---- a delete claim is no permanode, and changes nothing

no_both : (kind : Kind) → is_delete kind ≡ true → is_permanode kind ≡ true → ⊥
no_both Plain h t = false≢true h
no_both (Key name) h t = false≢true h
no_both (File name parts) h t = false≢true h
no_both (Bytes parts) h t = false≢true h
no_both (Directory name listing) h t = false≢true h
no_both (StaticSet members) h t = false≢true h
no_both (Permanode signed) h t = false≢true h
no_both (Claim signed date what) h t = false≢true t
no_both (Unread name) h t = false≢true h

none_both : (o : Option Fact) → passes (λ (fact : Fact). is_delete fact.kind) o ≡ true
    → passes (λ (fact : Fact). is_permanode fact.kind) o ≡ true → ⊥
none_both None h t = false≢true h
none_both (Some fact) h t = no_both fact.kind h t

no_change : (q : List ℕ) (j : Moment) (kind : Kind) → is_delete kind ≡ true → is_change_on q j kind ≡ true → ⊥
no_change q j Plain h t = false≢true h
no_change q j (Key name) h t = false≢true h
no_change q j (File name parts) h t = false≢true h
no_change q j (Bytes parts) h t = false≢true h
no_change q j (Directory name listing) h t = false≢true h
no_change q j (StaticSet members) h t = false≢true h
no_change q j (Permanode signed) h t = false≢true h
no_change q j (Claim signed date (Set on attr value)) h t = false≢true h
no_change q j (Claim signed date (Add on attr value)) h t = false≢true h
no_change q j (Claim signed date (Del on attr value)) h t = false≢true h
no_change q j (Claim signed date (Delete target)) h t =
    false≢true (and_parts (is_eq (int_cmp j.0 date)) false t).1
no_change q j (Claim signed date (Multi changes)) h t = false≢true h
no_change q j (Unread name) h t = false≢true h

none_change : (q : List ℕ) (j : Moment) (o : Option Fact) → passes (λ (fact : Fact). is_delete fact.kind) o ≡ true
    → passes (λ (fact : Fact). is_change_on q j fact.kind) o ≡ true → ⊥
none_change q j None h t = false≢true h
none_change q j (Some fact) h t = no_change q j fact.kind h t

-- what the row of a change is of
row_is_on : (facts : Facts) (state : States) (q : List ℕ) (j : Moment) → IsChange facts state q j
    → passes (λ (fact : Fact). is_change_on q j fact.kind) (get facts j.1) ≡ true
row_is_on facts state q j is =
    ap (passes (λ (fact : Fact). is_change_on q j fact.kind)) is.found ∙ ap (is_change_on q j) is.says
    ∙ and_from (is_eq (int_cmp j.0 j.0)) (passes (λ (c : Change). bytes_eq q c.on)
    (slice_get (changes_of is.what) j.2)) ((eq_by_cmp_equiv int_cmp_total).refl j.0)
    (ap (passes (λ (c : Change). bytes_eq q c.on)) is.place ∙ ap (bytes_eq q) is.on ∙ own_bytes q)

twice : (a b : Bool) → a ≡ not b → b ≡ not a
twice true true h = absurd (false≢true (sym h))
twice true false h = refl
twice false true h = refl
twice false false h = absurd (false≢true h)

-- ---- the deletions that changed

module _ (rows : Rows) (entered : Deletes) (state : States) (d : List ℕ) (changed : List (List ℕ))
    (is : IsEntered rows.facts.ordered rows.deletes entered rows.state state d changed)
    (begins : IsFront changed (entered_targets rows.facts.ordered rows.deletes d))
    (front : List (List ℕ)) (last : List ℕ) (cut : changed ≡ front ++ last ∷ []) where
  abbrev facts : Facts
  facts = rows.facts.ordered

  -- all of them but the last one are delete claims
  stand : (y : List ℕ) → list_any (bytes_eq y) front ≡ true
      → passes (λ (fact : Fact). is_delete fact.kind) (get facts y) ≡ true
  stand y h = stands_delete facts (with_row facts rows.deletes d) y
      (front_stands facts (row_stands facts (with_row facts rows.deletes d)) begins.0 last y (len facts)
      (target_in facts d) front
      (sym (append_assoc front (last ∷ []) begins.0) ∙ ap (λ (l : List (List ℕ)). l ++ begins.0) (sym cut) ∙ begins.1)
      h)

  -- so these concern nobody
  concern_none : (xs : List (List ℕ))
      → ((y : List ℕ) → list_any (bytes_eq y) xs ≡ true
      → passes (λ (fact : Fact). is_delete fact.kind) (get facts y) ≡ true)
      → flat_map (concerned_by facts state) xs ≡ []
  concern_none [] h = refl
  concern_none (x ∷ xs) h =
      let own = no_one state x (get facts x) (h x (left (list_any (bytes_eq x) xs) (own_bytes x))) in
      let later = concern_none xs (λ y t. h y (or_later (bytes_eq y x) t)) in
      λ i. own i ++ later i
    where
      or_later : (a : Bool) {b : Bool} → b ≡ true → (a || b) ≡ true
      or_later true t = refl
      or_later false t = t

  pub front_concerns : flat_map (concerned_by facts state) front ≡ []
  front_concerns = concern_none front stand

  in_changed : (y : List ℕ) → list_any (bytes_eq y) changed ≡ true
      → (list_any (bytes_eq y) front ≡ true) ⊎ (y ≡ last)
  in_changed y t = by (in_either y front (last ∷ []) (ap (list_any (bytes_eq y)) (sym cut) ∙ t))
    where
      by : (list_any (bytes_eq y) front ≡ true) ⊎ ((bytes_eq y last || false) ≡ true)
          → (list_any (bytes_eq y) front ≡ true) ⊎ (y ≡ last)
      by (inl u) = inl u
      by (inr u) = on (or_cases (bytes_eq y last) false u)
        where
          on : (bytes_eq y last ≡ true) ⊎ (false ≡ true) → (list_any (bytes_eq y) front ≡ true) ⊎ (y ≡ last)
          on (inl v) = inr ((bytes_eq-Decides y last).0 v)
          on (inr v) = absurd (false≢true v)

  pub last_changed : list_any (bytes_eq last) changed ≡ true
  last_changed = ap (list_any (bytes_eq last)) cut
      ∙ in_second last front (last ∷ []) (left false (own_bytes last))

  stays : (y : List ℕ) → (list_any (bytes_eq y) changed ≡ true → ⊥)
      → row_deleted facts rows.deletes Always y ≡ row_deleted facts entered Always y
  stays y out = sym (is.turns y ∙ ap (turned (row_deleted facts rows.deletes Always y))
      (false_from_ne_true (list_any (bytes_eq y) changed) out))

  last_turned : row_deleted facts rows.deletes Always last ≡ not (row_deleted facts entered Always last)
  last_turned = twice (row_deleted facts entered Always last) (row_deleted facts rows.deletes Always last)
      (is.turns last ∙ ap (turned (row_deleted facts rows.deletes Always last)) last_changed)

  module _ (p : List ℕ) (k : Moment)
      (says : ◌≡◌ {A = Option (List ℕ × Moment)} (change_by facts last) (Some (p, k)))
      (listed : IsListed facts state rows.changes) where
    of : IsChangeOf facts last p k
    of = change_of facts last p k says

    own_turned : row_deleted facts rows.deletes Always k.1 ≡ not (row_deleted facts entered Always k.1)
    own_turned = subst (λ (r : List ℕ). row_deleted facts rows.deletes Always r
        ≡ not (row_deleted facts entered Always r)) (sym of.its.claim) last_turned

    others_stay : (q : List ℕ) (j : Moment) → contains_key rows.changes (q, j) ≡ true
        → eq_by_cmp change_cmp (q, j) (p, k) ≡ false
        → row_deleted facts rows.deletes Always j.1 ≡ row_deleted facts entered Always j.1
    others_stay q j there differs = stays j.1 (λ t. go (in_changed j.1 t))
      where
        on : passes (λ (fact : Fact). is_change_on q j fact.kind) (get facts j.1) ≡ true
        on = row_is_on facts state q j (listed q j there)

        go : (list_any (bytes_eq j.1) front ≡ true) ⊎ (j.1 ≡ last) → ⊥
        go (inl u) = none_change q j (get facts j.1) (stand j.1 u) on
        go (inr e) =
            let here : is_change_on q j of.fact.kind ≡ true
            = sym (ap (λ (r : List ℕ). passes (λ (fact : Fact). is_change_on q j fact.kind) (get facts r)) e
            ∙ ap (passes (λ (fact : Fact). is_change_on q j fact.kind)) of.found) ∙ on in
            let same : ◌≡◌ {A = ChangeKey} (q, j) (p, k) = of.its.one q j here e in
            false≢true (sym differs ∙ ap (λ (r : ChangeKey). eq_by_cmp change_cmp r (p, k)) same
            ∙ (eq_by_cmp_equiv change_total).refl (p, k))

    permanodes_stay : (q : List ℕ) → says_permanode facts state q ≡ true
        → row_deleted facts rows.deletes Always q ≡ row_deleted facts entered Always q
    permanodes_stay q t = stays q (λ u. go (in_changed q u))
      where
        one : passes (λ (fact : Fact). is_permanode fact.kind) (get facts q) ≡ true
        one = (and_parts (passes (λ (fact : Fact). is_permanode fact.kind) (get facts q)) (says_genuine state q) t).0

        go : (list_any (bytes_eq q) front ≡ true) ⊎ (q ≡ last) → ⊥
        go (inl u) = none_both (get facts q) (stand q u) one
        go (inr e) = false≢true (sym of.its.none
            ∙ sym (ap (λ (r : List ℕ). passes (λ (fact : Fact). is_permanode fact.kind) (get facts r)) e
            ∙ ap (passes (λ (fact : Fact). is_permanode fact.kind)) of.found) ∙ one)

    flipped : IsFlipped facts state rows.changes rows.deletes entered p k
    flipped = record { own = own_turned; others = others_stay; permanodes = permanodes_stay }

  -- ---- the rows of holders

  same_says : (q : List ℕ) → says_permanode facts state q ≡ says_permanode facts rows.state q
  same_says q = ap (λ b. passes (λ (fact : Fact). is_permanode fact.kind) (get facts q) && b)
      (same_genuine rows entered state d changed is q)

  held_before : (cs : List (List ℕ)) → AreHeldBut [] rows
      → IsHeldBut cs facts state rows.deletes rows.changes rows.holders
  held_before cs h = record {
    held = λ name value q out. h.held name value q refl
        ∙ ap (λ b. (b && not (row_deleted facts rows.deletes Always q)) && list_any (bytes_eq value)
        (row_values facts rows.deletes rows.changes Always q name)) (sym (same_says q));
    times = λ name value q n out found. h.times name value q n refl found;
    permanode = λ name value q t. same_says q ∙ h.permanode name value q t;
    given = h.given;
  }

  module _ (before cs : List (List ℕ)) (first end : ℕ)
      (told : before ≡ flat_map (concerned_by facts state) front) where
    pub all_told : cs ≡ before ++ concerned_by facts state last → [] ++ touched rows entered state d changed is ≡ cs
    all_told added =
        ap (flat_map (concerned_by facts state)) cut
        ∙ flat_map-append (concerned_by facts state) front (last ∷ [])
        ∙ ap (λ (l : List (List ℕ)). flat_map (concerned_by facts state) front ++ l)
        (append-nil (concerned_by facts state last))
        ∙ ap (λ (l : List (List ℕ)). l ++ concerned_by facts state last) (sym told) ∙ sym added

    held_seen : (holders : Holders) → IsSeen (after rows entered state d changed is) holders last before cs first end
        → CanBeFinished (d ∷ []) [] rows → IsHeldBut cs facts state entered rows.changes holders
    held_seen holders (settled did same) can =
        did.held cs rows.deletes
        (flipped did.on did.moment (addition_is_change facts last did.on did.moment did.says)
        (finished_after rows entered state d changed is [] [] can).listed)
        (held_before cs can.held)
    held_seen holders (unsettled is_left few) can =
        subst (λ (hs : Holders). IsHeldBut cs facts state entered rows.changes hs) (sym is_left.same)
        (subst (λ (refs : List (List ℕ)). IsHeldBut refs facts state entered rows.changes rows.holders)
        (all_told is_left.added)
        (held_after rows entered state d changed is [] can.listed can.held))

    module _ (new : Rows) (same : IsSameBeside (after rows entered state d changed is) new)
        (seen : IsSeen (after rows entered state d changed is) new.holders last before cs first end) where
      pub seen_finished : CanBeFinished (d ∷ []) [] rows → CanBeFinished [] cs new
      seen_finished can = still_finished (after rows entered state d changed is) new same cs
          ([] ++ touched rows entered state d changed is)
          (finished_after rows entered state d changed is [] [] can)
          (held_now (after rows entered state d changed is) new same cs (held_seen new.holders seen can))

      pub seen_halfway : (accepts : Accepts) → IsHalfway accepts [] (d ∷ []) [] rows → IsHalfway accepts [] [] cs new
      seen_halfway accepts half = half_with accepts [] [] (after rows entered state d changed is) new same
          ([] ++ touched rows entered state d changed is) cs
          (halfway_after rows entered state d changed is accepts [] [] half)
          (held_seen new.holders seen (can_be_finished accepts (d ∷ []) [] rows half))
