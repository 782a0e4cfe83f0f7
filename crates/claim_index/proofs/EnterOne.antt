-- What the entering of one delete claim takes and adds, in terms of the facts.
use Rattle.std.proofs.Common.{◌≡◌, ◌≤◌, ◌+◌, ◌*◌, ℕ, ℤ, zero, suc, Bool, true, false, ◌&&◌, ◌||◌, cond, List, [], ◌∷◌, ◌++◌, length, flat_map, Option, None, Some, refl, sym, ap, subst, ◌∙◌, ◌⊎◌, inl, inr, is_some, arith, length-append, append_assoc, option_and_then}
use Rattle.std.proofs.lemmas.Bool.{false≢true, and_parts}
use Rattle.std.proofs.lemmas.List.Folds.{list_any-append}
use Rattle.std.proofs.lemmas.Slice.Eq.{bytes_eq-Decides}
use Rattle.std.specs.List.{list_any, sum_by}
use Rattle.std.specs.Str.{bytes_eq}
use Rattle.std.specs.Ordering.{eq_by_cmp}
use Rattle.std.specs.FinMap.{get, contains_key, len}
use Rattle.claim_verify.specs.Verifier.{Accepts}
use Rattle.schema_fact.specs.declared.kinds.Fact.{Fact}
use Rattle.schema_fact.specs.declared.kinds.What.{What}
use Rattle.schema_fact.specs.declared.kinds.What.TheVariants.{Set, Add, Del, Delete, Multi}
use Rattle.schema_fact.specs.declared.kinds.Kind.{Kind}
use Rattle.schema_fact.specs.declared.kinds.Kind.TheVariants.{Plain, Key, File, Bytes, Directory, StaticSet, Permanode, Claim, Unread}
use Rattle.claim_model.specs.Facts.{Facts, passes}
use Rattle.claim_model.specs.Genuine.{is_genuine}
use Rattle.index_rows.specs.declared.rows.Rows.{Rows}
use Rattle.index_rows.specs.declared.rows.StateRow.{StateRow}
use Rattle.index_rows.specs.Deletes.{Deletes, target_in, what_has_row, kind_has_row, row_stands}
use Rattle.index_rows.specs.Pairs.{Pair, pair_cmp}
use Rattle.index_rows.specs.States.{States, says_genuine}
use Rattle.index_rows.specs.Touched.{is_delete, is_genuine_delete, chain_within, last_ref, chain_end}
use Rattle.index_rows.proofs.Counting.{contains-insert}
use Rattle.index_rows.proofs.Orders.{pair_total, pair_same}
use Rattle.index_look.proofs.Order.{is_Equal}
use Rattle.delete_claims.specs.Flipping.{IsFront}
use Rattle.delete_claims.specs.Entered.{delete_in, put_row, with_row, entered_targets, IsEntered}
use Rattle.index_meaning.specs.Meaning.{delete_date, IsJudged}
use Rattle.index_meaning.specs.Steps.{IsDeletesBut}
use Rattle.index_meaning.specs.Touching.{kind_concerns, fact_concerns, concerned_by}
use Rattle.index_meaning.proofs.Arriving.{all_have_arrived}
use Rattle.claim_index.specs.Halfway.{taken, IsHalfway}
use Rattle.claim_index.specs.Costs.{targets_of, enter_steps, ends_of, may_concern, all_concerned, refolds_steps, finish_steps, AddsEntered, AreTaken, IsCovered}
use Rattle.claim_index.proofs.Members.{among_last}
use Rattle.claim_index.proofs.OneEntered.{same_genuine}
use Rattle.claim_index.proofs.AddTicks.{one_concerns}
use Rattle.claim_index.proofs.LoopTicks.{or_cases, left, right, in_either}
use Rattle.claim_index.proofs.TakeUp.{says_delete, is_one}
use Rattle.index_rows.proofs.LooseFacts.{in_order}

-- ---- lists that begin others

pub front_then : (xs ys zs : List (List ℕ)) → IsFront xs ys → IsFront ys zs → IsFront xs zs
front_then xs ys zs a b = (a.0 ++ b.0, sym (append_assoc xs a.0 b.0) ∙ ap (λ l. l ++ b.0) a.1 ∙ b.1)

pub front_length : (xs ys : List (List ℕ)) → IsFront xs ys → length xs ≤ length ys
front_length xs ys a = let l = length-append xs a.0 in let e : length (xs ++ a.0) ≡ length ys = ap (λ (zs : List (List ℕ)). length zs) a.1 in omega (arith, l, e)

pub front_in : (xs ys : List (List ℕ)) → IsFront xs ys → (y : List ℕ) → list_any (bytes_eq y) xs ≡ true
    → list_any (bytes_eq y) ys ≡ true
front_in xs ys a y t = ap (list_any (bytes_eq y)) (sym a.1) ∙ list_any-append (bytes_eq y) xs a.0 ∙ left _ t

module _ (facts : Facts) (p q : List ℕ → Bool) (more : (y : List ℕ) → p y ≡ true → q y ≡ true) where
  wider : (n : ℕ) (y : List ℕ) → IsFront (chain_within facts p n y) (chain_within facts q n y)
  wider zero y = ([], refl)
  wider (suc n) y = by (p y) refl (wider n (target_in facts y))
    where
      by : (b : Bool) → p y ≡ b → IsFront (chain_within facts p n (target_in facts y)) (chain_within facts q n (target_in facts y))
          → IsFront (y ∷ cond b (chain_within facts p n (target_in facts y)) []) (y ∷ cond (q y) (chain_within facts q n (target_in facts y)) [])
      by true e rest = (rest.0, ap (λ l. y ∷ l) rest.1 ∙ ap (λ b. y ∷ cond b (chain_within facts q n (target_in facts y)) []) (sym (more y e)))
      by false e rest = (cond (q y) (chain_within facts q n (target_in facts y)) [], refl)

-- a ref of a chain counts, or is its last one
module _ (facts : Facts) (q : List ℕ → Bool) (y : List ℕ) where
  end_or : (n : ℕ) (at before : List ℕ) → list_any (bytes_eq y) (chain_within facts q n at) ≡ true → (q y ≡ true) ⊎ (y ≡ last_ref before (chain_within facts q n at))
  end_or zero at before h = absurd (false≢true h)
  end_or (suc n) at before h = by (q at) refl h (end_or n (target_in facts at) at)
    where
      by : (b : Bool) → q at ≡ b → (bytes_eq y at || list_any (bytes_eq y) (cond b (chain_within facts q n (target_in facts at)) [])) ≡ true
          → (list_any (bytes_eq y) (chain_within facts q n (target_in facts at)) ≡ true → (q y ≡ true) ⊎ (y ≡ last_ref at (chain_within facts q n (target_in facts at))))
          → (q y ≡ true) ⊎ (y ≡ last_ref at (cond b (chain_within facts q n (target_in facts at)) []))
      by true e t rest = go (or_cases _ _ t)
        where
          go : (bytes_eq y at ≡ true) ⊎ (list_any (bytes_eq y) (chain_within facts q n (target_in facts at)) ≡ true)
              → (q y ≡ true) ⊎ (y ≡ last_ref at (chain_within facts q n (target_in facts at)))
          go (inl u) = inl (ap q ((bytes_eq-Decides y at).0 u) ∙ e)
          go (inr u) = rest u
      by false e t rest = go (or_cases _ _ t)
        where
          go : (bytes_eq y at ≡ true) ⊎ (false ≡ true) → (q y ≡ true) ⊎ (y ≡ at)
          go (inl u) = inr ((bytes_eq-Decides y at).0 u)
          go (inr u) = absurd (false≢true u)

-- ---- a delete claim concerns nobody

no_concern : (state : States) (y : List ℕ) (kind : Kind) → is_delete kind ≡ true → kind_concerns state y kind ≡ []
no_concern state y Plain h = absurd (false≢true h)
no_concern state y (Key name) h = absurd (false≢true h)
no_concern state y (File name parts) h = absurd (false≢true h)
no_concern state y (Bytes parts) h = absurd (false≢true h)
no_concern state y (Directory name listing) h = absurd (false≢true h)
no_concern state y (StaticSet members) h = absurd (false≢true h)
no_concern state y (Permanode signed) h = absurd (false≢true h)
no_concern state y (Claim signed date (Set on attr value)) h = absurd (false≢true h)
no_concern state y (Claim signed date (Add on attr value)) h = absurd (false≢true h)
no_concern state y (Claim signed date (Del on attr value)) h = absurd (false≢true h)
no_concern state y (Claim signed date (Delete target)) h = by (says_genuine state y)
  where
    by : (b : Bool) → cond {A = List (List ℕ)} b [] [] ≡ []
    by true = refl
    by false = refl
no_concern state y (Claim signed date (Multi changes)) h = absurd (false≢true h)
no_concern state y (Unread name) h = absurd (false≢true h)

pub no_one : (state : States) (y : List ℕ) (o : Option Fact) → passes (λ fact. is_delete fact.kind) o ≡ true
    → fact_concerns state y o ≡ []
no_one state y None h = absurd (false≢true h)
no_one state y (Some fact) h = no_concern state y fact.kind h

-- ---- rows are of genuine delete claims

module _ (facts : Facts) (accepts : Accepts) (deletes : Deletes) (but : List (List ℕ)) (rows : IsDeletesBut but facts accepts deletes) where
  row_genuine : (x y : List ℕ) → contains_key deletes (x, y) ≡ true → is_genuine_delete facts accepts y ≡ true
  row_genuine x y h = by (list_any (bytes_eq y) but) (is_genuine facts accepts y) (get facts y) (sym (ap is_some (rows x y)) ∙ h)
    where
      by : (b g : Bool) (o : Option Fact) → is_some (cond b None (cond g (option_and_then (λ fact. delete_date x fact.kind) o) None)) ≡ true → (g && passes (λ fact. is_delete fact.kind) o) ≡ true
      by true g o t = absurd (false≢true t)
      by false true None t = absurd (false≢true t)
      by false true (Some fact) t = says_delete x fact.kind t
      by false false o t = absurd (false≢true t)

  module _ (d : List ℕ) (own : is_genuine_delete facts accepts d ≡ true) where
    key_genuine : (found : Option (List ℕ × ℤ)) (x y : List ℕ) → contains_key (put_row deletes d found) (x, y) ≡ true → is_genuine_delete facts accepts y ≡ true
    key_genuine None x y h = row_genuine x y h
    key_genuine (Some f) x y h = go (or_cases _ _ (sym (contains-insert pair_total pair_same deletes (f.0, d) f.1 (x, y)) ∙ h))
      where
        go : (eq_by_cmp pair_cmp (x, y) (f.0, d) ≡ true) ⊎ (contains_key deletes (x, y) ≡ true) → is_genuine_delete facts accepts y ≡ true
        go (inl u) = ap (λ (k : Pair). is_genuine_delete facts accepts k.1) (pair_same (x, y) (f.0, d) (is_Equal (pair_cmp (x, y) (f.0, d)) u)) ∙ own
        go (inr u) = row_genuine x y u

    what_genuine : (y : List ℕ) (what : What) → what_has_row (with_row facts deletes d) y what ≡ true → is_genuine_delete facts accepts y ≡ true
    what_genuine y (Set on attr value) h = absurd (false≢true h)
    what_genuine y (Add on attr value) h = absurd (false≢true h)
    what_genuine y (Del on attr value) h = absurd (false≢true h)
    what_genuine y (Delete target) h = key_genuine (delete_in facts d) target y h
    what_genuine y (Multi changes) h = absurd (false≢true h)

    kind_genuine : (y : List ℕ) (kind : Kind) → kind_has_row (with_row facts deletes d) y kind ≡ true → is_genuine_delete facts accepts y ≡ true
    kind_genuine y Plain h = absurd (false≢true h)
    kind_genuine y (Key name) h = absurd (false≢true h)
    kind_genuine y (File name parts) h = absurd (false≢true h)
    kind_genuine y (Bytes parts) h = absurd (false≢true h)
    kind_genuine y (Directory name listing) h = absurd (false≢true h)
    kind_genuine y (StaticSet members) h = absurd (false≢true h)
    kind_genuine y (Permanode signed) h = absurd (false≢true h)
    kind_genuine y (Claim signed date what) h = what_genuine y what h
    kind_genuine y (Unread name) h = absurd (false≢true h)

    stands_genuine : (y : List ℕ) → row_stands facts (with_row facts deletes d) y ≡ true → is_genuine_delete facts accepts y ≡ true
    stands_genuine y h = by (get facts y) h
      where
        by : (o : Option Fact) → passes (λ fact. kind_has_row (with_row facts deletes d) y fact.kind) o ≡ true → is_genuine_delete facts accepts y ≡ true
        by None t = absurd (false≢true t)
        by (Some fact) t = kind_genuine y fact.kind t

    -- the targets by rows begin those of the chain
    pub entered_front : IsFront (entered_targets facts deletes d) (targets_of facts accepts d)
    entered_front = wider facts (row_stands facts (with_row facts deletes d)) (is_genuine_delete facts accepts) stands_genuine (len facts) (target_in facts d)

-- ---- whom the turned refs concern

module _ (facts : Facts) (accepts : Accepts) (state : States) (says : (y : List ℕ) → says_genuine state y ≡ true → is_genuine facts accepts y ≡ true) (d : List ℕ) where
  abbrev end : List ℕ
  end = chain_end facts accepts d

  pub one_turned : (p y : List ℕ) → list_any (bytes_eq y) (targets_of facts accepts d) ≡ true
      → list_any (bytes_eq p) (concerned_by facts state y) ≡ true
      → list_any (bytes_eq p) (may_concern facts (is_genuine facts accepts) (end ∷ [])) ≡ true
  one_turned p y t h = by (end_or facts (is_genuine_delete facts accepts) y (len facts) (target_in facts d) d t)
    where
      by : (is_genuine_delete facts accepts y ≡ true) ⊎ (y ≡ end) → list_any (bytes_eq p) (may_concern facts (is_genuine facts accepts) (end ∷ [])) ≡ true
      by (inl g) = absurd (false≢true (sym (ap (list_any (bytes_eq p)) (no_one state y (get facts y) (and_parts (is_genuine facts accepts y) _ g).1)) ∙ h))
      by (inr e) = one_concerns facts (is_genuine facts accepts) state end (says end) p (ap (λ z. list_any (bytes_eq p) (concerned_by facts state z)) (sym e) ∙ h)

  all_turned : (p : List ℕ) (changed : List (List ℕ)) → ((y : List ℕ) → list_any (bytes_eq y) changed ≡ true → list_any (bytes_eq y) (targets_of facts accepts d) ≡ true)
      → list_any (bytes_eq p) (flat_map (concerned_by facts state) changed) ≡ true → list_any (bytes_eq p) (may_concern facts (is_genuine facts accepts) (end ∷ [])) ≡ true
  all_turned p [] h t = absurd (false≢true t)
  all_turned p (x ∷ xs) h t = go (all_turned p xs (λ y u. h y (right (bytes_eq y x) u))) (in_either p (concerned_by facts state x) (flat_map (concerned_by facts state) xs) t)
    where
      go : (list_any (bytes_eq p) (flat_map (concerned_by facts state) xs) ≡ true → list_any (bytes_eq p) (may_concern facts (is_genuine facts accepts) (end ∷ [])) ≡ true)
          → (list_any (bytes_eq p) (concerned_by facts state x) ≡ true) ⊎ (list_any (bytes_eq p) (flat_map (concerned_by facts state) xs) ≡ true)
          → list_any (bytes_eq p) (may_concern facts (is_genuine facts accepts) (end ∷ [])) ≡ true
      go later (inl u) = one_turned p x (h x (left (list_any (bytes_eq x) xs) ((bytes_eq-Decides x x).1 refl))) u
      go later (inr u) = later u

  pub entered_adds : (changed cs cs' : List (List ℕ)) → IsFront changed (targets_of facts accepts d) → cs' ≡ cs ++ flat_map (concerned_by facts state) changed
      → AddsEntered facts accepts (d ∷ []) cs cs'
  entered_adds changed cs cs' front is = λ p t. by p (in_either p cs (flat_map (concerned_by facts state) changed) (ap (list_any (bytes_eq p)) (sym is) ∙ t))
    where
      by : (p : List ℕ) → (list_any (bytes_eq p) cs ≡ true) ⊎ (list_any (bytes_eq p) (flat_map (concerned_by facts state) changed) ≡ true)
          → (list_any (bytes_eq p) cs || list_any (bytes_eq p) (may_concern facts (is_genuine facts accepts) (ends_of facts accepts (d ∷ [])))) ≡ true
      by p (inl u) = left _ u
      by p (inr u) = right (list_any (bytes_eq p) cs) (all_turned p changed (front_in changed (targets_of facts accepts d) front) u)

module _ (facts : Facts) (accepts : Accepts) (d : List ℕ) where
  pub entered_ticks : (changed entered : List (List ℕ)) → IsFront changed entered → IsFront entered (targets_of facts accepts d) → (first mid last : ℕ)
      → mid ≤ first + 3 + 4 * length entered → last ≤ mid + 2 * length changed → last ≤ first + enter_steps facts accepts d
  entered_ticks changed entered a b first mid last h k =
      let x = front_length changed entered a in let y = front_length entered (targets_of facts accepts d) b in omega (arith, h, k, x, y)

-- a row that says that it is genuine is right, once nothing is left to be judged
pub row_says : (facts : Facts) (accepts : Accepts) (state : States) → IsJudged facts accepts [] state → (y : List ℕ) → says_genuine state y ≡ true → is_genuine facts accepts y ≡ true
row_says facts accepts state judged y h = by (get state y) refl h
  where
    by : (o : Option StateRow) → get state y ≡ o → passes (λ (row : StateRow). row.genuine) o ≡ true → is_genuine facts accepts y ≡ true
    by None e t = absurd (false≢true t)
    by (Some row) e t = (and_parts (is_genuine facts accepts y) true (sym (judged.genuine y row e) ∙ t)).0

-- while claims are entered, in an index that has taken up all facts
module _ (accepts : Accepts) (rows : Rows) (others : List (List ℕ)) (d : List ℕ) (concerned : List (List ℕ)) (half : IsHalfway accepts [] (others ++ d ∷ []) concerned rows) (all : AreTaken rows) where
  pub whole : taken rows ≡ rows.facts.ordered
  whole = all_have_arrived rows.facts.ordered rows.state all

  pub one_front : IsFront (entered_targets rows.facts.ordered rows.deletes d) (targets_of rows.facts.ordered accepts d)
  one_front = entered_front rows.facts.ordered accepts rows.deletes (others ++ d ∷ [])
      (subst (λ (f : Facts). IsDeletesBut (others ++ d ∷ []) f accepts rows.deletes) whole half.deleted) d
      (ap (λ (f : Facts). is_genuine_delete f accepts d) (sym whole) ∙ is_one (taken rows) accepts d (half.claims d (among_last others d)))

  pub one_failed : (first last : ℕ) → last ≤ first + 3 + 4 * length (entered_targets rows.facts.ordered rows.deletes d) → last ≤ first + enter_steps rows.facts.ordered accepts d
  one_failed first last h = entered_ticks rows.facts.ordered accepts d [] (entered_targets rows.facts.ordered rows.deletes d) (entered_targets rows.facts.ordered rows.deletes d, refl) one_front first last last h (omega arith)

  pub one_ticks : (changed slice : List (List ℕ)) → slice ≡ changed → IsFront changed (entered_targets rows.facts.ordered rows.deletes d) → (first mid last : ℕ)
      → mid ≤ first + 3 + 4 * length (entered_targets rows.facts.ordered rows.deletes d) → last ≤ mid + 2 * length slice → last ≤ first + enter_steps rows.facts.ordered accepts d
  one_ticks changed slice same front first mid last h k =
      let e : length slice ≡ length changed = ap (λ (zs : List (List ℕ)). length zs) same in
      entered_ticks rows.facts.ordered accepts d changed (entered_targets rows.facts.ordered rows.deletes d) front one_front first mid last h (omega (arith, k, e))

  pub one_adds : (now : Rows) → now.facts ≡ rows.facts → (changed slice : List (List ℕ)) → IsEntered rows.facts.ordered rows.deletes now.deletes rows.state now.state d changed
      → slice ≡ changed → IsFront changed (entered_targets rows.facts.ordered rows.deletes d) → (cs cs' : List (List ℕ))
      → cs' ≡ cs ++ flat_map (concerned_by now.facts.ordered now.state) slice → AddsEntered rows.facts.ordered accepts (d ∷ []) cs cs'
  one_adds now facts changed slice entered same front cs cs' is =
      entered_adds rows.facts.ordered accepts now.state says d changed cs cs' (front_then changed (entered_targets rows.facts.ordered rows.deletes d) (targets_of rows.facts.ordered accepts d) front one_front)
      (is ∙ λ i. cs ++ flat_map (concerned_by (in_order facts i) now.state) (same i))
    where
      says : (y : List ℕ) → says_genuine now.state y ≡ true → is_genuine rows.facts.ordered accepts y ≡ true
      says y t = row_says rows.facts.ordered accepts rows.state (subst (λ (f : Facts). IsJudged f accepts [] rows.state) whole half.judged) y
          (sym (same_genuine rows now.deletes now.state d changed entered y) ∙ t)

-- ---- all that is left

module _ (accepts : Accepts) (rows now : Rows) (same : now.facts ≡ rows.facts) (deletes concerned concerned' heads ps : List (List ℕ))
    (adds : AddsEntered rows.facts.ordered accepts deletes concerned concerned') where
  pub covers_still : IsCovered rows.facts.ordered accepts (all_concerned rows.facts.ordered accepts deletes concerned) heads ps → IsCovered now.facts.ordered accepts concerned' heads ps
  covers_still is = subst (λ (f : Facts). IsCovered f accepts concerned' heads ps) (sym (in_order same)) (record {
    permanodes = λ p one t. is.permanodes p one (all p t);
    each = λ p t. is.each p (all p t);
  })
    where
      all : (p : List ℕ) → list_any (bytes_eq p) concerned' ≡ true → list_any (bytes_eq p) (all_concerned rows.facts.ordered accepts deletes concerned) ≡ true
      all p t = list_any-append (bytes_eq p) concerned (may_concern rows.facts.ordered (is_genuine rows.facts.ordered accepts) (ends_of rows.facts.ordered accepts deletes)) ∙ adds p t

  pub finish_sum : (slice : List (List ℕ)) → slice ≡ deletes → (first mid last : ℕ) → mid ≤ first + sum_by (enter_steps rows.facts.ordered accepts) slice
      → last ≤ mid + refolds_steps now.facts.ordered accepts heads ps → last ≤ first + finish_steps rows.facts.ordered accepts deletes heads ps
  finish_sum slice is first mid last a b =
      let e : sum_by (enter_steps rows.facts.ordered accepts) slice ≡ sum_by (enter_steps rows.facts.ordered accepts) deletes = ap (sum_by (enter_steps rows.facts.ordered accepts)) is in
      let f : refolds_steps now.facts.ordered accepts heads ps ≡ refolds_steps rows.facts.ordered accepts heads ps = ap (λ (g : Facts). refolds_steps g accepts heads ps) (in_order same) in
      omega (arith, a, b, e, f)
