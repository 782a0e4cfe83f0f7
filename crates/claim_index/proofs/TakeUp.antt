-- One fact more takes no more steps than what it touches allows.
use Rattle.std.proofs.Common.{◌≡◌, ◌≤◌, ◌+◌, ◌*◌, ℕ, Bool, true, false, ◌&&◌, ◌||◌, cond, List, [], length, Option, None, Some, refl, sym, ap, subst, ◌∙◌, is_some, option_and_then, arith}
use Rattle.std.proofs.lemmas.Bool.{false≢true}
use Rattle.std.specs.List.{list_any, sum_by}
use Rattle.std.specs.Str.{bytes_eq}
use Rattle.std.specs.FinMap.{get, contains_key, keys, same_map, get-retain_keys}
use Rattle.claim_verify.specs.Verifier.{Accepts}
use Rattle.schema_fact.specs.declared.kinds.Fact.{Fact}
use Rattle.schema_fact.specs.declared.kinds.What.TheVariants.{Set, Add, Del, Delete, Multi}
use Rattle.schema_fact.specs.declared.kinds.Kind.{Kind}
use Rattle.schema_fact.specs.declared.kinds.Kind.TheVariants.{Plain, Key, File, Bytes, Directory, StaticSet, Permanode, Claim, Unread}
use Rattle.claim_model.specs.Facts.{Facts, passes}
use Rattle.claim_model.specs.Ready.{is_ready}
use Rattle.claim_model.specs.Genuine.{is_genuine}
use Rattle.index_rows.specs.declared.rows.Rows.{Rows}
use Rattle.index_rows.specs.Touched.{becomes, became, needs_of, namings, is_delete, is_genuine_delete, touched_in, changed_refs}
use Rattle.index_rows.proofs.Orders.{ref_total, ref_same}
use Rattle.index_meaning.specs.Meaning.{delete_date}
use Rattle.index_meaning.proofs.Arriving.{all_have_arrived}
use Rattle.pending_deps.specs.Arriving.{arrived_with}
use Rattle.claim_index.specs.Halfway.{taken, HasOneMore, IsGenuineDelete, IsHalfway}
use Rattle.claim_index.specs.Costs.{look_steps, freed, taking_steps, finish_steps, change_count, all_concerned, may_concern, AddsFor, AreTaken, IsCovered}
use Rattle.claim_index.specs.Following.{AreFewOn}
use Rattle.claim_index.specs.Judging.{is_signed_at}
use Rattle.claim_index.proofs.Concerned.{all_covered, few_changes, in_keys, puts_covered}
use Rattle.claim_index.proofs.TouchedSum.{heads, touched_sum}
use Rattle.index_rows.proofs.LooseFacts.{in_order}

pub says_delete : (x : List ℕ) (kind : Kind) → is_some (delete_date x kind) ≡ true → is_delete kind ≡ true
says_delete x Plain h = absurd (false≢true h)
says_delete x (Key name) h = absurd (false≢true h)
says_delete x (File name parts) h = absurd (false≢true h)
says_delete x (Bytes parts) h = absurd (false≢true h)
says_delete x (Directory name listing) h = absurd (false≢true h)
says_delete x (StaticSet members) h = absurd (false≢true h)
says_delete x (Permanode signed) h = absurd (false≢true h)
says_delete x (Claim signed date (Set on attr value)) h = absurd (false≢true h)
says_delete x (Claim signed date (Add on attr value)) h = absurd (false≢true h)
says_delete x (Claim signed date (Del on attr value)) h = absurd (false≢true h)
says_delete x (Claim signed date (Delete target)) h = refl
says_delete x (Claim signed date (Multi changes)) h = absurd (false≢true h)
says_delete x (Unread name) h = absurd (false≢true h)

pub is_one : (facts : Facts) (accepts : Accepts) (d : List ℕ) → IsGenuineDelete facts accepts d → is_genuine_delete facts accepts d ≡ true
is_one facts accepts d is = by (is_genuine facts accepts d) (get facts d) (ap is_some is.says)
  where
    by : (b : Bool) (o : Option Fact) → is_some (cond b (option_and_then (λ fact. delete_date is.target fact.kind) o) None) ≡ true → (b && passes (λ fact. is_delete fact.kind) o) ≡ true
    by true None h = absurd (false≢true h)
    by true (Some fact) h = says_delete is.target fact.kind h
    by false o h = absurd (false≢true h)

or_none : {b : Bool} → (false || b) ≡ true → b ≡ true
or_none t = t

module _ (accepts : Accepts) (rows : Rows) (r : List ℕ) (more : HasOneMore accepts rows r) where
  all_with : arrived_with rows.facts.ordered rows.state r ≡ rows.facts.ordered
  all_with = same_map ref_total ref_same _ _ (λ y.
      get-retain_keys rows.facts.ordered (λ x. bytes_eq x r || contains_key rows.state x) y (λ x t. ap (λ z. bytes_eq z r || contains_key rows.state z) (sym (ref_same y x t)))
      ∙ ap (λ b. cond b (get rows.facts.ordered y) None) (sym (more.others y)) ∙ own (get rows.facts.ordered y))
    where
      own : (o : Option Fact) → cond (is_some o) o None ≡ o
      own None = refl
      own (Some fact) = refl

  known : list_any (bytes_eq r) (keys rows.facts.ordered) ≡ true
  known = in_keys rows.facts.ordered r (ap is_some more.fresh.found)

  abbrev fresh : List (List ℕ)
  fresh = became (is_ready (taken rows)) rows.facts.ordered

  freed_is : freed rows.facts.ordered rows.state r ≡ fresh
  freed_is = ap (λ (f : Facts). became (is_ready (taken rows)) f) all_with

  taking_is : taking_steps rows.facts.ordered accepts rows.state r
      ≡ 2 + 3 * length (needs_of rows.facts.ordered r) + length fresh + 4 * length (namings rows.facts.ordered (becomes (is_ready (taken rows)) rows.facts.ordered)) + sum_by (look_steps rows.facts.ordered accepts) fresh
  taking_is = ap (λ (f : Facts). 2 + 3 * length (needs_of rows.facts.ordered r) + length (became (is_ready (taken rows)) f) + 4 * length (namings f (becomes (is_ready (taken rows)) f))
      + sum_by (look_steps rows.facts.ordered accepts) (became (is_ready (taken rows)) f)) all_with

  -- the genuine changes on all whom what is new changes
  abbrev pub all_changes : ℕ
  all_changes = sum_by (change_count rows.facts.ordered accepts) (changed_refs (taken rows) rows.facts.ordered accepts r)

  pub few_freed : AreFewOn rows.facts.ordered accepts (freed rows.facts.ordered rows.state r) all_changes
  few_freed = subst (λ (xs : List (List ℕ)). AreFewOn rows.facts.ordered accepts xs all_changes) (sym freed_is) (few_changes (taken rows) rows.facts.ordered accepts r known)

  -- where taking in ends for want of memory
  pub taken_ticks : (first last : ℕ) → last ≤ first + taking_steps rows.facts.ordered accepts rows.state r + 8 + 4 * all_changes → last ≤ first + 12 + 16 * length (touched_in (taken rows) rows.facts.ordered accepts r)
  taken_ticks first last h =
      let s = touched_sum (taken rows) rows.facts.ordered accepts r known [] tt (λ d t. absurd (false≢true t)) (λ d t. absurd (false≢true t)) (puts_covered (taken rows) rows.facts.ordered accepts r known) in
      let e = taking_is in
      omega (arith, h, s, e)

  module _ (now : Rows) (same : now.facts ≡ rows.facts) (arrived_now : (y : List ℕ) → contains_key now.state y ≡ (bytes_eq y r || contains_key rows.state y))
      (ds cs deletes concerned : List (List ℕ)) (no_deletes : ds ≡ []) (none_concerned : cs ≡ [])
      (adds : AddsFor rows.facts.ordered accepts (freed rows.facts.ordered rows.state r) ds deletes cs concerned) (half : IsHalfway accepts [] deletes concerned now) where
    pub are_taken : AreTaken now
    are_taken y = arrived_now y ∙ sym (more.others y) ∙ ap (λ (f : Facts). contains_key f y) (sym (in_order same))

    is_taken : taken now ≡ rows.facts.ordered
    is_taken = all_have_arrived now.facts.ordered now.state are_taken ∙ in_order same

    genuine : (d : List ℕ) → list_any (bytes_eq d) deletes ≡ true → is_genuine_delete rows.facts.ordered accepts d ≡ true
    genuine d t = ap (λ (f : Facts). is_genuine_delete f accepts d) (sym is_taken) ∙ is_one (taken now) accepts d (half.claims d t)

    among : (d : List ℕ) → list_any (bytes_eq d) deletes ≡ true → list_any (bytes_eq d) fresh ≡ true
    among d t = ap (list_any (bytes_eq d)) (sym freed_is) ∙ or_none (ap (λ (xs : List (List ℕ)). list_any (bytes_eq d) xs || list_any (bytes_eq d) (freed rows.facts.ordered rows.state r)) (sym no_deletes) ∙ adds.deletes d t)

    by_fresh : (p : List ℕ) → list_any (bytes_eq p) concerned ≡ true → list_any (bytes_eq p) (may_concern rows.facts.ordered (is_signed_at rows.facts.ordered accepts) fresh) ≡ true
    by_fresh p t = ap (λ (xs : List (List ℕ)). list_any (bytes_eq p) (may_concern rows.facts.ordered (is_signed_at rows.facts.ordered accepts) xs)) (sym freed_is)
        ∙ or_none (ap (λ (xs : List (List ℕ)). list_any (bytes_eq p) xs || list_any (bytes_eq p) (may_concern rows.facts.ordered (is_signed_at rows.facts.ordered accepts) (freed rows.facts.ordered rows.state r))) (sym none_concerned)
        ∙ adds.concerned p t)

    abbrev first_refs : List (List ℕ)
    first_refs = heads (taken rows) rows.facts.ordered accepts r

    abbrev second_refs : List (List ℕ)
    second_refs = changed_refs (taken rows) rows.facts.ordered accepts r

    pub covers_all : IsCovered now.facts.ordered accepts (all_concerned now.facts.ordered accepts deletes concerned) first_refs second_refs
    covers_all = subst (λ (f : Facts). IsCovered f accepts (all_concerned f accepts deletes concerned) first_refs second_refs) (sym (in_order same))
        (all_covered (taken rows) rows.facts.ordered accepts r known deletes concerned genuine among by_fresh)

    pub finished_ticks : (first mid last : ℕ) → mid ≤ first + taking_steps rows.facts.ordered accepts rows.state r + 8 + 4 * all_changes
        → last ≤ mid + finish_steps now.facts.ordered accepts deletes first_refs second_refs
        → last ≤ first + 12 + 16 * length (touched_in (taken rows) rows.facts.ordered accepts r)
    finished_ticks first mid last a b =
        let s = touched_sum (taken rows) rows.facts.ordered accepts r known deletes half.once genuine among (puts_covered (taken rows) rows.facts.ordered accepts r known) in
        let e = taking_is in
        let f : finish_steps now.facts.ordered accepts deletes first_refs second_refs ≡ finish_steps rows.facts.ordered accepts deletes first_refs second_refs
        = ap (λ (g : Facts). finish_steps g accepts deletes first_refs second_refs) (in_order same) in
        omega (arith, a, b, s, e, f)
