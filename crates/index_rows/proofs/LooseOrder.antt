-- The next ref of a table with loose rows beside it.
use Rattle.std.proofs.Common.{◌≡◌, ℕ, Bool, true, false, ◌&&◌, cond, T, List, [], ◌∷◌, Option, None, Some, is_some, refl, sym, ap, ◌∙◌, Ordering}
use Rattle.std.proofs.lemmas.Bool.{false≢true, cond-true, cond-false, and_parts}
use Rattle.std.specs.declared.cmp.Ordering.TheVariants.{Less, Equal, Greater}
use Rattle.std.specs.Ordering.{is_eq, is_lt, eq_by_cmp}
use Rattle.std.specs.Map.{keys_of}
use Rattle.std.specs.List.{find as first}
use Rattle.std.specs.FinMap.Entries.{by_order, below_all, is_sorted, find, put}
use Rattle.std.specs.FinMap.{get, insert, entries, entries-insert, entries_sorted, get-entries}
use Rattle.blobref.specs.Blobref.{ref_cmp, is_after}
use Rattle.schema_fact.specs.declared.kinds.Fact.{Fact}
use Rattle.claim_model.specs.Facts.{Facts, Entry}
use Rattle.index_look.specs.Walk.{ref_after}
use Rattle.index_rows.specs.Loose.{LooseRow, is_better, least_from, lesser, with_row, with_loose}
use Rattle.index_rows.proofs.Orders.{ref_total, ref_same}

is_less : (r : Ordering) → is_lt r ≡ true → r ≡ Less
is_less Less h = refl
is_less Equal h = absurd (false≢true h)
is_less Greater h = absurd (false≢true h)

true_of : (b : Bool) → T b → b ≡ true
true_of true t = refl
true_of false t = absurd t

module _ (test : List ℕ → Bool) where
  abbrev at : List Entry → Option (List ℕ)
  at es = first test (keys_of es)

  -- the better one of what was found and a ref
  abbrev better : Option (List ℕ) → List ℕ → Option (List ℕ)
  better best r = cond (test r && is_better best r) (Some r) best

  -- what is found in entries above r is no better
  above : (r : List ℕ) (es : List Entry) → below_all ref_cmp r es ≡ true → is_better (at es) r ≡ true
  above r [] h = refl
  above r (e ∷ es) h = by (test e.0) (above r es parts.1)
    where
      parts : (is_lt (ref_cmp r e.0) ≡ true) × (below_all ref_cmp r es ≡ true)
      parts = and_parts (is_lt (ref_cmp r e.0)) (below_all ref_cmp r es) h

      by : (b : Bool) → is_better (at es) r ≡ true → is_better (cond b (Some e.0) (at es)) r ≡ true
      by true rest = parts.0
      by false rest = rest

  below_less : (r e : List ℕ) (es : List Entry) → ref_cmp r e ≡ Less → below_all ref_cmp e es ≡ true → below_all ref_cmp r es ≡ true
  below_less r e [] is h = refl
  below_less r e (d ∷ es) is h =
      let parts = and_parts (is_lt (ref_cmp e d.0)) (below_all ref_cmp e es) h in
      let low : is_lt (ref_cmp r d.0) ≡ true = ap is_lt (ref_total.trans r e d.0 is (is_less (ref_cmp e d.0) parts.0)) in
      (λ i. low i && below_less r e es is parts.1 i)

  -- a new one
  one_new : (r : List ℕ) (v : Fact) (es : List Entry) → is_sorted ref_cmp es ≡ true → find ref_cmp r es ≡ None
      → at (put ref_cmp r v es) ≡ better (at es) r
  one_new r v [] sorted new = by (test r)
    where
      by : (b : Bool) → cond b (Some r) None ≡ cond (b && true) (Some r) None
      by true = refl
      by false = refl
  one_new r v (e ∷ es) sorted new = by (ref_cmp r e.0) refl (one_new r v es parts.1)
    where
      parts : (below_all ref_cmp e.0 es ≡ true) × (is_sorted ref_cmp es ≡ true)
      parts = and_parts (below_all ref_cmp e.0 es) (is_sorted ref_cmp es) sorted

      joined : (b c : Bool) (o : Option (List ℕ)) → c ≡ true → cond b (Some r) o ≡ cond (b && c) (Some r) o
      joined true c o h = ap (λ d. cond d (Some r) o) (sym h)
      joined false c o h = refl

      kept : (b : Bool) (o : Option (List ℕ)) → is_lt (ref_cmp r e.0) ≡ false → o ≡ better (at es) r
          → cond b (Some e.0) o ≡ cond (test r && is_better (cond b (Some e.0) (at es)) r) (Some r) (cond b (Some e.0) (at es))
      kept true o out h = sym (cond-false (test r && is_lt (ref_cmp r e.0)) (Some r) (Some e.0) (never (test r) (is_lt (ref_cmp r e.0)) out))
        where
          never : (a b : Bool) → b ≡ false → (a && b) ≡ false
          never true b h = h
          never false b h = refl
      kept false o out h = h

      by : (r1 : Ordering) → ref_cmp r e.0 ≡ r1 → (find ref_cmp r es ≡ None → at (put ref_cmp r v es) ≡ better (at es) r)
          → at (by_order r1 ((r, v) ∷ e ∷ es) ((e.0, v) ∷ es) (e ∷ put ref_cmp r v es)) ≡ better (at (e ∷ es)) r
      by Less is more =
          let low : below_all ref_cmp r (e ∷ es) ≡ true = (λ i. (ap is_lt is) i && below_less r e.0 es is parts.0 i) in
          joined (test r) (is_better (at (e ∷ es)) r) (at (e ∷ es)) (above r (e ∷ es) low)
      by Equal is more = absurd (let g : Some e.1 ≡ None = sym (cond-true (eq_by_cmp ref_cmp r e.0) (Some e.1) (find ref_cmp r es) (ap is_eq is)) ∙ new in cc g)
      by Greater is more = kept (test e.0) (at (put ref_cmp r v es)) (ap is_lt is)
          (more (sym (cond-false (eq_by_cmp ref_cmp r e.0) (Some e.1) (find ref_cmp r es) (ap is_eq is)) ∙ new))

  -- one that is there already
  one_there : (r : List ℕ) (es : List Entry) → is_sorted ref_cmp es ≡ true → is_some (find ref_cmp r es) ≡ true
      → better (at es) r ≡ at es
  one_there r [] sorted there = absurd (false≢true there)
  one_there r (e ∷ es) sorted there = by (one_there r es) (ref_cmp r e.0) refl (test e.0) refl
    where
      parts : (below_all ref_cmp e.0 es ≡ true) × (is_sorted ref_cmp es ≡ true)
      parts = and_parts (below_all ref_cmp e.0 es) (is_sorted ref_cmp es) sorted

      never : (a b : Bool) → b ≡ false → (a && b) ≡ false
      never true b h = h
      never false b h = refl

      later : (o : Ordering) → ref_cmp r e.0 ≡ o → is_eq o ≡ false → is_some (find ref_cmp r es) ≡ true
      later o is out = sym (ap is_some (cond-false (eq_by_cmp ref_cmp r e.0) (Some e.1) (find ref_cmp r es) (ap is_eq is ∙ out))) ∙ there

      found_behind : (es : List Entry) → below_all ref_cmp r es ≡ true → is_some (find ref_cmp r es) ≡ true → ⊥
      found_behind [] low h = false≢true h
      found_behind (d ∷ ds) low h =
          let ps = and_parts (is_lt (ref_cmp r d.0)) (below_all ref_cmp r ds) low in
          let apart : eq_by_cmp ref_cmp r d.0 ≡ false = ap is_eq (is_less (ref_cmp r d.0) ps.0) in
          found_behind ds ps.1 (sym (ap is_some (cond-false (eq_by_cmp ref_cmp r d.0) (Some d.1) (find ref_cmp r ds) apart)) ∙ h)

      by : (is_sorted ref_cmp es ≡ true → is_some (find ref_cmp r es) ≡ true → better (at es) r ≡ at es)
          → (o : Ordering) → ref_cmp r e.0 ≡ o → (b : Bool) → test e.0 ≡ b → better (at (e ∷ es)) r ≡ at (e ∷ es)
      by more Less is b t = absurd (found_behind es (below_less r e.0 es is parts.0) (later Less is refl))
      by more Equal is true t =
          cond-false (test r && is_better (at (e ∷ es)) r) (Some r) (at (e ∷ es))
          (never (test r) (is_better (at (e ∷ es)) r) (ap (λ o. is_better o r) (cond-true (test e.0) (Some e.0) (at es) t) ∙ ap is_lt is))
      by more Equal is false t =
          cond-false (test r && is_better (at (e ∷ es)) r) (Some r) (at (e ∷ es))
          (ap (λ b. b && is_better (at (e ∷ es)) r) (ap test (ref_same r e.0 is) ∙ t))
      by more Greater is true t =
          cond-false (test r && is_better (at (e ∷ es)) r) (Some r) (at (e ∷ es))
          (never (test r) (is_better (at (e ∷ es)) r) (ap (λ o. is_better o r) (cond-true (test e.0) (Some e.0) (at es) t) ∙ ap is_lt is))
      by more Greater is false t =
          let same : at (e ∷ es) ≡ at es = cond-false (test e.0) (Some e.0) (at es) t in
          ap (λ o. better o r) same ∙ more parts.1 (later Greater is refl) ∙ sym same

one_more : (facts : Facts) (after : Option (List ℕ)) (row : LooseRow) → ref_after (with_row facts row) after ≡ lesser after (ref_after facts after) row.1
one_more facts after row = by (get facts row.1) refl
  where
    sorted : is_sorted ref_cmp (entries facts) ≡ true
    sorted = true_of (is_sorted ref_cmp (entries facts)) (entries_sorted facts)

    by : (o : Option Fact) → get facts row.1 ≡ o
        → ref_after (cond (is_some (get facts row.1)) facts (insert facts row.1 row.2)) after ≡ lesser after (ref_after facts after) row.1
    by (Some fact) is =
        ap (λ (m : Facts). ref_after m after) (cond-true (is_some (get facts row.1)) facts (insert facts row.1 row.2) (ap is_some is))
        ∙ sym (one_there (is_after after) row.1 (entries facts) sorted (ap is_some (sym (get-entries facts row.1)) ∙ ap is_some is))
    by None is =
        ap (λ (m : Facts). ref_after m after) (cond-false (is_some (get facts row.1)) facts (insert facts row.1 row.2) (ap is_some is))
        ∙ ap (λ es. first (is_after after) (keys_of es)) (entries-insert ref_total facts row.1 row.2)
        ∙ one_new (is_after after) row.1 row.2 (entries facts) sorted (sym (get-entries facts row.1) ∙ is)

-- the least one of the table and of the loose rows
pub least_of_all : (rows : List LooseRow) (facts : Facts) (after : Option (List ℕ))
    → least_from after (ref_after facts after) rows ≡ ref_after (with_loose rows facts) after
least_of_all [] facts after = refl
least_of_all (row ∷ rows) facts after =
    ap (λ best. least_from after best rows) (sym (one_more facts after row)) ∙ least_of_all rows (with_row facts row) after
