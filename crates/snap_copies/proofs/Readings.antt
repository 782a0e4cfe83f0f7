-- A look and a publication keep the rule.
use Rattle.std.proofs.Common.{◌≡◌, ◌≢◌, ℕ, ◌⊎◌, Bool, true, false, ◌||◌, List, [], ◌∷◌, ◌++◌, refl, ap, sym, subst, ◌∙◌, ⊎_elim, Option, Some, None, MatchOption, nat_eq, cond}
use Rattle.std.proofs.lemmas.Bool.{false≢true}
use Rattle.std.specs.FinMap.{contains_key, insert}
use mathlib.Core.Option.{some}
use mathlib.Core.List.{IsPrefix}
use lib.ListN.{get_elem?}
use Rattle.crossbeam_utils.specs.Register.{TurnsAt}
use Rattle.atomic_table.proofs.Lists.{at_set}
use Rattle.claim_model.specs.Facts.{Facts}
use Rattle.claim_index.specs.Numbers.{NumberSet}
use Rattle.index_rows.specs.Loose.{LooseRow, with_fact}
use Rattle.histories.specs.declared.events.Insertion.{Insertion}
use Rattle.histories.specs.Indexes.{indexed, has_number}
use Rattle.histories.proofs.Prefixes.{prefix_self, prefix_trans}
use Rattle.work_numbers.proofs.Numbers.{has_given}
use Rattle.snap_copies.specs.declared.copies.IndexCopy.{IndexCopy}
use Rattle.snap_copies.specs.declared.copies.Common.{Common}
use Rattle.snap_copies.specs.declared.copies.Addition.{Addition}
use Rattle.snap_copies.specs.declared.rule.Shown.{Shown}
use Rattle.snap_copies.specs.Copies.{common_of, absorbed, facts_with, numbers_with}
use Rattle.snap_copies.specs.Shows.{Knows, Shows, SeesNow, Fits, row_of}
use Rattle.work_numbers.proofs.Facts.{indexed_more}

-- ---- a publication

or_false : (a b : Bool) → b ≡ false → (a || b) ≡ a
or_false true b e = refl
or_false false b e = e

not_true : (b c : Bool) → (b ≡ true → c ≡ true) → c ≡ false → b ≡ false
not_true true c f e = absurd (false≢true (sym e ∙ f refl))
not_true false c f e = refl

or_more : (a b c d e : Bool) → (b ≡ true → c ≡ true) → (a ≡ true → d ≡ true) → (a || b) ≡ true → (c || (d || e)) ≡ true
or_more true b true d e f g h = refl
or_more true b false d e f g h = ap (λ (z : Bool). z || e) (g refl)
or_more false b c d e f g h = ap (λ (z : Bool). z || (d || e)) (f h)

number_more : (n : ℕ) (xs ys : List Insertion) → has_number n (xs ++ ys) ≡ (has_number n xs || has_number n ys)
number_more n [] ys = refl
number_more n (x ∷ xs) ys = by (nat_eq x.number n) (number_more n xs ys)
  where
    by : (b : Bool) → has_number n (xs ++ ys) ≡ (has_number n xs || has_number n ys) → (b || has_number n (xs ++ ys)) ≡ ((b || has_number n xs) || has_number n ys)
    by true e = refl
    by false e = e

module _ (facts : Facts) (numbers : NumberSet) (made : LooseRow) (log : List Insertion) (i : Insertion) (row : made ≡ row_of i)
    (fresh : has_number i.number log ≡ false) (are : facts ≡ indexed log) (within : (n : ℕ) → contains_key numbers n ≡ true → has_number n log ≡ true) where
  absent : contains_key numbers i.number ≡ false
  absent = not_true (contains_key numbers i.number) (has_number i.number log) (within i.number) fresh

  placed_facts : facts_with facts numbers made ≡ indexed (log ++ i ∷ [])
  placed_facts = ap (facts_with facts numbers) row
      ∙ ap (λ (b : Bool). cond b facts (insert facts i.r i.fact)) (or_false (contains_key facts i.r) (contains_key numbers i.number) absent)
      ∙ ap (λ (m : Facts). with_fact m i.r i.fact) are ∙ sym (indexed_more log i)

  placed_numbers : (n : ℕ) → contains_key (numbers_with facts numbers made) n ≡ true → has_number n (log ++ i ∷ []) ≡ true
  placed_numbers n h = number_more n log (i ∷ []) ∙ by (contains_key facts i.r || contains_key numbers i.number)
      (subst (λ (m : LooseRow). contains_key (numbers_with facts numbers m) n ≡ true) row h)
    where
      was : (b c : Bool) → b ≡ true → (b || c) ≡ true
      was true c e = refl
      was false c e = absurd (false≢true e)

      by : (b : Bool) → contains_key (cond b numbers (insert numbers i.number tt)) n ≡ true → (has_number n log || (nat_eq i.number n || false)) ≡ true
      by true e = was (has_number n log) (nat_eq i.number n || false) (within n e)
      by false e = or_more (nat_eq i.number n) (contains_key numbers n) (has_number n log) (nat_eq i.number n) false (within n)
          (λ t. t) (sym (has_given numbers i.number tt n) ∙ e)

module _ {V : Type 0} where
  -- what is known of a copy, of a later one
  knows_more : (x y : IndexCopy V) (v : Shown V) → y.front.seen.book ≡ x.front.seen.book → IsPrefix x.front.seen.log y.front.seen.log
      → y.index.keys ≡ x.index.keys → Knows x v → Knows y v
  knows_more x y v book pre keys k = (more v.token refl, same v.keys k.1)
    where
      more : (o : Option _) → v.token ≡ o → MatchOption v.token (Unit {0}) (λ t. (y.front.seen.book ≡ t.book) × IsPrefix t.log y.front.seen.log)
      more None e = rw e tt
      more (Some t) e =
          let k' = subst (λ (o : Option _). MatchOption o (Unit {0}) (λ t. (x.front.seen.book ≡ t.book) × IsPrefix t.log x.front.seen.log)) e k.0 in
          rw e (book ∙ k'.0, prefix_trans t.log x.front.seen.log y.front.seen.log k'.1 pre)

      same : (o : Option V) → MatchOption o (Unit {0}) (λ k. x.index.keys ≡ k) → MatchOption o (Unit {0}) (λ k. y.index.keys ≡ k)
      same None k = tt
      same (Some key) k = keys ∙ k

  -- a step to a copy that has more, seen by the one who steps
  pub shows_more : (id : ℕ) (v : Shown V) (x y : IndexCopy V) → y.front.seen.book ≡ x.front.seen.book → IsPrefix x.front.seen.log y.front.seen.log
      → y.index.keys ≡ x.index.keys
      → (x.index.facts ≡ indexed x.front.seen.log → ((n : ℕ) → contains_key x.index.numbers n ≡ true → has_number n x.front.seen.log ≡ true)
      → (y.index.facts ≡ indexed y.front.seen.log) × ((n : ℕ) → contains_key y.index.numbers n ≡ true → has_number n y.front.seen.log ≡ true))
      → TurnsAt Shows id v x y SeesNow
  shows_more id v x y book pre keys stands views h at =
      let w : Shown V = record { token = Some y.front.seen; keys = Some y.index.keys } in
      let now = stands h.facts h.numbers in (
        w,
        record {
          facts = now.0;
          numbers = now.1;
          each = λ i u e. ⊎_elim (λ (t : (i ≡ id) × (w ≡ u)). subst (Knows y) t.1 ((refl, prefix_self y.front.seen.log), refl))
              (λ (t : (i ≢ id) × (get_elem? views i ≡ some u)). knows_more x y u book pre keys (h.each i u t.1)) (at_set views id i w u e);
        },
        (refl, now.0, knows_more x y v book pre keys (h.each id v at)),
      )

  -- a look
  pub looks : (id : ℕ) (v : Shown V) (x : IndexCopy V) → TurnsAt Shows id v x x SeesNow
  looks id v x = shows_more id v x x refl (prefix_self x.front.seen.log) refl (λ f n. (f, n))

  -- a publication of one Insert
  pub publishes : (id : ℕ) (v : Shown V) (x : IndexCopy V) (op : Addition) → Fits x op → (next : IndexCopy V) → common_of next ≡ absorbed (common_of x) op
      → TurnsAt Shows id v x next SeesNow
  publishes id v x op f next is =
      let front : next.front ≡ op.front = ap (λ (s : Common V). s.front) is in
      let log : next.front.seen.log ≡ x.front.seen.log ++ f.insert ∷ [] = ap (λ g. g.seen.log) front ∙ f.log in
      shows_more id v x next (ap (λ g. g.seen.book) front ∙ f.book) (f.insert ∷ [], sym log) (ap (λ (s : Common V). s.keys) is)
      (λ are within. (
        ap (λ (s : Common V). s.facts) is ∙ placed_facts x.index.facts x.index.numbers op.prepared.made x.front.seen.log f.insert f.row f.fresh are within ∙ sym (ap indexed log),
        λ n e. ap (has_number n) log ∙ placed_numbers x.index.facts x.index.numbers op.prepared.made x.front.seen.log f.insert f.row f.fresh are within n
            (sym (ap (λ (s : Common V). contains_key s.numbers n) is) ∙ e),
      ))
