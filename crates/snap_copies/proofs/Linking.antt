-- How the first views come to know the copies.
use Rattle.std.proofs.Common.{◌≡◌, ◌≢◌, ℕ, ◌⊎◌, true, false, [], ◌∷◌, set, ap, sym, subst, ◌∙◌, ⊎_elim}
use Rattle.std.proofs.lemmas.Bool.{false≢true}
use Rattle.std.specs.FinMap.{contains_key, empty}
use mathlib.Core.Option.{some}
use mathlib.Core.List.{IsPrefix}
use lib.ListN.{get_elem?}
use Rattle.crossbeam_utils.specs.Register.{Admits, TurnsAt, Forks, Merges}
use Rattle.atomic_table.proofs.Lists.{at_set, at_snoc}
use Rattle.histories.specs.Indexes.{indexed, has_number}
use Rattle.histories.proofs.Prefixes.{prefix_self}
use Rattle.claim_index.specs.Numbers.{NumberSet}
use Rattle.work_numbers.proofs.Numbers.{has_none}
use Rattle.snap_copies.specs.declared.copies.IndexCopy.{IndexCopy}
use Rattle.snap_copies.specs.declared.copies.Common.{Common}
use Rattle.snap_copies.specs.declared.rule.Shown.{Shown}
use Rattle.snap_copies.specs.Copies.{common_of}
use Rattle.snap_copies.specs.Shows.{Knows, Shows, SeesNow, newcomer}
use Rattle.snap_copies.proofs.Readings.{shows_more}

module _ {V : Type 0} where
  -- a copy of no facts, and the writer that knows nothing yet
  pub starts : (x : IndexCopy V) → x.index.facts ≡ empty → x.index.numbers ≡ empty → x.front.seen.log ≡ [] → Shows x (newcomer ∷ [])
  starts x facts numbers log = record {
    facts = facts ∙ sym (ap indexed log);
    numbers = λ n e. absurd (false≢true (sym (ap (λ (s : NumberSet). contains_key s n) numbers ∙ has_none (Unit {0}) n) ∙ e));
    each = λ i v e. ⊎_elim (λ (was : get_elem? [] i ≡ some v). absurd (none_at i v was)) (λ (same : newcomer ≡ v). subst (Knows x) same (tt, tt)) (at_snoc [] newcomer v i e);
  }
    where
      none_at : (i : ℕ) (v : Shown V) → get_elem? [] i ≡ some v → ⊥
      none_at i v e = cc e

  -- a publication of nothing
  pub same_copy : (id : ℕ) (v : Shown V) (x : IndexCopy V) (next : IndexCopy V) → common_of next ≡ common_of x → TurnsAt Shows id v x next SeesNow
  same_copy id v x next is =
      let front : next.front ≡ x.front = ap (λ (s : Common V). s.front) is in
      let log = ap (λ f. f.seen.log) front in
      shows_more id v x next (ap (λ f. f.seen.book) front) (subst (λ l. IsPrefix x.front.seen.log l) (sym log) (prefix_self x.front.seen.log)) (ap (λ (s : Common V). s.keys) is)
      (λ are within. (
        ap (λ (s : Common V). s.facts) is ∙ are ∙ sym (ap indexed log),
        λ n e. ap (has_number n) log ∙ within n (sym (ap (λ (s : Common V). contains_key s.numbers n) is) ∙ e),
      ))

  pub admits : Admits (λ (x : IndexCopy V). Shows x) newcomer
  admits x views h = record {
    facts = h.facts;
    numbers = h.numbers;
    each = λ i u e. ⊎_elim (λ (was : get_elem? views i ≡ some u). h.each i u was) (λ (same : newcomer ≡ u). subst (Knows x) same (tt, tt)) (at_snoc views newcomer u i e);
  }

  pub forks : (seat : ℕ) (v : Shown V) → Forks (λ (x : IndexCopy V). Shows x) seat v v v
  forks seat v x views h at = record {
    facts = h.facts;
    numbers = h.numbers;
    each = λ i u e. ⊎_elim
        (λ (was : get_elem? (set views seat v) i ≡ some u). ⊎_elim (λ (t : (i ≡ seat) × (v ≡ u)). subst (Knows x) t.1 (h.each seat v at))
        (λ (t : (i ≢ seat) × (get_elem? views i ≡ some u)). h.each i u t.1) (at_set views seat i v u was))
        (λ (same : v ≡ u). subst (Knows x) same (h.each seat v at)) (at_snoc (set views seat v) v u i e);
  }

  pub merges : (seat : ℕ) (v : Shown V) (other : ℕ) (w : Shown V) → Merges (λ (x : IndexCopy V). Shows x) seat v other w w newcomer
  merges seat v other w x views h at apart there =
      let knows : Knows x w = ⊎_elim (λ (t : (other ≡ seat) × (w ≡ w)). absurd (apart t.0)) (λ (t : (other ≢ seat) × (get_elem? views other ≡ some w)). h.each other w t.1) (at_set views seat other w w there) in record {
        facts = h.facts;
        numbers = h.numbers;
        each = λ i u e. ⊎_elim (λ (t : (i ≡ other) × (newcomer ≡ u)). subst (Knows x) t.1 (tt, tt))
            (λ (t : (i ≢ other) × (get_elem? (set views seat w) i ≡ some u)).
            ⊎_elim (λ (s : (i ≡ seat) × (w ≡ u)). subst (Knows x) s.1 knows) (λ (s : (i ≢ seat) × (get_elem? views i ≡ some u)). h.each i u s.1) (at_set views seat i w u t.1))
            (at_set (set views seat w) other i newcomer u e);
      }
