-- Facts of which no ref stands twice make the same map, whether each is inserted behind those before it or behind those
-- after it.
use Rattle.std.proofs.Common.{◌≡◌, ℕ, zero, suc, ◌+◌, ◌-◌, ◌<◌, ◌≤◌, ◌&&◌, Bool, true, false, not, ◌⊎◌, inl, inr, Some}
use Rattle.std.proofs.Common.{None}
use Rattle.std.proofs.Common.{is_some, List, [], ◌∷◌, ◌++◌, take, drop, length, slice_get, refl, sym, ap, subst, ◌∙◌}
use Rattle.std.proofs.Common.{arith}
use Rattle.std.proofs.lemmas.Bool.{cond-false, cases_Bool}
use Rattle.std.proofs.lemmas.List.{take_all, drop_all}
use Rattle.std.proofs.lemmas.List.Elements.{All-nil, All-get_or}
use Rattle.std.proofs.lemmas.Option.{get_or_from_slice_get}
use Rattle.std.specs.Cmp.{eq_by_cmp_equiv, nat_cmp_total}
use Rattle.std.specs.Cmp.Lexicographic.{nat_list_cmp_total, texts_ties}
use Rattle.std.specs.FinMap.{find, contains_key, insert, empty, from_entries, from_entries_push, get-from_entries}
use Rattle.std.specs.FinMap.{get-empty, get, get-insert, nat_cmp-IsAntisymmetric}
use Rattle.std.specs.List.{list_all}
use Rattle.std.specs.Ordering.{nat_cmp, eq_by_cmp}
use Rattle.std.specs.Prelude.{IsTrue}
use Rattle.std.specs.Str.{bytes_eq}
use Rattle.blobref.specs.Blobref.{ref_cmp}
use Rattle.index_look.proofs.Order.{is_Equal}
use Rattle.claim_index.specs.Numbers.{NumberSet}
use Rattle.claim_model.specs.Facts.{Entry, Facts, AreDistinct, AreValid}
use Rattle.schema_fact.specs.Validity.{IsValid}
use Rattle.fact_lines.specs.Blobs.{Blob, with_blobs, with_blob}
use Rattle.fact_lines.specs.Load.{place_at}
use Rattle.fact_lines.specs.declared.load.Order.{Order}
use Rattle.fact_lines.specs.declared.load.Order.TheVariants.{Forward, Backward}
use Rattle.fact_lines.proofs.Gathering.{same_ref, drop_next, distinct_more, valid_more}

-- ---- gathered facts

distinct_on : (blobs : List Blob) (facts : List Entry) → AreDistinct facts → AreDistinct (with_blobs facts blobs)
distinct_on [] facts d = d
distinct_on (b ∷ blobs) facts d = distinct_on blobs (with_blob facts b)
    (distinct_more facts (with_blob facts b) b refl d)

valid_on : (blobs : List Blob) (facts : List Entry) → AreValid facts → AreValid (with_blobs facts blobs)
valid_on [] facts v = v
valid_on (b ∷ blobs) facts v = valid_on blobs (with_blob facts b) (valid_more facts (with_blob facts b) b refl v)

-- ---- refs that aren't there

-- a ref that none of these has
lacking : (r : List ℕ) (es : List Entry) → IsTrue (list_all (λ (f : Entry). not (bytes_eq r f.0)) es)
    → find ref_cmp r es ≡ None
lacking r [] h = refl
lacking r (f ∷ es) h = go (bytes_eq r f.0) refl h (λ rest. lacking r es rest)
  where
    go : (b : Bool) → bytes_eq r f.0 ≡ b → IsTrue (not b && list_all (λ (f : Entry). not (bytes_eq r f.0)) es)
        → (IsTrue (list_all (λ (f : Entry). not (bytes_eq r f.0)) es) → find ref_cmp r es ≡ None)
        → find ref_cmp r (f ∷ es) ≡ None
    go true is h more = absurd (cc h)
    go false is h more =
        cond-false (eq_by_cmp ref_cmp r f.0) (Some f.1) (find ref_cmp r es) (sym (texts_ties r f.0) ∙ is) ∙ more h

first_apart : (b rest : Bool) → IsTrue (not b && rest) → (b ≡ false) × IsTrue rest
first_apart true rest h = absurd (cc h)
first_apart false rest h = (refl, h)

apart_at : (r : List ℕ) (es : List Entry) (i : ℕ) (e : Entry)
    → IsTrue (list_all (λ (f : Entry). not (bytes_eq r f.0)) es)
    → slice_get es i ≡ Some e → bytes_eq r e.0 ≡ false
apart_at r [] i e h at = absurd (cc at)
apart_at r (f ∷ es) zero e h at =
    let same : f ≡ e = cc at in
    subst (λ (x : Entry). bytes_eq r x.0 ≡ false) same
    (first_apart (bytes_eq r f.0) (list_all (λ (f : Entry). not (bytes_eq r f.0)) es) h).0
apart_at r (f ∷ es) (suc n) e h at =
    apart_at r es n e (first_apart (bytes_eq r f.0) (list_all (λ (f : Entry). not (bytes_eq r f.0)) es) h).1 at

lacking_before : (es : List Entry) (i : ℕ) (e : Entry) → AreDistinct es → slice_get es i ≡ Some e
    → find ref_cmp e.0 (take i es) ≡ None
lacking_before [] i e d at = absurd (cc at)
lacking_before (f ∷ es) zero e d at = refl
lacking_before (f ∷ es) (suc n) e d at =
    let apart : eq_by_cmp ref_cmp e.0 f.0 ≡ false =
    (eq_by_cmp_equiv nat_list_cmp_total).symm e.0 f.0 ∙ sym (texts_ties f.0 e.0) ∙ apart_at f.0 es n e d.0 at in
    cond-false (eq_by_cmp ref_cmp e.0 f.0) (Some f.1) (find ref_cmp e.0 (take n es)) apart
    ∙ lacking_before es n e d.1 at

lacking_behind : (es : List Entry) (i : ℕ) (e : Entry) → AreDistinct es → slice_get es i ≡ Some e
    → find ref_cmp e.0 (drop (i + 1) es) ≡ None
lacking_behind [] i e d at = absurd (cc at)
lacking_behind (f ∷ es) zero e d at =
    let same : f ≡ e = cc at in subst (λ (x : Entry). find ref_cmp x.0 es ≡ None) same (lacking f.0 es d.0)
lacking_behind (f ∷ es) (suc n) e d at = let s : suc n + 1 ≡ suc (n + 1) = omega arith in rw s
    (lacking_behind es n e d.1 at)

not_there : (es : List Entry) (r : List ℕ) → find ref_cmp r es ≡ None → contains_key (from_entries {R = ref_cmp} es) r
    ≡ false
not_there es r h = ap is_some (get-from_entries nat_list_cmp_total es r ∙ h)

-- ---- one fact more

take_next : (es : List Entry) (i : ℕ) (e : Entry) → slice_get es i ≡ Some e → take (i + 1) es ≡ take i es ++ e ∷ []
take_next [] i e at = absurd (cc at)
take_next (f ∷ es) zero e at = let same : f ≡ e = cc at in ap (λ (x : Entry). x ∷ []) same
take_next (f ∷ es) (suc n) e at = let s : suc n + 1 ≡ suc (n + 1) = omega arith in rw s
    (ap (λ l. f ∷ l) (take_next es n e at))

entry_at : (es : List Entry) (i : ℕ) → i < length es → (e : Entry) × (slice_get es i ≡ Some e)
entry_at [] i h = absurd (omega (arith, h))
entry_at (f ∷ es) zero h = (f, refl)
entry_at (f ∷ es) (suc n) h = entry_at es n (omega (arith, h))

-- what an insert of the fact at a place makes of a map
abbrev pub Adds : List Entry → ℕ → Facts → Facts → Type 0
Adds es i old new = (e : Entry) → slice_get es i ≡ Some e → new ≡ insert old e.0 e.1

-- the ref at a place isn't there
abbrev pub Lacks : List Entry → ℕ → Facts → Type 0
Lacks es i facts = (e : Entry) → slice_get es i ≡ Some e → contains_key facts e.0 ≡ false

-- those that were inserted before a turn
abbrev pub part_of : Order → ℕ → List Entry → List Entry
part_of Forward turn es = take turn es
part_of Backward turn es = drop (length es - turn) es

module _ (es : List Entry) (distinct : AreDistinct es) where
  lacks_forward : (i : ℕ) (facts : Facts) → facts ≡ from_entries (take i es) → Lacks es i facts
  lacks_forward i facts is e at =
      ap (λ (m : Facts). contains_key m e.0) is ∙ not_there (take i es) e.0 (lacking_before es i e distinct at)

  goes_forward : (i : ℕ) (old new : Facts) → i < length es → old ≡ from_entries (take i es) → Adds es i old new
      → new ≡ from_entries (take (i + 1) es)
  goes_forward i old new within is adds =
      let here = entry_at es i within in
      adds here.0 here.1 ∙ ap (λ (m : Facts). insert m here.0.0 here.0.1) is
      ∙ sym (from_entries_push nat_list_cmp_total same_ref (take i es) here.0.0 here.0.1
      (lacking_before es i here.0 distinct here.1))
      ∙ ap (from_entries {R = ref_cmp}) (sym (take_next es i here.0 here.1))

  lacks_backward : (i n : ℕ) (facts : Facts) → i + 1 ≡ n → facts ≡ from_entries (drop n es) → Lacks es i facts
  lacks_backward i n facts next is e at =
      ap (λ (m : Facts). contains_key m e.0) is
      ∙ not_there (drop n es) e.0 (subst (λ k. find ref_cmp e.0 (drop k es) ≡ None) next
      (lacking_behind es i e distinct at))

  goes_backward : (i n : ℕ) (old new : Facts) → i < length es → i + 1 ≡ n → old ≡ from_entries (drop n es)
      → Adds es i old new
      → new ≡ from_entries (drop i es)
  goes_backward i n old new within next is adds =
      let here = entry_at es i within in
      adds here.0 here.1 ∙ ap (λ (m : Facts). insert m here.0.0 here.0.1)
      (is ∙ ap (λ k. from_entries {R = ref_cmp} (drop k es)) (sym next))
      ∙ ap (from_entries {R = ref_cmp}) (sym (drop_next es i here.0 here.1))

  pub lacks : (order : Order) (count turn place : ℕ) (facts : Facts) → count ≡ length es → turn < count
      → place ≡ place_at order count turn → facts ≡ from_entries (part_of order turn es) → Lacks es place facts
  lacks Forward count turn place facts len less is before =
      subst (λ p. Lacks es p facts) (sym is) (lacks_forward turn facts before)
  lacks Backward count turn place facts len less is before =
      let here : count - 1 - turn ≡ length es - (turn + 1) = omega (arith, len, less) in
      subst (λ p. Lacks es p facts) (sym (is ∙ here))
      (lacks_backward (length es - (turn + 1)) (length es - turn) facts (omega (arith, len, less)) before)

  pub goes : (order : Order) (count turn place : ℕ) (old new : Facts) → count ≡ length es → turn < count
      → place ≡ place_at order count turn → old ≡ from_entries (part_of order turn es) → Adds es place old new
      → new ≡ from_entries (part_of order (turn + 1) es)
  goes Forward count turn place old new len less is before adds =
      goes_forward turn old new (omega (arith, len, less)) before (subst (λ p. Adds es p old new) is adds)
  goes Backward count turn place old new len less is before adds =
      let here : count - 1 - turn ≡ length es - (turn + 1) = omega (arith, len, less) in
      goes_backward (length es - (turn + 1)) (length es - turn) old new (omega (arith, len, less))
      (omega (arith, len, less)) before (subst (λ p. Adds es p old new) (is ∙ here) adds)

pub none_yet : (order : Order) (es : List Entry) (facts : Facts) → facts ≡ empty
    → facts ≡ from_entries (part_of order 0 es)
none_yet Forward es facts is = is
none_yet Backward es facts is =
    is ∙ sym (ap (from_entries {R = ref_cmp}) (drop_all (length es - 0) es (omega arith)))

pub all_of : (order : Order) (es : List Entry) (n : ℕ) (facts : Facts) → n ≡ length es
    → facts ≡ from_entries (part_of order n es) → facts ≡ from_entries es
all_of Forward es n facts whole is = is ∙ ap (from_entries {R = ref_cmp}) (take_all n es (omega (arith, whole)))
all_of Backward es n facts whole is =
    let none : length es - n ≡ 0 = omega (arith, whole) in
    is ∙ ap (λ k. from_entries {R = ref_cmp} (drop k es)) none

-- ---- the numbers of those that are left

pub no_numbers : (s : NumberSet) → s ≡ empty → (n : ℕ) → contains_key s n ≡ false
no_numbers s is n = ap (λ (m : NumberSet). contains_key m n) is ∙ ap is_some (get-empty nat_cmp n)

-- a number more leaves another absent
lacks_other : (s more : NumberSet) (i n : ℕ) → more ≡ insert s i tt → (n ≡ i → ⊥) → contains_key s n ≡ false
    → contains_key more n ≡ false
lacks_other s more i n is differ lacks =
    ap (λ (m : NumberSet). contains_key m n) is
    ∙ ap is_some (get-insert nat_cmp_total s i tt n ∙ cond-false (eq_by_cmp nat_cmp n i) (Some tt) (get s n)
    (other (cases_Bool (eq_by_cmp nat_cmp n i))))
    ∙ lacks
  where
    other : (eq_by_cmp nat_cmp n i ≡ true) ⊎ (eq_by_cmp nat_cmp n i ≡ false) → eq_by_cmp nat_cmp n i ≡ false
    other (inl t) = absurd (differ (nat_cmp-IsAntisymmetric n i (is_Equal (nat_cmp n i) t)))
    other (inr f) = f

-- the places from this turn on
abbrev pub NoneFrom : Order → ℕ → ℕ → NumberSet → Type 0
NoneFrom order count turn s =
    (t : ℕ) → turn ≤ t → t < count → contains_key s (place_at order count t) ≡ false

-- two turns have two places
differ : (order : Order) (count turn t : ℕ) → turn + 1 ≤ t → t < count
    → place_at order count t ≡ place_at order count turn → ⊥
differ Forward count turn t later within same = omega (arith, later, same)
differ Backward count turn t later within same = omega (arith, later, within, same)

pub none_at : (order : Order) (count turn place : ℕ) (s : NumberSet) → turn < count
    → place ≡ place_at order count turn → NoneFrom order count turn s → contains_key s place ≡ false
none_at order count turn place s less is none =
    subst (λ p. contains_key s p ≡ false) (sym is) (none turn (omega arith) less)

pub none_after : (order : Order) (count turn place : ℕ) (s more : NumberSet) → place ≡ place_at order count turn
    → more ≡ insert s place tt → NoneFrom order count turn s → NoneFrom order count (turn + 1) more
none_after order count turn place s more is noted none t later within =
    lacks_other s more place (place_at order count t) noted
    (λ same. differ order count turn t later within (same ∙ is)) (none t (omega (arith, later)) within)

-- ---- gathered facts, as the function gives them

pub all_distinct : (blobs : List Blob) (facts : List Entry) → facts ≡ with_blobs [] blobs → AreDistinct facts
all_distinct blobs facts is = subst AreDistinct (sym is) (distinct_on blobs [] tt)

pub all_valid : (blobs : List Blob) (facts : List Entry) → facts ≡ with_blobs [] blobs → AreValid facts
all_valid blobs facts is = subst AreValid (sym is) (valid_on blobs [] (All-nil (λ (e : Entry). IsValid e.1)))

-- each of them is valid
pub valid_at : (es : List Entry) (i : ℕ) (e : Entry) → AreValid es → i < length es → slice_get es i ≡ Some e
    → IsValid e.1
valid_at es i e valid within at =
    subst (λ (x : Entry). IsValid x.1) (get_or_from_slice_get es i e e at)
    (All-get_or (λ (x : Entry). IsValid x.1) es i e within valid)
