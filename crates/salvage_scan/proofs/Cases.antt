-- What is computed is the salvage by its four cases.
use Rattle.std.proofs.Common.{◌≡◌, ℕ, zero, suc, ◌+◌, ◌≤◌, List, [], ◌∷◌, ◌++◌, length, take, drop, Bool, true, false, nat_le, ◌&&◌, cond, Option, Some, refl, sym, ◌∙◌, ap, subst, arith, append_assoc, length-append, length-drop, take-append-drop}
use Rattle.std.proofs.lemmas.List.{drop_at, length-take-le}
use Rattle.std.proofs.lemmas.Bool.{and_parts, leb-true}
use Rattle.blobref.proofs.Digests.{is_own_ref-true}
use Rattle.blobref.specs.Blobref.{IsOwnRef, is_own_ref}
use Rattle.pack_format.specs.declared.header.HeaderAt.{HeaderAt}
use Rattle.pack_format.specs.declared.header.HeaderAt.TheVariants.{Blob, Gone, Missing}
use Rattle.pack_format.specs.Header.{header, record_under, deleted_header, BeginsWithDeletedHeader}
use Rattle.pack_format.specs.Reading.{header_at}
use Rattle.pack_format.proofs.Headers.{header_at-is, header_at-blob}
use Rattle.salvage_scan.specs.Salvage.{Finding, Front, Kept, Passed, Junk, front_by, front, is_junk, salvage_past, broken_past}
use Rattle.salvage_scan.specs.Rules.{BeginsWithRecord, BeginsWithDeleted, finding_under, IsSalvage, empty, blob, deleted, junk, SalvageIsOne}
use Rattle.salvage_scan.proofs.Fronts.{front-record, front-deleted, length-record_under, record_under-split, record_some, deleted_some}
use Rattle.salvage_scan.proofs.Cuts.{salvage_past-record, broken_past-record, salvage_past-deleted, broken_past-deleted}

-- ---- what stands at the front, by the cases

when_kept : (b : Bool) (f g : Front) → cond b f Junk ≡ g → is_junk g ≡ false → (b ≡ true) × (f ≡ g)
when_kept true f g h kept = (refl, h)
when_kept false f g h kept = let bad : true ≡ false = ap is_junk h ∙ kept in absurd (cc bad)

record_by : (x q : List ℕ) (size len : ℕ) → header_at x ≡ Blob q size len → len + size ≤ length x → IsOwnRef q (take size (drop len x)) → BeginsWithRecord x
record_by x q size len at fits named =
    let read = header_at-blob x q size len at in
    let bytes = take size (drop len x) in
    let long : length bytes ≡ size = length-take-le size (drop len x) (omega (arith, length-drop len x)) in
    record {
      r = q;
      bytes = bytes;
      own = named;
      small = rw long read.0;
      rest = drop size (drop len x);
      whole =
          read.2 ∙ ap (λ l. header q size ++ l) (sym (take-append-drop size (drop len x)))
          ∙ (λ i. header q (sym long i) ++ (bytes ++ drop size (drop len x))) ∙ sym (record_under-split q bytes (drop size (drop len x)));
    }

begins_by : (h : HeaderAt) (x r : List ℕ) (start : ℕ) (bytes : List ℕ) → header_at x ≡ h → front_by h x ≡ Kept r start bytes → BeginsWithRecord x
begins_by (Blob q size len) x r start bytes at is =
    let tested = when_kept (nat_le (len + size) (length x) && is_own_ref q (take size (drop len x))) _ _ is refl in
    let parts = and_parts (nat_le (len + size) (length x)) _ tested.0 in
    record_by x q size len at (leb-true _ _ parts.0) (is_own_ref-true _ _ parts.1)
begins_by (Gone size len) x r start bytes at is =
    let tested = when_kept (nat_le (len + size) (length x)) _ _ is refl in
    absurd (cc tested.1)
begins_by Missing x r start bytes at is = absurd (cc is)

pub begins_with_record : (x r : List ℕ) (start : ℕ) (bytes : List ℕ) → front x ≡ Kept r start bytes → BeginsWithRecord x
unfolding front
begins_with_record x r start bytes is = begins_by (header_at x) x r start bytes refl is

whole_deleted : (x : List ℕ) (size len : ℕ) → BeginsWithDeletedHeader x size len → len + size ≤ length x → BeginsWithDeleted x
whole_deleted x size len head fits =
    let body = take size (drop len x) in
    let text = deleted_header head.letters head.digits size in
    let long : length body ≡ size = length-take-le size (drop len x) (omega (arith, length-drop len x)) in
    let behind : drop len x ≡ head.rest = ap (drop len) head.whole ∙ drop_at text head.rest len (sym head.long) in
    let split : head.rest ≡ body ++ drop size (drop len x) = sym behind ∙ sym (take-append-drop size (drop len x)) in
    record {
      text = text ++ body;
      form = record {
        letters = head.letters;
        digits = head.digits;
        body = body;
        form = rw long head.form;
        whole = ap (λ n. deleted_header head.letters head.digits n ++ body) (sym long);
      };
      rest = drop size (drop len x);
      whole = head.whole ∙ ap (λ l. text ++ l) split ∙ sym (append_assoc text body (drop size (drop len x)));
    }

deleted_by : (h : HeaderAt) (x : List ℕ) (n : ℕ) → header_at x ≡ h → front_by h x ≡ Passed n → BeginsWithDeleted x
deleted_by (Blob q size len) x n at is =
    let tested = when_kept (nat_le (len + size) (length x) && is_own_ref q (take size (drop len x))) _ _ is refl in
    absurd (cc tested.1)
deleted_by (Gone size len) x n at is =
    let tested = when_kept (nat_le (len + size) (length x)) _ _ is refl in
    whole_deleted x size len ((header_at-is x).deleted size len at) (leb-true _ _ tested.0)
deleted_by Missing x n at is = absurd (cc is)

pub begins_with_deleted : (x : List ℕ) (n : ℕ) → front x ≡ Passed n → BeginsWithDeleted x
unfolding front
begins_with_deleted x n is = deleted_by (header_at x) x n refl is

front-junk : (x : List ℕ) → ¬ (BeginsWithRecord x) → ¬ (BeginsWithDeleted x) → front x ≡ Junk
front-junk x no_record no_deleted = go (front x) refl
  where
    go : (f : Front) → front x ≡ f → front x ≡ Junk
    go (Kept r start bytes) e = absurd (no_record (begins_with_record x r start bytes e))
    go (Passed n) e = absurd (no_deleted (begins_with_deleted x n e))
    go Junk e = e

pub front_of-record : (x : List ℕ) (w : BeginsWithRecord x) → front x ≡ Kept w.r (length (header w.r (length w.bytes))) w.bytes
front_of-record x w = ap front w.whole ∙ front-record w.r w.bytes w.rest w.own w.small

pub front_of-deleted : (x : List ℕ) (w : BeginsWithDeleted x) → front x ≡ Passed (length w.text)
front_of-deleted x w = ap front w.whole ∙ front-deleted w.text w.rest w.form

no_record_junk : (x : List ℕ) → front x ≡ Junk → ¬ (BeginsWithRecord x)
no_record_junk x e w = let bad : Junk ≡ Kept w.r (length (header w.r (length w.bytes))) w.bytes = sym e ∙ front_of-record x w in absurd (cc bad)

no_deleted_junk : (x : List ℕ) → front x ≡ Junk → ¬ (BeginsWithDeleted x)
no_deleted_junk x e w = let bad : Junk ≡ Passed (length w.text) = sym e ∙ front_of-deleted x w in absurd (cc bad)

no_record_passed : (x : List ℕ) (n : ℕ) → front x ≡ Passed n → ¬ (BeginsWithRecord x)
no_record_passed x n e w = let bad : Passed n ≡ Kept w.r (length (header w.r (length w.bytes))) w.bytes = sym e ∙ front_of-record x w in absurd (cc bad)

-- ---- one function

pub past_junk : (place b : ℕ) (x : List ℕ) → front (b ∷ x) ≡ Junk → (salvage_past place 0 (b ∷ x) ≡ salvage_past (suc place) 0 x) × (broken_past place 0 (b ∷ x) ≡ Some place)
unfolding salvage_past broken_past
past_junk place b x is = rw is (refl, refl)

-- a text with its two answers
abbrev Solved : ℕ → List ℕ → Type 0
Solved place x = IsSalvage place x (salvage_past place 0 x) (broken_past place 0 x)

salvage_only : (place : ℕ) (x : List ℕ) (fs : List Finding) (o : Option ℕ) → IsSalvage place x fs o → (fs ≡ salvage_past place 0 x) × (o ≡ broken_past place 0 x)
unfolding salvage_past broken_past
salvage_only place x fs o (empty p) = (refl, refl)
salvage_only place x fs o (blob p r bytes rest gs q own small h) =
    let more = salvage_only _ _ _ _ h in
    (ap (λ l. finding_under p r bytes ∷ l) more.0 ∙ sym (salvage_past-record p r bytes rest own small), more.1 ∙ sym (broken_past-record p r bytes rest own small))
salvage_only place x fs o (deleted p text rest gs q form apart h) =
    let more = salvage_only _ _ _ _ h in
    (more.0 ∙ sym (salvage_past-deleted p text rest form), more.1 ∙ sym (broken_past-deleted p text rest form))
salvage_only place x fs o (junk p b rest gs q unkept undeleted h) =
    let more = salvage_only _ _ _ _ h in
    let here = past_junk p b rest (front-junk (b ∷ rest) unkept undeleted) in
    (more.0 ∙ sym here.0, sym here.1)

solved_record : (place : ℕ) (x : List ℕ) (w : BeginsWithRecord x) → Solved (place + length (record_under w.r w.bytes)) w.rest → Solved place x
solved_record place x w more =
    let fs_is = salvage_past-record place w.r w.bytes w.rest w.own w.small in
    let o_is = broken_past-record place w.r w.bytes w.rest w.own w.small in
    subst (Solved place) (sym w.whole)
    (subst (λ fs. IsSalvage place (record_under w.r w.bytes ++ w.rest) fs (broken_past place 0 (record_under w.r w.bytes ++ w.rest))) (sym fs_is)
    (subst (IsSalvage place (record_under w.r w.bytes ++ w.rest) _) (sym o_is) (blob place w.r w.bytes w.rest _ _ w.own w.small more)))

solved_deleted : (place : ℕ) (x : List ℕ) (w : BeginsWithDeleted x) → ¬ (BeginsWithRecord x) → Solved (place + length w.text) w.rest → Solved place x
solved_deleted place x w apart more =
    let fs_is = salvage_past-deleted place w.text w.rest w.form in
    let o_is = broken_past-deleted place w.text w.rest w.form in
    let apart_here : ¬ (BeginsWithRecord (w.text ++ w.rest)) = subst (λ l. ¬ (BeginsWithRecord l)) w.whole apart in
    subst (Solved place) (sym w.whole)
    (subst (λ fs. IsSalvage place (w.text ++ w.rest) fs (broken_past place 0 (w.text ++ w.rest))) (sym fs_is)
    (subst (IsSalvage place (w.text ++ w.rest) _) (sym o_is) (deleted place w.text w.rest _ _ w.form apart_here more)))

solved_junk : (place b : ℕ) (x : List ℕ) → front (b ∷ x) ≡ Junk → Solved (suc place) x → Solved place (b ∷ x)
solved_junk place b x is more =
    let here = past_junk place b x is in
    subst (λ fs. IsSalvage place (b ∷ x) fs (broken_past place 0 (b ∷ x))) (sym here.0)
    (subst (IsSalvage place (b ∷ x) _) (sym here.1) (junk place b x _ _ (no_record_junk (b ∷ x) is) (no_deleted_junk (b ∷ x) is) more))

-- by recursion on a bound of the length
solved_by : (n place : ℕ) (x : List ℕ) → length x ≤ n → Solved place x
unfolding salvage_past broken_past
solved_by n place [] le = empty place
solved_by zero place (b ∷ x) le = absurd (omega arith)
solved_by (suc n) place (b ∷ x) le = elim (front (b ∷ x)) as (λ f. front (b ∷ x) ≡ f → Solved place (b ∷ x)) [
  | Kept r start bytes ↦ λ e.
      let w = begins_with_record (b ∷ x) r start bytes e in
      let shorter : length w.rest ≤ n = omega (arith, ap length w.whole, length-append (record_under w.r w.bytes) w.rest, length-record_under w.r w.bytes, record_some w.r w.bytes) in
      solved_record place (b ∷ x) w (solved_by n (place + length (record_under w.r w.bytes)) w.rest shorter)
  | Passed len ↦ λ e.
      let w = begins_with_deleted (b ∷ x) len e in
      let shorter : length w.rest ≤ n = omega (arith, ap length w.whole, length-append w.text w.rest, deleted_some w.text w.form) in
      solved_deleted place (b ∷ x) w (no_record_passed (b ∷ x) len e) (solved_by n (place + length w.text) w.rest shorter)
  | Junk ↦ λ e. solved_junk place b x e (solved_by n (suc place) x (omega arith))
] refl

pub salvage_is_one : SalvageIsOne
salvage_is_one = record { meets = λ place x. solved_by (length x) place x (omega arith); one = salvage_only }
