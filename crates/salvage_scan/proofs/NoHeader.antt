-- Where no header begins, and what a run of such places does to a scan.
use Rattle.std.proofs.Common.{◌≡◌, ℕ, zero, suc, ◌+◌, ◌-◌, ◌≤◌, ◌<◌, Bool, true, false, List, ◌++◌, codes, length, drop, Some, slice_index, nat_lt, refl, sym, ◌∙◌, ap, subst, inl, inr, arith, length-drop}
use Rattle.std.proofs.lemmas.Bool.{cases_eq, false≢true, cond-false, le-ltb}
use Rattle.std.proofs.lemmas.List.{get_or-drop}
use Rattle.blobref.specs.Blobref.{is_blobref}
use Rattle.blobref.proofs.Spelled.{blobref_parts}
use Rattle.pack_format.specs.Header.{header, deleted_header, size_field}
use Rattle.pack_format.specs.declared.header.HeaderAt.{HeaderAt}
use Rattle.pack_format.specs.declared.header.HeaderAt.TheVariants.{Blob, Gone, Missing}
use Rattle.pack_format.specs.Reading.{header_at}
use Rattle.pack_format.proofs.Headers.{header_at-is}
use Rattle.salvage_scan.specs.declared.found.Clean.{Clean}
use Rattle.salvage_scan.specs.declared.found.Clean.TheVariants as clean
use Rattle.salvage_scan.specs.declared.found.Found.{Found}
use Rattle.salvage_scan.specs.declared.scanning.FrontAt.TheVariants as shows
use Rattle.salvage_scan.specs.Salvage.{front, front_by}
use Rattle.salvage_scan.specs.Scan.{joined, shown}
use Rattle.salvage_scan.specs.Pieces.{is_open, seen, wanted, ScanRun}
use Rattle.salvage_scan.specs.JunkRuns.{IsJunkTo, may_begin}
use Rattle.salvage_scan.proofs.Telling.{junk_step, tells_nothing}

-- ---- where no header begins

-- a text that begins so
abbrev begins : List ℕ → Bool
begins y = may_begin (slice_index y 0) (slice_index y 1) (slice_index y 2) (slice_index y 3)

begins_blob : (r rest : List ℕ) (size : ℕ) → is_blobref r ≡ true → begins (header r size ++ rest) ≡ true
unfolding header
begins_blob r rest size form =
    let parts = blobref_parts r form in
    elim parts.form [
      | inl e ↦ ap (λ q. begins ((codes "[" ++ q ++ size_field size) ++ rest)) (parts.whole ∙ ap (λ n. n ++ parts.digits) e.0)
      | inr e ↦ ap (λ q. begins ((codes "[" ++ q ++ size_field size) ++ rest)) (parts.whole ∙ ap (λ n. n ++ parts.digits) e.0)
    ]

begins_deleted : (letters digits size : ℕ) (rest : List ℕ) → 1 ≤ letters → 1 ≤ digits → begins (deleted_header letters digits size ++ rest) ≡ true
unfolding deleted_header
begins_deleted zero digits size rest some more = absurd (omega (arith, some))
begins_deleted (suc zero) zero size rest some more = absurd (omega (arith, more))
begins_deleted (suc zero) (suc digits) size rest some more = refl
begins_deleted (suc (suc zero)) digits size rest some more = refl
begins_deleted (suc (suc (suc letters))) digits size rest some more = refl

no_header : (y : List ℕ) → begins y ≡ false → header_at y ≡ Missing
no_header y none = go (header_at y) refl
  where
    go : (h : HeaderAt) → header_at y ≡ h → h ≡ Missing
    go (Blob r size len) is =
        let read = (header_at-is y).blob r size len is in
        absurd (false≢true (sym none ∙ ap begins read.0.whole ∙ begins_blob r read.0.rest size read.0.form))
    go (Gone size len) is =
        let read = (header_at-is y).deleted size len is in
        absurd (false≢true (sym none ∙ ap begins read.whole ∙ begins_deleted read.letters read.digits size read.rest read.form.some_letter read.form.some_digit))
    go Missing is = refl

-- so many bytes settle that
junk_seen : (last : Bool) (y : List ℕ) → header_at y ≡ Missing → 156 ≤ length y → shows.Junk ≡ seen last y
unfolding front is_open
junk_seen true y none long = sym (ap shown (ap (λ h. front_by h y) none))
junk_seen false y none long = sym (cond-false _ _ _ (ap (λ h. nat_lt (length y) (wanted h)) none ∙ le-ltb (length y) 156 long) ∙ ap shown (ap (λ h. front_by h y) none))

-- ---- runs

pub IsJunkTo-start : (x : List ℕ) (at : ℕ) → at ≤ length x → IsJunkTo x at at
IsJunkTo-start x at within = record { after = omega arith; within = within; junk = λ last k from before. absurd (omega (arith, from, before)) }

pub IsJunkTo-more : (x : List ℕ) (start at : ℕ) → IsJunkTo x start at → 156 ≤ length x - at → may_begin (slice_index x at) (slice_index x (at + 1)) (slice_index x (at + 2)) (slice_index x (at + 3)) ≡ false
    → IsJunkTo x start (at + 1)
IsJunkTo-more x start at run long none = record {
  after = omega (arith, run.after);
  within = omega (arith, long);
  junk = λ last k from before. elim (cases_eq k at) [
    | inl e ↦ rw e (junk_seen last (drop at x) (no_header (drop at x) here) (omega (arith, long, length-drop at x)))
    | inr ne ↦ run.junk last k from (omega (arith, before))
  ];
}
  where
    here : begins (drop at x) ≡ false
    here =
        let e : at ≡ at + 0 = omega arith in
        let a : slice_index (drop at x) 0 ≡ slice_index x at = get_or-drop at x 0 0 ∙ ap (slice_index x) (sym e) in
        let b : slice_index (drop at x) 1 ≡ slice_index x (at + 1) = get_or-drop at x 1 0 in
        let c : slice_index (drop at x) 2 ≡ slice_index x (at + 2) = get_or-drop at x 2 0 in
        let d : slice_index (drop at x) 3 ≡ slice_index x (at + 3) = get_or-drop at x 3 0 in
        (λ i. may_begin (a i) (b i) (c i) (d i)) ∙ none

-- the place that is broken stays the first one
pub stays_broken : (c : Clean) (at q : ℕ) → joined (joined c (Some at)) (Some q) ≡ joined c (Some at)
stays_broken clean.Yes at q = refl
stays_broken (clean.No p) at q = refl

-- a run of junk tells nothing, where a place was broken before it
junks : (n : ℕ) (last : Bool) (place : ℕ) (c d : Clean) (x : List ℕ) (at : ℕ) (told : List Found) → ((q : ℕ) → joined d (Some q) ≡ d) → at + n ≤ length x
    → ((k : ℕ) → at ≤ k → k < at + n → shows.Junk ≡ seen last (drop k x)) → ScanRun last place c x told (place + at) d (drop at x)
    → ScanRun last place c x told (place + (at + n)) d (drop (at + n) x)
junks zero last place c d x at told broken within each leads =
    let e : at ≡ at + 0 = omega arith in
    subst (λ k. ScanRun last place c x told (place + k) d (drop k x)) e leads
junks (suc n) last place c d x at told broken within each leads =
    let step = junk_step last place x at (omega (arith, within)) (each at (omega arith) (omega arith)) in
    let one : ScanRun last place c x told (place + (at + 1)) d (drop (at + 1) x) =
    subst (λ e. ScanRun last place c x told (place + (at + 1)) e (drop (at + 1) x)) (broken (place + at)) (tells_nothing last place x at 1 _ c d told step leads) in
    let e : at + 1 + n ≡ at + suc n = omega arith in
    subst (λ k. ScanRun last place c x told (place + k) d (drop k x)) e
    (junks n last place c d x (at + 1) told broken (omega (arith, within)) (λ k from before. each k (omega (arith, from)) (omega (arith, before))) one)

pub run_told : (last : Bool) (place : ℕ) (c d : Clean) (x : List ℕ) (at onward : ℕ) (told : List Found) → ((q : ℕ) → joined d (Some q) ≡ d) → IsJunkTo x at onward
    → ScanRun last place c x told (place + at) d (drop at x) → ScanRun last place c x told (place + onward) d (drop onward x)
run_told last place c d x at onward told broken run leads =
    let e : at + (onward - at) ≡ onward = omega (arith, run.after) in
    subst (λ k. ScanRun last place c x told (place + k) d (drop k x)) e
    (junks (onward - at) last place c d x at told broken (omega (arith, run.after, run.within)) (λ k from before. run.junk last k from (omega (arith, before, run.after))) leads)
