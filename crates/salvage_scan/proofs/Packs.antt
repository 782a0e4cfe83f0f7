-- A pack is clean where it is records one after another.
use Rattle.std.proofs.Common.{◌≡◌, ℕ, zero, suc, ◌+◌, ◌≤◌, List, [], ◌∷◌, length, Some, None, sym, ◌∙◌, ap, subst, arith, length-append, refl}
use Rattle.pack_format.specs.Header.{record_under}
use Rattle.salvage_scan.specs.Salvage.{Kept, Passed, Junk, front, broken_past}
use Rattle.salvage_scan.specs.Clean.{IsConcatenation, nothing, kept, deleted, CleanPacks}
use Rattle.salvage_scan.proofs.Fronts.{length-record_under, record_some, deleted_some}
use Rattle.salvage_scan.proofs.Cuts.{broken_past-record, broken_past-deleted, nothing-broken, salvage-append, broken-append, salvage-append_record_under, IsClean-append_record_under, swallowed, lost}
use Rattle.salvage_scan.proofs.Cases.{begins_with_record, begins_with_deleted, past_junk}

clean_at : (p : ℕ) (x : List ℕ) → IsConcatenation x → broken_past p 0 x ≡ None
clean_at p x nothing = nothing-broken p
clean_at p x (kept r bytes rest own small h) = broken_past-record p r bytes rest own small ∙ clean_at (p + length (record_under r bytes)) rest h
clean_at p x (deleted text rest form h) = broken_past-deleted p text rest form ∙ clean_at (p + length text) rest h

-- by recursion on a bound of the length
concatenated : (n p : ℕ) (x : List ℕ) → length x ≤ n → broken_past p 0 x ≡ None → IsConcatenation x
concatenated n p [] le clean = nothing
concatenated zero p (b ∷ x) le clean = absurd (omega arith)
concatenated (suc n) p (b ∷ x) le clean = elim (front (b ∷ x)) as (λ f. front (b ∷ x) ≡ f → IsConcatenation (b ∷ x)) [
  | Kept r start bytes ↦ λ e.
      let w = begins_with_record (b ∷ x) r start bytes e in
      let shorter : length w.rest ≤ n = omega (arith, ap length w.whole, length-append (record_under w.r w.bytes) w.rest, length-record_under w.r w.bytes, record_some w.r w.bytes) in
      let rest_clean = sym (broken_past-record p w.r w.bytes w.rest w.own w.small) ∙ ap (broken_past p 0) (sym w.whole) ∙ clean in
      subst IsConcatenation (sym w.whole) (kept w.r w.bytes w.rest w.own w.small (concatenated n (p + length (record_under w.r w.bytes)) w.rest shorter rest_clean))
  | Passed len ↦ λ e.
      let w = begins_with_deleted (b ∷ x) len e in
      let shorter : length w.rest ≤ n = omega (arith, ap length w.whole, length-append w.text w.rest, deleted_some w.text w.form) in
      let rest_clean = sym (broken_past-deleted p w.text w.rest w.form) ∙ ap (broken_past p 0) (sym w.whole) ∙ clean in
      subst IsConcatenation (sym w.whole) (deleted w.text w.rest w.form (concatenated n (p + length w.text) w.rest shorter rest_clean))
  | Junk ↦ λ e. let bad : Some p ≡ None = sym (past_junk p b x e).1 ∙ clean in absurd (cc bad)
] refl

pub clean_packs : CleanPacks
clean_packs = record {
  clean = λ pack. clean_at 0 pack;
  only_clean = λ pack. concatenated (length pack) 0 pack (omega arith);
  first = salvage-append;
  then_broken = broken-append;
  found = salvage-append_record_under;
  again = IsClean-append_record_under;
  swallowed = swallowed;
  lost = lost;
}
