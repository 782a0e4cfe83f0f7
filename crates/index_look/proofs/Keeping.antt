-- One ref more in a set of refs of which a test holds.
use Rattle.std.proofs.Common.{◌≡◌, ℕ, cond, Bool, true, List, sym, ap, ◌∙◌, inl, inr}
use Rattle.std.proofs.lemmas.Bool.{cases_Bool, cond-false}
use Rattle.std.proofs.lemmas.Map.Lookups.{exact_bytes}
use Rattle.std.proofs.lemmas.Map.Views.{tells_apart}
use Rattle.std.specs.Ordering.{eq_by_cmp}
use Rattle.std.specs.List.{list_any}
use Rattle.std.specs.BTreeMap.{is_at}
use Rattle.std.specs.BTreeSet.{BTreeSet, contains}
use Rattle.blobref.specs.Blobref.{ref_cmp}
use Rattle.index_look.specs.Known.{HoldsOf}

pub added : (test : List ℕ → Bool) (refs now : BTreeSet (List ℕ)) (r : List ℕ)
    → ((q : List ℕ) → contains ref_cmp now q ≡ cond (eq_by_cmp ref_cmp r q) true (contains ref_cmp refs q))
    → HoldsOf test refs → test r ≡ true → HoldsOf test now
added test refs now r more so h q had = elim (cases_Bool (eq_by_cmp ref_cmp r q)) [
  | inl same ↦ ap test (sym (tells_apart exact_bytes r q same)) ∙ h
  | inr other ↦ so q (sym (more q ∙ cond-false (eq_by_cmp ref_cmp r q) true (contains ref_cmp refs q) other) ∙ had)
]

pub unchanged : (test : List ℕ → Bool) (refs now : BTreeSet (List ℕ)) → now.keys ≡ refs.keys → HoldsOf test refs → HoldsOf test now
unchanged test refs now same so q had = so q (sym (ap (list_any (is_at (ref_cmp q))) same) ∙ had)
