-- Where a search by halves ends.
use Rattle.std.proofs.Common.{◌≡◌, ◌∙◌, ℕ, List, Option, Some, false, IfSome, IfNone, sym, subst}
use Rattle.std.specs.Prelude.{slice_get}
use Rattle.std.specs.List.{list_any}
use Rattle.std.specs.List.Sorted.{IsStrictlySortedBy}
use Rattle.std.specs.Str.{bytes_eq}
use Rattle.blobref.specs.Blobref.{ref_cmp}
use Rattle.blobref.proofs.Sets.{stands_there, stands_nowhere}
use Rattle.blobref.proofs.ref_set.RefSet.place.Goals as goal

pub returns-clause-some : goal.returns-clause-some
returns-clause-some c =
    let found : IfSome c.ok.result (λ i. slice_get c.deref.result.now i ≡ Some c.args.r.now) =
    subst (λ (o : Option ℕ). IfSome o (λ i. slice_get c.deref.result.now i ≡ Some c.args.r.now)) (sym c.ok.ensures.value)
    (stands_there c.args.r.now c.deref.result.now c.binary_search.result c.binary_search.ensures.bound
    c.binary_search.ensures.position) in
    subst (λ (refs : List (List ℕ)). IfSome c.ok.result (λ i. slice_get refs i ≡ Some c.args.r.now))
    (c.deref.ensures.value ∙ c.self.view_is) found

pub returns-clause-none : goal.returns-clause-none
returns-clause-none c =
    let found : IfNone c.ok.result (list_any (bytes_eq c.args.r.now) c.deref.result.now ≡ false) =
    subst (λ (o : Option ℕ). IfNone o (list_any (bytes_eq c.args.r.now) c.deref.result.now ≡ false)) (sym c.ok.ensures.value)
    (stands_nowhere c.args.r.now c.deref.result.now
    (subst (IsStrictlySortedBy ref_cmp) (sym c.deref.ensures.value) c.self.invariant) c.binary_search.result
    c.binary_search.ensures.bound c.binary_search.ensures.position) in
    subst (λ (refs : List (List ℕ)). IfNone c.ok.result (list_any (bytes_eq c.args.r.now) refs ≡ false))
    (c.deref.ensures.value ∙ c.self.view_is) found
