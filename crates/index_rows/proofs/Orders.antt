-- The orders of the keys.
use Rattle.std.proofs.Common.{List, ℕ, ◌≡◌, refl, ap, ◌∙◌, Ordering}
use Rattle.std.specs.declared.cmp.Ordering.TheVariants.{Less, Equal, Greater}
use Rattle.std.specs.Ordering.{ordering_then, int_cmp, nat_cmp}
use Rattle.std.specs.Cmp.{IsTotalOrder, then_total, on_total}
use Rattle.std.specs.Cmp.Lexicographic.{nat_list_cmp_total}
use Rattle.std.specs.FinMap.{IsAntisymmetric, int_cmp-IsAntisymmetric, slice_cmp-IsAntisymmetric}
use Rattle.std.specs.FinMap.{nat_cmp-IsAntisymmetric}
use Rattle.blobref.specs.Blobref.{ref_cmp}
use Rattle.std.proofs.lemmas.Cmp.{int_cmp_total, nat_cmp_total}
use Rattle.claim_model.specs.Claims.{Moment, moment_cmp}
use Rattle.index_rows.specs.Changes.{ChangeKey, change_cmp}
use Rattle.index_rows.specs.Holders.{holder_cmp}
use Rattle.index_rows.specs.Pairs.{pair_cmp}
use Rattle.index_rows.specs.Removals.{RemovalKey, removal_cmp}

pub ref_total : IsTotalOrder ref_cmp
ref_total = nat_list_cmp_total

pub ref_same : IsAntisymmetric ref_cmp
ref_same = slice_cmp-IsAntisymmetric nat_cmp-IsAntisymmetric

-- by a ref, then by a part of another kind
module _ {M : Type 0} (P : M → M → Ordering) where
  abbrev pub under : List ℕ × M → List ℕ × M → Ordering
  under a b = ordering_then (ref_cmp a.0 b.0) (P a.1 b.1)

module _ {M : Type 0} {P : M → M → Ordering} where
  pub under_total : IsTotalOrder P → IsTotalOrder (under P)
  under_total total = then_total (on_total (λ (t : List ℕ × M). t.0) ref_total)
      (on_total (λ (t : List ℕ × M). t.1) total)

  pub under_same : IsAntisymmetric P → IsAntisymmetric (under P)
  under_same same a b e = by (ref_cmp a.0 b.0) refl e
    where
      by : (r : Ordering) → ref_cmp a.0 b.0 ≡ r → ordering_then r (P a.1 b.1) ≡ Equal → a ≡ b
      by Less is h = absurd (let p : Less ≡ Equal = h in cc p)
      by Equal is h = λ i. (ref_same a.0 b.0 is i, same a.1 b.1 h i)
      by Greater is h = absurd (let p : Greater ≡ Equal = h in cc p)

pub pair_total : IsTotalOrder pair_cmp
pair_total = under_total ref_total

pub pair_same : IsAntisymmetric pair_cmp
pair_same = under_same ref_same

pub moment_total : IsTotalOrder moment_cmp
moment_total = then_total (on_total (λ (t : Moment). t.0) int_cmp_total)
    (then_total (on_total (λ (t : Moment). t.1) ref_total) (on_total (λ (t : Moment). t.2) nat_cmp_total))

both_equal : (a b : Ordering) → ordering_then a b ≡ Equal → (a ≡ Equal) × (b ≡ Equal)
both_equal Less b h = absurd (let p : Less ≡ Equal = h in cc p)
both_equal Equal b h = (refl, h)
both_equal Greater b h = absurd (let p : Greater ≡ Equal = h in cc p)

pub moment_same : IsAntisymmetric moment_cmp
moment_same a b h =
    let parts = both_equal (int_cmp a.0 b.0) (ordering_then (ref_cmp a.1 b.1) (nat_cmp a.2 b.2)) h in
    let rest = both_equal (ref_cmp a.1 b.1) (nat_cmp a.2 b.2) parts.1 in
    λ i. (
      int_cmp-IsAntisymmetric a.0 b.0 parts.0 i,
      ref_same a.1 b.1 rest.0 i,
      nat_cmp-IsAntisymmetric a.2 b.2 rest.1
          i,
    )

pub holder_same : IsAntisymmetric holder_cmp
holder_same a b h =
    let parts = both_equal (ref_cmp a.0 b.0) (ordering_then (ref_cmp a.1 b.1) (ref_cmp a.2 b.2)) h in
    let rest = both_equal (ref_cmp a.1 b.1) (ref_cmp a.2 b.2) parts.1 in
    λ i. (ref_same a.0 b.0 parts.0 i, ref_same a.1 b.1 rest.0 i, ref_same a.2 b.2 rest.1 i)

pub change_total : IsTotalOrder change_cmp
change_total = under_total moment_total

pub change_same : IsAntisymmetric change_cmp
change_same = under_same moment_same

then_assoc : (a b c : Ordering) → ordering_then (ordering_then a b) c ≡ ordering_then a (ordering_then b c)
then_assoc Less b c = refl
then_assoc Equal b c = refl
then_assoc Greater b c = refl

-- the order of a tree of changes, which compares a date and a ref before a place
abbrev pub tree_cmp : ChangeKey → ChangeKey → Ordering
tree_cmp a b = ordering_then (ref_cmp a.0 b.0) (ordering_then
    (ordering_then (int_cmp a.1.0 b.1.0) (ref_cmp a.1.1 b.1.1)) (nat_cmp a.1.2 b.1.2))

pub tree_order : tree_cmp ≡ change_cmp
tree_order = λ i a b. ordering_then (ref_cmp a.0 b.0) (then_assoc (int_cmp a.1.0 b.1.0) (ref_cmp a.1.1 b.1.1)
    (nat_cmp a.1.2 b.1.2) i)

pub removal_total : IsTotalOrder removal_cmp
removal_total =
    then_total (on_total (λ (k : RemovalKey). k.0) ref_total)
    (then_total (on_total (λ (k : RemovalKey). k.1) nat_cmp_total) (on_total (λ (k : RemovalKey). k.2) moment_total))

pub removal_same : IsAntisymmetric removal_cmp
removal_same a b h =
    let parts = both_equal (ref_cmp a.0 b.0) (ordering_then (nat_cmp a.1 b.1) (moment_cmp a.2 b.2)) h in
    let rest = both_equal (nat_cmp a.1 b.1) (moment_cmp a.2 b.2) parts.1 in
    λ i. (ref_same a.0 b.0 parts.0 i, nat_cmp-IsAntisymmetric a.1 b.1 rest.0 i, moment_same a.2 b.2 rest.1 i)

-- the order of a tree of removals, which compares a permanode and a mark before a moment
abbrev pub removal_tree : RemovalKey → RemovalKey → Ordering
removal_tree a b =
    ordering_then (ordering_then (ref_cmp a.0 b.0) (nat_cmp a.1 b.1))
    (ordering_then (ordering_then (int_cmp a.2.0 b.2.0) (ref_cmp a.2.1 b.2.1)) (nat_cmp a.2.2 b.2.2))

pub removal_order : removal_tree ≡ removal_cmp
removal_order = λ i a b.
    (then_assoc (ref_cmp a.0 b.0) (nat_cmp a.1 b.1)
    (ordering_then (ordering_then (int_cmp a.2.0 b.2.0) (ref_cmp a.2.1 b.2.1)) (nat_cmp a.2.2 b.2.2))
    ∙ ap (λ r. ordering_then (ref_cmp a.0 b.0) (ordering_then (nat_cmp a.1 b.1) r))
    (then_assoc (int_cmp a.2.0 b.2.0) (ref_cmp a.2.1 b.2.1) (nat_cmp a.2.2 b.2.2))) i
