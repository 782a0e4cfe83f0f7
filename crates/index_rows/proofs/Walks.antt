-- Walks of the groups of each table.
use Rattle.std.proofs.Common.{◌≡◌, ℕ, true, false, cond, filter, List, [], ◌∷◌, Option, Some, refl, subst, Ordering}
use Rattle.std.specs.Str.{bytes_eq}
use Rattle.std.specs.declared.ops.Bound.{Bound}
use Rattle.std.specs.declared.ops.Bound.TheVariants.{Unbounded}
use Rattle.std.specs.List.{list_any}
use Rattle.std.specs.List.Sorted.{IsStrictlySortedBy}
use Rattle.std.specs.BTreeMap.{is_at}
use Rattle.std.specs.BTreeMap.Range.{range_contains}
use Rattle.std.specs.FinMap.{FinMap, insert, remove, empty, from_entries}
use Rattle.blobref.specs.Blobref.{least_ref, is_after, IsFromLeast}
use Rattle.claim_model.specs.Claims.{Moment}
use Rattle.index_rows.specs.Pairs.{Pair, pair_cmp, start_of, AllFromLeast, entries_above, entries_from, group_after}
use Rattle.index_rows.specs.Changes.{ChangeKey, Changes, keys_alone, change_cmp, first_moment, IsFromFirst, AllFromFirst, is_later, changes_start, changes_from, changes_above, changes_after}
use Rattle.index_rows.proofs.Orders.{ref_total, ref_same, moment_total, moment_same, change_total, change_same, tree_cmp, tree_order}
use Rattle.index_rows.proofs.Alone.{one_added, set_range, set_range_none}
use Rattle.index_rows.proofs.Groups as groups

pub pairs_from_least-empty : (X : Type 0) → AllFromLeast (empty {X = X} {R = pair_cmp})
pairs_from_least-empty X = groups.from_least-empty ref_total ref_same least_ref X

module _ {X : Type 0} where
  pub pairs_from_least-insert : (m : FinMap pair_cmp X) (q : Pair) (v : X) → AllFromLeast m → IsFromLeast q.1
      → AllFromLeast (insert m q v)
  pairs_from_least-insert = groups.from_least-insert ref_total ref_same least_ref

  pub pairs_from_least-remove : (m : FinMap pair_cmp X) (q : Pair) → AllFromLeast m → AllFromLeast (remove m q)
  pairs_from_least-remove = groups.from_least-remove ref_total ref_same least_ref

  module _ (m : FinMap pair_cmp X) (x : List ℕ) (all : AllFromLeast m) (after : Option (List ℕ)) where
    -- the next one of the group
    pub group_next : (key : Pair) (row : X) → entries_from m (start_of x after) ≡ (key, row) ∷ entries_above m key
        → bytes_eq x key.0 ≡ true
        → group_after m x after ≡ ((x, key.1), row) ∷ group_after m x (Some key.1)
    group_next = groups.group_next ref_total ref_same least_ref is_after (λ k. refl) (λ d k. refl) start_of (λ y. refl)
        (λ y d. refl) m x all after

    -- another group is next
    pub group_ends : (key : Pair) (row : X) → entries_from m (start_of x after) ≡ (key, row) ∷ entries_above m key
        → bytes_eq x key.0 ≡ false → group_after m x after ≡ []
    group_ends = groups.group_ends ref_total ref_same least_ref is_after (λ k. refl) (λ d k. refl) start_of (λ y. refl)
        (λ y d. refl) m x all after

    pub group_none : entries_from m (start_of x after) ≡ [] → group_after m x after ≡ []
    group_none = groups.group_none ref_total ref_same least_ref is_after (λ k. refl) (λ d k. refl) start_of (λ y. refl)
        (λ y d. refl) m x all after

pub changes_from_first-empty : AllFromFirst empty
changes_from_first-empty = groups.from_least-empty moment_total moment_same first_moment (Unit {0})

pub changes_from_first-insert : (m : Changes) (q : ChangeKey) (v : Unit {0}) → AllFromFirst m → IsFromFirst q.1
    → AllFromFirst (insert m q v)
changes_from_first-insert = groups.from_least-insert moment_total moment_same first_moment

module _ (m : Changes) (p : List ℕ) (all : AllFromFirst m) (after : Option Moment) where
  -- the next change of p
  pub change_next : (key : ChangeKey) (row : Unit {0})
      → changes_from m (changes_start p after) ≡ (key, row) ∷ changes_above m key → bytes_eq p key.0 ≡ true
      → changes_after m p after ≡ ((p, key.1), row) ∷ changes_after m p (Some key.1)
  change_next =
      groups.group_next moment_total moment_same first_moment is_later (λ k. refl) (λ d k. refl) changes_start
      (λ y. refl) (λ y d. refl) m p all after

  -- those of another permanode are next
  pub change_ends : (key : ChangeKey) (row : Unit {0})
      → changes_from m (changes_start p after) ≡ (key, row) ∷ changes_above m key → bytes_eq p key.0 ≡ false
      → changes_after m p after ≡ []
  change_ends =
      groups.group_ends moment_total moment_same first_moment is_later (λ k. refl) (λ d k. refl) changes_start
      (λ y. refl) (λ y d. refl) m p all after

  pub change_none : changes_from m (changes_start p after) ≡ [] → changes_after m p after ≡ []
  change_none =
      groups.group_none moment_total moment_same first_moment is_later (λ k. refl) (λ d k. refl) changes_start
      (λ y. refl) (λ y d. refl) m p all after

-- what the tree of changes tells in its own order
pub one_change : (ks js : List ChangeKey) (k : ChangeKey)
    → ((q : ChangeKey) → list_any (is_at (tree_cmp q)) js
    ≡ cond (is_at (tree_cmp k) q) true (list_any (is_at (tree_cmp q)) ks))
    → from_entries {R = change_cmp} (keys_alone js) ≡ insert (from_entries (keys_alone ks)) k tt
one_change ks js k h = one_added change_total change_same ks js k
    (subst (λ (R : ChangeKey → ChangeKey → Ordering). (q : ChangeKey)
    → list_any (is_at (R q)) js ≡ cond (is_at (R k) q) true (list_any (is_at (R q)) ks)) tree_order h)

module _ (ks : List ChangeKey) (start : Bound ChangeKey) (sorted : IsStrictlySortedBy tree_cmp ks) where
  in_order : IsStrictlySortedBy change_cmp ks
  in_order = subst (λ (R : ChangeKey → ChangeKey → Ordering). IsStrictlySortedBy R ks) tree_order sorted

  pub changes_range : (f : ChangeKey) (fs : List ChangeKey)
      → filter (range_contains tree_cmp start Unbounded) ks ≡ f ∷ fs
      → changes_from (from_entries (keys_alone ks)) start ≡ (f, tt) ∷ changes_above (from_entries (keys_alone ks)) f
  changes_range f fs h = set_range change_total change_same ks start in_order f fs
      (subst (λ (R : ChangeKey → ChangeKey → Ordering). filter (range_contains R start Unbounded) ks ≡ f ∷ fs)
      tree_order h)

  pub changes_range_none : filter (range_contains tree_cmp start Unbounded) ks ≡ []
      → changes_from (from_entries (keys_alone ks)) start ≡ []
  changes_range_none h = set_range_none change_total change_same ks start in_order
      (subst (λ (R : ChangeKey → ChangeKey → Ordering). filter (range_contains R start Unbounded) ks ≡ []) tree_order h)
