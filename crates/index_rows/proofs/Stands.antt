-- What a walk comes to has a row.
use Rattle.std.proofs.Common.{◌≡◌, ℕ, true, ◌&&◌, List, ◌∷◌, Option, Some, is_some, ap}
use Rattle.std.specs.List.{AllByRecursion}
use Rattle.std.specs.Ordering.{is_lt}
use Rattle.std.specs.Str.{bytes_eq}
use Rattle.std.specs.FinMap.{get, entries, contains_key}
use Rattle.claim_model.specs.Claims.{Moment, moment_cmp}
use Rattle.index_look.proofs.Keys.{entries_held}
use Rattle.index_rows.specs.Changes.{Changes, ChangeKey, changes_after, is_later}
use Rattle.index_rows.specs.Removals.{Removals, RemovalKey, is_under, removals_after}
use Rattle.index_rows.proofs.DeletionEnds.{all_filter}
use Rattle.index_rows.proofs.Orders.{change_total, change_same, removal_total, removal_same}

pub change_stands : (changes : Changes) (p : List ℕ) (after : Option Moment) (k : Moment)
    (es : List (ChangeKey × Unit {0})) → changes_after changes p after ≡ ((p, k), tt) ∷ es
    → contains_key changes (p, k) ≡ true
change_stands changes p after k es h =
    let all =
    all_filter (λ (e : ChangeKey × Unit {0}). get changes e.0 ≡ Some e.1)
    (λ (e : ChangeKey × Unit {0}). bytes_eq p e.0.0 && is_later after e.0.1)
    (entries changes) (entries_held change_total change_same changes) in
    let here : AllByRecursion
    (λ (e : ChangeKey × Unit {0}). (get changes e.0 ≡ Some e.1) × ((bytes_eq p e.0.0 && is_later after e.0.1) ≡ true))
    (((p, k), tt) ∷ es) = rw h at all in
    ap is_some here.0.0

pub removal_stands : (removals : Removals) (p : List ℕ) (mark : ℕ) (after k : Moment)
    (es : List (RemovalKey × Unit {0})) → removals_after removals p mark after ≡ ((p, mark, k), tt) ∷ es
    → contains_key removals (p, mark, k) ≡ true
removal_stands removals p mark after k es h =
    let all =
    all_filter (λ (e : RemovalKey × Unit {0}). get removals e.0 ≡ Some e.1)
    (λ (e : RemovalKey × Unit {0}). is_under p mark e.0 && is_lt (moment_cmp after e.0.2))
    (entries removals) (entries_held removal_total removal_same removals) in
    let here : AllByRecursion
    (λ (e : RemovalKey × Unit {0}). (get removals e.0 ≡ Some e.1)
    × ((is_under p mark e.0 && is_lt (moment_cmp after e.0.2)) ≡ true))
    (((p, mark, k), tt) ∷ es) = rw h at all in
    ap is_some here.0.0
