-- The refs of the pages that a store lists are among its arrivals.
use Rattle.std.proofs.Common.{◌≡◌, ℕ, zero, suc, List, [], ◌∷◌, ◌++◌, take, filter, Bool, true, false, cond, Ordering, Less, Equal, Greater, Option, None, Some, nat_eq, refl, sym, ap, subst, ◌∙◌}
use Rattle.std.specs.List.{AllByRecursion}
use Rattle.std.specs.Cmp.Lexicographic.{pointwise, nat_list_eq_equiv, nat_list_cmp_total}
use Rattle.std.specs.FinMap.{entries, entries-insert, from_entries}
use Rattle.std.specs.FinMap.Entries.{put, by_order}
use Rattle.std.specs.Map.{lookup}
use Rattle.blobref.specs.Blobref.{ref_cmp, is_after}
use Rattle.pack_store.specs.declared.rows.Row.{Row}
use Rattle.pack_store.specs.Reading.{page}
use Rattle.pack_store.specs.Rows.{number_of, sizes_in}
use Rattle.pack_store.proofs.Numbers.{no_row_of}
use Rattle.peer_base.specs.Order.{refs_of}
use Rattle.store_peer.proofs.Contents.{none_in_empty}

abbrev Entry : Type 0
Entry = List ℕ × ℕ

-- a ref is among these
abbrev Has : List Entry → List ℕ → Type 0
Has es r = lookup (pointwise nat_eq r) es ≡ None → ⊥

-- ---- what holds of each entry

module _ (P : Entry → Type 0) where
  all_on : {Q : Entry → Type 0} → ((e : Entry) → P e → Q e) → (es : List Entry) → AllByRecursion P es → AllByRecursion Q es
  all_on f [] all = tt
  all_on f (e ∷ es) all = (f e all.0, all_on f es all.1)

  all_filter : (test : Entry → Bool) (es : List Entry) → AllByRecursion P es → AllByRecursion P (filter test es)
  all_filter test [] all = tt
  all_filter test (e ∷ es) all = elim (test e) as (λ b. AllByRecursion P (cond b (e ∷ filter test es) (filter test es))) [
    | true ↦ (all.0, all_filter test es all.1)
    | false ↦ all_filter test es all.1
  ]

  all_take : (n : ℕ) (es : List Entry) → AllByRecursion P es → AllByRecursion P (take n es)
  all_take zero es all = tt
  all_take (suc n) [] all = tt
  all_take (suc n) (e ∷ es) all = (all.0, all_take n es all.1)

-- of their refs
module _ (P : List ℕ → Type 0) where
  refs_kept : (es : List Entry) → AllByRecursion (λ (e : Entry). P e.0) es → AllByRecursion P (refs_of es)
  refs_kept [] all = tt
  refs_kept (e ∷ es) all = (all.0, refs_kept es all.1)

  all_put : (r : List ℕ) (size : ℕ) (es : List Entry) → P r → AllByRecursion (λ (e : Entry). P e.0) es → AllByRecursion (λ (e : Entry). P e.0) (put ref_cmp r size es)
  all_put r size [] one all = (one, tt)
  all_put r size (e ∷ es) one all = go (ref_cmp r e.0) (all_put r size es one all.1)
    where
      go : (o : Ordering) → AllByRecursion (λ (e : Entry). P e.0) (put ref_cmp r size es)
          → AllByRecursion (λ (e : Entry). P e.0) (by_order o ((r, size) ∷ e ∷ es) ((e.0, size) ∷ es) (e ∷ put ref_cmp r size es))
      go Less more = (one, all)
      go Equal more = (all.0, all.1)
      go Greater more = (all.0, more)

  all_entries : (es : List Entry) → AllByRecursion (λ (e : Entry). P e.0) es → AllByRecursion (λ (e : Entry). P e.0) (entries (from_entries {R = ref_cmp} es))
  all_entries [] all = subst (AllByRecursion (λ (e : Entry). P e.0)) (sym (none_in_empty ℕ)) tt
  all_entries (e ∷ es) all = subst (AllByRecursion (λ (x : Entry). P x.0)) (sym (entries-insert nat_list_cmp_total (from_entries {R = ref_cmp} es) e.0 e.1)) (all_put e.0 e.1 (entries (from_entries {R = ref_cmp} es)) all.0 (all_entries es all.1))

  -- a ref that stands in a list
  pub all_at : (front : List (List ℕ)) (r : List ℕ) (rest : List (List ℕ)) → AllByRecursion P (front ++ r ∷ rest) → P r
  all_at [] r rest all = all.0
  all_at (q ∷ front) r rest all = all_at front r rest all.1

  pub refs_filtered : (test : List ℕ → Bool) (rs : List (List ℕ)) → AllByRecursion P rs → AllByRecursion P (filter test rs)
  refs_filtered test [] all = tt
  refs_filtered test (r ∷ rs) all = elim (test r) as (λ b. AllByRecursion P (cond b (r ∷ filter test rs) (filter test rs))) [
    | true ↦ (all.0, refs_filtered test rs all.1)
    | false ↦ refs_filtered test rs all.1
  ]

-- ---- the refs of rows

has_more : (e : Entry) (es : List Entry) (r : List ℕ) → Has es r → Has (e ∷ es) r
has_more e es r has = elim (pointwise nat_eq r e.0) as (λ b. cond b (Some e.1) (lookup (pointwise nat_eq r) es) ≡ None → ⊥) [
  | true ↦ λ none. cc none
  | false ↦ has
]

has_itself : (e : Entry) (es : List Entry) → Has (e ∷ es) e.0
has_itself e es none = let here : ◌≡◌ {A = Option ℕ} (Some e.1) None = sym (ap (λ b. cond b (Some e.1) (lookup (pointwise nat_eq e.0) es)) (nat_list_eq_equiv.refl e.0)) ∙ none in cc here

has_each : (es : List Entry) → AllByRecursion (λ (e : Entry). Has es e.0) es
has_each [] = tt
has_each (e ∷ es) = (has_itself e es, all_on (λ (x : Entry). Has es x.0) (λ x has. has_more e es x.0 has) es (has_each es))

-- a ref has arrived
abbrev pub HasArrived : List Row → List ℕ → Type 0
HasArrived rows r = number_of r rows ≡ None → ⊥

-- each ref of a page has
pub page_arrived : (after : Option (List ℕ)) (limit : ℕ) (rows : List Row) → AllByRecursion (HasArrived rows) (refs_of (page after limit rows))
page_arrived after limit rows =
    let P = HasArrived rows in
    let Q = λ (e : Entry). P e.0 in
    let sizes = sizes_in rows in
    let all = entries (from_entries {R = ref_cmp} sizes) in
    let stand : AllByRecursion Q sizes = all_on (λ (e : Entry). Has sizes e.0) (λ e has none. has (no_row_of (λ (row : Row). row.size) e.0 rows none)) sizes (has_each sizes) in
    refs_kept P (page after limit rows) (all_take Q limit _ (all_filter Q (λ (e : Entry). is_after after e.0) all (all_entries P sizes stand)))
