-- Going through packs in the order of their numbers, by the least number from one on.
use Rattle.std.proofs.Common.{◌≡◌, ◌≢◌, ℕ, ◌+◌, ◌≤◌, ◌<◌, List, [], ◌∷◌, ◌++◌, true, false, cond, T, nat_le, nat_lt, filter, None, Some, refl, sym, ◌∙◌, ap, subst, arith}
use Rattle.std.specs.Ordering.{nat_cmp, is_lt}
use Rattle.std.specs.Option.{is_some}
use Rattle.std.specs.FinMap.{entries, entries_sorted, find, get, get-entries, is_sorted}
use Rattle.std.specs.FinMap.Entries.{below_all}
use Rattle.std.proofs.lemmas.Bool.{and_parts, leb-true, leb-false, lt-ltb, le-ltb, le-leb, lt-leb}
use Rattle.std.proofs.lemmas.Bool.Decides.{nat_tests}
use Rattle.pack_disk.specs.Packs.{Packs, first_from, least_from}
use Rattle.pack_store.specs.Walk.{below, from_on}
use Rattle.pack_store.proofs.Held.{true_from_T, T_from_true, tied, untied}

abbrev Entry : Type 0
Entry = ℕ × List ℕ

abbrev lower : ℕ → List Entry → List Entry
lower from es = filter (λ (pack : Entry). nat_lt pack.0 from) es

abbrev upper : ℕ → List Entry → List Entry
upper from es = filter (λ (pack : Entry). nat_le from pack.0) es

pub less_of : (a b : ℕ) → is_lt (nat_cmp a b) ≡ true → a < b
less_of a b e = grind (arith, nat_tests)

same_number : (m n : ℕ) → Some m ≡ Some n → m ≡ n
same_number m n e = cc e

-- ---- one entry in front

lower_kept : (from : ℕ) (e : Entry) (es : List Entry) → e.0 < from → lower from (e ∷ es) ≡ e ∷ lower from es
lower_kept from e es lt = ap (λ b. cond b (e ∷ lower from es) (lower from es)) (lt-ltb e.0 from lt)

lower_left : (from : ℕ) (e : Entry) (es : List Entry) → from ≤ e.0 → lower from (e ∷ es) ≡ lower from es
lower_left from e es le = ap (λ b. cond b (e ∷ lower from es) (lower from es)) (le-ltb e.0 from le)

upper_kept : (from : ℕ) (e : Entry) (es : List Entry) → from ≤ e.0 → upper from (e ∷ es) ≡ e ∷ upper from es
upper_kept from e es le = ap (λ b. cond b (e ∷ upper from es) (upper from es)) (le-leb from e.0 le)

upper_left : (from : ℕ) (e : Entry) (es : List Entry) → e.0 < from → upper from (e ∷ es) ≡ upper from es
upper_left from e es lt = ap (λ b. cond b (e ∷ upper from es) (upper from es)) (lt-leb from e.0 lt)

-- what stands above a number: none of it is lower, and all of it is upper
above_lower : (k from : ℕ) (es : List Entry) → T (below_all nat_cmp k es) → from ≤ k + 1 → lower from es ≡ []
above_lower k from [] high le = refl
above_lower k from (e ∷ es) high le =
    let parts = and_parts _ _ (true_from_T _ high) in
    let lt : k < e.0 = less_of k e.0 parts.0 in
    lower_left from e es (omega (arith, lt, le)) ∙ above_lower k from es (T_from_true _ parts.1) le

above_upper : (k from : ℕ) (es : List Entry) → T (below_all nat_cmp k es) → from ≤ k + 1 → upper from es ≡ es
above_upper k from [] high le = refl
above_upper k from (e ∷ es) high le =
    let parts = and_parts _ _ (true_from_T _ high) in
    let lt : k < e.0 = less_of k e.0 parts.0 in
    upper_kept from e es (omega (arith, lt, le)) ∙ ap (λ l. e ∷ l) (above_upper k from es (T_from_true _ parts.1) le)

least_le : (from n : ℕ) (es : List Entry) → first_from from es ≡ Some n → from ≤ n
least_le from n [] is = absurd (cc is)
least_le from n (e ∷ es) is = elim (nat_le from e.0) as (λ b. nat_le from e.0 ≡ b → cond b (Some e.0) (first_from from es) ≡ Some n → from ≤ n) [
  | true ↦ λ le here. let same = same_number e.0 n here in let h = leb-true from e.0 le in omega (arith, same, h)
  | false ↦ λ lt later. least_le from n es later
] refl is

-- ---- one step

record Steps (from n : ℕ) (es : List Entry) : Type 0 where
  bytes : List ℕ
  found : find nat_cmp n es ≡ Some bytes
  so_far : lower (n + 1) es ≡ lower from es ++ (n, bytes) ∷ []
  left : upper from es ≡ (n, bytes) ∷ upper (n + 1) es

steps : (from n : ℕ) (es : List Entry) → T (is_sorted nat_cmp es) → first_from from es ≡ Some n → Steps from n es
steps from n [] sorted is = absurd (cc is)
steps from n (e ∷ es) sorted is =
    let parts = and_parts (below_all nat_cmp e.0 es) (is_sorted nat_cmp es) (true_from_T _ sorted) in
    elim (nat_le from e.0) as (λ b. nat_le from e.0 ≡ b → cond b (Some e.0) (first_from from es) ≡ Some n → Steps from n (e ∷ es)) [
      | true ↦ λ le here.
          let h : from ≤ e.0 = leb-true from e.0 le in
          let high : T (below_all nat_cmp e.0 es) = T_from_true _ parts.0 in
          let none : lower from (e ∷ es) ≡ [] = lower_left from e es h ∙ above_lower e.0 from es high (omega (arith, h)) in
          let one : lower (e.0 + 1) (e ∷ es) ≡ e ∷ [] = lower_kept (e.0 + 1) e es (omega arith) ∙ ap (λ l. e ∷ l) (above_lower e.0 (e.0 + 1) es high (omega arith)) in
          let all : upper from (e ∷ es) ≡ e ∷ es = upper_kept from e es h ∙ ap (λ l. e ∷ l) (above_upper e.0 from es high (omega (arith, h))) in
          let rest : upper (e.0 + 1) (e ∷ es) ≡ es = upper_left (e.0 + 1) e es (omega arith) ∙ above_upper e.0 (e.0 + 1) es high (omega arith) in
          subst (λ k. Steps from k (e ∷ es)) (same_number e.0 n here) (record {
            bytes = e.1;
            found = ap (λ b. cond b (Some e.1) (find nat_cmp e.0 es)) (tied e.0 e.0 refl);
            so_far = one ∙ ap (λ l. l ++ e ∷ []) (sym none);
            left = all ∙ ap (λ l. e ∷ l) (sym rest);
          })
      | false ↦ λ low later.
          let h : e.0 < from = leb-false from e.0 low in
          let ge : from ≤ n = least_le from n es later in
          let rest = steps from n es (T_from_true _ parts.1) later in
          let other : n ≢ e.0 = omega (arith, h, ge) in
          let past : e.0 < n + 1 = omega (arith, h, ge) in
          record {
            bytes = rest.bytes;
            found = ap (λ b. cond b (Some e.1) (find nat_cmp n es)) (untied n e.0 other) ∙ rest.found;
            so_far = lower_kept (n + 1) e es past ∙ ap (λ l. e ∷ l) rest.so_far ∙ ap (λ l. l ++ (n, rest.bytes) ∷ []) (sym (lower_kept from e es h));
            left = upper_left from e es h ∙ rest.left ∙ ap (λ l. (n, rest.bytes) ∷ l) (sym (upper_left (n + 1) e es past));
          }
    ] refl is

all_lower : (from : ℕ) (es : List Entry) → first_from from es ≡ None → lower from es ≡ es
all_lower from [] is = refl
all_lower from (e ∷ es) is = elim (nat_le from e.0) as (λ b. nat_le from e.0 ≡ b → cond b (Some e.0) (first_from from es) ≡ None → lower from (e ∷ es) ≡ e ∷ es) [
  | true ↦ λ le here. absurd (cc here)
  | false ↦ λ low later. lower_kept from e es (leb-false from e.0 low) ∙ ap (λ l. e ∷ l) (all_lower from es later)
] refl is

none_upper : (from : ℕ) (es : List Entry) → first_from from es ≡ None → upper from es ≡ []
none_upper from [] is = refl
none_upper from (e ∷ es) is = elim (nat_le from e.0) as (λ b. nat_le from e.0 ≡ b → cond b (Some e.0) (first_from from es) ≡ None → upper from (e ∷ es) ≡ []) [
  | true ↦ λ le here. absurd (cc here)
  | false ↦ λ low later. upper_left from e es (leb-false from e.0 low) ∙ none_upper from es later
] refl is

none_found : (from : ℕ) (es : List Entry) → first_from from es ≡ None → (n : ℕ) → from ≤ n → find nat_cmp n es ≡ None
none_found from [] is n le = refl
none_found from (e ∷ es) is n le = elim (nat_le from e.0) as (λ b. nat_le from e.0 ≡ b → cond b (Some e.0) (first_from from es) ≡ None → find nat_cmp n (e ∷ es) ≡ None) [
  | true ↦ λ low here. absurd (cc here)
  | false ↦ λ low later.
      let h : e.0 < from = leb-false from e.0 low in
      let other : n ≢ e.0 = omega (arith, h, le) in
      ap (λ b. cond b (Some e.1) (find nat_cmp n es)) (untied n e.0 other) ∙ none_found from es later n le
] refl is

none_lower : (es : List Entry) → lower 0 es ≡ []
none_lower [] = refl
none_lower (e ∷ es) = lower_left 0 e es (omega arith) ∙ none_lower es

all_upper : (es : List Entry) → upper 0 es ≡ es
all_upper [] = refl
all_upper (e ∷ es) = upper_kept 0 e es (omega arith) ∙ ap (λ l. e ∷ l) (all_upper es)

-- ---- the walk

-- Before the first step nothing is behind, and everything is left.
pub record WalkBegins (held : Packs) : Type 0 where
  pub so_far : below 0 held ≡ []
  pub left : from_on 0 held ≡ entries held

pub walk_begins : (held : Packs) → WalkBegins held
walk_begins held = record { so_far = none_lower (entries held); left = all_upper (entries held) }

-- The least number from one on is that of the next pack: it joins what is behind, and stands first of what is left.
pub record WalkStep (from n : ℕ) (held : Packs) : Type 0 where
  pub bytes : List ℕ
  pub found : get held n ≡ Some bytes
  pub so_far : below (n + 1) held ≡ below from held ++ (n, bytes) ∷ []
  pub left : from_on from held ≡ (n, bytes) ∷ from_on (n + 1) held

pub walk_step : (from n : ℕ) (held : Packs) → least_from from held ≡ Some n → WalkStep from n held
walk_step from n held is =
    let s = steps from n (entries held) (entries_sorted held) is in
    record { bytes = s.bytes; found = get-entries held n ∙ s.found; so_far = s.so_far; left = s.left }

pub walk_found : (from n : ℕ) (held : Packs) → least_from from held ≡ Some n → is_some (get held n) ≡ true
walk_found from n held is = ap is_some (walk_step from n held is).found

-- Where there is no such number all packs are behind, and none is left or has that number or a greater one.
pub record WalkEnds (from : ℕ) (held : Packs) : Type 0 where
  pub so_far : below from held ≡ entries held
  pub left : from_on from held ≡ []
  pub none : (n : ℕ) → from ≤ n → get held n ≡ None

pub walk_ends : (from : ℕ) (held : Packs) → least_from from held ≡ None → WalkEnds from held
walk_ends from held is = record {
  so_far = all_lower from (entries held) is;
  left = none_upper from (entries held) is;
  none = λ n le. get-entries held n ∙ none_found from (entries held) is n le;
}
