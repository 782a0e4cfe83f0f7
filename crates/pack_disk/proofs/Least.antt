-- The least pack number at or above one.
use Rattle.std.proofs.Common.{◌≡◌, ℕ, ◌<◌, ◌≤◌, List, [], ◌∷◌, ◌&&◌, Bool, true, false, cond, nat_le, T, Option, None, Some, refl, sym, ◌∙◌, ap, subst, arith, ⊎_elim, if◌then◌else◌, Result, Ok, Err, IfOk}
use Rattle.std.specs.Option.{option_map, is_some, IfSome, ForSome}
use Rattle.std.specs.List.{slice_get}
use Rattle.std.specs.Ordering.{nat_cmp, eq_by_cmp, is_lt, is_gt}
use Rattle.std.specs.FinMap.{get, entries, find, is_sorted, get-entries, entries_sorted}
use Rattle.std.specs.FinMap.Entries.{below_all}
use Rattle.std.specs.BTreeMap.{BTreeMap}
use Rattle.std.specs.BTreeMap.Range.{IsRangeOf, IsEntryInRange, IsLeBy}
use Rattle.std.specs.declared.ops.Bound.TheVariants.{Included, Unbounded}
use Rattle.std.proofs.lemmas.Bool.{ne_eqb, eq-eqb, cases_lt}
use Rattle.std.proofs.lemmas.Bool.Decides.{nat_tests}
use Rattle.pack_disk.specs.Packs.{Packs, first_from, least_from}
use Rattle.pack_disk.specs.PackState.{PackState}
use Rattle.pack_disk.specs.Past.{Past, told, state, at_number}
use Rattle.pack_disk.specs.Told.{ties}
use Rattle.pack_disk.proofs.Steps.{some_same}
use Rattle.pack_disk.proofs.Holding.{told_of, told_held, held_told}

both_true : (a b : Bool) → T (a && b) → T a × T b
both_true true true t = (tt, tt)
both_true true false t = absurd t
both_true false b t = absurd t

less : (x y : ℕ) → T (is_lt (nat_cmp x y)) → x < y
less x y t = grind (arith, nat_tests, t)

-- a number that isn't that of the first entry is found among the others
find_other : (q : ℕ) (e : ℕ × List ℕ) (es : List (ℕ × List ℕ)) → (q ≡ e.0 → ⊥) → find nat_cmp q (e ∷ es) ≡ find nat_cmp q es
find_other q e es other = ap (λ b. cond b (Some e.1) (find nat_cmp q es)) (ties q e.0 ∙ ne_eqb q e.0 other)

find_itself : (e : ℕ × List ℕ) (es : List (ℕ × List ℕ)) → find nat_cmp e.0 (e ∷ es) ≡ Some e.1
find_itself e es = ap (λ b. cond b (Some e.1) (find nat_cmp e.0 es)) (ties e.0 e.0 ∙ eq-eqb e.0 e.0 refl)

below_none : (x q : ℕ) (es : List (ℕ × List ℕ)) → T (below_all nat_cmp x es) → q ≤ x → find nat_cmp q es ≡ None
below_none x q [] below le = refl
below_none x q (e ∷ es) below le =
    let parts = both_true (is_lt (nat_cmp x e.0)) (below_all nat_cmp x es) below in
    let above = less x e.0 parts.0 in
    find_other q e es (λ same. omega (arith, above, le, same)) ∙ below_none x q es parts.1 le

none_some : (o : Option (List ℕ)) → o ≡ None → is_some o ≡ true → ⊥
none_some o e is = cc (sym is ∙ ap is_some e)

within : (from n : ℕ) → nat_le from n ≡ true → from ≤ n
within from n is = grind (arith, nat_tests, is)

under : (from n : ℕ) → nat_le from n ≡ false → n < from
under from n is = grind (arith, nat_tests, is)

first_is : (from n : ℕ) (es : List (ℕ × List ℕ)) → T (is_sorted nat_cmp es) → from ≤ n → is_some (find nat_cmp n es) ≡ true
    → ((q : ℕ) → from ≤ q → is_some (find nat_cmp q es) ≡ true → n ≤ q) → first_from from es ≡ Some n
first_is from n [] rise le there least = absurd (cc there)
first_is from n (e ∷ es) rise le there least =
    let parts = both_true (below_all nat_cmp e.0 es) (is_sorted nat_cmp es) rise in
    elim (nat_le from e.0) as (λ b. nat_le from e.0 ≡ b → (if b then Some e.0 else first_from from es) ≡ Some n) [
      | true ↦ λ is.
          let most = least e.0 (within from e.0 is) (ap is_some (find_itself e es)) in
          ⊎_elim
          (λ lower. absurd (none_some _ (find_other n e es (λ same. omega (arith, lower, same)) ∙ below_none e.0 n es parts.0 most) there))
          (λ upper. ap Some (omega (arith, most, upper)))
          (cases_lt n e.0)
      | false ↦ λ is.
          let above = under from e.0 is in
          first_is from n es parts.1 le (sym (ap is_some (find_other n e es (λ same. omega (arith, le, above, same)))) ∙ there)
          (λ q from_q there_q. least q from_q (ap is_some (find_other q e es (λ same. omega (arith, from_q, above, same))) ∙ there_q))
    ] refl

none_is : (from : ℕ) (es : List (ℕ × List ℕ)) → ((q : ℕ) → from ≤ q → find nat_cmp q es ≡ None) → first_from from es ≡ None
none_is from [] none = refl
none_is from (e ∷ es) none =
    elim (nat_le from e.0) as (λ b. nat_le from e.0 ≡ b → (if b then Some e.0 else first_from from es) ≡ None) [
      | true ↦ λ is. absurd (none_some _ (none e.0 (within from e.0 is)) (ap is_some (find_itself e es)))
      | false ↦ λ is.
          let above = under from e.0 is in
          none_is from es (λ q from_q. sym (find_other q e es (λ same. omega (arith, from_q, above, same))) ∙ none q from_q)
    ] refl

-- ---- the same of packs, and of the range of numbers in which a map was looked at

least_is : (from n : ℕ) (packs : Packs) → from ≤ n → is_some (get packs n) ≡ true → ((q : ℕ) → from ≤ q → is_some (get packs q) ≡ true → n ≤ q) → Some n ≡ least_from from packs
least_is from n packs le there least =
    sym (first_is from n (entries packs) (entries_sorted packs) le (sym (ap is_some (get-entries packs n)) ∙ there)
    (λ q from_q there_q. least q from_q (ap is_some (get-entries packs q) ∙ there_q)))

no_more : (from : ℕ) (packs : Packs) → ((q : ℕ) → from ≤ q → get packs q ≡ None) → None ≡ least_from from packs
no_more from packs none = sym (none_is from (entries packs) (λ q from_q. sym (get-entries packs q) ∙ none q from_q))

not_greater : (m n : ℕ) → is_gt (nat_cmp m n) ≡ false → m ≤ n
not_greater m n is = grind (arith, nat_tests, is)

is_not_greater : (m n : ℕ) → m ≤ n → is_gt (nat_cmp m n) ≡ false
is_not_greater m n le = grind (arith, nat_tests, le)

-- the first number of a range that isn't bounded above
pub range_least : (past : Past) (held : BTreeMap ℕ PackState) (from : ℕ) (r t : List (ℕ × PackState)) (e : ℕ × PackState)
    → ((n : ℕ) → at_number held.entries n ≡ state past n) → IsRangeOf nat_cmp (Included from) Unbounded held r → r ≡ e ∷ t → Some e.0 ≡ least_from from (told past)
range_least past held from r t e shown range is =
    let first : IsEntryInRange nat_cmp (Included from) Unbounded held e = subst (λ l. IfSome (slice_get l 0) (IsEntryInRange nat_cmp (Included from) Unbounded held)) is range.1 in
    least_is from e.0 (told past) (not_greater from e.0 first.0.0) (held_told past held.entries shown e.0 (ap is_some first.1))
    (λ q from_q there. not_greater e.0 q
    (subst (λ l. IfSome (slice_get l 0) (λ x. IsLeBy nat_cmp x.0 q)) is (range.2 q (is_not_greater from q from_q, tt) (told_held past held.entries shown q there))))

-- and where there is none
pub range_none : (past : Past) (held : BTreeMap ℕ PackState) (from : ℕ) (r : List (ℕ × PackState))
    → ((n : ℕ) → at_number held.entries n ≡ state past n) → IsRangeOf nat_cmp (Included from) Unbounded held r → r ≡ [] → None ≡ least_from from (told past)
range_none past held from r shown range is =
    no_more from (told past) (λ q from_q. told_of past held.entries shown q ∙ ap (option_map (λ p. p.now)) (range.5 is q (is_not_greater from q from_q, tt)))

first_there : (from n : ℕ) (es : List (ℕ × List ℕ)) → Some n ≡ first_from from es → is_some (find nat_cmp n es) ≡ true
first_there from n [] is = absurd (cc is)
first_there from n (e ∷ es) is =
    elim (nat_le from e.0) as (λ b. Some n ≡ (if b then Some e.0 else first_from from es) → is_some (find nat_cmp n (e ∷ es)) ≡ true) [
      | true ↦ λ same. ap (λ m. is_some (find nat_cmp m (e ∷ es))) (some_same n e.0 same) ∙ ap is_some (find_itself e es)
      | false ↦ λ same.
          let there = first_there from n es same in
          elim (eq_by_cmp nat_cmp n e.0) as (λ b. is_some (cond b (Some e.1) (find nat_cmp n es)) ≡ true) [ true ↦ refl | false ↦ there ]
    ] is

-- the least number at or above one is that of a pack
pub least_there : (from n : ℕ) (packs : Packs) → Some n ≡ least_from from packs → is_some (get packs n) ≡ true
least_there from n packs is = ap is_some (get-entries packs n) ∙ first_there from n (entries packs) is

pub number_there : {E : Type 0} (result : Result (Option ℕ) E) (from : ℕ) (before now : Packs) → IfOk result (λ o. ForSome (Some before) (λ held. o ≡ least_from from held))
    → Some now ≡ Some before → IfOk result (λ o. IfSome o (λ n. is_some (get now n) ≡ true))
number_there (Ok None) from before now least same = tt
number_there (Ok (Some n)) from before now least same = subst (λ packs. is_some (get packs n) ≡ true) (sym (some_same now before same)) (least_there from n before (least before refl))
number_there (Err e) from before now least same = tt
