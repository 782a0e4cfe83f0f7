-- What a disk in memory tells is one of its images.
use Rattle.std.proofs.Common.{◌≡◌, ℕ, ◌≤◌, List, [], ◌∷◌, ◌++◌, length, map, Bool, true, false, cond, ◌==◌, Option, None, Some, refl, sym, ◌∙◌, ap, subst, arith, append_assoc}
use Rattle.std.specs.Ordering.{nat_cmp, eq_by_cmp}
use Rattle.std.specs.BTreeMap.{is_at}
use Rattle.std.specs.Cmp.{nat_cmp_total}
use Rattle.std.specs.Option.{option_map}
use Rattle.std.specs.FinMap.{find, get, insert, get-insert, get-from_entries}
use Rattle.std.proofs.lemmas.Bool.{eqb-true}
use Rattle.std.proofs.lemmas.Bool.Decides.{nat_tests}
use Rattle.std.proofs.lemmas.List.{append-nil, take_all}
use Rattle.pack_disk.specs.declared.history.Call.{Call}
use Rattle.pack_disk.specs.declared.history.Call.TheVariants.{Make, Append, Sync}
use Rattle.pack_disk.specs.Packs.{Packs}
use Rattle.pack_disk.specs.PackState.{PackState, all_bytes, begun, fresh, grown, settled, IsPackImage}
use Rattle.pack_disk.specs.declared.remains.Remains.{Remains}
use Rattle.pack_disk.specs.Past.{Past, at_call, extended, told_after, told_from, began_with, told, State, changed, state_after, state_from, first_state, state, at_number, IsImage, WasImage}

pub ties : (m n : ℕ) → eq_by_cmp nat_cmp m n ≡ (m == n)
ties m n = grind (arith, nat_tests)

pub get_at : (packs : Packs) (n : ℕ) (bytes : List ℕ) (m : ℕ) → get (insert packs n bytes) m ≡ cond (m == n) (Some bytes) (get packs m)
get_at packs n bytes m = get-insert nat_cmp_total packs n bytes m ∙ ap (λ b. cond b (Some bytes) (get packs m)) (ties m n)

-- what is told of a pack is what is there now, and is one of its images
abbrev pub IsPackTold : Option PackState → Option (List ℕ) → Type 0
IsPackTold None o = o ≡ None
IsPackTold (Some p) o = (o ≡ Some p.now) × (tail : List ℕ) × (p.now ≡ p.synced ++ tail) × (length p.now ≤ p.longest)

abbrev pub IsTold : State → Packs → Type 0
IsTold s packs = (n : ℕ) → IsPackTold (s n) (get packs n)

grown_told : (bytes : List ℕ) (o : Option PackState) (q : Option (List ℕ)) → IsPackTold o q
    → IsPackTold (option_map (grown bytes) o) (option_map (λ x. x ++ bytes) q)
grown_told bytes None q is = ap (option_map (λ x. x ++ bytes)) is
grown_told bytes (Some p) q is =
    (ap (option_map (λ x. x ++ bytes)) is.0, is.1 ++ bytes, ap (λ l. l ++ bytes) is.2 ∙ append_assoc p.synced is.1 bytes, omega arith)

settled_told : (o : Option PackState) (q : Option (List ℕ)) → IsPackTold o q → IsPackTold (option_map settled o) q
settled_told None q is = is
settled_told (Some p) q is = (is.0, [], sym (append-nil p.now), omega arith)

extended_at : (n : ℕ) (bytes : List ℕ) (packs : Packs) (m : ℕ) (o : Option (List ℕ)) → get packs n ≡ o → (b : Bool) → (m == n) ≡ b
    → get (extended n bytes o packs) m ≡ cond b (option_map (λ x. x ++ bytes) (get packs m)) (get packs m)
extended_at n bytes packs m None is true same =
    let e : get packs m ≡ None = ap (get packs) (eqb-true m n same) ∙ is in e ∙ ap (option_map (λ x. x ++ bytes)) (sym e)
extended_at n bytes packs m None is false other = refl
extended_at n bytes packs m (Some x) is true same =
    get_at packs n (x ++ bytes) m ∙ ap (λ b. cond b (Some (x ++ bytes)) (get packs m)) same
    ∙ ap (option_map (λ y. y ++ bytes)) (sym (ap (get packs) (eqb-true m n same) ∙ is))
extended_at n bytes packs m (Some x) is false other = get_at packs n (x ++ bytes) m ∙ ap (λ b. cond b (Some (x ++ bytes)) (get packs m)) other

pub get-extended : (n : ℕ) (bytes : List ℕ) (packs : Packs) (m : ℕ)
    → get (extended n bytes (get packs n) packs) m ≡ cond (m == n) (option_map (λ x. x ++ bytes) (get packs m)) (get packs m)
get-extended n bytes packs m = extended_at n bytes packs m (get packs n) refl (m == n) refl

told_step : (call : Call) (s : State) (packs : Packs) → IsTold s packs → IsTold (state_after call s) (told_after call packs)
told_step (Make n) s packs is m =
    subst (IsPackTold (cond (m == n) (Some fresh) (s m))) (sym (get_at packs n [] m))
    (elim (m == n) as (λ b. IsPackTold (cond b (Some fresh) (s m)) (cond b (Some []) (get packs m))) [
      | true ↦ (refl, [], refl, omega arith)
      | false ↦ is m
    ])
told_step (Append n bytes) s packs is m =
    subst (IsPackTold (changed n (grown bytes) s m)) (sym (get-extended n bytes packs m))
    (elim (m == n) as (λ b. IsPackTold (cond b (option_map (grown bytes) (s m)) (s m))
    (cond b (option_map (λ x. x ++ bytes) (get packs m)) (get packs m))) [
      | true ↦ grown_told bytes (s m) (get packs m) (is m)
      | false ↦ is m
    ])
told_step (Sync n) s packs is m = elim (m == n) as (λ b. IsPackTold (cond b (option_map settled (s m)) (s m)) (get packs m)) [
  | true ↦ settled_told (s m) (get packs m) (is m)
  | false ↦ is m
]

told_steps : (calls : List Call) (s : State) (packs : Packs) → IsTold s packs → IsTold (state_from s calls) (told_from packs calls)
unfolding state_from told_from
told_steps [] s packs is = is
told_steps (call ∷ calls) s packs is = told_steps calls (state_after call s) (told_after call packs) (told_step call s packs is)

found_bytes : (start : List (ℕ × Remains)) (n : ℕ) → find nat_cmp n (map (λ (pack : ℕ × Remains). (pack.0, all_bytes pack.1)) start) ≡ option_map all_bytes (at_number start n)
found_bytes [] n = refl
found_bytes (e ∷ start) n =
    elim (is_at (nat_cmp n) e.0) as (λ b. cond b (Some (all_bytes e.1)) (find nat_cmp n (map (λ (pack : ℕ × Remains). (pack.0, all_bytes pack.1)) start)) ≡ option_map all_bytes (cond b (Some e.1) (at_number start n))) [
      | true ↦ refl
      | false ↦ found_bytes start n
    ]

-- the bytes of a pack that a disk began with
pub get-began_with : (past : Past) (n : ℕ) → get (began_with past) n ≡ option_map all_bytes (at_number past.start n)
get-began_with past n = get-from_entries nat_cmp_total (map (λ (pack : ℕ × Remains). (pack.0, all_bytes pack.1)) past.start) n ∙ found_bytes past.start n

begun_told : (o : Option Remains) → IsPackTold (option_map begun o) (option_map all_bytes o)
begun_told None = refl
begun_told (Some remains) = (refl, remains.tail, refl, omega arith)

pub is_told : (past : Past) → IsTold (state past) (told past)
is_told past = told_steps past.done (first_state past) (began_with past)
    (λ n. subst (IsPackTold (first_state past n)) (sym (get-began_with past n)) (begun_told (at_number past.start n)))

image_of_told : (o : Option PackState) (q : Option (List ℕ)) → IsPackTold o q → IsPackImage o q
image_of_told None q is = subst (IsPackImage None) (sym is) tt
image_of_told (Some p) q is = subst (IsPackImage (Some p)) (sym is.0) (is.1, is.2, is.3)

some_packs : (x y : Packs) → Some x ≡ Some y → x ≡ y
some_packs x y e = cc e

-- ---- the laws

pub reads_image : (past : Past) (packs : Packs) → Some (told past) ≡ Some packs → IsImage (state past) packs
reads_image past packs is = subst (IsImage (state past)) (some_packs _ _ is) (λ n. image_of_told (state past n) (get (told past) n) (is_told past n))

all_calls : (past : Past) (count : ℕ) → length past.done ≤ count → at_call count past ≡ past
all_calls past count le = ap (λ calls. record { start = past.start; done = calls }) (take_all count past.done le)

pub now_counts : (past : Past) (t : ℕ) (image : Packs) → t ≤ length past.done → IsImage (state past) image → WasImage past t image
now_counts past t image le is =
    (length past.done, le, omega arith, subst (λ p. IsImage (state p) image) (sym (all_calls past (length past.done) (omega arith))) is)

pub now_only : (past : Past) (image : Packs) → WasImage past (length past.done) image → IsImage (state past) image
now_only past image was = subst (λ p. IsImage (state p) image) (all_calls past was.0 was.1) was.3
