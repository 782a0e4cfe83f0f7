-- What a crash leaves of the packs that are held, gathered pack by pack.
use Rattle.std.proofs.Common.{◌≡◌, ◌⊎◌, inl, inr, ℕ, ◌<◌, List, [], ◌∷◌, ◌++◌, Bool, true, false, cond, ◌==◌, if◌then◌else◌, Option, None, Some, refl, sym, ◌∙◌, ap}
use Rattle.std.specs.Option.{option_map, option_and_then}
use Rattle.std.specs.Ordering.{nat_cmp}
use Rattle.std.specs.BTreeMap.{is_at}
use Rattle.std.proofs.lemmas.Bool.{eqb-true}
use Rattle.pack_disk.specs.Disk.{last_number}
use Rattle.pack_disk.specs.PackState.{PackState, begun}
use Rattle.pack_disk.specs.declared.remains.Remains.{Remains}
use Rattle.pack_disk.specs.Past.{at_number, state, Past}
use Rattle.pack_disk.specs.Left.{left}
use Rattle.pack_disk.specs.Image.{instead, Keeps, HasLeft}
use Rattle.pack_disk.specs.Told.{ties}

-- what an entry is found as, in front or not
found_in_front : (front rest : List (ℕ × PackState)) (k : ℕ) (pack : PackState) → at_number (front ++ rest) k ≡ Some pack → (at_number front k ≡ None) ⊎ (at_number front k ≡ Some pack)
found_in_front [] rest k pack is = inl refl
found_in_front (e ∷ front) rest k pack is =
    elim (is_at (nat_cmp k) e.0) as (λ b. cond b (Some e.1) (at_number (front ++ rest) k) ≡ Some pack → (cond b (Some e.1) (at_number front k) ≡ None) ⊎ (cond b (Some e.1) (at_number front k) ≡ Some pack)) [
      | true ↦ λ found. inr found
      | false ↦ λ found. found_in_front front rest k pack found
    ] is

found_after : (front : List (ℕ × PackState)) (k : ℕ) (pack : PackState) (n : ℕ)
    → at_number (front ++ (k, pack) ∷ []) n ≡ instead (at_number front n) (if n == k then Some pack else None)
found_after [] k pack n = ap (λ b. cond b (Some pack) None) (ties n k)
found_after (e ∷ front) k pack n =
    elim (is_at (nat_cmp n) e.0) as (λ b. cond b (Some e.1) (at_number (front ++ (k, pack) ∷ []) n) ≡ instead (cond b (Some e.1) (at_number front n)) (if n == k then Some pack else None)) [
      | true ↦ refl
      | false ↦ found_after front k pack n
    ]

instead_none : (o : Option PackState) → instead o None ≡ o
instead_none None = refl
instead_none (Some pack) = refl

instead_same : (o : Option PackState) (pack : PackState) → (o ≡ None) ⊎ (o ≡ Some pack) → instead o (Some pack) ≡ Some pack
instead_same o pack (inl none) = ap (λ q. instead q (Some pack)) none
instead_same o pack (inr some) = ap (λ q. instead q (Some pack)) some

pushed : (front : List (ℕ × PackState)) (k : ℕ) (pack : PackState) → (at_number front k ≡ None) ⊎ (at_number front k ≡ Some pack) → (n : ℕ)
    → at_number (front ++ (k, pack) ∷ []) n ≡ (if n == k then Some pack else at_number front n)
pushed front k pack before n = found_after front k pack n ∙ go (n == k) refl
  where
    go : (b : Bool) → (n == k) ≡ b → instead (at_number front n) (if b then Some pack else None) ≡ (if b then Some pack else at_number front n)
    go true same = ap (λ m. instead (at_number front m) (Some pack)) (eqb-true n k same) ∙ instead_same (at_number front k) pack before
    go false other = instead_none (at_number front n)

-- where a pack leaves nothing, nothing stood at its number
left_at : (choice : ℕ) (pack : PackState) (o : Option PackState) (start : Option Remains) → start ≡ option_and_then (left choice) o → (o ≡ None) ⊎ (o ≡ Some pack)
    → instead (left choice pack) start ≡ left choice pack
left_at choice pack o start is (inl none) = go (left choice pack)
  where
    go : (q : Option Remains) → instead q start ≡ q
    go None = is ∙ ap (option_and_then (left choice)) none
    go (Some remains) = refl
left_at choice pack o start is (inr some) = go (left choice pack) (is ∙ ap (option_and_then (left choice)) some)
  where
    go : (q : Option Remains) → start ≡ q → instead q start ≡ q
    go None e = e
    go (Some remains) e = refl

begun_instead : (q start : Option Remains) (held : Option PackState) → held ≡ option_map begun start → instead (option_map begun q) held ≡ option_map begun (instead q start)
begun_instead None start held is = is
begun_instead (Some remains) start held is = refl

one_more_left : (choice : ℕ) (front : List (ℕ × PackState)) (k : ℕ) (pack : PackState) (start now : List (ℕ × Remains)) (held held_now : List (ℕ × PackState))
    → (at_number front k ≡ None) ⊎ (at_number front k ≡ Some pack) → HasLeft choice front start held → Keeps choice k pack start now held held_now
    → HasLeft choice (front ++ (k, pack) ∷ []) now held_now
one_more_left choice front k pack start now held held_now before so_far keeps = record {
  left = λ n. keeps.start n ∙ went n (n == k) refl ∙ ap (option_and_then (left choice)) (sym (pushed front k pack before n));
  begun = λ n. keeps.held n ∙ made n (n == k) ∙ ap (option_map begun) (sym (keeps.start n));
}
  where
    went : (n : ℕ) (b : Bool) → (n == k) ≡ b
        → (if b then instead (left choice pack) (at_number start n) else at_number start n) ≡ option_and_then (left choice) (if b then Some pack else at_number front n)
    went n true same =
        let e = eqb-true n k same in
        left_at choice pack (at_number front k) (at_number start n) (so_far.left n ∙ ap (λ m. option_and_then (left choice) (at_number front m)) e) before
    went n false other = so_far.left n

    made : (n : ℕ) (b : Bool)
        → (if b then instead (option_map begun (left choice pack)) (at_number held n) else at_number held n) ≡ option_map begun (if b then instead (left choice pack) (at_number start n) else at_number start n)
    made n true = begun_instead (left choice pack) (at_number start n) (at_number held n) (so_far.begun n)
    made n false = so_far.begun n

-- a turn over all packs that are held
pub left_more : (choice : ℕ) (all front rest : List (ℕ × PackState)) (k : ℕ) (pack : PackState) (start now : List (ℕ × Remains)) (held held_now : List (ℕ × PackState))
    → all ≡ front ++ rest → at_number all k ≡ Some pack → HasLeft choice front start held → Keeps choice k pack start now held held_now
    → HasLeft choice (front ++ (k, pack) ∷ []) now held_now
left_more choice all front rest k pack start now held held_now whole found so_far keeps =
    one_more_left choice front k pack start now held held_now (found_in_front front rest k pack (ap (λ es. at_number es k) (sym whole) ∙ found)) so_far keeps

-- before the first
pub left_none : (choice : ℕ) (start : List (ℕ × Remains)) (held : List (ℕ × PackState)) → start ≡ [] → held ≡ [] → HasLeft choice [] start held
left_none choice start held none nothing = rw (none, nothing) (record { left = λ n. refl; begun = λ n. refl })

-- after the last
pub left_all : (choice : ℕ) (past : Past) (all front : List (ℕ × PackState)) (start : List (ℕ × Remains)) (held : List (ℕ × PackState))
    → front ≡ all → ((n : ℕ) → at_number all n ≡ state past n) → HasLeft choice front start held → (n : ℕ) → at_number start n ≡ option_and_then (left choice) (state past n)
left_all choice past all front start held whole shown so_far n =
    so_far.left n ∙ ap (λ es. option_and_then (left choice) (at_number es n)) whole ∙ ap (option_and_then (left choice)) (shown n)

pub no_number : (choice : ℕ) (all front : List (ℕ × PackState)) (start : List (ℕ × Remains)) (held : List (ℕ × PackState))
    → front ≡ all → ((n : ℕ) → last_number < n → at_number all n ≡ None) → HasLeft choice front start held → (n : ℕ) → last_number < n → at_number start n ≡ None
no_number choice all front start held whole numbers so_far n above =
    so_far.left n ∙ ap (λ es. option_and_then (left choice) (at_number es n)) whole ∙ ap (option_and_then (left choice)) (numbers n above)
