-- The steps of folding the changes of a permanode.
use Rattle.std.proofs.Common.{◌≡◌, ◌≤◌, ◌+◌, ◌*◌, ℕ, suc, Bool, true, false, not, ◌==◌, cond, List, ◌∷◌, length, Option}
use Rattle.std.proofs.Common.{None, Some, refl, sym, ap, ◌∙◌, arith}
use Rattle.std.specs.FinMap.{get, insert, remove, entries, contains_key, len, len-entries, len-insert, len-empty, empty}
use Rattle.std.proofs.lemmas.List.{length-map}
use Rattle.schema_date.specs.declared.date.When.TheVariants.{Always}
use Rattle.schema_fact.specs.declared.changes.Act.{Act}
use Rattle.schema_fact.specs.declared.changes.Act.TheVariants.{Set as sets, Add as adds, Del as removes}
use Rattle.schema_fact.specs.declared.changes.Change.{Change}
use Rattle.claim_model.specs.Facts.{Facts}
use Rattle.claim_model.specs.Claims.{Moment}
use Rattle.index_rows.specs.Changes.{Changes, ChangeKey, changes_after}
use Rattle.index_rows.specs.Deletes.{Deletes, row_deleted}
use Rattle.index_rows.specs.States.{States}
use Rattle.index_rows.specs.Holders.{HolderKey, holder_cmp, holder_total, says_permanode}
use Rattle.index_rows.specs.Values.{change_at}
use Rattle.index_rows.specs.Pairs.{number}
use Rattle.index_rows.proofs.Orders.{holder_same}
use Rattle.index_rows.proofs.Counting.{number_whole, number-remove}
use Rattle.attr_fold.specs.Turns.{ValueTurns, known, times_there, noted, change_noted, moment_noted, all_moments}
use Rattle.attr_fold.specs.Turns.{standing}
use Rattle.attr_fold.specs.Refolded.{refold_steps}
use Rattle.attr_fold.specs.declared.turns.Turns.{Turns}

abbrev pub size : ValueTurns → ℕ
size m = number (λ e. true) (entries m)

size_is : (m : ValueTurns) → size m ≡ len m
size_is m = number_whole (entries m) ∙ sym (len-entries m)

size_insert : (m : ValueTurns) (k : HolderKey) (n : ℕ × ℕ) → size (insert m k n) ≤ size m + 1
size_insert m k n =
    let a = size_is m in
    let b = size_is (insert m k n) in
    let c = len-insert holder_total m k n in
    by (contains_key m k) a b c
  where
    by : (h : Bool) → size m ≡ len m → size (insert m k n) ≡ len (insert m k n)
        → len (insert m k n) ≡ cond h (len m) (len m + 1) → size (insert m k n) ≤ size m + 1
    by true a b c = omega (arith, a, b, c)
    by false a b c = omega (arith, a, b, c)

size_known : (m : ValueTurns) (k : HolderKey) → size (known m k) ≤ size m + 1
size_known m k = by (contains_key m k)
  where
    by : (h : Bool) → size (cond h m (insert m k (0, 0))) ≤ size m + 1
    by true = omega arith
    by false = size_insert m k (0, 0)

size_noted : (turns : Turns) (act : Act) (counts : Bool) (k : HolderKey) (n : ℕ)
    → size (noted turns act counts k n).given ≤ size turns.given + 1
size_noted turns sets true k n = size_insert turns.given k (suc n, 1)
size_noted turns sets false k n = size_known turns.given k
size_noted turns adds true k n =
    size_insert turns.given k (suc n, suc (times_there turns.given turns.emptied k))
size_noted turns adds false k n = size_known turns.given k
size_noted turns removes true k n = by (length k.1 == 0)
  where
    by : (h : Bool) → size (cond {A = Turns} h (record { given = turns.given; emptied = insert turns.emptied k.0 n })
        (record { given = insert turns.given k (0, 0); emptied = turns.emptied })).given ≤ size turns.given + 1
    by true = omega arith
    by false = size_insert turns.given k (0, 0)
size_noted turns removes false k n = omega arith

size_change : (turns : Turns) (p : List ℕ) (change : Option Change) (counts : Bool) (n : ℕ)
    → size (change_noted turns p change counts n).given ≤ size turns.given + 1
size_change turns p None counts n = omega arith
size_change turns p (Some c) counts n = size_noted turns c.act counts (c.attr, c.value, p) n

-- a change more is a value more at most
pub size_more : (facts : Facts) (deletes : Deletes) (p : List ℕ) (turns turns' : Turns) (k : Moment) (n : ℕ)
    → turns' ≡ moment_noted facts deletes p turns k n → size turns.given ≤ n → size turns'.given ≤ n + 1
size_more facts deletes p turns turns' k n is le =
    let more = size_change turns p (change_at facts k) (not (row_deleted facts deletes Always k.1)) n in
    let same : size turns'.given ≡ size (moment_noted facts deletes p turns k n).given
    = ap (λ (t : Turns). size t.given) is in
    omega (arith, more, same, le)

pub size_none : (m : ValueTurns) → m ≡ empty → size m ≤ 0
size_none m is =
    let a = size_is m in
    let b : len m ≡ len (empty {X = ℕ × ℕ} {R = holder_cmp}) = ap len is in
    let c = len-empty holder_cmp (ℕ × ℕ) in
    omega (arith, a, b, c)

pub size_less : (m m' : ValueTurns) (k : HolderKey) (n : ℕ × ℕ) → get m k ≡ Some n → m' ≡ remove m k
    → size m ≡ 1 + size m'
size_less m m' k n found taken = number-remove holder_total holder_same (λ (e : HolderKey × (ℕ × ℕ)). true) m k n found
    ∙ ap (λ z. 1 + size z) (sym taken)

-- the walk over the changes
pub walk_more : (changes : Changes) (p : List ℕ) (last : Option Moment) (k : Moment) (start now next : ℕ)
    → changes_after changes p last ≡ ((p, k), tt) ∷ changes_after changes p (Some k) → next ≡ now + 1
    → now + length (changes_after changes p last) ≤ start + length (changes_after changes p None)
    → next + length (changes_after changes p (Some k)) ≤ start + length (changes_after changes p None)
walk_more changes p last k start now next found step le =
    let l : length (changes_after changes p last) ≡ length (changes_after changes p (Some k)) + 1
    = ap length found ∙ omega arith in
    omega (arith, l, step, le)

pub all_there : (changes : Changes) (p : List ℕ) (items : List Moment) → items ≡ all_moments changes p
    → length items ≡ length (changes_after changes p None)
all_there changes p items is = ap (λ (ms : List Moment). length ms) is
    ∙ length-map (changes_after changes p None) (λ (e : ChangeKey × Unit {0}). e.0.1)

-- whether p is a genuine permanode decides what is done
pub steps_none : (facts : Facts) (state : States) (deletes : Deletes) (changes : Changes) (p : List ℕ)
    → None ≡ standing facts state deletes p → refold_steps facts state changes p ≡ 2
steps_none facts state deletes changes p h = by (says_permanode facts state p) h
  where
    by : (b : Bool) → None ≡ cond b (Some (not (row_deleted facts deletes Always p))) None
        → cond b (3 + 4 * length (changes_after changes p None)) 2 ≡ 2
    by true e = absurd (let f : None ≡ Some (not (row_deleted facts deletes Always p)) = e in cc f)
    by false e = refl

pub steps_some : (facts : Facts) (state : States) (deletes : Deletes) (changes : Changes) (p : List ℕ) (stands : Bool)
    → Some stands ≡ standing facts state deletes p
    → refold_steps facts state changes p ≡ 3 + 4 * length (changes_after changes p None)
steps_some facts state deletes changes p stands h = by (says_permanode facts state p) h
  where
    by : (b : Bool) → Some stands ≡ cond b (Some (not (row_deleted facts deletes Always p))) None
        → cond b (3 + 4 * length (changes_after changes p None)) 2 ≡ 3 + 4 * length (changes_after changes p None)
    by true e = refl
    by false e = absurd (let f : Some stands ≡ None = e in cc f)
