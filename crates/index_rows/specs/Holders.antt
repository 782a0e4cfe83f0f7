-- Which permanodes hold which values, as rows under the attribute, the value and the permanode.
use Rattle.std.specs.Prelude.{◌≡◌, ◌≤◌, ◌==◌, ℕ, ◌&&◌, Bool, true, false, not, List, filter, map, Some, None}
use Rattle.std.specs.Prelude.{unwrap_or, if◌then◌else◌}
use Rattle.std.specs.List.{list_any}
use Rattle.std.specs.Str.{bytes_eq}
use Rattle.std.specs.Ordering.{ordering_then}
use Rattle.std.specs.Cmp.{IsTotalOrder, then_total, on_total}
use Rattle.std.specs.Cmp.Lexicographic.{nat_list_cmp_total}
use Rattle.std.specs.declared.cmp.Ordering.{Ordering}
use Rattle.std.specs.FinMap.{FinMap, get, insert, remove, entries, contains_key}
use Rattle.std.specs.Coded.{Coded, code_by, coded_ℕ, coded_list, coded×}
use Rattle.blobref.specs.Blobref.{ref_cmp, IsFromLeast}
use Rattle.schema_date.specs.declared.date.When.TheVariants.{Always}
use Rattle.claim_model.specs.Facts.{Facts, passes, is_permanode}
use Rattle.claim_model.specs.Changes.{gives}
use Rattle.index_rows.specs.Changes.{Changes, changes_after}
use Rattle.index_rows.specs.Deletes.{Deletes, row_deleted}
use Rattle.index_rows.specs.Pairs.{number}
use Rattle.index_rows.specs.States.{States, says_genuine}
use Rattle.index_rows.specs.Values.{change_at, row_values}

-- an attribute, a value, a permanode
abbrev pub HolderKey : Type 0
HolderKey = List ℕ × List ℕ × List ℕ

-- by the attribute, then by the value, then by the permanode
abbrev pub holder_cmp : HolderKey → HolderKey → Ordering
holder_cmp a b = ordering_then (ref_cmp a.0 b.0) (ordering_then (ref_cmp a.1 b.1) (ref_cmp a.2 b.2))

pub holder_total : IsTotalOrder holder_cmp
holder_total =
    then_total (on_total (λ (k : HolderKey). k.0) nat_list_cmp_total)
    (then_total (on_total (λ (k : HolderKey). k.1) nat_list_cmp_total)
    (on_total (λ (k : HolderKey). k.2) nat_list_cmp_total))

-- a key is determined by its parts
abbrev pub holder_code : Coded HolderKey
holder_code =
    code_by ((List ℕ × List ℕ) × List ℕ)
    (coded× (coded× (coded_list coded_ℕ) (coded_list coded_ℕ)) (coded_list coded_ℕ))
    (λ k. ((k.0, k.1), k.2)) (λ p. (p.0.0, p.0.1, p.1)) (λ k i. k)

-- with the number of times that the value is among those of the attribute
abbrev pub Holders : Type 0
Holders = FinMap holder_cmp ℕ

-- the number of a row, or 0 if there is none
abbrev pub times_at : Holders → HolderKey → ℕ
times_at m k = unwrap_or (get m k) 0

-- the rows with this number under a key; 0 means no row
abbrev pub with_times : Holders → HolderKey → ℕ → Holders
with_times m k n = if n == 0 then remove m k else insert m k n

-- no row has the number 0
abbrev pub AllCounted : Holders → Type 0
AllCounted m = (k : HolderKey) → contains_key m k ≡ true → 1 ≤ times_at m k

-- no permanode is before the least ref
abbrev pub AllOfRefs : Holders → Type 0
AllOfRefs m = (k : HolderKey) → contains_key m k ≡ true → IsFromLeast k.2

-- whether the key is of the attribute and the value
abbrev pub is_of : List ℕ → List ℕ → HolderKey → Bool
is_of name value k = bytes_eq name k.0 && bytes_eq value k.1

-- the permanodes that have rows under an attribute and a value, in their order
abbrev pub rows_holding : Holders → List ℕ → List ℕ → List (List ℕ)
rows_holding rows name value = map (λ e. e.0.2) (filter (λ e. is_of name value e.0) (entries rows))

-- whether p is a permanode whose row says that it is genuine
abbrev pub says_permanode : Facts → States → List ℕ → Bool
says_permanode facts state p = passes (λ fact. is_permanode fact.kind) (get facts p) && says_genuine state p

-- whether p is such a permanode, isn't deleted, and has the value of the attribute, by claims of every date
abbrev pub row_holds : Facts → States → Deletes → Changes → List ℕ → List ℕ → List ℕ → Bool
row_holds facts state deletes changes name value p =
    (says_permanode facts state p && not (row_deleted facts deletes Always p))
    && list_any (bytes_eq value) (row_values facts deletes changes Always p name)

-- whether a change of p sets or adds the value
abbrev pub is_given : Facts → Changes → List ℕ → List ℕ → List ℕ → Bool
is_given facts changes name value p =
    list_any (λ e. passes (gives name value) (change_at facts e.0.1)) (changes_after changes p None)

-- the rows are those of the values that permanodes have, each with the number of times, except perhaps for some
-- permanodes: each row of these is still of a value that a change gives
pub record IsHeldBut (but : List (List ℕ)) (facts : Facts) (state : States) (deletes : Deletes) (changes : Changes)
    (holders : Holders) : Type 0 where
  pub held : (name value p : List ℕ) → list_any (bytes_eq p) but ≡ false
      → contains_key holders (name, value, p) ≡ row_holds facts state deletes changes name value p
  pub times : (name value p : List ℕ) (n : ℕ) → list_any (bytes_eq p) but ≡ false
      → get holders (name, value, p) ≡ Some n
      → n ≡ number (bytes_eq value) (row_values facts deletes changes Always p name)
  pub permanode : (name value p : List ℕ) → contains_key holders (name, value, p) ≡ true
      → says_permanode facts state p ≡ true
  pub given : (name value p : List ℕ) → contains_key holders (name, value, p) ≡ true
      → is_given facts changes name value p ≡ true
