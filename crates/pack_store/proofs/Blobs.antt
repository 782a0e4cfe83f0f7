-- The blobs of packs are what has arrived in a store that is as its disk says.
use Rattle.std.proofs.Common.{◌≡◌, ℕ, ◌+◌, Bool, true, false, cond, Option, None, Some, List, [], ◌∷◌, nat_eq, refl, sym, ap, ◌∙◌}
use Rattle.std.specs.Cmp.Lexicographic.{pointwise}
use Rattle.std.specs.FinMap.{get, entries}
use Rattle.std.specs.List.{position_from}
use Rattle.std.specs.Map.{lookup}
use Rattle.std.specs.Option.{is_some}
use Rattle.salvage_scan.specs.Arrivals.{arrivals}
use Rattle.salvage_scan.proofs.Arriving.{arrivals_are_firsts}
use Rattle.pack_disk.specs.Packs.{Packs}
use Rattle.pack_store.specs.declared.rows.Row.{Row}
use Rattle.pack_store.specs.Rows.{arrival_of, arrivals_in, number_of}
use Rattle.pack_store.specs.Puts.{blobs_of, has_blob}

pub get-blobs : (held : Packs) (r : List ℕ) → get (blobs_of held) r ≡ lookup (pointwise nat_eq r) (arrivals (entries held))
get-blobs held r = arrivals_are_firsts.content_first (entries held) r ∙ sym (arrivals_are_firsts.first (entries held) r)

pub found_or_not : (r : List ℕ) (held : Packs) (rows : List Row) (n : ℕ) → is_some (lookup (pointwise nat_eq r) (arrivals_in held rows)) ≡ is_some (position_from (λ (row : Row). pointwise nat_eq r row.r) n rows)
found_or_not r held [] n = refl
found_or_not r held (row ∷ rows) n = go (pointwise nat_eq r row.r) (found_or_not r held rows (n + 1))
  where
    go : (b : Bool) → is_some (lookup (pointwise nat_eq r) (arrivals_in held rows)) ≡ is_some (position_from (λ (row : Row). pointwise nat_eq r row.r) (n + 1) rows)
        → is_some (cond b (Some (arrival_of held row).1) (lookup (pointwise nat_eq r) (arrivals_in held rows))) ≡ is_some (cond b (Some n) (position_from (λ (row : Row). pointwise nat_eq r row.r) (n + 1) rows))
    go true more = refl
    go false more = more

pub none_of_some : {A : Type 0} (o : Option A) → is_some o ≡ false → o ≡ None
none_of_some None e = refl
none_of_some (Some x) e = absurd (cc e)

-- a ref has a number exactly where packs have its blob
pub has_number : (r : List ℕ) (held : Packs) (rows : List Row) → arrivals_in held rows ≡ arrivals (entries held) → has_blob held r ≡ is_some (number_of r rows)
has_number r held rows arrived = ap is_some (get-blobs held r ∙ ap (lookup (pointwise nat_eq r)) (sym arrived)) ∙ found_or_not r held rows 0
