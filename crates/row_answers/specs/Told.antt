-- The answers that the tables of an index give, one definition for each.
use Rattle.std.specs.Prelude.{ℕ, ◌+◌, ◌*◌, ◌&&◌, Bool, not, List, [], Option, None, ℤ, filter, if◌then◌else◌}
use Rattle.std.specs.List.{find, list_any}
use Rattle.std.specs.Str.{bytes_eq}
use Rattle.std.specs.FinMap.{get, keys}
use Rattle.blobref.specs.Blobref.{is_after}
use Rattle.schema_date.specs.declared.date.When.{When}
use Rattle.schema_date.specs.declared.date.When.TheVariants.{Always, At}
use Rattle.schema_fact.specs.declared.kinds.Fact.{Fact}
use Rattle.claim_model.specs.Facts.{Facts, passes}
use Rattle.claim_model.specs.Claims.{member_attribute}
use Rattle.claim_model.specs.Trees.{is_file, tree_size}
use Rattle.index_rows.specs.Changes.{Changes}
use Rattle.index_rows.specs.Deletes.{Deletes, row_deleted, tree_rows}
use Rattle.index_rows.specs.Holders.{Holders, says_permanode, rows_holding}
use Rattle.index_rows.specs.States.{States}
use Rattle.index_rows.specs.Values.{row_values, row_last_change}

-- whether the row of r says that it is ready
abbrev pub says_ready : States → List ℕ → Bool
says_ready state r = passes (λ row. row.ready) (get state r)

-- whether the row of y says that it is a sound tree
abbrev pub says_sound : States → List ℕ → Bool
says_sound state y = passes (λ row. row.sound) (get state y)

-- the fact of a ref that its row calls ready
abbrev pub told_fact : Facts → States → List ℕ → Option Fact
told_fact facts state r = if says_ready state r then get facts r else None

-- the first permanode after another, or of all, that its row calls genuine
abbrev pub told_after : Facts → States → Option (List ℕ) → Option (List ℕ)
told_after facts state after = find (is_after after) (filter (says_permanode facts state) (keys facts))

-- two look-ups for all dates, and for another time those of a walk
abbrev pub deletion_steps : Facts → Deletes → When → List ℕ → ℕ
deletion_steps facts deletes Always r = 2
deletion_steps facts deletes (At now) r = 4 + 6 * tree_rows facts deletes r

-- the values of an attribute; none if p isn't a permanode that its row calls genuine
abbrev pub told_values : Facts → States → Deletes → Changes → When → List ℕ → List ℕ → List (List ℕ)
told_values facts state deletes changes when p name =
    if says_permanode facts state p then row_values facts deletes changes when p name else []

-- the date of the last change; none in the same case
abbrev pub told_change : Facts → States → Deletes → Changes → When → List ℕ → Option ℤ
told_change facts state deletes changes when p =
    if says_permanode facts state p then row_last_change facts deletes changes when p else None

-- the size of a file that its row calls sound
abbrev pub told_size : Facts → States → List ℕ → Option ℕ
told_size facts state r =
    if says_sound state r && passes (λ fact. is_file fact.kind) (get facts r) then tree_size facts r else None

-- whether p is a permanode that its row calls genuine, isn't deleted, and has the value of the attribute
abbrev pub told_holds : Facts → States → Deletes → Changes → When → List ℕ → List ℕ → List ℕ → Bool
told_holds facts state deletes changes when name value p =
    (says_permanode facts state p && not (row_deleted facts deletes when p))
    && list_any (bytes_eq value) (row_values facts deletes changes when p name)

-- the permanodes that have the child among their members; for all dates they are those that have rows
abbrev pub told_parents : Facts → States → Deletes → Changes → Holders → When → List ℕ → List (List ℕ)
told_parents facts state deletes changes holders Always child = rows_holding holders member_attribute child
told_parents facts state deletes changes holders (At now) child =
    filter (told_holds facts state deletes changes (At now) member_attribute child) (keys facts)
