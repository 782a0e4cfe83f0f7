-- How many times a value is among those of an attribute.
use Rattle.std.specs.Prelude.{ℕ, suc, List, length, ◌==◌, fold, if◌then◌else◌}
use Rattle.std.specs.Str.{bytes_eq}
use Rattle.schema_fact.specs.declared.changes.Act.{Act}
use Rattle.schema_fact.specs.declared.changes.Act.TheVariants.{Set as sets, Add as adds, Del as removes}
use Rattle.schema_fact.specs.declared.changes.Change.{Change}
use Rattle.claim_model.specs.Changes.{values_after}
use Rattle.index_rows.specs.Pairs.{number}

-- how many times the value is among those of the attribute after these changes
abbrev pub times_after : List ℕ → List ℕ → List Change → ℕ
times_after name value changes = number (bytes_eq value) (values_after name changes)

-- how many times a value that was there n times is there after a change of its attribute, which has its own value
abbrev pub act_times : Act → List ℕ → List ℕ → ℕ → ℕ
act_times sets own value n = if bytes_eq value own then 1 else 0
act_times adds own value n = if bytes_eq value own then suc n else n
act_times removes own value n = if length own == 0 then 0 else (if bytes_eq value own then 0 else n)

-- the same after any change
abbrev pub change_times : List ℕ → List ℕ → ℕ → Change → ℕ
change_times name value n c = if bytes_eq name c.attr then act_times c.act c.value value n else n

-- the same after some changes
abbrev pub times_from : List ℕ → List ℕ → ℕ → List Change → ℕ
times_from name value n changes = fold (change_times name value) n changes
