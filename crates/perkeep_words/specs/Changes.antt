-- The words for what a claim does with a value (docs/commands.md).
use Rattle.std.specs.Prelude.{ℕ, if◌then◌else◌, List, Option, Some, None, bytes_eq, codes}
use Rattle.perkeep_words.specs.declared.change.Change.{Change}
use Rattle.perkeep_words.specs.declared.change.Change.TheVariants.{Set, Add, Del}

-- the change that a word names
abbrev pub change_in : List ℕ → Option Change
change_in word =
    if bytes_eq word (codes "set") then Some Set
    else if bytes_eq word (codes "add") then Some Add
    else if bytes_eq word (codes "del") then Some Del
    else None
