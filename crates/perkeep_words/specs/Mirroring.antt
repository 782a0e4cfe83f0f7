-- The words of `mirror` (docs/commands.md).
use Rattle.std.specs.Prelude.{◌&&◌, ℕ, Bool, true, if◌then◌else◌, List, [], ◌∷◌, drop, nat_le, Option, Some, None, bytes_eq, codes}
use Rattle.perkeep_words.specs.Parts.{Part, start, are_parts, parts_from}
use Rattle.perkeep_words.specs.Forms.{Form, texts_at, count_at, are_of}
use Rattle.perkeep_words.specs.Table.{row}
use Rattle.perkeep_words.specs.declared.kinds.TextKind.TheVariants.{Dir, Addr}

-- DIR, and up to 16 times ADDR, of which the first is needed
abbrev pub mirror_form : Form
mirror_form = row (codes "mirror") true
    (Dir ∷ Addr ∷ Addr ∷ Addr ∷ Addr ∷ Addr ∷ Addr ∷ Addr ∷ Addr
    ∷ Addr ∷ Addr ∷ Addr ∷ Addr ∷ Addr ∷ Addr ∷ Addr ∷ Addr ∷ []) 2 None []

-- the words behind `mirror` are a line: the form has all their parts, and those that are needed are there
abbrev pub is_mirror_line : List (List ℕ) → Bool
is_mirror_line behind =
    are_parts start behind && are_of mirror_form 0 (parts_from start behind)
    && nat_le 2 (count_at None (parts_from start behind))

-- the addresses that a line names, in their order
abbrev pub addresses_in : List Part → List (List ℕ)
addresses_in parts = drop 1 (texts_at None parts)

-- the addresses that the words name, where they are a line of `mirror`
abbrev pub mirror_of : List (List ℕ) → Option (List (List ℕ))
mirror_of [] = None
mirror_of (word ∷ behind) =
    if bytes_eq word (codes "mirror") && is_mirror_line behind then Some (addresses_in (parts_from start behind))
    else None
