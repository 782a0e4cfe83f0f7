-- Refs without their repeats.
use Rattle.std.specs.Prelude.{◌≡◌, ℕ, List}
use Rattle.std.specs.List.{list_any}
use Rattle.std.specs.BTreeSet.{BTreeSet, contains}
use Rattle.blobref.specs.Blobref.{ref_cmp}
use Rattle.histories.specs.Stores.{is_ref}

-- the keys of a set are the refs of a list
abbrev pub HasSame : BTreeSet (List ℕ) → List (List ℕ) → Type 0
HasSame seen refs = (q : List ℕ) → contains ref_cmp seen q ≡ list_any (is_ref q) refs
