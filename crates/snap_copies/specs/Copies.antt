-- The common content of the two copies, and the effect of an Insert on it.
use Rattle.std.specs.Prelude.{Bool, ◌||◌, if◌then◌else◌}
use Rattle.std.specs.FinMap.{contains_key, insert}
use Rattle.claim_model.specs.Facts.{Facts}
use Rattle.index_rows.specs.Loose.{LooseRow}
use Rattle.claim_index.specs.Numbers.{NumberSet}
use Rattle.snap_copies.specs.declared.copies.IndexCopy.{IndexCopy}
use Rattle.snap_copies.specs.declared.copies.Common.{Common}
use Rattle.snap_copies.specs.declared.copies.Addition.{Addition}

-- whether the number or the ref is there
abbrev pub has_either : Facts → NumberSet → LooseRow → Bool
has_either facts numbers row = contains_key facts row.1 || contains_key numbers row.0

abbrev pub facts_with : Facts → NumberSet → LooseRow → Facts
facts_with facts numbers row = if has_either facts numbers row then facts else insert facts row.1 row.2

abbrev pub numbers_with : Facts → NumberSet → LooseRow → NumberSet
numbers_with facts numbers row = if has_either facts numbers row then numbers else insert numbers row.0 tt

module _ {V : Type 0} where
  abbrev pub common_of : IndexCopy V → Common V
  common_of s = record { facts = s.index.facts; numbers = s.index.numbers; keys = s.index.keys; front = s.front }

  abbrev pub absorbed : Common V → Addition → Common V
  absorbed s op = record {
    facts = facts_with s.facts s.numbers op.prepared.made;
    numbers = numbers_with s.facts s.numbers op.prepared.made;
    keys = s.keys;
    front = op.front;
  }
