use Rattle.std.proofs.Common.{◌≡◌, ◌++◌, drop, None}
use Rattle.perkeep_words.specs.Parts.{start, parts_from}
use Rattle.perkeep_words.specs.Forms.{texts_at}
use Rattle.perkeep_words.proofs.mirroring.addresses_in.Given as goal

-- those so far, and those to come, are all
abbrev pub invariant-addresses : goal.invariant-addresses
invariant-addresses l = l.addresses ++ drop l.place (texts_at None (parts_from start l.behind))
    ≡ drop 1 (texts_at None (parts_from start l.behind))
