-- A search over the store of a disk.
use Rattle.std.proofs.Common.{◌≡◌, Option, List, map, ap, ◌∙◌}
use Rattle.std.specs.FinMap.{entries, from_entries}
use Rattle.std.specs.Option.{ForSome}
use Rattle.claim_model.specs.Facts.{Entry}
use Rattle.salvage_scan.specs.Arrivals.{arrivals}
use Rattle.pack_disk.specs.Packs.{Packs}
use Rattle.pack_store.specs.declared.rows.Row.{Row}
use Rattle.pack_store.specs.Rows.{arrivals_in}
use Rattle.fact_lines.proofs.Gathering.{facts_of_arrivals}
use Rattle.fact_lines.specs.Blobs.{entry_of}
use Rattle.perkeep_top.specs.Search.{AreFacts}

-- the facts of the arrivals are those of the blobs
pub stored : (told : Option Packs) (rows : List Row) (facts : List Entry)
    → ForSome told (λ held. arrivals_in held rows ≡ arrivals (entries held))
    → ForSome told (λ held. facts ≡ map entry_of (arrivals_in held rows)) → AreFacts told facts
stored told rows facts arrived are = λ held tells. ap from_entries
    (are held tells ∙ ap (map entry_of) (arrived held tells)) ∙ facts_of_arrivals (entries held)
