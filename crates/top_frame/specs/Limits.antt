-- How far the program's store may grow (docs/formats/packs.md).
use Rattle.pack_store.specs.declared.limits.Limits.{Limits}

abbrev pub limits : Limits
limits = record { blobs = 4194304; pack_bytes = 536870912; last_pack = 99999 }
