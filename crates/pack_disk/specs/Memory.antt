-- What a disk in memory is seen as.
use Rattle.edge_base.specs.Calls.{Calls}
use Rattle.pack_disk.specs.Past.{Past}

-- what it began with and the calls that were done since, and which of its calls fail
pub record Remembered : Type 0 where
  pub history : Past
  pub calls : Calls
