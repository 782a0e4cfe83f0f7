-- What a command means that asks the store of a disk, and writes its answer at the end (docs/commands.md).
use Rattle.std.specs.Prelude.{◌≡◌, ℕ, false, List, [], Option, None}
use Rattle.pack_disk.specs.Packs.{Packs}
use Rattle.top_frame.specs.declared.status.InputFault.TheVariants.{TooBig}
use Rattle.top_frame.specs.declared.status.Status.{Status}
use Rattle.top_frame.specs.Frame.{Meaning, opens_store, reads_nothing, no_peer}

-- it reads no input and puts nothing; what it writes, and when it is refused, is by the packs
abbrev pub asking : (Option Packs → List ℕ → Type 0) → (Option Packs → Status → Type 0) → Meaning
asking IsAnswer Refuses = record {
  disk = opens_store;
  input = reads_nothing;
  draws_time = false;
  draws_random = false;
  exchange = no_peer;
  bad = None;
  too_long = TooBig;
  wrong = λ input. None;
  blobs = λ given. [];
  IsOutput = λ given told bytes. IsAnswer told bytes;
  streams = false;
  IsPart = λ given told bytes. bytes ≡ [];
  Refuses = λ given told bytes gone answer. Refuses told answer;
}
