-- What `put` means (docs/commands.md).
use Rattle.std.specs.Prelude.{◌≡◌, false, [], ◌∷◌, None}
use Rattle.blobref.specs.Blobref.{ref_of}
use Rattle.edge_base.specs.Shelf.{named}
use Rattle.pack_format.specs.Header.{max_size}
use Rattle.perkeep_lines.specs.Outputs.{ref_line}
use Rattle.top_frame.specs.declared.status.InputFault.TheVariants.{TooBig}
use Rattle.top_frame.specs.Frame.{Meaning, opens_store, reads_first, no_peer}

abbrev pub put_meaning : Meaning
put_meaning = record {
  disk = opens_store;
  input = reads_first max_size;
  draws_time = false;
  draws_random = false;
  exchange = no_peer;
  bad = None;
  too_long = TooBig;
  wrong = λ input. None;
  blobs = λ given. named (given.input ∷ []);
  IsOutput = λ given told bytes. bytes ≡ ref_line (ref_of given.input);
  streams = false;
  IsPart = λ given told bytes. bytes ≡ [];
  Refuses = λ given told bytes gone answer. ⊥;
}
