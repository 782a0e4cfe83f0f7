-- What `put-file` means (docs/commands.md).
use Rattle.std.specs.Prelude.{◌≡◌, ℕ, false, List, [], length, nat_lt, Option, None, Some, if◌then◌else◌}
use Rattle.blobref.specs.Blobref.{ref_of}
use Rattle.edge_base.specs.Shelf.{named}
use Rattle.file_cut.specs.Cutting.{file_blobs, own_blob}
use Rattle.file_cut.specs.Writing.{longest_name, longest_file}
use Rattle.perkeep_lines.specs.Outputs.{ref_line}
use Rattle.top_frame.specs.declared.status.InputFault.{InputFault}
use Rattle.top_frame.specs.declared.status.InputFault.TheVariants.{TooLong}
use Rattle.top_frame.specs.Frame.{Meaning, opens_store, reads_later, no_peer}

-- a name that is too long
abbrev pub bad_name : List ℕ → Option InputFault
bad_name name = if nat_lt longest_name (length name) then Some (TooLong (length name)) else None

-- it puts blobs as it reads
abbrev pub put_file_meaning : List ℕ → Meaning
put_file_meaning name = record {
  disk = opens_store;
  input = reads_later longest_file;
  draws_time = false;
  draws_random = false;
  exchange = no_peer;
  bad = bad_name name;
  too_long = TooLong;
  wrong = λ input. None;
  blobs = λ given. named (file_blobs name given.input);
  IsOutput = λ given told bytes. bytes ≡ ref_line (ref_of (own_blob name given.input));
  streams = false;
  IsPart = λ given told bytes. bytes ≡ [];
  Refuses = λ given told bytes gone answer. ⊥;
}
